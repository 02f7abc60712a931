use borrow.Author.Tests.{le-leb, lt-leb}
use Rattle.station.proofs.Laws.{patch_told, patch_untold}
use Rattle.station.proofs.nelgrauf_patch.Goals as goal

pub returns-then-progress-ge-PROGRESS_BYTES : goal.returns-then-progress-ge-PROGRESS_BYTES
returns-then-progress-ge-PROGRESS_BYTES c = patch_told _ _ _ _ _ _ _ _ _ _ _ _ (le-leb _ _ c.if-progress-ge-PROGRESS_BYTES.true) c.patch.ensures c.tell_progress.ensures c.code.ensures

pub returns-else-progress-ge-PROGRESS_BYTES : goal.returns-else-progress-ge-PROGRESS_BYTES
returns-else-progress-ge-PROGRESS_BYTES c = patch_untold _ _ _ _ _ _ _ _ _ (lt-leb _ _ c.if-progress-ge-PROGRESS_BYTES.false) c.unpatched.ensures c.code-else-progress-ge-PROGRESS_BYTES.ensures
