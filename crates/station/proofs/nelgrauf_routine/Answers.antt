use borrow.Author.Tests.{le-leb, lt-leb}
use Rattle.station.proofs.Laws.{routine_told, routine_untold}
use Rattle.station.proofs.nelgrauf_routine.Goals as goal

pub returns-then-nearest-ge-ROUTINE_BYTES : goal.returns-then-nearest-ge-ROUTINE_BYTES
returns-then-nearest-ge-ROUTINE_BYTES c = routine_told _ _ _ _ _ _ _ _ (le-leb _ _ c.if-nearest-ge-ROUTINE_BYTES.true) c.routine_in.ensures c.tell_routine.ensures c.code.ensures

pub returns-else-nearest-ge-ROUTINE_BYTES : goal.returns-else-nearest-ge-ROUTINE_BYTES
returns-else-nearest-ge-ROUTINE_BYTES c = rw c.code-else-nearest-ge-ROUTINE_BYTES.ensures (routine_untold _ _ _ _ (lt-leb _ _ c.if-nearest-ge-ROUTINE_BYTES.false))
