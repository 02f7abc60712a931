use Rattle.std.proofs.Common.{rules}
use borrow.Author.Tests.{le-leb, lt-leb}
use Rattle.storage.proofs.Laws.{left_in}
use Rattle.station.proofs.Laws.{load_told, load_short}
use Rattle.station.proofs.nelgrauf_load.Goals as goal

pub returns-then-counts-ge-COUNTS_BYTES : goal.returns-then-counts-ge-COUNTS_BYTES
returns-then-counts-ge-COUNTS_BYTES c =
    load_told _ _ _ _ _ _ _ _ _ _ (le-leb _ _ c.if-counts-ge-COUNTS_BYTES.true) c.load-answer.ensures.loads c.tell_counts.ensures c.code.ensures
    (left_in (search rules) (search rules) (search rules) (search rules) (search rules) (search rules) (search rules))

pub returns-else-counts-ge-COUNTS_BYTES : goal.returns-else-counts-ge-COUNTS_BYTES
returns-else-counts-ge-COUNTS_BYTES c = load_short _ _ _ _ _ _ (lt-leb _ _ c.if-counts-ge-COUNTS_BYTES.false) c.unlaid.ensures c.code-else-counts-ge-COUNTS_BYTES.ensures
