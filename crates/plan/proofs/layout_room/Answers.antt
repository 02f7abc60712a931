use Rattle.std.proofs.Common.{sym, ◌∙◌}
use borrow.Author.Tests.{le-leb, lt-leb}
use Rattle.util.specs.Pick.{not_both}
use Rattle.plan.proofs.Laws.{layout_is}
use Rattle.plan.proofs.layout_room.Goals.{then-c-l, else-c-l}
use Rattle.plan.proofs.layout_room.Goals as goal

pub returns-then-words-l : goal.returns-then-words-l
returns-then-words-l c =
    elim c.if-c-l.branch [
      | then-c-l w ↦ rw (layout_is c.args.c c.args.l, le-leb _ _ w.if-c-l.true, ← c.words_for-words.ensures, sym w.value-is ∙ c.if-words-l.true)
      | else-c-l w ↦ not_both _ c.if-words-l.true (w.value-is ∙ lt-leb _ _ w.if-c-l.false)
    ]

pub returns-else-words-l : goal.returns-else-words-l
returns-else-words-l c =
    elim c.if-c-l.branch [
      | then-c-l w ↦ rw (layout_is c.args.c c.args.l, le-leb _ _ w.if-c-l.true, ← c.words_for-words.ensures, sym w.value-is ∙ c.if-words-l.false) c.if-words-l.false
      | else-c-l w ↦ rw (layout_is c.args.c c.args.l, lt-leb _ _ w.if-c-l.false) c.if-words-l.false
    ]
