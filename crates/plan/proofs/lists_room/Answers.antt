use Rattle.std.proofs.Common.{sym, ◌∙◌}
use borrow.Author.Tests.{le-leb, lt-leb}
use Rattle.util.specs.Pick.{not_both}
use Rattle.plan.proofs.Laws.{lists_are}
use Rattle.plan.proofs.lists_room.Goals.{then-c-l, else-c-l, then-c-l-2, else-c-l-2}
use Rattle.plan.proofs.lists_room.Goals as goal

pub returns-then-c-l-3 : goal.returns-then-c-l-3
returns-then-c-l-3 c =
    elim c.if-c-l-2.branch [
      | then-c-l-2 v ↦
          elim c.if-c-l.branch [
            | then-c-l w ↦ rw (lists_are c.args.c c.args.l, le-leb _ _ w.if-c-l.true, sym w.value-is ∙ v.if-c-l-2.true, sym v.value-is ∙ c.if-c-l-3.true)
            | else-c-l w ↦ not_both _ v.if-c-l-2.true (w.value-is ∙ lt-leb _ _ w.if-c-l.false)
          ]
      | else-c-l-2 v ↦ not_both _ c.if-c-l-3.true (v.value-is ∙ v.if-c-l-2.false)
    ]

pub returns-else-c-l-3 : goal.returns-else-c-l-3
returns-else-c-l-3 c =
    elim c.if-c-l-2.branch [
      | then-c-l-2 v ↦
          elim c.if-c-l.branch [
            | then-c-l w ↦ rw (lists_are c.args.c c.args.l, le-leb _ _ w.if-c-l.true, sym w.value-is ∙ v.if-c-l-2.true, sym v.value-is ∙ c.if-c-l-3.false) c.if-c-l-3.false
            | else-c-l w ↦ not_both _ v.if-c-l-2.true (w.value-is ∙ lt-leb _ _ w.if-c-l.false)
          ]
      | else-c-l-2 v ↦
          elim c.if-c-l.branch [
            | then-c-l w ↦ rw (lists_are c.args.c c.args.l, le-leb _ _ w.if-c-l.true, sym w.value-is ∙ v.if-c-l-2.false) c.if-c-l-3.false
            | else-c-l w ↦ rw (lists_are c.args.c c.args.l, lt-leb _ _ w.if-c-l.false) c.if-c-l-3.false
          ]
    ]
