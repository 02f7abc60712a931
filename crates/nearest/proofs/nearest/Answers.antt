use Rattle.nearest.proofs.Laws.{walk_low, walk_takes, walk_passes, walk_ends}
use Rattle.nearest.proofs.nearest.Goals as goal
use Rattle.nearest.proofs.nearest.Goals.{then-comes_next, else-comes_next}

pub overflow_sub-best : goal.overflow_sub-best
overflow_sub-best c = walk_low _ _ _ c.loop-k.invariant c.word-top.ensures c.comes_next.ensures c.if-comes_next.true

pub loop-k-preserved : goal.loop-k-preserved
loop-k-preserved c =
    elim c.if-comes_next.branch [
      | then-comes_next w ↦ rw (w.best-is, w.top-is) (walk_takes _ _ _ c.loop-k.invariant w.word-top.ensures c.comes_next.ensures w.if-comes_next.true)
      | else-comes_next w ↦ rw (w.best-is, w.top-is) (walk_passes _ _ _ c.loop-k.invariant c.comes_next.ensures w.if-comes_next.false)
    ]

pub returns : goal.returns
returns c = walk_ends _ _ _ c.loop-k.invariant c.count-k-end.ensures c.loop-k.auto.k-end c.loop-k-test.false
