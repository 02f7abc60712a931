use Rattle.order.specs.Eights.{Ahead}
use Rattle.order.proofs.compare_texts.Given as goal

abbrev pub invariant-loop-i : goal.invariant-loop-i
invariant-loop-i l = Ahead l.a l.b l.i
