use Rattle.order.proofs.Laws.{Read}
use Rattle.order.proofs.text_key.Given as goal

abbrev pub invariant-loop-i : goal.invariant-loop-i
invariant-loop-i l = Read l.s l.i l.at l.sum
