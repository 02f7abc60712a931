use Rattle.le.proofs.Laws.{Putting}
use Rattle.le.proofs.copy.Given as goal

abbrev pub invariant-loop-i : goal.invariant-loop-i
invariant-loop-i l = Putting l.initial.b l.at l.s l.i l.b
