use Rattle.ranks.proofs.Laws.{Numbered}
use Rattle.ranks.proofs.number.Given as goal

abbrev pub invariant-loop-i : goal.invariant-loop-i
invariant-loop-i l = Numbered l.initial.a l.a l.i
