use Rattle.chars.specs.WalkLaws.{VisibleTo}
use Rattle.chars.proofs.visible_by_one.Given as goal

abbrev pub invariant-loop-k : goal.invariant-loop-k
invariant-loop-k l = VisibleTo l.t l.i l.e l.k
