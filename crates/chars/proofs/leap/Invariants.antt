use Rattle.std.proofs.Common.{◌-◌}
use Rattle.chars.specs.WalkLaws.{VisibleTo}
use Rattle.chars.proofs.leap.Given as goal

abbrev pub invariant-loop-k : goal.invariant-loop-k
invariant-loop-k l = VisibleTo l.t l.i l.e l.k

abbrev pub decreases-loop-k : goal.decreases-loop-k
decreases-loop-k l = l.e - l.k
