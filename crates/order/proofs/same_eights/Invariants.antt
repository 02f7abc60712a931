use Rattle.std.proofs.Common.{◌-◌, ◌≤◌}
use Rattle.order.specs.Eights.{Ahead}
use Rattle.order.proofs.same_eights.Given as goal

abbrev pub invariant-loop-i : goal.invariant-loop-i
invariant-loop-i l = (l.i ≤ l.n) × Ahead l.a l.b l.i

abbrev pub decreases-loop-i : goal.decreases-loop-i
decreases-loop-i l = l.n - l.i
