use Rattle.std.proofs.Common.{◌≤◌}
use Rattle.cases.proofs.place.Given as goal

abbrev pub invariant-loop-b : goal.invariant-loop-b
invariant-loop-b l = l.j ≤ l.b-index
