use Rattle.std.proofs.Common.{◌≡◌, ◌/◌, ◌^◌}
use Rattle.le.specs.Le.{le}
use Rattle.le.proofs.Laws.{Putting}
use Rattle.le.proofs.put.Given as goal

abbrev pub invariant-loop-i : goal.invariant-loop-i
invariant-loop-i l = (l.w ≡ l.v / 256 ^ l.i) × Putting l.initial.b l.at (le l.n l.v) l.i l.b
