use Rattle.std.proofs.Common.{◌+◌, ◌-◌, ◌≡◌}
use Rattle.stops.specs.Stops.{skip_to, skip, TAILS}
use Rattle.stops.proofs.skip.Given as goal

abbrev pub invariant-loop-k : goal.invariant-loop-k
invariant-loop-k l = skip_to l.t l.k (l.i + TAILS - l.k) ≡ skip l.t l.i
