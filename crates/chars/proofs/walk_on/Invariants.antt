use Rattle.std.proofs.Common.{◌-◌, ◌≤◌, ◌≡◌, false}
use Rattle.chars.specs.Chars.{walk}
use Rattle.chars.proofs.walk_on.Given as goal

abbrev pub invariant-loop-k : goal.invariant-loop-k
invariant-loop-k l = record { from_i : l.i ≤ l.k; goes_on : walk false l.t l.e l.k ≡ walk false l.t l.e l.i }

abbrev pub decreases-loop-k : goal.decreases-loop-k
decreases-loop-k l = l.e - l.k
