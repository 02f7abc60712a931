use Rattle.std.proofs.Common.{◌≡◌}
use Rattle.patch.specs.Fixes.{fixed_from}
use Rattle.patch.proofs.apply_portion.Given as goal

abbrev pub invariant-loop-k : goal.invariant-loop-k
invariant-loop-k l = l.image ≡ fixed_from l.base.0 l.fixes l.fn.image l.p l.k
