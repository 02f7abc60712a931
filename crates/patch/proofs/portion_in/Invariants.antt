use Rattle.std.proofs.Common.{◌≡◌, ◌+◌, true}
use Rattle.util.specs.Prefix.{all_to}
use Rattle.patch.specs.Inside.{fix_in}
use Rattle.patch.proofs.portion_in.Given as goal

abbrev pub invariant-loop-i : goal.invariant-loop-i
invariant-loop-i l = all_to (λ k. fix_in l.size l.base.0 l.fixes (l.p + k)) l.i ≡ true
