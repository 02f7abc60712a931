use Rattle.std.proofs.Common.{◌≡◌}
use Rattle.image.specs.Laid.{slots_laid}
use Rattle.image.proofs.lay_slots.Given as goal

abbrev pub invariant-loop-e : goal.invariant-loop-e
invariant-loop-e l = l.image ≡ slots_laid l.base.0 l.undef.0 l.initial.image l.e
