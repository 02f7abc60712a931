use Rattle.std.proofs.Common.{◌≡◌}
use Rattle.le.specs.Le.{splice}
use Rattle.codes.specs.Draft.{final_codes}
use Rattle.codes.proofs.name_codes.Given as goal

abbrev pub invariant-loop-j : goal.invariant-loop-j
invariant-loop-j l = l.codes ≡ splice l.initial.codes 0 (final_codes l.f l.h l.initial.codes l.j)
