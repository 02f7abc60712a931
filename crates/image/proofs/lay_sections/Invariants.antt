use Rattle.std.proofs.Common.{◌≡◌}
use Rattle.homes.specs.Home.{home_in}
use Rattle.image.specs.Laid.{sections_laid}
use Rattle.image.proofs.lay_sections.Given as goal

abbrev pub invariant-loop-i : goal.invariant-loop-i
invariant-loop-i l = l.image ≡ sections_laid l.f l.h (home_in l.homes) l.initial.image l.i
