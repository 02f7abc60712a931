use Rattle.std.proofs.Common.{◌≡◌, true}
use Rattle.util.specs.Prefix.{all_to}
use Rattle.bounds.specs.Bounds.{section_ok}
use Rattle.bounds.proofs.each_section_ok.Given as goal

abbrev pub invariant-loop-i : goal.invariant-loop-i
invariant-loop-i l = all_to (section_ok l.f l.h) l.i ≡ true
