use Rattle.std.proofs.Common.{◌≡◌, true}
use Rattle.util.specs.Prefix.{all_to}
use Rattle.good_names.specs.GoodNames.{section_name_ok}
use Rattle.good_names.proofs.sections_ok.Given as goal

abbrev pub invariant-loop-i : goal.invariant-loop-i
invariant-loop-i l = all_to (section_name_ok l.f l.h) l.i ≡ true
