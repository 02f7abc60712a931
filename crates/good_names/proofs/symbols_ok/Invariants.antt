use Rattle.std.proofs.Common.{◌≡◌, true}
use Rattle.util.specs.Prefix.{all_to}
use Rattle.object.specs.Symbol.{auxiliaries_left, ok_at}
use Rattle.good_names.specs.GoodNames.{name_ok}
use Rattle.good_names.proofs.symbols_ok.Given as goal

abbrev pub invariant-loop-j : goal.invariant-loop-j
invariant-loop-j l = record { left_is : l.left ≡ auxiliaries_left l.f l.h l.j; good : all_to (ok_at name_ok l.f l.h) l.j ≡ true }
