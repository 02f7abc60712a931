use Rattle.std.proofs.Common.{◌≡◌}
use Rattle.object.specs.Symbol.{auxiliaries_left}
use Rattle.object.proofs.symbol_records.auxiliaries_past.Given as goal

abbrev pub invariant-loop-j : goal.invariant-loop-j
invariant-loop-j l = l.left ≡ auxiliaries_left l.f l.h l.j
