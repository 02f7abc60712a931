use Rattle.std.proofs.Common.{◌≡◌}
use Rattle.object.specs.Symbol.{auxiliaries_left}
use Rattle.homes.specs.Home.{home_in, record_in}
use Rattle.symbol_table.proofs.Laws.{Written}
use Rattle.symbol_table.proofs.write_listed.Given as goal

abbrev pub invariant-loop-j : goal.invariant-loop-j
invariant-loop-j l = record {
  left : l.left ≡ auxiliaries_left l.f l.h l.j;
  written : Written l.f l.h l.base.0 (home_in l.homes) (record_in l.homes) l.initial.b l.b l.n l.j;
}
