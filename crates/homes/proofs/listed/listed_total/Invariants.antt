use Rattle.std.proofs.Common.{◌≡◌, ◌≤◌}
use Rattle.util.specs.Prefix.{count_to}
use Rattle.object.specs.Symbol.{auxiliaries_left}
use Rattle.homes.specs.Home.{home_in}
use Rattle.homes.specs.Listed.{listed}
use Rattle.homes.proofs.listed.listed_total.Given as goal

abbrev pub invariant-loop-j : goal.invariant-loop-j
invariant-loop-j l = record {
  upper : l.count ≤ l.j;
  left : l.left ≡ auxiliaries_left l.f l.h l.j;
  counted : l.count ≡ count_to (listed l.f l.h (home_in l.homes)) l.j;
}
