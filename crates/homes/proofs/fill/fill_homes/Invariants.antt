use Rattle.std.proofs.Common.{◌≡◌, ◌*◌, ◌^◌, ◌≤◌}
use Rattle.le.specs.Le.{splice}
use Rattle.layout.specs.Layout.{start_at, record_of}
use Rattle.homes.specs.Home.{homes_to}
use Rattle.homes.proofs.fill.fill_homes.Given as goal

abbrev pub invariant-loop-i : goal.invariant-loop-i
invariant-loop-i l = record {
  upper : l.count ≤ l.i;
  near : l.at.0 ≤ 2 ^ 34 * l.i;
  start : l.at.0 ≡ start_at l.f l.h l.i;
  place : l.count ≡ record_of l.f l.h l.i;
  filled : l.homes ≡ splice l.initial.homes 0 (homes_to l.f l.h l.i);
}
