use Rattle.std.proofs.Common.{◌≡◌, ◌*◌, ◌^◌, ◌<◌, ◌≤◌}
use Rattle.layout.specs.Layout.{start_at}
use Rattle.layout.proofs.start_at.Given as goal

abbrev pub invariant-loop-k : goal.invariant-loop-k
invariant-loop-k l = record { near : l.at.0 ≤ 2 ^ 34 * l.k; is : l.at.0 ≡ start_at l.f l.h l.k }
