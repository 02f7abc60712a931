use Rattle.std.proofs.Common.{◌≡◌, ◌≤◌}
use Rattle.layout.specs.Layout.{record_of}
use Rattle.layout.proofs.record_of.Given as goal

abbrev pub invariant-loop-k : goal.invariant-loop-k
invariant-loop-k l = record { upper : l.count ≤ l.k; is : l.count ≡ record_of l.f l.h l.k }
