use Rattle.std.proofs.Common.{◌≡◌, ◌-◌, ◌≤◌, length}
use Rattle.std.specs.Prelude.{replicate}
use Rattle.le.specs.Le.{splice}
use Rattle.externs.proofs.clear.Given as goal

abbrev pub invariant-loop-i : goal.invariant-loop-i
invariant-loop-i l = record { near : l.i - l.from ≤ length l.initial.slots - l.from; cleared : l.slots ≡ splice l.initial.slots l.from (replicate (l.i - l.from) 0) }
