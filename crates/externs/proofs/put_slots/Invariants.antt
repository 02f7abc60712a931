use Rattle.std.proofs.Common.{◌≡◌}
use Rattle.le.specs.Le.{splice}
use Rattle.externs.specs.Slotted.{slotted_to}
use Rattle.externs.proofs.put_slots.Given as goal

abbrev pub invariant-loop-j : goal.invariant-loop-j
invariant-loop-j l = l.codes ≡ splice l.initial.codes 0 (slotted_to l.f l.h l.slots l.initial.codes l.j)
