use Rattle.std.proofs.Common.{◌+◌, ◌*◌, ◌≡◌}
use Rattle.le.specs.Le.{splice}
use Rattle.stops.specs.Stops.{BLOCK, stop_words}
use Rattle.stops.specs.StopLaws.{Serves}
use Rattle.stops.proofs.note_stops.Given as goal

abbrev pub invariant-loop-b : goal.invariant-loop-b
invariant-loop-b l = Serves l.section l.t ((l.b + 1) * BLOCK) l.s × (l.stops ≡ splice l.initial.stops 0 (stop_words l.section l.t l.b))
