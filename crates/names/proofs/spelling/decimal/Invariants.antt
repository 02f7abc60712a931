use Rattle.std.proofs.Common.{◌≡◌}
use Rattle.names.specs.Bytes.{decimal_to}
use Rattle.names.proofs.Laws.{Small}
use Rattle.names.proofs.spelling.decimal.Given as goal

abbrev pub invariant-loop-b : goal.invariant-loop-b
invariant-loop-b l = Small l.sum l.b-index × (l.sum ≡ decimal_to l.s l.b-index)
