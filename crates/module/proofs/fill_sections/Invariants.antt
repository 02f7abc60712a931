use Rattle.std.proofs.Common.{◌≡◌}
use Rattle.module.specs.Questions.{fill_to}
use Rattle.module.proofs.fill_sections.Given as goal

abbrev pub invariant-loop-i : goal.invariant-loop-i
invariant-loop-i l = l.out ≡ fill_to l.table l.i l.initial.out
