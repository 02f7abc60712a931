use Rattle.module.proofs.Laws.{LeftRecords}
use Rattle.module.proofs.section_in.Given as goal

abbrev pub invariant-loop-i : goal.invariant-loop-i
invariant-loop-i l = LeftRecords l.table l.va l.i
