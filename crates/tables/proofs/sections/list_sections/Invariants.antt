use Rattle.homes.specs.Home.{home_in}
use Rattle.tables.proofs.Laws.{Written}
use Rattle.tables.proofs.sections.list_sections.Given as goal

abbrev pub invariant-loop-i : goal.invariant-loop-i
invariant-loop-i l = Written l.f l.h l.base.0 (home_in l.homes) l.initial.b l.b l.n l.i
