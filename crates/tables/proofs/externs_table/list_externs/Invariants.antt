use Rattle.std.proofs.Common.{◌≡◌}
use Rattle.le.specs.Le.{splice}
use Rattle.tables.specs.Externs.{extern_table}
use Rattle.tables.proofs.externs_table.list_externs.Given as goal

abbrev pub invariant-loop-e : goal.invariant-loop-e
invariant-loop-e l = l.b ≡ splice l.initial.b 0 (extern_table l.f l.h l.base.0 l.undef.0 l.slots l.e)
