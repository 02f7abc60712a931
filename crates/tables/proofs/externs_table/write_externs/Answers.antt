use Rattle.std.proofs.Common.{rules}
use Rattle.stops.specs.NameLaws.{kept}
use Rattle.tables.proofs.externs_table.write_externs.Goals as goal

pub list_externs-requires : goal.list_externs-requires
list_externs-requires c = search (rules, kept)
