use Rattle.std.proofs.Common.{rules}
use Rattle.stops.specs.NameLaws.{kept}
use Rattle.symbol_table.proofs.write_symbols.Goals as goal

pub write_listed-requires : goal.write_listed-requires
write_listed-requires c = search (rules, kept)
