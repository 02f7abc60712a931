use Rattle.std.proofs.Common.{rules}
use Rattle.stops.specs.NameLaws.{kept}
use Rattle.tables.proofs.sections.write_sections.Goals as goal

pub list_sections-requires : goal.list_sections-requires
list_sections-requires c = search (rules, kept)
