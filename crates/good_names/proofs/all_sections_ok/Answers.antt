use Rattle.std.proofs.Common.{rules}
use Rattle.stops.specs.NameLaws.{kept}
use Rattle.good_names.proofs.all_sections_ok.Goals as goal

pub sections_ok-requires : goal.sections_ok-requires
sections_ok-requires c = search (rules, kept)
