use Rattle.std.proofs.Common.{rules}
use Rattle.stops.specs.NameLaws.{kept}
use Rattle.good_names.proofs.all_symbols_ok.Goals as goal

pub symbols_ok-requires : goal.symbols_ok-requires
symbols_ok-requires c = search (rules, kept)
