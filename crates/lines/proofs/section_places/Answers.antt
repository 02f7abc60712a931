use Rattle.std.proofs.Common.{rules}
use Rattle.lines.proofs.Laws.{places_put}
use Rattle.lines.proofs.section_places.Goals as goal

pub returns : goal.returns
returns c = search (rules, places_put)
