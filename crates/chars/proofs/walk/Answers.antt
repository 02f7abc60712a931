use Rattle.std.proofs.Common.{rules}
use Rattle.chars.proofs.Laws.{from_ways}
use Rattle.chars.proofs.walk.Goals as goal

pub returns : goal.returns
returns c = search (rules, from_ways)
