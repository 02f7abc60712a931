use Rattle.std.proofs.Common.{rules}
use Rattle.listing.proofs.Laws.{symbol_put}
use Rattle.listing.proofs.symbol_at.Goals as goal

pub returns : goal.returns
returns c = search (rules, symbol_put)
