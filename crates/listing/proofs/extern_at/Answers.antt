use Rattle.std.proofs.Common.{rules}
use Rattle.listing.proofs.Laws.{extern_put}
use Rattle.listing.proofs.extern_at.Goals as goal

pub returns : goal.returns
returns c = search (rules, extern_put)
