use Rattle.std.proofs.Common.{rules}
use Rattle.listing.proofs.Laws.{fix_put}
use Rattle.listing.proofs.fix_at.Goals as goal

pub returns : goal.returns
returns c = search (rules, fix_put)
