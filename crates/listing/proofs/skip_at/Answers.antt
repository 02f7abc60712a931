use Rattle.std.proofs.Common.{rules}
use Rattle.listing.proofs.Laws.{skip_put}
use Rattle.listing.proofs.skip_at.Goals as goal

pub returns : goal.returns
returns c = search (rules, skip_put)
