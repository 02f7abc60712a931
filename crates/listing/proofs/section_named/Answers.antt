use Rattle.std.proofs.Common.{rules}
use Rattle.listing.proofs.Laws.{named_put}
use Rattle.listing.proofs.section_named.Goals as goal

pub returns : goal.returns
returns c = search (rules, named_put)
