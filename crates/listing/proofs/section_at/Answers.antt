use Rattle.std.proofs.Common.{rules}
use Rattle.listing.proofs.Laws.{undef_put, section_put}
use Rattle.listing.proofs.section_at.Goals as goal

pub returns-then-word-eq-UNDEF_NUMBER : goal.returns-then-word-eq-UNDEF_NUMBER
returns-then-word-eq-UNDEF_NUMBER c = search (rules, undef_put)

pub returns-else-word-eq-UNDEF_NUMBER : goal.returns-else-word-eq-UNDEF_NUMBER
returns-else-word-eq-UNDEF_NUMBER c = search (rules, section_put)
