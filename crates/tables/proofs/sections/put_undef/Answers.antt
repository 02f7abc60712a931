use Rattle.std.proofs.Common.{rules}
use Rattle.tables.proofs.Laws.{undef_put}
use Rattle.tables.proofs.sections.put_undef.Goals as goal

pub returns : goal.returns
returns c = search (rules, undef_put)
