use Rattle.std.proofs.Common.{rules}
use Rattle.text.proofs.Laws.{permissions_put}
use Rattle.text.proofs.Writer.permissions.Goals as goal

pub returns : goal.returns
returns c = search (rules, permissions_put)
