use Rattle.std.proofs.Common.{rules}
use Rattle.lines.proofs.Laws.{extern_put}
use Rattle.lines.proofs.extern_line.Goals as goal

pub returns : goal.returns
returns c = search (rules, extern_put)
