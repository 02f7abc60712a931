use Rattle.std.proofs.Common.{rules}
use Rattle.lines.proofs.Laws.{fix_put}
use Rattle.lines.proofs.fix_line.Goals as goal

pub returns : goal.returns
returns c = search (rules, fix_put)
