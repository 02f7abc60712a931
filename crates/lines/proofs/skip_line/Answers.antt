use Rattle.std.proofs.Common.{rules}
use Rattle.lines.proofs.Laws.{skip_put}
use Rattle.lines.proofs.skip_line.Goals as goal

pub returns : goal.returns
returns c = search (rules, skip_put)
