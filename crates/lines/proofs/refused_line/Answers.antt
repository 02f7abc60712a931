use Rattle.std.proofs.Common.{rules}
use Rattle.lines.proofs.Laws.{refused_put}
use Rattle.lines.proofs.refused_line.Goals as goal

pub returns : goal.returns
returns c = search (rules, refused_put)
