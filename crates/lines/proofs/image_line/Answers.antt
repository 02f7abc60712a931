use Rattle.std.proofs.Common.{rules}
use Rattle.lines.proofs.Laws.{image_put}
use Rattle.lines.proofs.image_line.Goals as goal

pub returns : goal.returns
returns c = search (rules, image_put)
