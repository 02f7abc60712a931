use Rattle.std.proofs.Common.{rules}
use Rattle.lines.proofs.Laws.{section_put}
use Rattle.lines.proofs.section_line.Goals as goal

pub returns : goal.returns
returns c = search (rules, section_put)
