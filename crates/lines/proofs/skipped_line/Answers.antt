use Rattle.std.proofs.Common.{rules}
use Rattle.lines.proofs.Laws.{skipped_put}
use Rattle.lines.proofs.skipped_line.Goals as goal

pub returns : goal.returns
returns c = search (rules, skipped_put)
