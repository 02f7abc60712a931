use Rattle.std.proofs.Common.{rules}
use Rattle.lines.proofs.Laws.{symbol_put}
use Rattle.lines.proofs.symbol_line.Goals as goal

pub returns : goal.returns
returns c = search (rules, symbol_put)
