use Rattle.std.proofs.Common.{rules}
use Rattle.symbol_table.proofs.Laws.{symbol_put}
use Rattle.symbol_table.proofs.put_symbol.Goals as goal

pub returns : goal.returns
returns c = search (rules, symbol_put)
