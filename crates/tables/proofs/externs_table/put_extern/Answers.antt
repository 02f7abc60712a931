use Rattle.std.proofs.Common.{rules}
use Rattle.tables.proofs.Laws.{extern_put}
use Rattle.tables.proofs.externs_table.put_extern.Goals as goal

pub returns : goal.returns
returns c = search (rules, extern_put)
