use Rattle.std.proofs.Common.{rules}
use Rattle.tables.proofs.Laws.{externs_none, externs_again, externs_end}
use Rattle.tables.proofs.externs_table.list_externs.Goals as goal

pub loop-e-init : goal.loop-e-init
loop-e-init c = externs_none _ _ _ _ _ _

pub loop-e-preserved : goal.loop-e-preserved
loop-e-preserved c = externs_again _ _ _ _ _ _ _ _ _ c.loop-e.invariant c.put_extern.ensures

pub returns : goal.returns
returns c = search (rules, externs_end)
