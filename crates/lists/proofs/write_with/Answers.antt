use Rattle.std.proofs.Common.{rules}
use Rattle.lists.proofs.Laws.{rows_none, rows_again, rows_end}
use Rattle.lists.proofs.write_with.Goals as goal

pub loop-i-init : goal.loop-i-init
loop-i-init c = search (rules, rows_none)

pub loop-i-preserved : goal.loop-i-preserved
loop-i-preserved c = rows_again _ _ _ _ _ _ _ _ _ _ _ _ c.loop-i.invariant c.write_next-q.ensures

pub returns : goal.returns
returns c = search (rules, rows_end)
