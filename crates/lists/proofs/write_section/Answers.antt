use Rattle.std.proofs.Common.{rules}
use Rattle.lists.proofs.Laws.{row_none, read_again, read_end}
use Rattle.lists.proofs.write_section.Goals as goal

pub loop-k-init : goal.loop-k-init
loop-k-init c = search (rules, row_none)

pub loop-k-preserved : goal.loop-k-preserved
loop-k-preserved c = read_again _ _ _ _ _ _ _ _ _ _ _ _ _ _ _ _ _ _ c.loop-k.invariant c.outcome_of-o.ensures c.put_outcome-q.ensures

pub returns : goal.returns
returns c = search (rules, read_end)
