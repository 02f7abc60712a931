use Rattle.std.proofs.Common.{rules}
use Rattle.ranks.proofs.Laws.{number_loop}
use Rattle.ranks.proofs.number.Goals as goal

pub loop-i-preserved : goal.loop-i-preserved
loop-i-preserved c = search (rules, number_loop)
