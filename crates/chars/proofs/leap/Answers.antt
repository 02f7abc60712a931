use Rattle.std.proofs.Common.{rules}
use Rattle.chars.proofs.Laws.{visible_more}
use Rattle.chars.proofs.leap.Goals as goal

pub loop-k-preserved : goal.loop-k-preserved
loop-k-preserved c = search (rules, visible_more)
