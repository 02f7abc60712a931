use Rattle.std.proofs.Common.{arith}
use Rattle.std.proofs.lemmas.Grind.{common_steps}
use Rattle.chars.proofs.Laws.{fold_visible}
use Rattle.chars.proofs.all_visible.Goals as goal

pub returns : goal.returns
returns c = rw (← fold_visible c.args.s.now) (grind (arith, common_steps))
