use Rattle.std.proofs.Common.{rules}
use Rattle.util.specs.Prefix.{all_loop}
use Rattle.patch.proofs.portion_in.Goals as goal

pub returns-then-not-fix_in : goal.returns-then-not-fix_in
returns-then-not-fix_in c = search (rules, all_loop)
