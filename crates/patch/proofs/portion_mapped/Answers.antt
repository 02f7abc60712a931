use Rattle.std.proofs.Common.{rules}
use Rattle.util.specs.Prefix.{all_loop}
use Rattle.patch.proofs.portion_mapped.Goals as goal

pub returns-then-not-fix_ok : goal.returns-then-not-fix_ok
returns-then-not-fix_ok c = search (rules, all_loop)
