use Rattle.std.proofs.Common.{rules}
use Rattle.util.specs.Prefix.{all_out}
use Rattle.checks.proofs.numbers_ok.Goals as goal

pub returns-then-not-number_ok_at : goal.returns-then-not-number_ok_at
returns-then-not-number_ok_at c = search (rules, all_out)
