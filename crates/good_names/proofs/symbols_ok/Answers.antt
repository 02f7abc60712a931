use Rattle.std.proofs.Common.{rules}
use Rattle.util.specs.Prefix.{all_out}
use Rattle.good_names.proofs.symbols_ok.Goals as goal

pub returns-then-not-symbol_ok_at : goal.returns-then-not-symbol_ok_at
returns-then-not-symbol_ok_at c = search (rules, all_out)
