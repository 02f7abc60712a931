use Rattle.std.proofs.Common.{rules}
use Rattle.util.specs.Prefix.{all_out}
use Rattle.bounds.proofs.each_section_ok.Goals as goal

pub returns-then-not-section_ok : goal.returns-then-not-section_ok
returns-then-not-section_ok c = search (rules, all_out)
