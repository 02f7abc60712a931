use Rattle.std.proofs.Common.{rules}
use Rattle.chars.proofs.Laws.{stop_ways}
use Rattle.chars.proofs.stop.Goals as goal

pub returns-then-section : goal.returns-then-section
returns-then-section c = search (rules, stop_ways)
