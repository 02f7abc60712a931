use Rattle.std.proofs.Common.{rules}
use Rattle.text.proofs.Laws.{number_ways}
use Rattle.text.proofs.Writer.+number.Goals as goal

pub returns-then-n-base : goal.returns-then-n-base
returns-then-n-base t c = search (rules, number_ways)

pub returns-else-n-base : goal.returns-else-n-base
returns-else-n-base t c = search (rules, number_ways)
