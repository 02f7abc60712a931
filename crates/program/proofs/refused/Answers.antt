use Rattle.std.proofs.Common.{rules}
use Rattle.program.proofs.Laws.{said_refused, one_refused}
use Rattle.program.proofs.refused.Goals as goal

pub say-requires : goal.say-requires
say-requires c = search (rules, said_refused)

pub returns : goal.returns
returns c = search (rules, one_refused)
