use Rattle.std.proofs.Common.{rules}
use Rattle.program.proofs.Laws.{said_large, one_large}
use Rattle.program.proofs.too_large.Goals as goal

pub say-requires : goal.say-requires
say-requires c = search (rules, said_large)

pub returns : goal.returns
returns c = search (rules, one_large)
