use Rattle.std.proofs.Common.{rules}
use Rattle.program.proofs.Laws.{said_listed}
use Rattle.program.proofs.list_line.Goals as goal

pub say-requires : goal.say-requires
say-requires c = search (rules, said_listed)
