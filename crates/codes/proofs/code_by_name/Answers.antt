use Rattle.std.proofs.Common.{arith}
use Rattle.names.specs.Name.{span_text}
use Rattle.codes.proofs.Laws.{name_past}
use Rattle.codes.proofs.code_by_name.Goals as goal

pub returns-in-None : goal.returns-in-None
returns-in-None c =
    name_past c.args.f.now c.args.h (span_text c.args.f.now c.args.name) c.args.ranks.now c.first_named.result c.requires c.first_named.ensures c.code_without.result
    (omega (arith, c.in-None.ensures.lookup))
    c.code_without.ensures
