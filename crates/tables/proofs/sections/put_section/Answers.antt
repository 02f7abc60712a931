use Rattle.std.proofs.Common.{rules}
use Rattle.tables.proofs.Laws.{section_put}
use Rattle.tables.proofs.sections.put_section.Goals as goal

pub returns : goal.returns
returns c = search (rules, section_put)
