use Rattle.std.proofs.Common.{rules}
use Rattle.std.proofs.lemmas.Iterator.{YieldsList-from_slice}
use Rattle.std.proofs.lemmas.Iterator.Search.{position_from_yields_List}
use borrow.Author.Tests.{tests}
use Rattle.refusal.specs.declared.Refusal.TheVariants.{NoSection}
use Rattle.section.specs.Section.{file_holds}
use Rattle.module.proofs.Laws.{number_told}
use Rattle.module.proofs.section_of_offset.Goals as goal

pub returns : goal.returns
returns c =
    let p = file_holds c.args.offset in
    number_told p c.args.t.now NoSection (search rules) (position_from_yields_List p _ _ c.position.result c.position.ensures.ran (YieldsList-from_slice c.args.t.now (cc)) (λ x b q k. search (rules, tests)))
