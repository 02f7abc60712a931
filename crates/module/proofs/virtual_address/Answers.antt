use Rattle.std.proofs.Common.{rules}
use Rattle.std.proofs.lemmas.Iterator.{YieldsList-from_slice}
use Rattle.std.proofs.lemmas.Iterator.Search.{find_from_yields_List}
use borrow.Author.Tests.{tests}
use Rattle.refusal.specs.declared.Refusal.TheVariants.{NoSection}
use Rattle.section.specs.Section.{file_holds}
use Rattle.arch.specs.Address.{va}
use Rattle.module.specs.Questions.{moved}
use Rattle.module.proofs.Laws.{found_told}
use Rattle.module.proofs.virtual_address.Goals as goal

pub returns : goal.returns
returns c =
    let p = file_holds c.args.offset in
    found_told p c.args.t.now NoSection (λ y. y.now) (λ s. va (moved s.file_start s.start.0 c.args.offset)) c.find.result (search rules) (find_from_yields_List p _ _ c.find.result c.find.ensures.ran (YieldsList-from_slice c.args.t.now (cc)) (λ x b q k. search (rules, tests)))
