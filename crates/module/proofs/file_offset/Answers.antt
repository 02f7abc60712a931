use Rattle.std.proofs.Common.{rules}
use Rattle.std.proofs.lemmas.Iterator.{YieldsList-from_slice}
use Rattle.std.proofs.lemmas.Iterator.Search.{find_from_yields_List}
use borrow.Author.Tests.{tests}
use Rattle.refusal.specs.declared.Refusal.TheVariants.{NoSection}
use Rattle.section.specs.Section.{holds}
use Rattle.module.specs.Questions.{moved}
use Rattle.module.proofs.Laws.{found_told}
use Rattle.module.proofs.file_offset.Goals as goal

pub returns : goal.returns
returns c =
    let p = holds c.args.va in
    found_told p c.args.t.now NoSection (λ y. y.now) (λ s. moved s.start.0 s.file_start c.args.va.0) c.find.result (search rules) (find_from_yields_List p _ _ c.find.result c.find.ensures.ran (YieldsList-from_slice c.args.t.now (cc)) (λ x b q k. search (rules, tests)))
