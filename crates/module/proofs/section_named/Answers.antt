use Rattle.std.proofs.Common.{rules}
use Rattle.std.proofs.lemmas.Iterator.{YieldsList-from_slice}
use Rattle.std.proofs.lemmas.Iterator.Search.{position_from_yields_List}
use borrow.Author.Tests.{tests}
use Rattle.refusal.specs.declared.Refusal.TheVariants.{NoEntry}
use Rattle.section.specs.Section.{section_has_name}
use Rattle.module.proofs.Laws.{number_told}
use Rattle.module.proofs.section_named.Goals as goal

pub returns : goal.returns
returns c =
    let p = section_has_name c.args.file.now c.args.name.now in
    number_told p c.args.t.now NoEntry (search rules) (position_from_yields_List p _ _ c.position.result c.position.ensures.ran (YieldsList-from_slice c.args.t.now (cc)) (λ x b q k. search (rules, tests)))
