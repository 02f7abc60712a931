use Rattle.std.proofs.Common.{rules, sym, ◌∙◌}
use Rattle.std.proofs.lemmas.Iterator.{YieldsList-from_slice}
use Rattle.std.proofs.lemmas.Iterator.Search.{any_from_yields_List}
use borrow.Author.Tests.{tests}
use Rattle.section.specs.Section.{grants_offset}
use Rattle.module.proofs.Laws.{any_is}
use Rattle.module.proofs.probe_rva.Goals as goal

pub returns : goal.returns
returns c =
    let p = grants_offset c.args.q in
    any_from_yields_List p _ _ c.any.result c.any.ensures.ran (YieldsList-from_slice c.args.t.now (cc)) (λ x b q k. search (rules, tests)) ∙ sym (any_is p c.args.t.now 0)
