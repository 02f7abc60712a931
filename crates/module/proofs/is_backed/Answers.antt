use Rattle.std.proofs.Common.{rules, sym, ◌∙◌}
use Rattle.std.proofs.lemmas.Iterator.{YieldsList-from_slice}
use Rattle.std.proofs.lemmas.Iterator.Search.{any_from_yields_List}
use borrow.Author.Tests.{tests}
use Rattle.section.specs.declared.Section.{Section}
use Rattle.section.specs.Section.{has_byte}
use Rattle.module.proofs.Laws.{any_is}
use Rattle.module.proofs.is_backed.Goals as goal

pub returns : goal.returns
returns c =
    let p = λ (s : Section). has_byte s c.args.n in
    any_from_yields_List p _ _ c.any.result c.any.ensures.ran (YieldsList-from_slice c.args.t.now (cc)) (λ x b q k. search (rules, tests)) ∙ sym (any_is p c.args.t.now 0)
