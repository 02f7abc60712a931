use Rattle.std.proofs.Common.{rules, tests, ◌∙◌, refl}
use Rattle.std.proofs.lemmas.Iterator.{YieldsList-from_range}
use Rattle.std.proofs.lemmas.Iterator.Search.{all_from_yields_List}
use Rattle.marks.specs.Marks.{marked}
use Rattle.marks.proofs.Laws.{pages_all}
use Rattle.marks.proofs.all_marked.Goals as goal

pub returns : goal.returns
returns c =
    let from = c.args.from in
    let to = c.args.to in
    let m = c.args.marks.now in
    all_from_yields_List (marked m) _ _ c.all.result c.all.ensures.ran (YieldsList-from_range from to _ refl refl) (λ x b q k. search (rules, tests)) ∙ pages_all m from to
