use Rattle.std.proofs.Common.{rules, tests, arith, ◌∙◌, refl}
use Rattle.std.proofs.lemmas.Iterator.{YieldsList-from_range}
use Rattle.std.proofs.lemmas.Iterator.Search.{all_from_yields_List}
use Rattle.marks.proofs.Laws.{whole, words_all}
use Rattle.marks.proofs.words_marked.Goals as goal

pub returns : goal.returns
returns c =
    let n = c.args.n in
    let m = c.args.marks.now in
    all_from_yields_List (whole m) _ _ c.all.result c.all.ensures.ran (YieldsList-from_range 0 n n refl (omega arith)) (λ x b q k. search (rules, tests)) ∙ words_all m n
