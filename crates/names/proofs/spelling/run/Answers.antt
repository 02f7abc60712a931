use Rattle.std.proofs.Common.{arith, rules, eqb, ◌≡◌, ◌∙◌}
use Rattle.std.specs.List.{position}
use Rattle.std.proofs.lemmas.Iterator.{YieldsList-from_slice}
use Rattle.std.proofs.lemmas.Iterator.Search.{position_from_yields_List}
use borrow.Author.Tests.{tests}
use Rattle.names.specs.NameLaws.{run_most}
use Rattle.names.proofs.Laws.{run_found}
use Rattle.names.proofs.spelling.run.Goals as goal

pub returns-clause-value : goal.returns-clause-value
returns-clause-value c =
    let found : c.position.result ≡ position (λ b. eqb b 0) c.part-s.result.now =
    position_from_yields_List (λ b. eqb b 0) _ _ c.position.result c.position.ensures.ran (YieldsList-from_slice c.part-s.result.now cc) (λ x b q k. search (rules, tests)) in
    c.unwrap_or.ensures ∙ run_found c.args.f.now c.args.at c.args.n c.part-s.result.now c.position.result c.part-s.ensures found

pub returns-clause-upper_bound : goal.returns-clause-upper_bound
returns-clause-upper_bound c =
    let e = returns-clause-value c in
    let m = run_most c.args.f.now c.args.at c.args.n in
    omega arith
