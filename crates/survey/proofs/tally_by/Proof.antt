use borrow.Author.Rules.{rules}
use Rattle.survey.proofs.Laws.{tally_fits, tally_adds}
use Rattle.survey.proofs.tally_by.Statement.{statement}
use Rattle.survey.proofs.tally_by.Tie as tie

pub tally_by_spec : {M : Type 1} → statement M
tally_by_spec =
    tie.close
    (tie.spec
    (λ c. search (rules, tally_fits))
    (λ c. search (rules, tally_fits))
    (λ c. search (rules, tally_fits))
    (λ c. search (rules, tally_fits))
    (λ c. (search (rules, tally_fits), (search (rules, tally_adds), search rules))))
