use borrow.Author.Rules.{rules}
use Rattle.survey.proofs.Laws.{few_is}
use Rattle.survey.proofs.few_records.Statement.{statement}
use Rattle.survey.proofs.few_records.Tie as tie

pub few_records_spec : {M : Type 1} → statement M
few_records_spec =
    tie.close
    (tie.spec
    (λ c. search (rules, few_is))
    (λ c. search (rules, few_is))
    (λ c. search (rules, few_is))
    (λ c. search (rules, few_is)))
