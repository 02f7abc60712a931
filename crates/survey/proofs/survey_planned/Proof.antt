use borrow.Author.Rules.{rules}
use Rattle.survey.proofs.Laws.{planned}
use Rattle.survey.proofs.survey_planned.Statement.{statement}
use Rattle.survey.proofs.survey_planned.Tie as tie

pub survey_planned_spec : {M : Type 1} → statement M
survey_planned_spec =
    tie.close
    (tie.spec
    (λ c. search (rules, planned))
    (λ c. search (rules, planned))
    (λ c. search (rules, planned))
    (λ c. search (rules, planned)))
