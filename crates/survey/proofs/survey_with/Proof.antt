use borrow.Author.Rules.{rules}
use Rattle.survey.proofs.Laws.{section_ways}
use Rattle.survey.proofs.survey_with.Statement.{statement}
use Rattle.survey.proofs.survey_with.Tie as tie

pub survey_with_spec : {M : Type 1} → statement M
survey_with_spec =
    tie.close
    (tie.spec
    (λ c. search (rules, section_ways))
    (λ c. search (rules, section_ways))
    (λ c. search (rules, section_ways))
    (λ c. search (rules, section_ways))
    (λ c. search (rules, section_ways))
    (λ c. search (rules, section_ways))
    (λ c. search (rules, section_ways))
    (λ c. search (rules, section_ways))
    (λ c. search (rules, section_ways)))
