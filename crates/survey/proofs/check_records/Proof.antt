use borrow.Author.Rules.{rules}
use Rattle.survey.proofs.Laws.{chain}
use Rattle.survey.proofs.check_records.Statement.{statement}
use Rattle.survey.proofs.check_records.Tie as tie

pub check_records_spec : {M : Type 1} → statement M
check_records_spec =
    tie.close
    (tie.spec
    (λ c. search (rules, chain) depth 14 fits 6000)
    (λ c. search (rules, chain) depth 14 fits 6000)
    (λ c. search (rules, chain) depth 14 fits 6000)
    (λ c. search (rules, chain) depth 14 fits 6000)
    (λ c. search (rules, chain) depth 14 fits 6000)
    (λ c. search (rules, chain) depth 14 fits 6000)
    (λ c. search (rules, chain) depth 14 fits 6000)
    (λ c. search (rules, chain) depth 14 fits 6000)
    (λ c. search (rules, chain) depth 14 fits 6000)
    (λ c. search (rules, chain) depth 14 fits 6000)
    (λ c. search (rules, chain) depth 14 fits 6000)
    (λ c. search (rules, chain) depth 14 fits 6000)
    (λ c. search (rules, chain) depth 14 fits 6000)
    (λ c. search (rules, chain) depth 14 fits 6000)
    (λ c. search (rules, chain) depth 14 fits 6000))
