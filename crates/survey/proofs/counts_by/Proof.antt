use borrow.Author.Rules.{rules}
use Rattle.survey.proofs.Laws.{counts_are}
use Rattle.survey.proofs.counts_by.Statement.{statement}
use Rattle.survey.proofs.counts_by.Tie as tie

pub counts_by_spec : {M : Type 1} → statement M
counts_by_spec =
    tie.close
    (tie.spec
    (λ c. search (rules, counts_are))
    (λ c. search (rules, counts_are))
    (λ c. search (rules, counts_are))
    (λ c. search (rules, counts_are))
    (λ c. search (rules, counts_are))
    (λ c. search (rules, counts_are))
    (λ c. search (rules, counts_are))
    (λ c. search (rules, counts_are))
    (λ c. search (rules, counts_are))
    (λ c. search (rules, counts_are))
    (λ c. search (rules, counts_are)))
