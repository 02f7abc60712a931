use borrow.Author.Rules.{rules}
use Rattle.externs.proofs.Laws.{lowers}
use Rattle.externs.proofs.lower.Statement.{statement}
use Rattle.externs.proofs.lower.Tie as tie

pub lower_spec : {M : Type 1} → statement M
lower_spec =
    tie.close
    (tie.spec
    (λ c. search (rules, lowers))
    (λ c. search (rules, lowers))
    (λ c. search (rules, lowers))
    (λ c. search (rules, lowers))
    (λ c. search (rules, lowers))
    (λ c. search (rules, lowers))
    (λ c. search (rules, lowers)))
