use borrow.Author.Rules.{rules}
use Rattle.program.proofs.Laws.{verdict_ways}
use Rattle.program.proofs.top_up.Statement.{statement}
use Rattle.program.proofs.top_up.Tie as tie

pub top_up_spec : {M : Type 1} → statement M
top_up_spec =
    tie.close
    (tie.spec
    (λ c. search (rules, verdict_ways))
    (λ c. search rules)
    (λ c. search (rules, verdict_ways))
    (λ c. search rules)
    (λ c. search (rules, verdict_ways))
    (λ c. search rules)
    (λ c. search (rules, verdict_ways))
    (λ c. search rules)
    (λ c. search rules)
    (λ c. search rules))
