use borrow.Author.Rules.{rules}
use Rattle.demands.proofs.Laws.{call_is}
use Rattle.demands.proofs.run_call.Statement.{statement}
use Rattle.demands.proofs.run_call.Tie as tie

pub run_call_spec : {M : Type 1} → statement M
run_call_spec =
    tie.close
    (tie.spec
    (λ c. search rules)
    (λ c. search rules)
    (λ c. search rules)
    (λ c. search rules)
    (λ c. search rules)
    (λ c. search rules)
    (λ c. search rules)
    (λ c. search rules)
    (λ c. search rules)
    (λ c. search rules)
    (λ c. search (rules, call_is)))
