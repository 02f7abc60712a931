use borrow.Author.Rules.{rules}
use Rattle.externs.proofs.Spending.{kept, front_keyed, Collected}
use Rattle.externs.proofs.collect.Statement.{statement}
use Rattle.externs.proofs.collect.Tie as tie

pub collect_spec : {M : Type 1} → statement M
collect_spec =
    tie.close
    (tie.spec
    (λ c. search rules)
    (λ c κs. search rules)
    (λ c. search rules)
    (λ c κs. search rules)
    (λ c. search rules)
    (λ c κs. search rules)
    (λ c κs. search rules)
    (λ c. search rules)
    (λ c κs. search (rules, front_keyed))
    (λ c. search rules)
    (λ c. let k : Collected _ _ _ _ _ _ _ = search (rules, kept) in (k.says, (k.words, (k.long, k.slots))))
    (λ c. search rules)
    (λ c. let k : Collected _ _ _ _ _ _ _ = search (rules, kept) in (k.says, (k.words, (k.long, k.slots)))))
