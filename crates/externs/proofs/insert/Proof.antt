use borrow.Author.Rules.{rules}
use Rattle.externs.proofs.Laws.{before_room, present_room, insert_before, insert_present, step_before, step_present}
use native.Mathlib.Omega.{arith}
use Rattle.externs.proofs.insert.Statement.{statement}
use Rattle.externs.proofs.insert.Tie as tie

pub insert_spec : {M : Type 1} → statement M
insert_spec =
    tie.close
    (tie.spec
    (λ c. search rules)
    (λ c κs. (omega arith, omega arith, search rules, search rules, search rules))
    (λ c. search rules)
    (λ c. search (rules, before_room))
    (λ c. search rules)
    (λ c. search rules)
    (λ c. search (rules, present_room))
    (λ c. search rules)
    (λ c. search rules)
    (λ c. (search (rules, insert_before), search (rules, step_before)))
    (λ c. search rules)
    (λ c. search rules)
    (λ c. (search (rules, insert_present), search (rules, step_present))))
