use borrow.Author.Rules.{rules}
use Rattle.externs.proofs.Spending.{kept_step, kept_rising, kept_more}
use native.Mathlib.Omega.{arith}
use Rattle.externs.proofs.add.Statement.{statement}
use Rattle.externs.proofs.add.Tie as tie

pub add_spec : {M : Type 1} → statement M
add_spec =
    tie.close
    (tie.spec
    (λ c κs. (omega arith, omega arith, search (rules, kept_step), search (rules, kept_rising)))
    (λ c κs. search rules)
    (λ c. search rules)
    (λ c. search rules)
    (λ c. search rules)
    (λ c. (search rules, (search (rules, kept_more), search rules))))
