use borrow.Author.Rules.{rules}
use Rattle.externs.proofs.Laws.{order_by}
use Rattle.externs.proofs.name_order.Statement.{statement}
use Rattle.externs.proofs.name_order.Tie as tie

pub name_order_spec : {M : Type 1} → statement M
name_order_spec =
    tie.close
    (tie.spec
    (λ c. search (rules, order_by))
    (λ c. search (rules, order_by))
    (λ c. search (rules, order_by)))
