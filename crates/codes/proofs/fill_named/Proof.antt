use borrow.Author.Rules.{rules}
use Rattle.codes.proofs.Laws.{order_made}
use Rattle.codes.proofs.fill_named.Statement.{statement}
use Rattle.codes.proofs.fill_named.Tie as tie

pub fill_named_spec : {M : Type 1} → statement M
fill_named_spec =
    tie.close
    (tie.spec
    (λ c. search (rules, order_made))
    (λ c. search (rules, order_made))
    (λ c. search (rules, order_made))
    (λ c κs. (search (rules, order_made), search rules))
    (λ c. search (rules, order_made))
    (λ c. search (rules, order_made))
    (λ c. search (rules, order_made)))
