use borrow.Author.Rules.{rules}
use Rattle.codes.proofs.Laws.{order_made}
use Rattle.codes.proofs.name_ranked.Statement.{statement}
use Rattle.codes.proofs.name_ranked.Tie as tie

pub name_ranked_spec : {M : Type 1} → statement M
name_ranked_spec =
    tie.close
    (tie.spec
    (λ c. search (rules, order_made))
    (λ c. search (rules, order_made))
    (λ c. search (rules, order_made))
    (λ c. search (rules, order_made))
    (λ c. search (rules, order_made)))
