use borrow.Author.Rules.{rules}
use Rattle.codes.proofs.Laws.{puts_is}
use Rattle.codes.proofs.puts_in.Statement.{statement}
use Rattle.codes.proofs.puts_in.Tie as tie

pub puts_in_spec : {M : Type 1} → statement M
puts_in_spec =
    tie.close
    (tie.spec
    (λ c. search (rules, puts_is))
    (λ c. search (rules, puts_is))
    (λ c. search (rules, puts_is)))
