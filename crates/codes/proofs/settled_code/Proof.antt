use borrow.Author.Rules.{rules}
use Rattle.codes.proofs.Laws.{for_ways}
use Rattle.codes.proofs.settled_code.Statement.{statement}
use Rattle.codes.proofs.settled_code.Tie as tie

pub settled_code_spec : {M : Type 1} → statement M
settled_code_spec =
    tie.close
    (tie.spec
    (λ c. search (rules, for_ways))
    (λ c. search (rules, for_ways))
    (λ c. search (rules, for_ways))
    (λ c. search (rules, for_ways)))
