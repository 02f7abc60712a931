use borrow.Author.Rules.{rules}
use Rattle.externs.proofs.Laws.{key_of}
use Rattle.externs.proofs.symbol_key.Statement.{statement}
use Rattle.externs.proofs.symbol_key.Tie as tie

pub symbol_key_spec : {M : Type 1} → statement M
symbol_key_spec =
    tie.close
    (tie.spec
    (λ c. search (rules, key_of))
    (λ c. search (rules, key_of))
    (λ c. search (rules, key_of)))
