use borrow.Author.Rules.{rules}
use Rattle.codes.proofs.Laws.{name_ways}
use Rattle.codes.proofs.code_unloaded.Statement.{statement}
use Rattle.codes.proofs.code_unloaded.Tie as tie

pub code_unloaded_spec : {M : Type 1} → statement M
code_unloaded_spec =
    tie.close
    (tie.spec
    (λ c. search (rules, name_ways))
    (λ c. search (rules, name_ways))
    (λ c. search (rules, name_ways)))
