use borrow.Author.Rules.{rules}
use Rattle.codes.proofs.Laws.{passes}
use Rattle.codes.proofs.fill_codes.Statement.{statement}
use Rattle.codes.proofs.fill_codes.Tie as tie

pub fill_codes_spec : {M : Type 1} → statement M
fill_codes_spec =
    tie.close
    (tie.spec
    (λ c. search (rules, passes))
    (λ c. search (rules, passes))
    (λ c. search (rules, passes))
    (λ c. search (rules, passes))
    (λ c. search (rules, passes))
    (λ c. search (rules, passes)))
