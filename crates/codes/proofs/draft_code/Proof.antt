use borrow.Author.Rules.{rules}
use Rattle.codes.proofs.Laws.{of_record}
use Rattle.codes.proofs.draft_code.Statement.{statement}
use Rattle.codes.proofs.draft_code.Tie as tie

pub draft_code_spec : {M : Type 1} → statement M
draft_code_spec =
    tie.close
    (tie.spec
    (λ c. search (rules, of_record))
    (λ c. search (rules, of_record))
    (λ c. search (rules, of_record))
    (λ c. search (rules, of_record))
    (λ c. search (rules, of_record))
    (λ c. search (rules, of_record)))
