use borrow.Author.Rules.{rules}
use Rattle.externs.proofs.Laws.{slot_codes}
use Rattle.externs.proofs.found_code.Statement.{statement}
use Rattle.externs.proofs.found_code.Tie as tie

pub found_code_spec : {M : Type 1} → statement M
found_code_spec =
    tie.close
    (tie.spec
    (λ c. search (rules, slot_codes))
    (λ c. search (rules, slot_codes))
    (λ c. search (rules, slot_codes))
    (λ c. search (rules, slot_codes))
    (λ c. search (rules, slot_codes))
    (λ c. search (rules, slot_codes))
    (λ c. search (rules, slot_codes))
    (λ c. search (rules, slot_codes))
    (λ c. search (rules, slot_codes)))
