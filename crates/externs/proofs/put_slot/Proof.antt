use borrow.Author.Rules.{rules}
use Rattle.externs.proofs.Laws.{slot_put}
use Rattle.externs.proofs.put_slot.Statement.{statement}
use Rattle.externs.proofs.put_slot.Tie as tie

pub put_slot_spec : {M : Type 1} → statement M
put_slot_spec =
    tie.close
    (tie.spec
    (λ c. search (rules, slot_put))
    (λ c. search (rules, slot_put))
    (λ c. search (rules, slot_put))
    (λ c. search (rules, slot_put))
    (λ c. search (rules, slot_put)))
