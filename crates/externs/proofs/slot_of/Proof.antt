use borrow.Author.Rules.{rules}
use Rattle.externs.proofs.Laws.{half_loop}
use Prim.Native.Nat.{◌+◌, ◌≤◌}
use mathlib.Core.Path.{◌≡◌}
use lib.ListN.{length}
use Rattle.names.specs.Name.{span_text, symbol_text}
use Rattle.externs.specs.Bisect.{halves}
use Rattle.externs.specs.Slot.{slot_of}
use Rattle.externs.proofs.slot_of.Statement.{statement}
use Rattle.externs.proofs.slot_of.Tie as tie

abbrev invariant-loop-n : tie.invariant-loop-n
invariant-loop-n f h slots keys j name key lo₀ n₀ lo n = (lo + n ≤ length slots) × (halves f h slots (span_text f name) n lo n ≡ slot_of f h slots (symbol_text f h j))

abbrev decreases-loop-n : tie.decreases-loop-n
decreases-loop-n f h slots keys j name key lo₀ n₀ lo n = n

pub slot_of_spec : {M : Type 1} → statement M
slot_of_spec =
    tie.close
    (tie.spec
    invariant-loop-n
    decreases-loop-n
    (λ c. search (rules, half_loop))
    (λ c. search (rules, half_loop))
    (λ c. search (rules, half_loop))
    (λ c. search (rules, half_loop))
    (λ c. search (rules, half_loop))
    (λ c. search (rules, half_loop))
    (λ c. search (rules, half_loop))
    (λ c. search (rules, half_loop))
    (λ c κs. (search rules, search (rules, half_loop)))
    (λ c. search (rules, half_loop))
    (λ c. search (rules, half_loop))
    (λ c. search (rules, half_loop))
    (λ c. search (rules, half_loop))
    (λ c. search (rules, half_loop))
    (λ c. search (rules, half_loop))
    (λ c. search (rules, half_loop))
    (λ c. search (rules, half_loop))
    (λ c. search (rules, half_loop))
    (λ c. search (rules, half_loop))
    (λ c. search (rules, half_loop))
    (λ c. search (rules, half_loop)))
