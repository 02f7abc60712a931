use borrow.Author.Rules.{rules}
use Rattle.externs.proofs.Spending.{records_loop, records_none, spends_none, records_pass, records_spent, records_more, pass_room}
use Prim.Native.Nat.{◌-◌, ◌≤◌, ◌<◌}
use mathlib.Core.Path.{◌≡◌}
use lib.ListN.{length}
use native.Mathlib.Omega.{arith}
use Rattle.externs.specs.Externs.{extern_records}
use Rattle.externs.specs.Held.{held}
use Rattle.externs.specs.Spent.{Kept, Spends}
use Rattle.limits.specs.Limits.{MAX_EXTERNS}
use Rattle.codes.specs.Code.{puts_in}
use Rattle.externs.proofs.add_records.Statement.{statement}
use Rattle.externs.proofs.add_records.Tie as tie

abbrev invariant-loop-k : tie.invariant-loop-k
invariant-loop-k f h codes₀ slots₀ keys₀ n i records bytes m count₀ k₀ codes slots keys count k = (k ≤ m) × (count ≤ MAX_EXTERNS) × (MAX_EXTERNS < length slots) × (length slots ≡ length slots₀) × (MAX_EXTERNS < length keys) × (length keys ≡ length keys₀) × (length codes ≡ length codes₀) × Kept f h slots keys count × Spends f h codes₀ codes (held count slots) × (held count slots ≡ extern_records f h (puts_in codes₀) i (held n slots₀) k)

abbrev decreases-loop-k : tie.decreases-loop-k
decreases-loop-k f h codes₀ slots₀ keys₀ n i records bytes m count₀ k₀ codes slots keys count k = m - k

pub add_records_spec : {M : Type 1} → statement M
add_records_spec =
    tie.close
    (tie.spec
    invariant-loop-k
    decreases-loop-k
    (λ c κs. search rules)
    (λ c κs. search rules)
    (λ c. search rules)
    (λ c. (omega arith, omega arith, omega arith, omega arith, omega arith, omega arith, omega arith, search rules, search (rules, spends_none), search (rules, records_none)))
    (λ c. omega arith)
    (λ c κs. search rules)
    (λ c κs. search rules)
    (λ c κs. (omega arith, omega arith, search rules))
    (λ c. search rules)
    (λ c. search rules)
    (λ c. search rules)
    (λ c. (search (rules, records_loop), search (rules, records_loop)))
    (λ c. omega arith)
    (λ c κs. search rules)
    (λ c. search (rules, pass_room))
    (λ c. (search (rules, pass_room), omega arith, omega arith, omega arith, omega arith, omega arith, omega arith, search rules, search (rules, records_spent), search (rules, records_more)))
    (λ c. omega arith)
    (λ c κs. search rules)
    (λ c. search (rules, pass_room))
    (λ c. (search (rules, pass_room), omega arith, omega arith, omega arith, omega arith, omega arith, omega arith, search rules, search rules, search (rules, records_pass)))
    (λ c. search rules)
    (λ c. search rules)
    (λ c. search rules)
    (λ c. (search (rules, records_loop), search (rules, records_loop))))
