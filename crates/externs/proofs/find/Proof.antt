use borrow.Author.Rules.{rules}
use Rattle.externs.proofs.Laws.{spot_loop, spot_keys, keys_rise, Passed}
use native.Mathlib.Omega.{arith}
use Prim.Native.Nat.{◌-◌, ◌≤◌}
use Rattle.externs.specs.Held.{held}
use Rattle.externs.proofs.find.Statement.{statement}
use Rattle.externs.proofs.find.Tie as tie

abbrev invariant-loop-p : tie.invariant-loop-p
invariant-loop-p f h slots keys n j key name p₀ p = (p ≤ n) × Passed f h j (held n slots) p

abbrev decreases-loop-p : tie.decreases-loop-p
decreases-loop-p f h slots keys n j key name p₀ p = n - p

pub find_spec : {M : Type 1} → statement M
find_spec =
    tie.close
    (tie.spec
    invariant-loop-p
    decreases-loop-p
    (λ c. search (rules, spot_loop, spot_keys))
    (λ c. search (rules, spot_loop, spot_keys))
    (λ c. search (rules, spot_loop, spot_keys))
    (λ c. search (rules, spot_loop, spot_keys))
    (λ c. search (rules, spot_loop, spot_keys))
    (λ c. search (rules, spot_loop, spot_keys))
    (λ c. search (rules, spot_loop, spot_keys))
    (λ c. search (rules, spot_loop, spot_keys))
    (λ c. search (rules, spot_loop, spot_keys))
    (λ c. search (rules, spot_loop, spot_keys))
    (λ c. search (rules, spot_loop, spot_keys))
    (λ c. search (rules, spot_loop, spot_keys))
    (λ c. search (rules, spot_loop, spot_keys))
    (λ c. search (rules, spot_loop, spot_keys))
    (λ c. search (rules, spot_loop, spot_keys))
    (λ c κs. (omega arith, omega arith, search (rules, keys_rise)))
    (λ c. search (rules, spot_loop, spot_keys))
    (λ c. search (rules, spot_loop, spot_keys))
    (λ c. search (rules, spot_loop, spot_keys)))
