use borrow.Author.Rules.{rules}
use Prim.Native.Nat.{◌-◌, ◌≤◌}
use Rattle.program.proofs.Laws.{early, all_listed}
use Rattle.program.proofs.list.Statement.{statement}
use Rattle.program.proofs.list.Tie as tie

abbrev invariant-loop-c : tie.invariant-loop-c
invariant-loop-c f c sections symbols externs fixups skips n w₀ w = w.lines ≤ n

abbrev decreases-loop-c : tie.decreases-loop-c
decreases-loop-c f c sections symbols externs fixups skips n w₀ w = n - w.lines

pub list_spec : {M : Type 1} → statement M
list_spec =
    tie.close
    (tie.spec
    invariant-loop-c
    decreases-loop-c
    (λ c. search rules)
    (λ c. search rules)
    (λ c. search rules)
    (λ c. search rules)
    (λ c. search rules)
    (λ c. search (rules, early))
    (λ c. search rules)
    (λ c. search rules)
    (λ c. search (rules, all_listed)))
