use borrow.Author.Rules.{rules}
use Rattle.demands.proofs.Laws.{run_loop}
use Prim.Native.Nat.{◌-◌, ◌≤◌}
use mathlib.Core.Path.{◌≡◌}
use lib.ListN.{length}
use Rattle.demands.specs.Running.{RunsTo}
use Rattle.demands.proofs.run.Statement.{statement}
use Rattle.demands.proofs.run.Tie as tie

abbrev invariant-loop-k : tie.invariant-loop-k
invariant-loop-k base image₀ marks fixes calls answers₀ n k₀ image answers k = (k ≤ n) × (length answers ≡ length answers₀) × RunsTo base.0 marks fixes calls k image₀ image answers₀ answers

abbrev decreases-loop-k : tie.decreases-loop-k
decreases-loop-k base image₀ marks fixes calls answers₀ n k₀ image answers k = n - k

pub run_spec : {M : Type 1} → statement M
run_spec =
    tie.close
    (tie.spec
    invariant-loop-k
    decreases-loop-k
    (λ c. search (rules, run_loop))
    (λ c. search (rules, run_loop))
    (λ c. search (rules, run_loop))
    (λ c. search (rules, run_loop))
    (λ c. search (rules, run_loop))
    (λ c. search (rules, run_loop))
    (λ c. search (rules, run_loop))
    (λ c. search (rules, run_loop))
    (λ c. search (rules, run_loop)))
