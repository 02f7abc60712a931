use borrow.Author.Rules.{rules}
use Prim.Native.Nat.{◌-◌}
use Rattle.names.specs.Name.{section_text}
use Rattle.ranks.specs.Rank.{lateness}
use Rattle.ranks.proofs.Runs.{Passing, pass_loop}
use Rattle.ranks.proofs.pass.Statement.{statement}
use Rattle.ranks.proofs.pass.Tie as tie

abbrev invariant-loop-lo : tie.invariant-loop-lo
invariant-loop-lo f h w a out₀ n lo₀ out lo = Passing (section_text f h) (lateness f h) w a out lo

abbrev decreases-loop-lo : tie.decreases-loop-lo
decreases-loop-lo f h w a out₀ n lo₀ out lo = n - lo

pub pass_spec : {M : Type 1} → statement M
pass_spec =
    tie.close
    (tie.spec
    invariant-loop-lo
    decreases-loop-lo
    (λ c. search (rules, pass_loop))
    (λ c. search (rules, pass_loop))
    (λ c. search (rules, pass_loop))
    (λ c. search (rules, pass_loop))
    (λ c. search (rules, pass_loop))
    (λ c. search (rules, pass_loop))
    (λ c. search (rules, pass_loop))
    (λ c. search (rules, pass_loop)))
