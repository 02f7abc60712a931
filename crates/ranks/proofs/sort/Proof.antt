use borrow.Author.Rules.{rules}
use mathlib.Core.Path.{◌≡◌}
use Prim.Native.Nat.{◌-◌, ◌<◌}
use lib.ListN.{length}
use Rattle.names.specs.Name.{section_text}
use Rattle.ranks.specs.Rank.{lateness}
use Rattle.ranks.specs.Merge.{RunsRanked}
use Rattle.ranks.proofs.Runs.{runs_again, Runs-loop}
use Rattle.ranks.proofs.sort.Statement.{statement}
use Rattle.ranks.proofs.sort.Tie as tie

abbrev invariant-loop-w : tie.invariant-loop-w
invariant-loop-w f h a₀ spare₀ n w₀ a spare w = (0 < w) × (length spare ≡ length a₀) × RunsRanked (section_text f h) (lateness f h) w a₀ a

abbrev decreases-loop-w : tie.decreases-loop-w
decreases-loop-w f h a₀ spare₀ n w₀ a spare w = n - w

again : tie.Need-loop-w-preserved invariant-loop-w decreases-loop-w
again c =
    let back = c.before.before in
    let forth = back.before.before.before.before in
    let inv = forth.before.before.before.loop-w.invariant in
    (search rules, search rules, runs_again _ _ _ _ _ _ inv.2 forth.pass.ensures _ back.pass-in-loop-w.ensures)

pub sort_spec : {M : Type 1} → statement M
sort_spec =
    tie.close
    (tie.spec
    invariant-loop-w
    decreases-loop-w
    (λ c. search (rules, Runs-loop))
    (λ c κs. (search rules, search rules, search rules, search rules, search (rules, Runs-loop)))
    (λ c. search (rules, Runs-loop))
    (λ c κs. (search rules, search rules, search rules, search rules, search (rules, Runs-loop)))
    (λ c. search (rules, Runs-loop))
    (λ c. search (rules, Runs-loop))
    (λ c. search (rules, Runs-loop))
    again
    (λ c. search (rules, Runs-loop))
    (λ c. search (rules, Runs-loop))
    (λ c. search (rules, Runs-loop)))
