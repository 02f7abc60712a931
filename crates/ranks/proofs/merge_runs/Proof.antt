use borrow.Author.Rules.{rules}
use mathlib.Core.Path.{refl}
use Rattle.ranks.proofs.Runs.{runs_first, runs_second, runs_long, runs_put}
use Rattle.ranks.proofs.merge_runs.Statement.{statement}
use Rattle.ranks.proofs.merge_runs.Tie as tie

asked : tie.Need-merge-requires
asked c κs =
    let cut = c.before.before.before in
    let pre = cut.before.before.before.before.before.requires in
    let mid = cut.before.run_end-mid.ensures in
    let hi = cut.run_end-hi.ensures in
    (runs_long _ _ _ _ _ _ refl pre.1 mid hi _ pre.0, runs_first _ _ _ _ _ _ refl pre.1 mid hi _ _ pre.2, runs_second _ _ _ _ _ _ refl pre.1 mid hi _ _ pre.3)

returns : tie.Need-returns
returns c =
    let cut = c.before.before.before.before.before.before in
    let pre = cut.before.before.before.before.before.requires in
    runs_put _ _ _ _ _ _ refl pre.1 cut.before.run_end-mid.ensures cut.run_end-hi.ensures _ _ _ _ pre.0 c.before.before.merge.ensures

pub merge_runs_spec : {M : Type 1} → statement M
merge_runs_spec =
    tie.close
    (tie.spec
    (λ c. search rules)
    (λ c. search rules)
    (λ c. search rules)
    (λ c. search rules)
    (λ c. search rules)
    (λ c. search rules)
    (λ c. search rules)
    (λ c. search rules)
    (λ c. search rules)
    (λ c. search rules)
    (λ c. search rules)
    (λ c. search rules)
    (λ c. search rules)
    (λ c. search rules)
    asked
    (λ c. search rules)
    returns)
