use borrow.Author.Rules.{rules}
use Prim.Native.Nat.{◌+◌, ◌-◌}
use Rattle.names.specs.Name.{section_text}
use Rattle.ranks.specs.Rank.{lateness}
use Rattle.ranks.proofs.Merging.{Merging, merge_loop}
use Rattle.ranks.proofs.merge.Statement.{statement}
use Rattle.ranks.proofs.merge.Tie as tie

abbrev invariant-loop-i : tie.invariant-loop-i
invariant-loop-i f h a b out₀ n i₀ j₀ out i j = Merging (section_text f h) (lateness f h) a b out i j

abbrev decreases-loop-i : tie.decreases-loop-i
decreases-loop-i f h a b out₀ n i₀ j₀ out i j = n - (i + j)

pub merge_spec : {M : Type 1} → statement M
merge_spec =
    tie.close
    (tie.spec
    invariant-loop-i
    decreases-loop-i
    (λ c. search (rules, merge_loop))
    (λ c. search (rules, merge_loop))
    (λ c. search (rules, merge_loop))
    (λ c. search (rules, merge_loop))
    (λ c. search (rules, merge_loop))
    (λ c. search (rules, merge_loop))
    (λ c. search (rules, merge_loop))
    (λ c. search (rules, merge_loop))
    (λ c. search (rules, merge_loop))
    (λ c. search (rules, merge_loop))
    (λ c. search (rules, merge_loop))
    (λ c. search (rules, merge_loop))
    (λ c. search (rules, merge_loop))
    (λ c. search (rules, merge_loop))
    (λ c. search (rules, merge_loop))
    (λ c. search (rules, merge_loop))
    (λ c. search (rules, merge_loop))
    (λ c. search (rules, merge_loop))
    (λ c. search (rules, merge_loop))
    (λ c. search (rules, merge_loop))
    (λ c. search (rules, merge_loop)))
