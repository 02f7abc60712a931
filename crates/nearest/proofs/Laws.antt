-- The walk from the front, as the code asks it.
use Rattle.refusal.specs.declared.Refusal.TheVariants.{NoRoutine}
use Rattle.refusal.specs.declared.Refusal.{Refusal}
use Rattle.std.specs.Prelude.{◌≡◌, refl, Bool, true, false, ◌&&◌, List, ◌⊎◌, ℕ, ◌+◌, ◌-◌, ◌<◌, ◌≤◌, nat_le, nat_eq, Result, Ok, Err}
use Rattle.std.proofs.Common.{sym, ◌∙◌, inl, inr, ⊎_elim, arith, not-suc-le-zero, add-one, leb-true, le-leb}
use Rattle.util.specs.Pick.{yes_no, not_both, le_or_lt, and_left, and_right, and_both}
use Rattle.arch.specs.declared.VA.{VA}
use Rattle.symbols.specs.Symbol.{symbol_count}
use Rattle.nearest.specs.declared.Routine.{Routine}
use Rattle.nearest.specs.Nearest.{row_address, row_home, qualifies, nearest_symbol, with_distance, nearest, comes_next}
use Rattle.nearest.specs.NearestLaws.{Greatest, TakesNone, greatest_first, greatest_next, greatest_stays, none_more, greatest_is, none_is}

-- what is found among the first k: the nearest of them and its address, or none
pub record Walk (symbols : List ℕ) (home : ℕ) (x : VA) (k top : ℕ) (best : Result Routine Refusal) : Type 0 where
  pub low : top ≤ x.0
  pub so_far : ((b : ℕ) × Greatest (qualifies symbols home x) (row_address symbols) k b × (top ≡ row_address symbols b) × (best ≡ Ok (record { symbol = b; distance = x.0 - top })))
      ⊎ (TakesNone (qualifies symbols home x) (row_address symbols) k × (top ≡ 0) × (best ≡ Err NoRoutine))

module _ (symbols : List ℕ) (home : ℕ) (x : VA) where
  abbrev ok : ℕ → Bool
  ok = qualifies symbols home x

  abbrev at : ℕ → ℕ
  at = row_address symbols

  pub walk_starts : Walk symbols home x 0 0 (Err NoRoutine)
  walk_starts = record { low = omega arith; so_far = inr ((λ j l. absurd (not-suc-le-zero l)), refl, refl) }

  module _ {k top : ℕ} {best : Result Routine Refusal} (w : Walk symbols home x k top best) where
    -- one that comes next lies at the address or below, so that the distance is no less than 0
    pub walk_low : {a : ℕ} {b : Bool} → a ≡ at k → b ≡ comes_next symbols home x top k → b ≡ true → a ≤ x.0
    unfolding comes_next qualifies
    walk_low e q t =
        let z : (ok k && nat_le top (at k)) ≡ true = sym q ∙ t in
        rw e (leb-true (at k) x.0 (and_right (nat_eq (row_home symbols k) home) (nat_le (at k) x.0) (and_left (ok k) (nat_le top (at k)) z)))

    pub walk_takes : {a : ℕ} {b : Bool} → a ≡ at k → b ≡ comes_next symbols home x top k → b ≡ true → Walk symbols home x (k + 1) a (Ok (record { symbol = k; distance = x.0 - a }))
    unfolding comes_next
    walk_takes {a} e q t =
        let z : (ok k && nat_le top (at k)) ≡ true = sym q ∙ t in
        let good : ok k ≡ true = and_left (ok k) (nat_le top (at k)) z in
        let high : top ≤ at k = leb-true top (at k) (and_right (ok k) (nat_le top (at k)) z) in
        record {
          low = walk_low e q t;
          so_far = rw add-one (⊎_elim (λ g. inl (k, greatest_next ok at k g.0 g.1 good (rw g.2 at high), e, refl)) (λ o. inl (k, greatest_first ok at k o.0 good, e, refl)) w.so_far);
        }

    pub walk_passes : {b : Bool} → b ≡ comes_next symbols home x top k → b ≡ false → Walk symbols home x (k + 1) top best
    unfolding comes_next
    walk_passes q f =
        let z : (ok k && nat_le top (at k)) ≡ false = sym q ∙ f in
        -- one that qualifies lies below what was found
        let lower : ok k ≡ true → at k < top = λ t. ⊎_elim (λ h. not_both (ok k && nat_le top (at k)) (and_both (ok k) (nat_le top (at k)) t (le-leb top (at k) h)) z) (λ h. h) (le_or_lt top (at k)) in
        record {
          low = w.low;
          so_far = rw add-one (⊎_elim
              (λ g. inl (g.0, greatest_stays ok at k g.0 g.1 (λ t. rw g.2 at (lower t)), g.2, g.3))
              (λ o. inr (none_more ok at k o.0 (⊎_elim (λ t. absurd (let l = lower t in let e = o.1 in omega arith)) (λ r. r) (yes_no (ok k))), o.1, o.2))
              w.so_far);
        }

    pub walk_ends : {n : ℕ} → n ≡ symbol_count symbols → k ≤ n → n ≤ k → best ≡ nearest symbols home x
    unfolding with_distance
    walk_ends c most all =
        let s : k ≡ symbol_count symbols = omega arith in
        ⊎_elim
        (λ g. let found : nearest_symbol symbols home x ≡ Ok g.0 = rw s at (greatest_is ok at k g.0 g.1) in g.3 ∙ rw (found, g.2))
        (λ o. let none : nearest_symbol symbols home x ≡ Err NoRoutine = rw s at (none_is ok at k o.0) in o.2 ∙ rw none)
        w.so_far
