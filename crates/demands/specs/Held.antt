-- Of the request's second demand: on which objects the Rust is a measure of homes (02, N3). It finds a section's home by the section's file start, and UNDEF's is 0; where no two sections share
-- a file start and none starts at 0, that is the record made from the section.
use Rattle.std.specs.Prelude.{◌≡◌, refl, Bool, ◌&&◌, List, ℕ, ◌<◌, eqb}
use Rattle.std.proofs.Common.{sym, ◌∙◌, ⊎_elim}
use Rattle.std.proofs.Math.Path.{ap}
use Rattle.std.proofs.Math.Bool.{true, false, not}
use borrow.Author.Tests.{eqb-true, eq-eqb, not-true}
use Rattle.util.specs.Pick.{and_left, and_right, and_both, not_both, three_ways}
use Rattle.util.specs.Prefix.{all_to, all_at}
use Rattle.object.specs.declared.Header.{Header}
use Rattle.object.specs.Section.{loaded, file_start}
use Rattle.ranks.specs.Named.{TableRecord, Loaded, Undef, Nowhere, first_in}
use Rattle.ranks.specs.FirstLaws.{found_at, found_undef, found_nowhere}
use Rattle.homes.specs.Home.{section_home, record_start}
use Rattle.homes.specs.HomeLaws.{loaded_home, unloaded_none}

module _ (f : List ℕ) (h : Header) where
  -- section j is loaded and starts where section i does in the file
  unfoldable pub starts_with : ℕ → ℕ → Bool
  starts_with i j = loaded f h j && eqb (file_start f h j) (file_start f h i)

  -- the Rust's home of section i: of the table's records the first with the same file start
  abbrev pub rust_home : ℕ → TableRecord
  rust_home i = first_in (starts_with i) (eqb (file_start f h i) 0) 0 h.sections

  -- section i does not start at 0, nor where a section before it does
  unfoldable pub starts_alone : ℕ → Bool
  starts_alone i = not (eqb (file_start f h i) 0) && all_to (λ j. not (eqb (file_start f h j) (file_start f h i))) i

  -- the object is held against the Rust: so do all sections, unloaded ones too
  abbrev pub is_held : Bool
  is_held = all_to starts_alone h.sections

  module _ (held : is_held ≡ true) where
    not_zero : (i : ℕ) → i < h.sections → file_start f h i ≡ 0 → ⊥
    unfolding starts_alone
    not_zero i k e =
        let a = and_left (not (eqb (file_start f h i) 0)) _ (all_at starts_alone h.sections i held k) in
        not_both (eqb (file_start f h i) 0) (eq-eqb (file_start f h i) 0 e) (not-true (eqb (file_start f h i) 0) a)

    not_below : (i j : ℕ) → i < h.sections → j < i → file_start f h j ≡ file_start f h i → ⊥
    unfolding starts_alone
    not_below i j k l e =
        let a = and_right (not (eqb (file_start f h i) 0)) _ (all_at starts_alone h.sections i held k) in
        let b = all_at (λ m. not (eqb (file_start f h m) (file_start f h i))) i j a l in
        not_both (eqb (file_start f h j) (file_start f h i)) (eq-eqb (file_start f h j) (file_start f h i) e) (not-true (eqb (file_start f h j) (file_start f h i)) b)

    -- so no two of its sections have one file start
    same_section : (i j : ℕ) → i < h.sections → j < h.sections → file_start f h i ≡ file_start f h j → i ≡ j
    same_section i j p q e =
        ⊎_elim (λ lt. absurd (not_below j i q lt e)) (⊎_elim (λ s. s) (λ gt. absurd (not_below i j p gt (sym e)))) (three_ways i j)

    module _ (i : ℕ) (inside : i < h.sections) where
      starts_same : (j : ℕ) → starts_with i j ≡ true → file_start f h j ≡ file_start f h i
      unfolding starts_with
      starts_same j t = eqb-true (file_start f h j) (file_start f h i) (and_right (loaded f h j) _ t)

      starts_loaded : (j : ℕ) → starts_with i j ≡ true → loaded f h j ≡ true
      unfolding starts_with
      starts_loaded j t = and_left (loaded f h j) _ t

      own_starts : loaded f h i ≡ true → starts_with i i ≡ true
      unfolding starts_with
      own_starts t = and_both (loaded f h i) (eqb (file_start f h i) (file_start f h i)) t (eq-eqb (file_start f h i) (file_start f h i) refl)

      by_record : (x : TableRecord) → rust_home i ≡ x → (b : Bool) → loaded f h i ≡ b → record_start f h x ≡ section_home f h i
      unfolding record_start
      by_record (Loaded j) e b t =
          let r = found_at (starts_with i) (eqb (file_start f h i) 0) h.sections j e in
          let s : j ≡ i = same_section j i r.inside inside (starts_same j r.passes) in
          let l : loaded f h i ≡ true = ap (loaded f h) (sym s) ∙ starts_loaded j r.passes in
          rw (loaded_home f h i inside l, s)
      by_record Undef e b t = absurd (not_zero i inside (eqb-true (file_start f h i) 0 (found_undef (starts_with i) (eqb (file_start f h i) 0) h.sections e).undef))
      by_record Nowhere e true t =
          not_both (starts_with i i) (own_starts t) ((found_nowhere (starts_with i) (eqb (file_start f h i) 0) h.sections e).none i inside)
      by_record Nowhere e false t = rw (unloaded_none f h i t)

      -- there the Rust's home of every section starts where ours does, or there is none in both
      pub held_homes : record_start f h (rust_home i) ≡ section_home f h i
      held_homes = by_record (rust_home i) refl (loaded f h i) refl
