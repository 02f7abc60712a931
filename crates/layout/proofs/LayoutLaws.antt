-- Laws of the layout that rest on unloaded sections taking no room, and so cannot stand beside the definition: an edit of that must stay readable there.
use Rattle.std.specs.Prelude.{◌≡◌, ℕ, zero, suc, ◌+◌, ◌*◌, ◌%◌, ◌^◌, ◌<◌, ◌≤◌, true, false, List}
use Rattle.std.proofs.Math.Path.{refl}
use Rattle.std.proofs.Common.{◌∙◌, le_refl, le_trans, le_of_suc-le-suc, eq-or-lt_of_le}
use Rattle.std.proofs.Math.Logic.{⊎_elim}
use native.Mathlib.Omega.{arith}
use Rattle.util.specs.Pick.{pick, yes_no, three_ways}
use Rattle.util.specs.Align.{up_multiple}
use Rattle.limits.specs.Limits.{MAX_PAGES}
use Rattle.arch.specs.Page.{PAGE_SIZE}
use Rattle.object.specs.declared.Header.{Header}
use Rattle.object.specs.Section.{loaded, range_length}
use Rattle.layout.specs.Layout.{next_start, start_at, undef_start, mapped_pages}
use Rattle.layout.specs.LayoutLaws.{loaded_takes_range, next_apart}

module _ (f : List ℕ) (h : Header) where
  -- an unloaded section takes no room
  pub unloaded_takes_none : (i : ℕ) → loaded f h i ≡ false → start_at f h (suc i) ≡ start_at f h i
  unfolding start_at next_start pick
  unloaded_takes_none i t = rw t

  next_not_below : (i : ℕ) → start_at f h i ≤ start_at f h (suc i)
  next_not_below i =
      ⊎_elim (λ t. let a = next_apart f h i t in omega arith) (λ t. rw (unloaded_takes_none i t) (le_refl (start_at f h i))) (yes_no (loaded f h i))

  -- ---- all sections
  -- the first loaded section starts at the base: what has only unloaded ones before it starts at offset 0
  pub first_at_base : (i : ℕ) → ((k : ℕ) → k < i → loaded f h k ≡ false) → start_at f h i ≡ 0
  unfolding start_at
  first_at_base zero n = refl
  first_at_base (suc i) n = unloaded_takes_none i (n i (omega arith)) ∙ first_at_base i (λ k q. n k (omega arith))

  -- every section starts on a page
  pub starts_on_pages : (i : ℕ) → start_at f h i % PAGE_SIZE ≡ 0
  unfolding start_at
  starts_on_pages zero = refl
  starts_on_pages (suc i) =
      ⊎_elim (λ t. rw (loaded_takes_range f h i t) (up_multiple (start_at f h i + range_length f h i) PAGE_SIZE (omega arith)))
      (λ t. rw (unloaded_takes_none i t) (starts_on_pages i))
      (yes_no (loaded f h i))

  -- and so does UNDEF
  pub undef_on_page : undef_start f h % PAGE_SIZE ≡ 0
  undef_on_page = starts_on_pages h.sections

  -- the starts stand in file order
  pub starts_in_order : (i j : ℕ) → i ≤ j → start_at f h i ≤ start_at f h j
  starts_in_order i zero q = let e : i ≡ 0 = omega arith in rw e (le_refl (start_at f h 0))
  starts_in_order i (suc j) q =
      ⊎_elim (λ e. rw e (le_refl (start_at f h (suc j))))
      (λ lt. le_trans (starts_in_order i j (le_of_suc-le-suc lt)) (next_not_below j))
      (eq-or-lt_of_le q)

  -- a loaded section's range ends before any later section starts
  pub ranges_apart : (i j : ℕ) → loaded f h i ≡ true → i < j → start_at f h i + range_length f h i ≤ start_at f h j
  ranges_apart i j t q = le_trans (next_apart f h i t) (starts_in_order (suc i) j q)

  -- and before UNDEF does
  pub undef_behind : (i : ℕ) → loaded f h i ≡ true → i < h.sections → start_at f h i + range_length f h i ≤ undef_start f h
  undef_behind i t q = ranges_apart i h.sections t q

  -- so no address lies in two sections' ranges
  pub ranges_share_none : (i j a : ℕ) → loaded f h i ≡ true → loaded f h j ≡ true
      → start_at f h i ≤ a → a < start_at f h i + range_length f h i
      → start_at f h j ≤ a → a < start_at f h j + range_length f h j → i ≡ j
  ranges_share_none i j a t u li ri lj rj =
      ⊎_elim (λ lt. let z = ranges_apart i j t lt in absurd (omega arith))
      (λ s. ⊎_elim (λ e. e) (λ gt. let z = ranges_apart j i u gt in absurd (omega arith)) s)
      (three_ways i j)

  -- ---- the mapped pages
  -- they reach two pages past UNDEF's start: UNDEF's own and one more
  pub pages_mapped : PAGE_SIZE * mapped_pages f h ≡ undef_start f h + 2 * PAGE_SIZE
  pages_mapped = let z = undef_on_page in omega arith

  -- ---- where refusal 8 does not apply, every offset is below 2 ^ 24
  module _ (room : mapped_pages f h ≤ MAX_PAGES) where
    -- UNDEF's page ends below it
    pub undef_fits : undef_start f h + PAGE_SIZE < 2 ^ 24
    undef_fits = let p = pages_mapped in omega arith

    -- and so every section starts below it
    pub starts_fit : (i : ℕ) → i ≤ h.sections → start_at f h i < 2 ^ 24
    starts_fit i q =
        let a = starts_in_order i h.sections q in
        let b = undef_fits in
        omega arith
