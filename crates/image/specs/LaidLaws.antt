-- What stands at every place of the laid image (01, "Layout, slots and fixups"): a slot's own address, a loaded section's bytes of the file, and zero
-- elsewhere on the mapped pages; behind them the image is as it was.
use Rattle.arch.specs.declared.RVA.{RVA}
use Rattle.std.specs.Prelude.{◌≡◌, ℕ, zero, suc, ◌+◌, ◌-◌, ◌*◌, ◌<◌, ◌≤◌, true, List, length, replicate, slice_index, slice_index_or, Option}
use Rattle.std.proofs.Math.Path.{refl, ap}
use Rattle.std.proofs.Common.{sym, ◌∙◌, le_trans, le_of_suc-le-suc, eq-or-lt_of_le, arith}
use Rattle.std.proofs.Math.Logic.{⊎_elim}
use Rattle.std.proofs.lemmas.List.{length-replicate, get_or-replicate}
use Rattle.std.proofs.Math.ListN.{get_or-eq_default}
use Rattle.limits.specs.Limits.{MAX_PAGES, MAX_EXTERNS}
use Rattle.util.specs.Pick.{pick, yes_no, le_or_lt}
use Rattle.arch.specs.Page.{PAGE_SIZE}
use Rattle.le.specs.Le.{le, length_splice, length_le, splice_below, splice_above, splice_out, splice_in, part_most, part_at}
use Rattle.object.specs.declared.Header.{Header}
use Rattle.object.specs.Section.{loaded, file_start, file_end, range_length}
use Rattle.object.specs.SectionLaws.{file_range}
use Rattle.layout.specs.Layout.{start_at, undef_start, mapped_pages}
use Rattle.layout.proofs.LayoutLaws.{ranges_apart, ranges_share_none, undef_behind, pages_mapped}
use Rattle.homes.specs.Home.{section_home, start_of}
use Rattle.homes.specs.HomeLaws.{loaded_start}
use Rattle.image.specs.Laid.{zeroed, section_bytes, section_step, sections_laid, slot_step, slots_laid, laid, laid_image}

-- ---- slots
module _ (base undef : ℕ) (image : List ℕ) where
  pub length_slots : (n : ℕ) → length (slots_laid base undef image n) ≡ length image
  unfolding slots_laid slot_step
  length_slots zero = refl
  length_slots (suc n) = length_splice (slots_laid base undef image n) (undef + 4 * n) (le 4 (base + undef + 4 * n)) ∙ length_slots n

  slots_out : (n a : ℕ) → ((e : ℕ) → e < n → undef + 4 * e ≤ a → a < undef + 4 * e + 4 → ⊥) → slice_index (slots_laid base undef image n) a ≡ slice_index image a
  unfolding slots_laid slot_step
  slots_out zero a o = refl
  slots_out (suc n) a o =
      splice_out (slots_laid base undef image n) (undef + 4 * n) (le 4 (base + undef + 4 * n)) a
      (λ x y. o n (omega arith) x (rw length_le at y))
      ∙ slots_out n a (λ e k. o e (omega arith))

  slots_in : (n e j : ℕ) → e < n → j < 4 → undef + 4 * n ≤ length image
      → slice_index (slots_laid base undef image n) (undef + 4 * e + j) ≡ slice_index (le 4 (base + undef + 4 * e)) j
  unfolding slots_laid slot_step
  slots_in zero e j h k l = absurd (omega arith)
  slots_in (suc n) e j h k l =
      ⊎_elim
      (λ (z : e ≡ n).
      rw z (splice_in (slots_laid base undef image n) (undef + 4 * n) (le 4 (base + undef + 4 * n)) j (rw length_le k) (rw length_slots (omega arith))))
      (λ (z : e < n).
      splice_below (slots_laid base undef image n) (undef + 4 * n) (le 4 (base + undef + 4 * n)) (undef + 4 * e + j) (omega arith)
      ∙ slots_in n e j z k (omega arith))
      (eq-or-lt_of_le (le_of_suc-le-suc h))

-- ---- sections, wherever they start
pub length_step : (f : List ℕ) (h : Header) (home : ℕ → Option RVA) (image : List ℕ) (i : ℕ) → length (section_step f h home image i) ≡ length image
unfolding section_step pick
length_step f h home image i =
    ⊎_elim (λ t. rw t (length_splice image (start_of (home i)) (section_bytes f h i))) (λ t. rw t) (yes_no (loaded f h i))

module _ (f : List ℕ) (h : Header) (home : ℕ → Option RVA) (image : List ℕ) where
  pub length_sections : (n : ℕ) → length (sections_laid f h home image n) ≡ length image
  unfolding sections_laid
  length_sections zero = refl
  length_sections (suc n) = length_step f h home (sections_laid f h home image n) n ∙ length_sections n

  sections_out : (n a : ℕ)
      → ((i : ℕ) → i < n → loaded f h i ≡ true → start_of (home i) ≤ a → a < start_of (home i) + length (section_bytes f h i) → ⊥)
      → slice_index (sections_laid f h home image n) a ≡ slice_index image a
  unfolding sections_laid section_step pick
  sections_out zero a o = refl
  sections_out (suc n) a o =
      let r = sections_out n a (λ i k. o i (omega arith)) in
      ⊎_elim
      (λ t.
      rw t (splice_out (sections_laid f h home image n) (start_of (home n)) (section_bytes f h n) a (λ x y. o n (omega arith) t x y) ∙ r))
      (λ t. rw t r)
      (yes_no (loaded f h n))

  -- a section's bytes are there, if no later section's are put over them
  sections_in : (n i j : ℕ) → i < n → loaded f h i ≡ true → j < length (section_bytes f h i) → start_of (home i) + j < length image
      → ((k : ℕ) → i < k → k < n → loaded f h k ≡ true → start_of (home i) + j < start_of (home k))
      → slice_index (sections_laid f h home image n) (start_of (home i) + j) ≡ slice_index (section_bytes f h i) j
  unfolding sections_laid section_step pick
  sections_in zero i j q t l m o = absurd (omega arith)
  sections_in (suc n) i j q t l m o =
      ⊎_elim
      (λ (z : i ≡ n).
      let u : loaded f h n ≡ true = ap (loaded f h) (sym z) ∙ t in
      let e : length (sections_laid f h home image n) ≡ length image = length_sections n in
      let x : j < length (section_bytes f h n) = rw z at l in
      let y : start_of (home n) + j < length image = rw z at m in
      rw (z, u) (splice_in (sections_laid f h home image n) (start_of (home n)) (section_bytes f h n) j x (omega arith)))
      (λ (z : i < n).
      let r = sections_in n i j z t l m (λ k a b. o k a (omega arith)) in
      ⊎_elim
      (λ u.
      rw u (splice_below (sections_laid f h home image n) (start_of (home n)) (section_bytes f h n) (start_of (home i) + j) (o n z (omega arith) u) ∙ r))
      (λ u. rw u r)
      (yes_no (loaded f h n)))
      (eq-or-lt_of_le (le_of_suc-le-suc q))

-- ---- no byte more or less
pub length_laid : (f : List ℕ) (h : Header) (home : ℕ → Option RVA) (pages base undef n : ℕ) (image : List ℕ)
    → length (laid f h home pages base undef n image) ≡ length image
length_laid f h home pages base undef n image =
    length_slots base undef (sections_laid f h home (zeroed pages image) h.sections) n
    ∙ length_sections f h home (zeroed pages image) h.sections
    ∙ length_splice image 0 (replicate (PAGE_SIZE * pages) 0)

-- ---- a loaded section's bytes fit its range
module _ (f : List ℕ) (h : Header) where
  length_bytes : (i : ℕ) → length (section_bytes f h i) ≤ file_end f h i - file_start f h i
  length_bytes i = part_most f (file_start f h i) (file_end f h i - file_start f h i)

-- ---- the laid image of a file that is accepted
-- refusals 8 and 9 do not apply, and the image has room for the mapped pages
module _ (f : List ℕ) (h : Header) (base n : ℕ) (image : List ℕ)
    (room : mapped_pages f h ≤ MAX_PAGES) (few : n ≤ MAX_EXTERNS) (long : PAGE_SIZE * mapped_pages f h ≤ length image) where
  -- by name: the zeroed image, and the sections in it
  abbrev clean : List ℕ
  clean = zeroed (mapped_pages f h) image

  abbrev held : List ℕ
  held = sections_laid f h (section_home f h) clean h.sections

  length_clean : length clean ≡ length image
  length_clean = length_splice image 0 (replicate (PAGE_SIZE * mapped_pages f h) 0)

  clean_at : (a : ℕ) → a < PAGE_SIZE * mapped_pages f h → slice_index clean a ≡ 0
  clean_at a q =
      let e : 0 + a ≡ a = omega arith in
      (rw e at (splice_in image 0 (replicate (PAGE_SIZE * mapped_pages f h) 0) a (rw length-replicate q) (omega arith)))
      ∙ get_or-replicate (PAGE_SIZE * mapped_pages f h) a 0 0 q

  -- outside the loaded sections' bytes nothing is put
  held_out : (a : ℕ)
      → ((i : ℕ) → i < h.sections → loaded f h i ≡ true → start_at f h i ≤ a → a < start_at f h i + length (section_bytes f h i) → ⊥)
      → slice_index held a ≡ slice_index clean a
  held_out a o =
      sections_out f h (section_home f h) clean h.sections a
      (λ i q t x y. let e = loaded_start f h i q t in o i q t (omega arith) (omega arith))

  -- slots stand behind every section, and on the mapped pages
  slots_above : (a : ℕ) → a < undef_start f h → slice_index (laid_image f h base n image) a ≡ slice_index held a
  slots_above a q = slots_out base (undef_start f h) held n a (λ e k x y. absurd (omega arith))

  -- slot e holds its own address, in 4 bytes
  pub laid_slot : (e j : ℕ) → e < n → j < 4
      → slice_index (laid_image f h base n image) (undef_start f h + 4 * e + j) ≡ slice_index (le 4 (base + undef_start f h + 4 * e)) j
  laid_slot e j p q =
      let m = pages_mapped f h in
      let l : length held ≡ length image = length_sections f h (section_home f h) clean h.sections ∙ length_clean in
      slots_in base (undef_start f h) held n e j p q (omega arith)

  -- section i's bytes of the file; past the end of the file they are zero, as the file reads there
  pub laid_file : (i j : ℕ) → i < h.sections → loaded f h i ≡ true → j < file_end f h i - file_start f h i
      → slice_index (laid_image f h base n image) (start_at f h i + j) ≡ slice_index f (file_start f h i + j)
  laid_file i j q t l =
      let r = file_range f h i in
      let u = undef_behind f h i t q in
      let m = pages_mapped f h in
      let e = loaded_start f h i q t in
      let b : slice_index_or (section_bytes f h i) j 0 ≡ slice_index_or f (file_start f h i + j) 0 =
      part_at f (file_start f h i) (file_end f h i - file_start f h i) j l in
      let c = length_clean in
      let v : slice_index_or held (start_at f h i + j) 0 ≡ slice_index_or (section_bytes f h i) j 0 =
      ⊎_elim
      (λ (z : length (section_bytes f h i) ≤ j).
      held_out (start_at f h i + j)
      (λ k p s x y.
      let o : length (section_bytes f h k) ≤ range_length f h k = le_trans (length_bytes f h k) (file_range f h k) in
      let g : k ≡ i = ranges_share_none f h k i (start_at f h i + j) s t x (omega arith) (omega arith) (omega arith) in
      let w : start_at f h i + j < start_at f h i + length (section_bytes f h i) = rw g at y in
      absurd (omega arith))
      ∙ clean_at (start_at f h i + j) (omega arith)
      ∙ sym (get_or-eq_default (section_bytes f h i) 0 {n = j} z))
      (λ (z : j < length (section_bytes f h i)).
      rw e at
      (sections_in f h (section_home f h) clean h.sections i j q t z (omega arith)
      (λ k x y s. let d = loaded_start f h k y s in let a = ranges_apart f h i k t x in omega arith)))
      (le_or_lt (length (section_bytes f h i)) j) in
      slots_above (start_at f h i + j) (omega arith) ∙ v ∙ b

  -- every other byte of the mapped pages is zero
  pub laid_zero : (a : ℕ) → a < PAGE_SIZE * mapped_pages f h
      → ((e : ℕ) → e < n → undef_start f h + 4 * e ≤ a → a < undef_start f h + 4 * e + 4 → ⊥)
      → ((i : ℕ) → i < h.sections → loaded f h i ≡ true → start_at f h i ≤ a → a < start_at f h i + (file_end f h i - file_start f h i) → ⊥)
      → slice_index (laid_image f h base n image) a ≡ 0
  laid_zero a q o p =
      slots_out base (undef_start f h) held n a o
      ∙ held_out a (λ i k t x y. let l = length_bytes f h i in p i k t x (omega arith))
      ∙ clean_at a q

  -- behind the mapped pages the image is as it was
  pub laid_past : (a : ℕ) → PAGE_SIZE * mapped_pages f h ≤ a → slice_index (laid_image f h base n image) a ≡ slice_index image a
  laid_past a q =
      let m = pages_mapped f h in
      slots_out base (undef_start f h) held n a (λ e k x y. absurd (omega arith))
      ∙ held_out a
      (λ i k t x y.
      let l = length_bytes f h i in
      let r = file_range f h i in
      let u = undef_behind f h i t k in
      absurd (omega arith))
      ∙ splice_above image 0 (replicate (PAGE_SIZE * mapped_pages f h) 0) a (rw length-replicate (omega arith))
