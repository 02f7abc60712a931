-- What holds after a page write, an empty map and a padded write, as later layers ask it.
use Rattle.std.specs.Prelude.{◌≡◌, refl, true, false, List, [], ◌∷◌, ℕ, ◌+◌, ◌*◌, ◌/◌, ◌%◌, ◌≤◌, ◌<◌, length, replicate, get_or, eqb}
use Rattle.std.proofs.Common.{◌∙◌, ⊎_elim, length-append}
use native.Mathlib.Omega.{arith}
use Rattle.std.proofs.lemmas.List.{length-replicate}
use borrow.Author.Tests.{leb-true, eqb-true, ne_eqb}
use Rattle.util.specs.Pick.{pick, le_or_lt, head_passes, rest_passes}
use Rattle.arch.specs.Page.{PAGE_SIZE, page_of, on_page}
use Rattle.refusal.specs.Refusal.{Code, PASSES, STORAGE, NOT_MAPPED, NOT_ON_A_PAGE, NOT_WHOLE_PAGES}
use Rattle.le.specs.Le.{part, splice, part_none, part_splice, splice_out, IsBytes}
use Rattle.marks.specs.Marks.{WORD_PAGES, WORD_BYTES}
use Rattle.pagemap.specs.Pages.{storage_ok, mapped, span_mapped, read_code}
use Rattle.pagemap.specs.PageLaws.{mapped_of, span_of, storage_marks}
use Rattle.pagewrite.specs.Marking.{mark_pages}
use Rattle.pagewrite.specs.MarkingLaws.{length_pages, pages_there, pages_other}
use Rattle.pagewrite.specs.PageWrite.{pages_lent, whole_pages, padded_pages, page_write_code, padded_write_code, padded}

nil_of : (l : List ℕ) → length l ≤ 0 → l ≡ []
nil_of [] h = refl
nil_of (x ∷ l) h = absurd (omega arith)

-- ---- n pages from o can be written: the storage is good, o is on a page, and the pages are lent
pub record PagesFit (size marks o n : ℕ) : Type 0 where
  pub storage : storage_ok size marks ≡ true
  pub start : o % PAGE_SIZE ≡ 0
  pub inside : 0 < n → o + n * PAGE_SIZE ≤ size

pub lent_in : (size o n : ℕ) → pages_lent size o n ≡ true → 0 < n → o + n * PAGE_SIZE ≤ size
unfolding pages_lent pick
lent_in size o n e h = let z : eqb n 0 ≡ false = ne_eqb n 0 (λ q. omega arith) in leb-true (o + n * PAGE_SIZE) size (rw z at e)

-- the checks after the first, by name
abbrev lent_code : ℕ → ℕ → ℕ → Code
lent_code size o n = pick (pages_lent size o n) PASSES NOT_MAPPED

abbrev whole_code : ℕ → ℕ → ℕ → Code
whole_code size o n = pick (on_page n) (lent_code size o (whole_pages n)) NOT_WHOLE_PAGES

abbrev start_code : ℕ → Code → Code
start_code o rest = pick (on_page o) rest NOT_ON_A_PAGE

-- so it is where a page write, an empty map or a padded write is not refused
module _ (size marks o n : ℕ) where
  fits_from : (k : ℕ) (rest : Code) → pick (storage_ok size marks) (start_code o rest) STORAGE ≡ PASSES → (rest ≡ PASSES → lent_code size o k ≡ PASSES) → PagesFit size marks o k
  fits_from k rest e f =
      let s = rest_passes (storage_ok size marks) (start_code o rest) STORAGE e (λ z. cc) in
      let r = rest_passes (on_page o) rest NOT_ON_A_PAGE s (λ z. cc) in
      record {
        storage = head_passes (storage_ok size marks) (start_code o rest) STORAGE e (λ z. cc);
        start = eqb-true (o % PAGE_SIZE) 0 (head_passes (on_page o) rest NOT_ON_A_PAGE s (λ z. cc));
        inside = lent_in size o k (head_passes (pages_lent size o k) PASSES NOT_MAPPED (f r) (λ z. cc));
      }

  module _ (e : page_write_code size marks o n ≡ PASSES) where
    pub write_whole : n ≡ whole_pages n * PAGE_SIZE
    unfolding page_write_code
    write_whole =
        let s = rest_passes (storage_ok size marks) (start_code o (whole_code size o n)) STORAGE e (λ z. cc) in
        let w = rest_passes (on_page o) (whole_code size o n) NOT_ON_A_PAGE s (λ z. cc) in
        let h = eqb-true (n % PAGE_SIZE) 0 (head_passes (on_page n) (lent_code size o (whole_pages n)) NOT_WHOLE_PAGES w (λ z. cc)) in
        omega arith

    -- a page write or an empty map that is not refused fits
    pub write_fits : PagesFit size marks o (whole_pages n)
    unfolding page_write_code
    write_fits = fits_from (whole_pages n) (whole_code size o n) e (λ w. rest_passes (on_page n) (lent_code size o (whole_pages n)) NOT_WHOLE_PAGES w (λ z. cc))

  pub padded_fits : padded_write_code size marks o n ≡ PASSES → PagesFit size marks o (padded_pages n)
  unfolding padded_write_code
  padded_fits e = fits_from (padded_pages n) (lent_code size o (padded_pages n)) e (λ w. w)

pub length_padded : (items : List ℕ) → length (padded items) ≡ padded_pages (length items) * PAGE_SIZE
unfolding padded
length_padded items = simp (length-append, length-replicate) (omega arith)

-- ---- what stands after vs was written at o and n pages were marked: vs is read back and the rest is as it was; the pages of vs are mapped and the others as they were
pub record PageWritten (image marks vs : List ℕ) (o n : ℕ) : Type 0 where
  pub there : part (splice image o vs) o (length vs) ≡ vs
  pub around : (k : ℕ) → (o ≤ k → k < o + length vs → ⊥) → get_or (splice image o vs) k 0 ≡ get_or image k 0
  pub mapped_there : 0 < length vs → span_mapped (length image) (mark_pages marks (page_of o) n) o (length vs) ≡ true
  pub readable : 0 < length vs → read_code (length image) (mark_pages marks (page_of o) n) o (length vs) ≡ PASSES
  pub mapped_around : (k : ℕ) → (o ≤ k → k < o + length vs → ⊥) → mapped (length image) (mark_pages marks (page_of o) n) k ≡ mapped (length image) marks k

module _ (image marks vs : List ℕ) (o n : ℕ) (f : PagesFit (length image) (length marks) o n) (b : IsBytes marks) (l : length vs ≡ n * PAGE_SIZE) where
  -- the pages have their marks
  has_marks : 0 < n → page_of o + n ≤ WORD_PAGES * (length marks / WORD_BYTES)
  has_marks h =
      let s = storage_marks (length image) (length marks) f.storage in
      let i = f.inside h in
      let a = f.start in
      omega arith

  wrote_there : part (splice image o vs) o (length vs) ≡ vs
  wrote_there =
      ⊎_elim
      (λ (z : length vs ≤ 0).
      let e : vs ≡ [] = nil_of vs z in
      rw e (part_none (splice image o []) o))
      (λ (z : 0 < length vs). let i = f.inside (omega arith) in part_splice image o vs (omega arith))
      (le_or_lt (length vs) 0)

  wrote_around : (k : ℕ) → (o ≤ k → k < o + length vs → ⊥) → get_or (splice image o vs) k 0 ≡ get_or image k 0
  wrote_around k h = splice_out image o vs k h

  wrote_mapped : 0 < length vs → span_mapped (length image) (mark_pages marks (page_of o) n) o (length vs) ≡ true
  wrote_mapped h =
      let i = f.inside (omega arith) in
      let a = f.start in
      let p = has_marks (omega arith) in
      span_of (length image) (mark_pages marks (page_of o) n) o (length vs)
      (λ k z.
      mapped_of (length image) (mark_pages marks (page_of o) n) (o + k) (omega arith)
      (pages_there marks (page_of o) b n (page_of (o + k)) p (omega arith) (omega arith)))

  wrote_readable : 0 < length vs → read_code (length image) (mark_pages marks (page_of o) n) o (length vs) ≡ PASSES
  unfolding read_code pick
  wrote_readable h = rw (length_pages, f.storage, wrote_mapped h)

  wrote_mapped_around : (k : ℕ) → (o ≤ k → k < o + length vs → ⊥) → mapped (length image) (mark_pages marks (page_of o) n) k ≡ mapped (length image) marks k
  unfolding mapped
  wrote_mapped_around k h =
      let a = f.start in
      rw (pages_other marks (page_of o) b n (page_of k) has_marks (λ x y. h (omega arith) (omega arith)))

  -- all of that, where n pages from o fit
  pub written : PageWritten image marks vs o n
  written = record {
    there = wrote_there;
    around = wrote_around;
    mapped_there = wrote_mapped;
    readable = wrote_readable;
    mapped_around = wrote_mapped_around;
  }

-- after a page write, an empty map and a padded write that are not refused
module _ (image marks : List ℕ) (o : ℕ) (b : IsBytes marks) where
  pub after_write : (items : List ℕ) → page_write_code (length image) (length marks) o (length items) ≡ PASSES → PageWritten image marks items o (whole_pages (length items))
  after_write items e =
      written image marks items o (whole_pages (length items)) (write_fits (length image) (length marks) o (length items) e) b
      (write_whole (length image) (length marks) o (length items) e)

  pub after_empty_map : (n : ℕ) → page_write_code (length image) (length marks) o n ≡ PASSES → PageWritten image marks (replicate n 0) o (whole_pages n)
  after_empty_map n e =
      written image marks (replicate n 0) o (whole_pages n) (write_fits (length image) (length marks) o n e) b
      (length-replicate n 0 ∙ write_whole (length image) (length marks) o n e)

  pub after_padded : (items : List ℕ) → padded_write_code (length image) (length marks) o (length items) ≡ PASSES
      → PageWritten image marks (padded items) o (padded_pages (length items))
  after_padded items e =
      written image marks (padded items) o (padded_pages (length items)) (padded_fits (length image) (length marks) o (length items) e) b (length_padded items)
