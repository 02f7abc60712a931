-- What holds of the pages' definitions, as later layers ask it.
use Rattle.std.specs.Prelude.{◌≡◌, Bool, ◌&&◌, List, ℕ, ◌+◌, ◌-◌, ◌*◌, ◌/◌, ◌%◌, ◌≤◌, ◌<◌, max, ltb, is_ok}
use Rattle.std.proofs.Math.Path.{refl}
use Rattle.std.proofs.Math.Bool.{true, false}
use native.Mathlib.Omega.{arith}
use Rattle.std.proofs.Math.Nat.{add-zero}
use Rattle.std.proofs.Math.ListN.{length}
use Rattle.std.proofs.Math.Dec.{leb}
use borrow.Author.Tests.{lt-ltb, ltb-true, le-leb, leb-true, eq-eqb, eqb-true}
use Rattle.util.specs.Pick.{pick, head_passes, rest_passes, and_left, and_right, and_both}
use Rattle.util.specs.Prefix.{all_to, all_at, all_of}
use Rattle.le.specs.Le.{length_splice}
use Rattle.refusal.specs.Refusal.{PASSES, STORAGE, NOT_MAPPED}
use Rattle.arch.specs.Page.{PAGE_SIZE, page_of, on_page}
use Rattle.marks.specs.Marks.{WORD_PAGES, WORD_BYTES, marked, words_for, mark_bytes, marks_put}
use Rattle.marks.specs.PutLaws.{marked_pages}
use Rattle.pagemap.specs.Pages.{lent_pages, storage_ok, mapped, span_mapped, probed, read_code, slice_code}

-- ---- an offset is mapped where its page is lent and marked
module _ (size : ℕ) (marks : List ℕ) (o : ℕ) where
  pub mapped_of : page_of o < lent_pages size → marked marks (page_of o) ≡ true → mapped size marks o ≡ true
  unfolding mapped
  mapped_of h e = and_both (ltb (page_of o) (lent_pages size)) (marked marks (page_of o)) (lt-ltb (page_of o) (lent_pages size) h) e

  pub mapped_lent : mapped size marks o ≡ true → page_of o < lent_pages size
  unfolding mapped
  mapped_lent e = ltb-true (page_of o) (lent_pages size) (and_left (ltb (page_of o) (lent_pages size)) (marked marks (page_of o)) e)

  pub mapped_marked : mapped size marks o ≡ true → marked marks (page_of o) ≡ true
  unfolding mapped
  mapped_marked e = and_right (ltb (page_of o) (lent_pages size)) (marked marks (page_of o)) e

-- ---- a span is mapped where each of its bytes is
module _ (size : ℕ) (marks : List ℕ) (o n : ℕ) where
  pub span_of : ((k : ℕ) → k < max n 1 → mapped size marks (o + k) ≡ true) → span_mapped size marks o n ≡ true
  unfolding span_mapped
  span_of h = all_of (λ k. mapped size marks (o + k)) (max n 1) h

  pub span_at_lem : (k : ℕ) → span_mapped size marks o n ≡ true → k < max n 1 → mapped size marks (o + k) ≡ true
  unfolding span_mapped
  span_at_lem k e h = all_at (λ k. mapped size marks (o + k)) (max n 1) k e h

  -- and then lies within the image
  pub span_in_lem : span_mapped size marks o n ≡ true → o + max n 1 ≤ size
  span_in_lem e = let h = mapped_lent size marks (o + (max n 1 - 1)) (span_at_lem (max n 1 - 1) e (omega arith)) in omega arith

  -- what is read without a refusal lies within the image
  pub read_span : read_code size marks o n ≡ PASSES → span_mapped size marks o n ≡ true
  unfolding read_code
  read_span e =
      head_passes (span_mapped size marks o n) PASSES NOT_MAPPED
      (rest_passes (storage_ok size (length marks)) (pick (span_mapped size marks o n) PASSES NOT_MAPPED) STORAGE e (λ z. cc))
      (λ z. cc)

  pub read_in : read_code size marks o n ≡ PASSES → o + max n 1 ≤ size
  read_in e = span_in_lem (read_span e)

-- so does a range that is read without a refusal; its start is not past its end, and the buffer has room
module _ (size : ℕ) (marks : List ℕ) (start end room : ℕ) (e : slice_code size marks start end room ≡ PASSES) where
  slice_tests : leb start end && span_mapped size marks start (end - start) ≡ true
  unfolding slice_code
  slice_tests =
      head_passes (leb start end && span_mapped size marks start (end - start)) PASSES NOT_MAPPED
      (rest_passes (storage_ok size (length marks) && leb (end - start) room)
      (pick (leb start end && span_mapped size marks start (end - start)) PASSES NOT_MAPPED) STORAGE e (λ z. cc))
      (λ z. cc)

  pub slice_ordered : start ≤ end
  slice_ordered = leb-true start end (and_left (leb start end) (span_mapped size marks start (end - start)) slice_tests)

  pub slice_span : span_mapped size marks start (end - start) ≡ true
  slice_span = and_right (leb start end) (span_mapped size marks start (end - start)) slice_tests

  pub slice_in : end ≤ size
  slice_in = let h = slice_ordered in let k = span_in_lem size marks start (end - start) slice_span in omega arith

  pub slice_room : end - start ≤ room
  unfolding slice_code
  slice_room =
      leb-true (end - start) room
      (and_right (storage_ok size (length marks)) (leb (end - start) room)
      (head_passes (storage_ok size (length marks) && leb (end - start) room)
      (pick (leb start end && span_mapped size marks start (end - start)) PASSES NOT_MAPPED) STORAGE e (λ z. cc)))

-- ---- `probe` says yes exactly where an empty read, or one of a byte, is not refused
module _ (size : ℕ) (marks : List ℕ) (o : ℕ) where
  pub span_none : span_mapped size marks o 0 ≡ mapped size marks o
  unfolding span_mapped all_to
  span_none = rw add-zero

  pub span_one : span_mapped size marks o 1 ≡ mapped size marks o
  unfolding span_mapped all_to
  span_one = rw add-zero

  probe_code : (s t : Bool) → s && t ≡ is_ok (pick s (pick t PASSES NOT_MAPPED) STORAGE)
  unfolding pick
  probe_code true true = refl
  probe_code true false = refl
  probe_code false t = refl

  pub probe_empty : probed size marks o ≡ is_ok (read_code size marks o 0)
  unfolding probed read_code
  probe_empty = rw span_none (probe_code (storage_ok size (length marks)) (mapped size marks o))

  pub probe_byte : probed size marks o ≡ is_ok (read_code size marks o 1)
  unfolding probed read_code
  probe_byte = rw span_one (probe_code (storage_ok size (length marks)) (mapped size marks o))

-- ---- the storage: the image is whole pages, and each of them has its mark
module _ (size marks : ℕ) (e : storage_ok size marks ≡ true) where
  pub storage_whole : size % PAGE_SIZE ≡ 0
  unfolding storage_ok
  storage_whole = eqb-true (size % PAGE_SIZE) 0 (and_left (on_page size) (leb (WORD_BYTES * words_for (lent_pages size)) marks) e)

  pub storage_marks : lent_pages size ≤ WORD_PAGES * (marks / WORD_BYTES)
  unfolding storage_ok
  storage_marks =
      let h = leb-true (WORD_BYTES * words_for (lent_pages size)) marks (and_right (on_page size) (leb (WORD_BYTES * words_for (lent_pages size)) marks) e) in
      omega arith

-- ---- with the marks of the first pages
module _ (pages : ℕ) (m : List ℕ) (room : WORD_BYTES * words_for pages ≤ length m) where
  -- every span within the pages is mapped, in an image that is at least as long
  pub mark_spans : (size o n : ℕ) → PAGE_SIZE * pages ≤ size → 0 < n → o + n ≤ PAGE_SIZE * pages → span_mapped size (marks_put pages m) o n ≡ true
  mark_spans size o n s z h =
      span_of size (marks_put pages m) o n
      (λ k p. mapped_of size (marks_put pages m) (o + k) (omega arith) (marked_pages pages m room (page_of (o + k)) (omega arith)))

  -- and the pages with these marks are good storage
  pub mark_storage : storage_ok (PAGE_SIZE * pages) (length (marks_put pages m)) ≡ true
  unfolding storage_ok
  mark_storage =
      let l : length (marks_put pages m) ≡ length m = length_splice m 0 (mark_bytes pages (words_for pages)) in
      and_both (on_page (PAGE_SIZE * pages)) (leb (WORD_BYTES * words_for (PAGE_SIZE * pages / PAGE_SIZE)) (length (marks_put pages m)))
      (eq-eqb (PAGE_SIZE * pages % PAGE_SIZE) 0 (omega arith))
      (le-leb (WORD_BYTES * words_for (PAGE_SIZE * pages / PAGE_SIZE)) (length (marks_put pages m)) (omega arith))
