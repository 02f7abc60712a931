-- What the marks of the first pages say once they are put (01, "pagemap.rs" and Load): those pages are marked, no other is, and their count is the count of pages.
use Rattle.std.specs.Prelude.{◌≡◌, ℕ, zero, suc, ◌+◌, ◌-◌, ◌*◌, ◌/◌, ◌%◌, ◌^◌, ◌<◌, ◌≤◌, min, true, false, List, ◌++◌, length, count_ones}
use Rattle.std.proofs.Math.Path.{refl, ap}
use Rattle.std.proofs.Common.{◌∙◌, le_of_suc-le-suc, eq-or-lt_of_le, zero-add, pow-suc, length-append, get_or-append-add, eq-eqb, ne_eqb}
use Rattle.std.proofs.Math.Logic.{⊎_elim}
use native.Mathlib.Omega.{arith}
use Rattle.std.proofs.Math.Nat.{pow-le-pow_right, div-eq_of_lt}
use Rattle.std.proofs.Math.ListN.{get_or-append}
use Rattle.std.proofs.Math.Pow.{high, ones_lt, ones_split}
use Rattle.std.specs.Int.Count.{ones-ones}
use Rattle.util.specs.Prefix.{sum_to, sum_same}
use Rattle.le.specs.Le.{get, le, part, length_le, splice_in, get_same, get_le, part_splice}
use Rattle.marks.specs.Marks.{WORD_PAGES, WORD_BYTES, words_for, word_at, marked, page_count, pages_in, mark_word, mark_bytes, marks_put}

-- ---- bits of a word of c ones: those below c are set, the others clear
ones_set : (c k : ℕ) → k < c → (2 ^ c - 1) / 2 ^ k % 2 ≡ 1
ones_set c k h =
    let d : ℕ = c - k - 1 in
    let e : c ≡ suc d + k = omega arith in
    let s : 2 ^ suc d ≡ 2 ^ d * 2 = pow-suc 2 d in
    let l : 2 ^ d - 1 < 2 ^ d = ones_lt d in
    rw (e, ones_split, high (2 ^ suc d - 1) k (ones_lt k)) (omega arith)

ones_clear : (c k : ℕ) → c ≤ k → (2 ^ c - 1) / 2 ^ k % 2 ≡ 0
ones_clear c k h =
    let l : 2 ^ c - 1 < 2 ^ c = ones_lt c in
    let p : 2 ^ c ≤ 2 ^ k = pow-le-pow_right {n = 2} (omega arith) {i = c} {j = k} h in
    let e : (2 ^ c - 1) / 2 ^ k ≡ 0 = div-eq_of_lt (omega arith) in
    rw e

-- ---- the words' bytes
module _ (pages : ℕ) where
  pub length_marks : (n : ℕ) → length (mark_bytes pages n) ≡ WORD_BYTES * n
  unfolding mark_bytes
  length_marks zero = refl
  length_marks (suc n) = simp (length-append, length_marks n, length_le) (omega arith)

  word_less : (w : ℕ) → mark_word pages w < 256 ^ WORD_BYTES
  unfolding mark_word
  word_less w =
      let l = ones_lt (pages_in pages w) in
      let p : 2 ^ pages_in pages w ≤ 2 ^ 64 = pow-le-pow_right {n = 2} (omega arith) {i = pages_in pages w} {j = WORD_PAGES} (omega arith) in
      omega arith

  word_at_lem : (n w : ℕ) → w < n → get WORD_BYTES (mark_bytes pages n) (WORD_BYTES * w) ≡ mark_word pages w
  unfolding mark_bytes
  word_at_lem zero w h = absurd (omega arith)
  word_at_lem (suc n) w h =
      let l = length_marks n in
      ⊎_elim
      (λ (z : w ≡ n).
      rw z
      (get_same WORD_BYTES (mark_bytes pages n ++ le WORD_BYTES (mark_word pages n)) (le WORD_BYTES (mark_word pages n)) (WORD_BYTES * n) 0
      (λ k p. rw (zero-add, ← l) (get_or-append-add (mark_bytes pages n) (le WORD_BYTES (mark_word pages n)) k 0))
      ∙ get_le WORD_BYTES (mark_word pages n) (word_less n)))
      (λ (z : w < n).
      get_same WORD_BYTES (mark_bytes pages n ++ le WORD_BYTES (mark_word pages n)) (mark_bytes pages n) (WORD_BYTES * w) (WORD_BYTES * w)
      (λ k p. get_or-append (mark_bytes pages n) (le WORD_BYTES (mark_word pages n)) 0 (WORD_BYTES * w + k) (omega arith))
      ∙ word_at_lem n w z)
      (eq-or-lt_of_le (le_of_suc-le-suc h))

  -- their ones are the pages
  sum_words : (n : ℕ) → sum_to (λ w. pages_in pages w) n ≡ min pages (WORD_PAGES * n)
  unfolding sum_to
  sum_words zero = omega arith
  sum_words (suc n) = let r = sum_words n in omega arith

  ones_word : (w : ℕ) → count_ones (mark_word pages w) ≡ pages_in pages w
  unfolding mark_word
  ones_word w = ones-ones (pages_in pages w)

  count_bytes : (n : ℕ) → page_count (mark_bytes pages n) ≡ min pages (WORD_PAGES * n)
  unfolding page_count
  count_bytes n =
      let l = length_marks n in
      let e : length (mark_bytes pages n) / WORD_BYTES ≡ n = omega arith in
      rw e
      (sum_same (λ w. count_ones (word_at (mark_bytes pages n) w)) (λ w. pages_in pages w) n (λ w h. ap count_ones (word_at_lem n w h) ∙ ones_word w)
      ∙ sum_words n)

-- ---- the marks at the front of a buffer that has room for them
module _ (pages : ℕ) (m : List ℕ) (room : WORD_BYTES * words_for pages ≤ length m) where
  pub mark_word_lem : (w : ℕ) → w < words_for pages → get WORD_BYTES (marks_put pages m) (WORD_BYTES * w) ≡ mark_word pages w
  mark_word_lem w h =
      let l = length_marks pages (words_for pages) in
      get_same WORD_BYTES (marks_put pages m) (mark_bytes pages (words_for pages)) (WORD_BYTES * w) (WORD_BYTES * w)
      (λ k p. rw zero-add at (splice_in m 0 (mark_bytes pages (words_for pages)) (WORD_BYTES * w + k) (omega arith) (omega arith)))
      ∙ word_at_lem pages (words_for pages) w h

  -- the pages are marked
  pub marked_pages : (p : ℕ) → p < pages → marked (marks_put pages m) p ≡ true
  unfolding marked mark_word
  marked_pages p h =
      rw (mark_word_lem (p / WORD_PAGES) (omega arith))
      (eq-eqb ((2 ^ pages_in pages (p / WORD_PAGES) - 1) / 2 ^ (p % WORD_PAGES) % 2) 1 (ones_set (pages_in pages (p / WORD_PAGES)) (p % WORD_PAGES) (omega arith)))

  -- and no other page of those words
  pub unmarked_rest : (p : ℕ) → pages ≤ p → p < WORD_PAGES * words_for pages → marked (marks_put pages m) p ≡ false
  unfolding marked mark_word
  unmarked_rest p h k =
      let c = ones_clear (pages_in pages (p / WORD_PAGES)) (p % WORD_PAGES) (omega arith) in
      rw (mark_word_lem (p / WORD_PAGES) (omega arith))
      (ne_eqb ((2 ^ pages_in pages (p / WORD_PAGES) - 1) / 2 ^ (p % WORD_PAGES) % 2) 1 (λ z. omega arith))

  -- so the count is theirs
  pub marks_counted : page_count (part (marks_put pages m) 0 (WORD_BYTES * words_for pages)) ≡ pages
  marks_counted =
      let l = length_marks pages (words_for pages) in
      let e : part (marks_put pages m) 0 (WORD_BYTES * words_for pages) ≡ mark_bytes pages (words_for pages) =
      rw (← l) (part_splice m 0 (mark_bytes pages (words_for pages)) (omega arith)) in
      rw e (count_bytes pages (words_for pages) ∙ omega arith)
