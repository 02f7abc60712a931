-- What holds of the marks, as later layers ask it: the count is the count of marked pages.
use Rattle.std.specs.Prelude.{◌≡◌, ℕ, zero, suc, ◌+◌, ◌-◌, ◌*◌, ◌/◌, ◌%◌, ◌^◌, ◌<◌, ◌≤◌, true, false, List, length, ◌==◌, count_ones, refl}
use Rattle.std.proofs.Math.Path.{sym}
use Rattle.std.proofs.Common.{◌∙◌, pow-suc, div-one, mul_comm, mod-eq_of_lt}
use native.Mathlib.Omega.{arith}
use Rattle.std.proofs.Math.Nat.{pow-zero, div-div-eq-div-mul}
use Rattle.std.specs.Int.Count.{ones_step}
use Rattle.std.proofs.lemmas.Nat.{ones-le}
use Rattle.util.specs.Pick.{pick}
use Rattle.util.specs.Prefix.{all_at, all_of, sum_to, count_to, sum_front, sum_plus, sum_same, sum_zero, sum_rows, count_is_sum, count_most}
use Rattle.le.specs.Le.{get_below, IsBytes}
use Rattle.marks.specs.Marks.{WORD_PAGES, WORD_BYTES, marked, all_marked, page_count, word_at}

-- marks are bytes, and a word of them is below 2 ^ 64
pub word_less : (m : List ℕ) (w : ℕ) → IsBytes m → word_at m w < 2 ^ 64
word_less m w b = get_below WORD_BYTES m (WORD_BYTES * w) b

-- ---- a range of pages is marked where each of them is
module _ (m : List ℕ) (a b : ℕ) where
  pub pages_at : (p : ℕ) → all_marked m a b ≡ true → a ≤ p → p < b → marked m p ≡ true
  unfolding all_marked
  pages_at p e h l =
      let z : a + (p - a) ≡ p = omega arith in
      rw z at (all_at (λ k. marked m (a + k)) (b - a) (p - a) e (omega arith))

  pub pages_of_lem : ((p : ℕ) → a ≤ p → p < b → marked m p ≡ true) → all_marked m a b ≡ true
  unfolding all_marked
  pages_of_lem h = all_of (λ k. marked m (a + k)) (b - a) (λ k l. h (a + k) (omega arith) (omega arith))

-- ---- the count: a word's ones are its bits' sum, so the words' ones are the marked pages
ones_bits : (k w : ℕ) → w < 2 ^ k → count_ones w ≡ sum_to (λ j. w / 2 ^ j % 2) k
unfolding sum_to
ones_bits zero w h = let l : count_ones w ≤ 0 = ones-le 0 w h in omega arith
ones_bits (suc k) w h =
    let e : 2 ^ suc k ≡ 2 ^ k * 2 = pow-suc 2 k in
    let r : count_ones (w / 2) ≡ sum_to (λ j. w / 2 / 2 ^ j % 2) k = ones_bits k (w / 2) (omega arith) in
    let f : w / 2 ^ 0 % 2 ≡ w % 2 = rw (pow-zero, div-one) in
    let g : sum_to (λ j. w / 2 / 2 ^ j % 2) k ≡ sum_to (λ j. w / 2 ^ suc j % 2) k =
    sum_same (λ j. w / 2 / 2 ^ j % 2) (λ j. w / 2 ^ suc j % 2) k (λ j z. rw (pow-suc, mul_comm (2 ^ j) 2, div-div-eq-div-mul)) in
    ones_step w ∙ (omega arith) ∙ sym (sum_front (λ j. w / 2 ^ j % 2) k)

bit_pick : (x : ℕ) → x < 2 → pick (x == 1) 1 0 ≡ x
unfolding pick
bit_pick zero h = refl
bit_pick (suc zero) h = refl
bit_pick (suc (suc x)) h = absurd (omega arith)

module _ (m : List ℕ) (b : IsBytes m) where
  bits_are : (w j : ℕ) → j < WORD_PAGES → word_at m w / 2 ^ j % 2 ≡ pick (marked m (WORD_PAGES * w + j)) 1 0
  unfolding marked
  bits_are w j h =
      let e : (WORD_PAGES * w + j) / WORD_PAGES ≡ w = omega arith in
      let f : (WORD_PAGES * w + j) % WORD_PAGES ≡ j = omega arith in
      sym (rw (e, f) (bit_pick (word_at m w / 2 ^ j % 2) (omega arith)))

  ones_are : (w : ℕ) → count_ones (word_at m w) ≡ sum_to (λ j. pick (marked m (WORD_PAGES * w + j)) 1 0) WORD_PAGES
  ones_are w =
      ones_bits WORD_PAGES (word_at m w) (word_less m w b)
      ∙ sum_same (λ j. word_at m w / 2 ^ j % 2) (λ j. pick (marked m (WORD_PAGES * w + j)) 1 0) WORD_PAGES (λ j h. bits_are w j h)

  -- all marks that there are room for
  pub count_all : page_count m ≡ count_to (marked m) (WORD_PAGES * (length m / WORD_BYTES))
  unfolding page_count
  count_all =
      sum_same (λ w. count_ones (word_at m w)) (λ w. sum_to (λ j. pick (marked m (WORD_PAGES * w + j)) 1 0) WORD_PAGES) (length m / WORD_BYTES) (λ w h. ones_are w)
      ∙ sum_rows (λ i. pick (marked m i) 1 0) WORD_PAGES (length m / WORD_BYTES)
      ∙ sym (count_is_sum (marked m) (WORD_PAGES * (length m / WORD_BYTES)))

  -- those of n pages where none at or past page n is set
  pub count_pages : (n : ℕ) → n ≤ WORD_PAGES * (length m / WORD_BYTES) → ((p : ℕ) → n ≤ p → p < WORD_PAGES * (length m / WORD_BYTES) → marked m p ≡ false) → page_count m ≡ count_to (marked m) n
  unfolding pick
  count_pages n h z =
      let d : ℕ = WORD_PAGES * (length m / WORD_BYTES) - n in
      let e : WORD_PAGES * (length m / WORD_BYTES) ≡ n + d = omega arith in
      let r : sum_to (λ i. pick (marked m (n + i)) 1 0) d ≡ 0 =
      sum_zero (λ i. pick (marked m (n + i)) 1 0) d (λ i k. let y : marked m (n + i) ≡ false = z (n + i) (omega arith) (omega arith) in rw y) in
      let t = sum_plus (λ i. pick (marked m i) 1 0) n d in
      count_all ∙ count_is_sum (marked m) (WORD_PAGES * (length m / WORD_BYTES)) ∙ rw e (t ∙ rw r (omega arith)) ∙ sym (count_is_sum (marked m) n)

-- no more than n are marked below n, so that count fits wherever n does, and `page_count` does not wrap
pub count_exact : (m : List ℕ) (n : ℕ) → page_count m ≡ count_to (marked m) n → n < 2 ^ 64 → page_count m % 2 ^ 64 ≡ count_to (marked m) n
count_exact m n e h = let k = count_most (marked m) n in rw e (mod-eq_of_lt (omega arith))
