-- What holds of marks that are set: each is there, and no other has changed.
use Rattle.std.specs.Prelude.{◌≡◌, true, ◌&&◌, ◌||◌, List, ltb, leb, eqb}
use Rattle.std.proofs.Math.Path.{refl}
use Rattle.std.proofs.Common.{◌∙◌, mod-lt, pow-suc, one-mul, eq-or-lt_of_le, pow-add}
use Rattle.std.proofs.Math.Logic.{⊎_elim}
use Prim.Native.Nat.{ℕ, zero, suc, ◌+◌, ◌-◌, ◌*◌, ◌/◌, ◌%◌, ◌^◌, ◌≤◌, ◌<◌, max}
use native.Mathlib.Omega.{arith}
use Rattle.std.proofs.Math.Nat.{div-eq_of_lt}
use Rattle.std.proofs.Math.ListN.{length}
use Rattle.std.specs.Int.Bits.{bit_or, or_step}
use Rattle.std.proofs.lemmas.Nat.{or_shr, or_lt, shl-shr}
use Rattle.std.proofs.Math.Pow.{pow-lt}
use borrow.Author.Tests.{eq-eqb, eqb-true, eqb-false, le-leb, lt-ltb, leb-true, ltb-true}
use Rattle.util.specs.Pick.{yes_no, le_or_lt, and_left, and_right, and_both, not_both}
use Rattle.le.specs.Le.{le, length_le, length_splice, get_splice, get_before, get_after, IsBytes, splice_bytes, le_bytes}
use Rattle.marks.specs.Marks.{WORD_PAGES, WORD_BYTES, marked, word_at}
use Rattle.marks.specs.MarkLaws.{word_less}
use Rattle.pagewrite.specs.Marking.{mark_page, mark_pages}

-- ---- the length is kept
pub length_mark : (m : List ℕ) (p : ℕ) → length (mark_page m p) ≡ length m
unfolding mark_page
length_mark m p = rw length_splice

pub length_pages : (m : List ℕ) (p n : ℕ) → length (mark_pages m p n) ≡ length m
unfolding mark_pages
length_pages m p zero = refl
length_pages m p (suc n) = length_mark (mark_pages m p n) (p + n) ∙ length_pages m p n

-- ---- each element is a byte
pub mark_bytes_lem : (m : List ℕ) (p : ℕ) → IsBytes m → IsBytes (mark_page m p)
unfolding mark_page
mark_bytes_lem m p b = splice_bytes m (WORD_BYTES * (p / WORD_PAGES)) (le WORD_BYTES (bit_or (word_at m (p / WORD_PAGES)) (2 ^ (p % WORD_PAGES)))) b (le_bytes WORD_BYTES (bit_or (word_at m (p / WORD_PAGES)) (2 ^ (p % WORD_PAGES))))

pub pages_bytes : (m : List ℕ) (p n : ℕ) → IsBytes m → IsBytes (mark_pages m p n)
unfolding mark_pages
pages_bytes m p zero b = b
pages_bytes m p (suc n) b = mark_bytes_lem (mark_pages m p n) (p + n) (pages_bytes m p n b)

-- ---- bits: a bit of an `or` is the greater of the two; a power of two has its own bit and no other
bit_or_lem : (a b i : ℕ) → bit_or a b / 2 ^ i % 2 ≡ max (a / 2 ^ i % 2) (b / 2 ^ i % 2)
bit_or_lem a b i = rw (or_shr, or_step) (omega arith)

bit_same : (j : ℕ) → 2 ^ j / 2 ^ j % 2 ≡ 1
bit_same j = let e : 2 ^ j / 2 ^ j ≡ 1 = cc (shl-shr 1 j, one-mul (2 ^ j)) in rw e

bit_other : (i j : ℕ) → (i ≡ j → ⊥) → 2 ^ j / 2 ^ i % 2 ≡ 0
bit_other i j n =
    ⊎_elim
    (λ (h : i ≤ j).
    let e : j ≡ suc (j - i - 1) + i = omega arith in
    rw (e, pow-add, shl-shr, pow-suc) (omega arith))
    (λ (h : j < i). let e : 2 ^ j / 2 ^ i ≡ 0 = div-eq_of_lt (pow-lt h) in rw e)
    (le_or_lt i j)

-- ---- a mark that is set is there, and no other has changed; page p's word must lie within the marks
module _ (m : List ℕ) (p : ℕ) (b : IsBytes m) (within : WORD_BYTES * (p / WORD_PAGES) + WORD_BYTES ≤ length m) where
  word_marked : word_at (mark_page m p) (p / WORD_PAGES) ≡ bit_or (word_at m (p / WORD_PAGES)) (2 ^ (p % WORD_PAGES))
  unfolding mark_page
  word_marked =
      get_splice WORD_BYTES (bit_or (word_at m (p / WORD_PAGES)) (2 ^ (p % WORD_PAGES))) m (WORD_BYTES * (p / WORD_PAGES)) within
      (or_lt WORD_PAGES (word_at m (p / WORD_PAGES)) (2 ^ (p % WORD_PAGES)) (word_less m (p / WORD_PAGES) b) (pow-lt (mod-lt p (omega arith))))

  word_kept : (w : ℕ) → (w ≡ p / WORD_PAGES → ⊥) → word_at (mark_page m p) w ≡ word_at m w
  unfolding mark_page
  word_kept w n =
      ⊎_elim
      (λ (h : w ≤ p / WORD_PAGES). get_before WORD_BYTES m (WORD_BYTES * (p / WORD_PAGES)) (le WORD_BYTES (bit_or (word_at m (p / WORD_PAGES)) (2 ^ (p % WORD_PAGES)))) (WORD_BYTES * w) (omega arith))
      (λ (h : p / WORD_PAGES < w). get_after WORD_BYTES m (WORD_BYTES * (p / WORD_PAGES)) (le WORD_BYTES (bit_or (word_at m (p / WORD_PAGES)) (2 ^ (p % WORD_PAGES)))) (WORD_BYTES * w) (rw length_le (omega arith)))
      (le_or_lt w (p / WORD_PAGES))

  pub mark_there : marked (mark_page m p) p ≡ true
  unfolding marked
  mark_there = rw (word_marked, bit_or_lem, bit_same) (eq-eqb (max (word_at m (p / WORD_PAGES) / 2 ^ (p % WORD_PAGES) % 2) 1) 1 (omega arith))

  pub mark_other : (q : ℕ) → (q ≡ p → ⊥) → marked (mark_page m p) q ≡ marked m q
  unfolding marked
  mark_other q n =
      ⊎_elim
      (λ t.
      let e : q / WORD_PAGES ≡ p / WORD_PAGES = eqb-true (q / WORD_PAGES) (p / WORD_PAGES) t in
      let g : max (word_at m (p / WORD_PAGES) / 2 ^ (q % WORD_PAGES) % 2) 0 ≡ word_at m (p / WORD_PAGES) / 2 ^ (q % WORD_PAGES) % 2 = omega arith in
      rw (e, word_marked, bit_or_lem, bit_other (q % WORD_PAGES) (p % WORD_PAGES) (λ z. n (omega arith)), g))
      (λ t. rw (word_kept (q / WORD_PAGES) (eqb-false (q / WORD_PAGES) (p / WORD_PAGES) t)))
      (yes_no (eqb (q / WORD_PAGES) (p / WORD_PAGES)))

  -- the two in one
  pub marked_mark : (q : ℕ) → marked (mark_page m p) q ≡ eqb q p || marked m q
  marked_mark q =
      ⊎_elim
      (λ t. let e : q ≡ p = eqb-true q p t in rw (t, e) mark_there)
      (λ t. rw t (mark_other q (eqb-false q p t)))
      (yes_no (eqb q p))

-- ---- the same of n pages from p, all of which have their marks there
module _ (m : List ℕ) (p : ℕ) (b : IsBytes m) where
  pub pages_there : (n q : ℕ) → p + n ≤ WORD_PAGES * (length m / WORD_BYTES) → p ≤ q → q < p + n → marked (mark_pages m p n) q ≡ true
  unfolding mark_pages
  pages_there zero q l h k = absurd (omega arith)
  pages_there (suc n) q l h k =
      let e : length (mark_pages m p n) ≡ length m = length_pages m p n in
      let f : WORD_BYTES * ((p + n) / WORD_PAGES) + WORD_BYTES ≤ length (mark_pages m p n) = rw e (omega arith) in
      ⊎_elim
      (λ (z : q ≡ p + n). rw z (mark_there (mark_pages m p n) (p + n) (pages_bytes m p n b) f))
      (λ (z : q < p + n).
      mark_other (mark_pages m p n) (p + n) (pages_bytes m p n b) f q (λ y. omega arith) ∙ pages_there n q (omega arith) h z)
      (eq-or-lt_of_le (omega arith))

  pub pages_other : (n q : ℕ) → (0 < n → p + n ≤ WORD_PAGES * (length m / WORD_BYTES)) → (p ≤ q → q < p + n → ⊥) → marked (mark_pages m p n) q ≡ marked m q
  unfolding mark_pages
  pages_other zero q l o = refl
  pages_other (suc n) q l o =
      let e : length (mark_pages m p n) ≡ length m = length_pages m p n in
      let k : p + suc n ≤ WORD_PAGES * (length m / WORD_BYTES) = l (omega arith) in
      let f : WORD_BYTES * ((p + n) / WORD_PAGES) + WORD_BYTES ≤ length (mark_pages m p n) = rw e (omega arith) in
      mark_other (mark_pages m p n) (p + n) (pages_bytes m p n b) f q (λ z. o (omega arith) (omega arith))
      ∙ pages_other n q (λ z. omega arith) (λ x y. o x (omega arith))

  -- the two in one
  pub marked_pages : (n q : ℕ) → (0 < n → p + n ≤ WORD_PAGES * (length m / WORD_BYTES)) → marked (mark_pages m p n) q ≡ (leb p q && ltb q (p + n)) || marked m q
  marked_pages n q l =
      ⊎_elim
      (λ t.
      let h : p ≤ q = leb-true p q (and_left (leb p q) (ltb q (p + n)) t) in
      let k : q < p + n = ltb-true q (p + n) (and_right (leb p q) (ltb q (p + n)) t) in
      rw t (pages_there n q (l (omega arith)) h k))
      (λ t. rw t (pages_other n q l (λ h k. not_both (leb p q && ltb q (p + n)) (and_both (leb p q) (ltb q (p + n)) (le-leb p q h) (lt-ltb q (p + n) k)) t)))
      (yes_no (leb p q && ltb q (p + n)))
