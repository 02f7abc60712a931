-- The ways through the code. Assumes nothing.
use Rattle.std.proofs.Common.{◌≡◌, ℕ, zero, suc, ◌+◌, ◌-◌, ◌*◌, ◌/◌, ◌%◌, ◌^◌, ◌<◌, ◌≤◌, Bool, true, false, ◌&&◌, eqb, List, sym, refl, ap, ◌∙◌, ⊎_elim, mod-lt, mod-eq_of_lt, pow-suc, add-one, one-add, arith, pow_pos, eq-eqb, ne_eqb, eqb-true}
use mathlib.Core.Bool.{and-false}
use lib.Count.{ones, ones-le}
use lib.Pow.{mod-pow-add}
use Rattle.std.specs.List.{list_all, range_with_len}
use Rattle.std.proofs.Math.ListN.{get_or, length, get_or-eq_default}
use Rattle.std.specs.Prelude.{min, bit_and}
use Rattle.std.proofs.lemmas.Nat.{and_mask}
use Rattle.util.specs.Pick.{both_ways, and_left, and_right, and_both, yes_no, not_both, le_or_lt}
use Rattle.util.specs.Prefix.{all_to, sum_to, all_at, all_of}
use Rattle.le.specs.Le.{get, le, splice, splice_next}
use Rattle.le.proofs.Laws.{get_capped}
use Rattle.marks.specs.Marks.{WORD_PAGES, WORD_BYTES, word_at, marked, all_marked, pages_in, mark_word, mark_bytes}
use Rattle.marks.specs.MarkLaws.{pages_at, pages_of_lem}
use Rattle.marks.specs.PutLaws.{length_marks}

-- ---- a word, where its place is a number of 64 bits, and past those
pub word_is : (m : List ℕ) (w at r : ℕ) → length m < 2 ^ 64 → at ≡ min (w * WORD_BYTES) (2 ^ 64 - 1) → r ≡ get WORD_BYTES m at → r ≡ word_at m w
word_is m w at r h e q = get_capped WORD_BYTES m (WORD_BYTES * w) at r h (omega arith) q

-- ---- one mark
pub marked_is : (m : List ℕ) (p w : ℕ) → w ≡ get WORD_BYTES m (WORD_BYTES * (p / WORD_PAGES)) → eqb (w / 2 ^ (p % WORD_PAGES) % 2) 1 ≡ marked m p
unfolding marked
marked_is m p w e = rw e

-- ---- each number of a range passes where each of those that `all_to` asks does
pub all_range : (p : ℕ → Bool) (a n : ℕ) → list_all p (range_with_len a n) ≡ all_to (λ k. p (a + k)) n
unfolding all_to
all_range p a zero = refl
all_range p a (suc n) =
    let r = all_range p (a + 1) n in
    both_ways (p a && list_all p (range_with_len (a + 1) n)) (all_to (λ k. p (a + k)) (suc n))
    (λ e.
    let first = and_left (p a) (list_all p (range_with_len (a + 1) n)) e in
    let others = sym r ∙ and_right (p a) (list_all p (range_with_len (a + 1) n)) e in
    all_of (λ k. p (a + k)) (suc n)
    (λ i h. ⊎_elim (λ (z : i ≤ 0). let y : a + i ≡ a = omega arith in rw y first)
    (λ (z : 0 < i). let y : a + i ≡ a + 1 + (i - 1) = omega arith in rw y (all_at (λ k. p (a + 1 + k)) n (i - 1) others (omega arith)))
    (le_or_lt i 0)))
    (λ e.
    and_both (p a) (list_all p (range_with_len (a + 1) n))
    (let y : a + 0 ≡ a = omega arith in rw y at (all_at (λ k. p (a + k)) (suc n) 0 e (omega arith)))
    (r ∙ all_of (λ k. p (a + 1 + k)) n (λ i h. let y : a + 1 + i ≡ a + suc i = omega arith in rw y (all_at (λ k. p (a + k)) (suc n) (suc i) e (omega arith)))))

pub pages_all : (m : List ℕ) (a b : ℕ) → list_all (marked m) (range_with_len a (b - a)) ≡ all_marked m a b
unfolding all_marked
pages_all m a b = all_range (marked m) a (b - a)

-- ---- a word at a time: its lowest c pages are marked where they are all ones
full_step : (b r p : ℕ) → b < 2 → r < p → eqb r (p - 1) && eqb b 1 ≡ eqb (b * p + r) (p * 2 - 1)
full_step zero r p h l = and-false (eqb r (p - 1)) ∙ sym (ne_eqb (0 * p + r) (p * 2 - 1) (λ e. omega arith))
full_step (suc zero) r p h l =
    both_ways (eqb r (p - 1) && true) (eqb (1 * p + r) (p * 2 - 1))
    (λ e. let z = eqb-true r (p - 1) (and_left (eqb r (p - 1)) true e) in eq-eqb (1 * p + r) (p * 2 - 1) (omega arith))
    (λ e. let z = eqb-true (1 * p + r) (p * 2 - 1) e in and_both (eqb r (p - 1)) true (eq-eqb r (p - 1) (omega arith)) refl)
full_step (suc (suc b)) r p h l = absurd (omega arith)

bits_full : (word c : ℕ) → all_to (λ j. eqb (word / 2 ^ j % 2) 1) c ≡ eqb (word % 2 ^ c) (2 ^ c - 1)
unfolding all_to
bits_full word zero = sym (eq-eqb (word % 2 ^ 0) (2 ^ 0 - 1) (omega arith))
bits_full word (suc c) =
    let s : word % 2 ^ suc c ≡ word / 2 ^ c % 2 * 2 ^ c + word % 2 ^ c = rw one-add at (mod-pow-add word 1 c) in
    rw (bits_full word c, s, pow-suc) (full_step (word / 2 ^ c % 2) (word % 2 ^ c) (2 ^ c) (omega arith) (mod-lt word (pow_pos c)))

module _ (m : List ℕ) (w : ℕ) where
  word_bit : (k : ℕ) → k < WORD_PAGES → marked m (WORD_PAGES * w + k) ≡ eqb (word_at m w / 2 ^ k % 2) 1
  unfolding marked
  word_bit k h =
      let e : (WORD_PAGES * w + k) / WORD_PAGES ≡ w = omega arith in
      let f : (WORD_PAGES * w + k) % WORD_PAGES ≡ k = omega arith in
      rw (e, f)

  low_bits : (c : ℕ) → c ≤ WORD_PAGES → all_marked m (WORD_PAGES * w) (WORD_PAGES * w + c) ≡ all_to (λ j. eqb (word_at m w / 2 ^ j % 2) 1) c
  unfolding all_marked
  low_bits c h =
      let z : WORD_PAGES * w + c - WORD_PAGES * w ≡ c = omega arith in
      rw z
      (both_ways (all_to (λ k. marked m (WORD_PAGES * w + k)) c) (all_to (λ j. eqb (word_at m w / 2 ^ j % 2) 1) c)
      (λ e. all_of (λ j. eqb (word_at m w / 2 ^ j % 2) 1) c
      (λ k l. sym (word_bit k (omega arith)) ∙ all_at (λ k. marked m (WORD_PAGES * w + k)) c k e l))
      (λ e. all_of (λ k. marked m (WORD_PAGES * w + k)) c
      (λ k l. word_bit k (omega arith) ∙ all_at (λ j. eqb (word_at m w / 2 ^ j % 2) 1) c k e l)))

  pub low_marked : (c word low : ℕ) → c < WORD_PAGES → word ≡ get WORD_BYTES m (WORD_BYTES * w) → low ≡ 2 ^ c - 1
      → eqb (bit_and word low) low ≡ all_marked m (WORD_PAGES * w) (WORD_PAGES * w + c)
  low_marked c word low h e q = rw (e, q, and_mask (word_at m w) c) (sym (low_bits c (omega arith) ∙ bits_full (word_at m w) c))

  pub word_marked : (word : ℕ) → word < 2 ^ 64 → word ≡ get WORD_BYTES m (WORD_BYTES * w)
      → eqb word (2 ^ 64 - 1) ≡ all_marked m (WORD_PAGES * w) (WORD_PAGES * w + WORD_PAGES)
  word_marked word h e =
      let z : word % 2 ^ 64 ≡ word = mod-eq_of_lt h in
      ap (λ (x : ℕ). eqb x (2 ^ 64 - 1)) (sym z ∙ ap (λ (x : ℕ). x % 2 ^ 64) e) ∙ sym (low_bits WORD_PAGES (omega arith) ∙ bits_full (word_at m w) WORD_PAGES)

-- ---- and word after word
module _ (m : List ℕ) (a b : ℕ) where
  join : all_marked m 0 a ≡ true → a ≤ b → all_marked m a b ≡ all_marked m 0 b
  join t h =
      both_ways (all_marked m a b) (all_marked m 0 b)
      (λ e. pages_of_lem m 0 b
      (λ p z l. ⊎_elim (λ k. pages_at m a b p e k l) (λ k. pages_at m 0 a p t z k) (le_or_lt a p)))
      (λ e. pages_of_lem m a b (λ p z l. pages_at m 0 b p e (omega arith) l))

-- whether each page of word w is marked
abbrev pub whole : List ℕ → ℕ → Bool
whole m w = all_marked m (WORD_PAGES * w) (WORD_PAGES * w + WORD_PAGES)

pub words_all : (m : List ℕ) (n : ℕ) → list_all (whole m) (range_with_len 0 n) ≡ all_marked m 0 (WORD_PAGES * n)
words_all m n =
    all_range (whole m) 0 n
    ∙ both_ways (all_to (λ k. whole m (0 + k)) n) (all_marked m 0 (WORD_PAGES * n))
    (λ e. pages_of_lem m 0 (WORD_PAGES * n)
    (λ p z l.
    let y : 0 + p / WORD_PAGES ≡ p / WORD_PAGES = omega arith in
    let t : whole m (p / WORD_PAGES) ≡ true = rw y at (all_at (λ k. whole m (0 + k)) n (p / WORD_PAGES) e (omega arith)) in
    pages_at m (WORD_PAGES * (p / WORD_PAGES)) (WORD_PAGES * (p / WORD_PAGES) + WORD_PAGES) p t (omega arith) (omega arith)))
    (λ e. all_of (λ k. whole m (0 + k)) n
    (λ w h.
    let y : 0 + w ≡ w = omega arith in
    rw y (pages_of_lem m (WORD_PAGES * w) (WORD_PAGES * w + WORD_PAGES) (λ p k l. pages_at m 0 (WORD_PAGES * n) p e (omega arith) (omega arith)))))

module _ (m : List ℕ) (pages : ℕ) (words : Bool) (is : words ≡ all_marked m 0 (WORD_PAGES * (pages / WORD_PAGES))) where
  pub first_yes : words ≡ true → (r : Bool) → r ≡ all_marked m (WORD_PAGES * (pages / WORD_PAGES)) (WORD_PAGES * (pages / WORD_PAGES) + pages % WORD_PAGES)
      → r ≡ all_marked m 0 pages
  first_yes t r e =
      let y : WORD_PAGES * (pages / WORD_PAGES) + pages % WORD_PAGES ≡ pages = omega arith in
      e ∙ rw y (join m (WORD_PAGES * (pages / WORD_PAGES)) pages (sym is ∙ t) (omega arith))

  pub first_no : words ≡ false → words ≡ all_marked m 0 pages
  first_no t =
      ⊎_elim
      (λ z. not_both words (is ∙ pages_of_lem m 0 (WORD_PAGES * (pages / WORD_PAGES)) (λ p k l. pages_at m 0 pages p z (omega arith) (omega arith))) t)
      (λ z. t ∙ sym z)
      (yes_no (all_marked m 0 pages))

pub ruleset first_ways = (first_yes, first_no)

-- ---- a sum modulo 2 ^ 64, as the count's loop has it
module _ (f : ℕ → ℕ) where
  pub wrap_none : 0 ≡ sum_to f 0 % 2 ^ 64
  unfolding sum_to
  wrap_none = refl

  pub wrap_again : (i s n r : ℕ) → s ≡ sum_to f i % 2 ^ 64 → n ≡ f i → r ≡ (s + n) % 2 ^ 64 → r ≡ sum_to f (i + 1) % 2 ^ 64
  unfolding sum_to
  wrap_again i s n r p d q = rw (q, add-one, p, d) (omega arith)

  pub wrap_end : (i n s : ℕ) → s ≡ sum_to f i % 2 ^ 64 → i ≤ n → n ≤ i → s ≡ sum_to f n % 2 ^ 64
  wrap_end i n s p h k = let z : i ≡ n = omega arith in rw (← z) p

pub ones_fit : (w : ℕ) → w < 2 ^ 64 → ones w < 2 ^ 64
ones_fit w h = let k : ones w ≤ 64 = ones-le 64 w h in omega arith

pub ones_are : (m : List ℕ) (w word : ℕ) → word ≡ get WORD_BYTES m (WORD_BYTES * w) → ones word ≡ ones (word_at m w)
ones_are m w word e = rw e

pub ruleset count_loop = (wrap_none, wrap_again, wrap_end, ones_fit, ones_are)

-- ---- a word of the first pages' marks
module _ (pages w p q left : ℕ) (all : p ≡ pages) (word : q ≡ w) (rest : left ≡ p - WORD_PAGES * q) where
  pub word_full : WORD_PAGES ≤ left → 2 ^ 64 - 1 ≡ mark_word pages w
  unfolding mark_word
  word_full h = let z : pages_in pages w ≡ WORD_PAGES = omega arith in rw z

  pub word_part : (r : ℕ) → left < WORD_PAGES → r ≡ 2 ^ left - 1 → r ≡ mark_word pages w
  unfolding mark_word
  word_part r h e = let z : pages_in pages w ≡ left = omega arith in rw z e

pub ruleset mark_ways = (word_full, word_part)

-- ---- word after word
module _ (pages : ℕ) where
  pub marks_none : (l : List ℕ) → l ≡ splice l 0 (mark_bytes pages 0)
  unfolding splice mark_bytes
  marks_none l = refl

  pub marks_again : (l b c : List ℕ) (w q v : ℕ) → b ≡ splice l 0 (mark_bytes pages w) → q ≡ w → v ≡ mark_word pages w → c ≡ splice b (WORD_BYTES * q) (le WORD_BYTES v)
      → c ≡ splice l 0 (mark_bytes pages (w + 1))
  unfolding mark_bytes
  marks_again l b c w q v e f g d = rw (d, e, f, g, splice_next l 0 (mark_bytes pages w) (le WORD_BYTES (mark_word pages w)) (WORD_BYTES * w) (let z = length_marks pages w in omega arith), add-one w)

pub ruleset marks_loop = (marks_none, marks_again)
