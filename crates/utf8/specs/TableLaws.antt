-- Each row is taken, and nothing else. Assumes nothing.
use Rattle.std.specs.Prelude.{◌≡◌, refl, true, false, ◌&&◌, List, [], ◌∷◌, ◌⊎◌, ltb, leb, length, get_or, drop}
use Rattle.std.proofs.Common.{sym, ◌∙◌, inl, inr}
use Rattle.std.proofs.Math.Bool.{and-false}
use Rattle.std.proofs.Math.Logic.{⊎_elim}
use Prim.Native.Nat.{ℕ, zero, suc, ◌-◌, ◌≤◌, ◌<◌}
use native.Mathlib.Omega.{arith}
use borrow.Author.Tests.{leb-true, ltb-true, le-leb, lt-leb, lt-ltb, le-ltb, eq-eqb, ne_eqb}
use Rattle.util.specs.Pick.{pick, yes_no, le_or_lt, not_both, and_left, and_right}
use Rattle.utf8.specs.Utf8.{Range, from, holds, TAIL, ONE, long_rows, begins, length_in, char_length, long_length, octets, well_formed}
use Rattle.utf8.specs.First.{SECOND, three_by, four_by, long_by}
use Rattle.utf8.specs.FirstLaws.{rising, rows_rise, no_row, long_told}
use Rattle.utf8.specs.CharLaws.{begins_within, long_char, octets_behind}

-- ---- a row of a table
unfoldable pub Among : List Range → List (List Range) → Type 0
Among row [] = ⊥
Among row (r ∷ rows) = (row ≡ r) ⊎ Among row rows

-- the whole table
abbrev pub ROWS : List (List Range)
ROWS = ONE ∷ long_rows

-- what has a length by some rows begins with one of them
found : (rows : List (List Range)) (s : List ℕ) (n : ℕ) {P : Type 0} → length_in rows s ≡ suc n → ((row : List Range) → Among row rows → begins row s ≡ true → length row ≡ suc n → P) → P
unfolding length_in pick Among
found [] s n e f = absurd (omega arith)
found (r ∷ rows) s n e f =
    ⊎_elim (λ (b : begins r s ≡ true). f r (inl refl) b (rw b at e)) (λ (b : begins r s ≡ false). found rows s n (rw b at e) (λ row a. f row (inr a))) (yes_no (begins r s))

-- UTF8-octets: a character of the table, and characters behind it
pub record Begins (s : List ℕ) : Type 0 where
  pub row : List Range
  pub among : Among row ROWS
  pub begun : begins row s ≡ true
  pub rest : well_formed (drop (length row) s) ≡ true

-- ---- no list of bytes begins with two rows
-- where rows rise from k on, a byte that begins one is above k
above : (k : ℕ) (rows : List (List Range)) (row : List Range) (x : ℕ) (s : List ℕ) → rising k rows ≡ true → Among row rows → begins row (x ∷ s) ≡ true → k < x
unfolding Among rising begins
above k [] row x s e a b = absurd a
above k ([] ∷ rows) row x s e a b = not_both false e refl
above k ((from low high ∷ []) ∷ rows) row x s e a b = not_both false e refl
above k ((from low high ∷ r ∷ rest) ∷ rows) row x s e a b =
    let u = ltb-true k low (and_left (ltb k low) (leb low high && rising high rows) e) in
    let v = leb-true low high (and_left (leb low high) (rising high rows) (and_right (ltb k low) (leb low high && rising high rows) e)) in
    ⊎_elim
    (λ (q : row ≡ from low high ∷ r ∷ rest).
    let c : holds (from low high) x && begins (r ∷ rest) s ≡ true = rw q at b in
    let l = leb-true low x (and_left (leb low x) (leb x high) (and_left (holds (from low high) x) (begins (r ∷ rest) s) c)) in
    omega arith)
    (λ (q : Among row rows).
    let l = above high rows row x s (and_right (leb low high) (rising high rows) (and_right (ltb k low) (leb low high && rising high rows) e)) q b in
    omega arith)
    a

over : (low high x : ℕ) → high < x → holds (from low high) x ≡ false
over low high x h = rw (lt-leb x high h) (and-false (leb low x))

one_row : (k : ℕ) (rows : List (List Range)) (row : List Range) (x : ℕ) (s : List ℕ) → rising k rows ≡ true → Among row rows → begins row (x ∷ s) ≡ true → length_in rows (x ∷ s) ≡ length row
unfolding length_in pick Among rising begins
one_row k [] row x s e a b = absurd a
one_row k ([] ∷ rows) row x s e a b = not_both false e refl
one_row k ((from low high ∷ []) ∷ rows) row x s e a b = not_both false e refl
one_row k ((from low high ∷ r ∷ rest) ∷ rows) row x s e a b =
    let next = and_right (leb low high) (rising high rows) (and_right (ltb k low) (leb low high && rising high rows) e) in
    ⊎_elim (λ (q : row ≡ from low high ∷ r ∷ rest). let c : holds (from low high) x && begins (r ∷ rest) s ≡ true = rw q at b in rw (q, c))
    (λ (q : Among row rows). rw (over low high x (above high rows row x s next q b)) (one_row high rows row x s next q b))
    a

-- of the whole table
pub the_row : (row : List Range) (x : ℕ) (s : List ℕ) → Among row ROWS → begins row (x ∷ s) ≡ true → char_length (x ∷ s) ≡ length row
unfolding length_in pick Among begins
the_row row x s a b =
    ⊎_elim (λ (q : row ≡ ONE). let c : holds (from 0x00 0x7F) x && true ≡ true = rw q at b in rw (q, c))
    (λ (q : Among row long_rows).
    let h = above 0xC1 long_rows row x s rows_rise q b in
    rw (over 0x00 0x7F x (omega arith)) (one_row 0xC1 long_rows row x s rows_rise q b))
    a

-- ---- the grammar's own words
module _ (x : ℕ) (s : List ℕ) where
  pub char_off : char_length (x ∷ s) ≡ 0 → well_formed (x ∷ s) ≡ false
  unfolding octets pick
  char_off e = rw (eq-eqb (char_length (x ∷ s)) 0 e)

  pub char_on : (n : ℕ) → char_length (x ∷ s) ≡ suc n → n ≤ length s → well_formed (x ∷ s) ≡ well_formed (drop n s)
  unfolding octets pick
  char_on n e h = let z : suc n - 1 ≡ n = omega arith in rw (e, ne_eqb (suc n) 0 (λ y. omega arith), z) (octets_behind n s h)

  -- a row of the table, and characters behind it, is well-formed
  pub row_taken : Begins (x ∷ s) → well_formed (x ∷ s) ≡ true
  row_taken b = by_length b.row (the_row b.row x s b.among b.begun) (begins_within b.row (x ∷ s) b.begun) b.rest
    where
      by_length : (row : List Range) → char_length (x ∷ s) ≡ length row → length row ≤ suc (length s) → well_formed (drop (length row) (x ∷ s)) ≡ true → well_formed (x ∷ s) ≡ true
      by_length [] e l r = r
      by_length (q ∷ row) e l r = char_on (length row) e (omega arith) ∙ r

  -- and nothing else is
  pub nothing_else : well_formed (x ∷ s) ≡ true → Begins (x ∷ s)
  nothing_else w = by_length (char_length (x ∷ s)) refl
    where
      by_length : (n : ℕ) → char_length (x ∷ s) ≡ n → Begins (x ∷ s)
      by_length zero e = not_both (well_formed (x ∷ s)) w (char_off e)
      by_length (suc n) e =
          found ROWS (x ∷ s) n e
          (λ row a b l.
          let m = begins_within row (x ∷ s) b in
          let r : well_formed (drop n s) ≡ true = sym (char_on n e (omega arith)) ∙ w in
          record { row = row; among = a; begun = b; rest = rw l r })

-- ---- what is not: by a character's first bytes, whatever follows
module _ (a : ℕ) (s : List ℕ) where
  long_off : 0x7F < a → long_length (a ∷ s) ≡ 0 → well_formed (a ∷ s) ≡ false
  unfolding length_in begins pick
  long_off h e = char_off a s (rw (over 0x00 0x7F a h) e)

  -- stray tails, and C0 and C1, whose characters would need one byte alone
  pub no_first : 0x80 ≤ a → a ≤ 0xC1 → well_formed (a ∷ s) ≡ false
  no_first h l = long_off (omega arith) (no_row a s 0xC1 long_rows rows_rise l)

  -- no tail behind the first byte, the end included
  pub no_second : 0x7F < a → holds TAIL (get_or s 0 0) ≡ false → well_formed (a ∷ s) ≡ false
  no_second h e = long_off h (by_length (long_length (a ∷ s)) refl)
    where
      by_length : (n : ℕ) → long_length (a ∷ s) ≡ n → long_length (a ∷ s) ≡ 0
      by_length zero q = q
      by_length (suc n) q =
          let c = long_char (a ∷ s) n q in
          let two = c.least in
          let t = c.tails 1 (omega arith) (omega arith) in
          let l = t.low in
          let u = t.high in
          not_both (holds TAIL (get_or s 0 0)) (rw (le-leb 0x80 (get_or s 0 0) l, le-leb (get_or s 0 0) 0xBF u)) e

  module _ (byte : a < 256) where
    told : long_length (a ∷ s) ≡ long_by a (get_or s 0 0) (get_or s 1 0) (get_or s 2 0)
    told = long_told (a ∷ s) byte

    -- nor behind the second of three or four, nor behind the third of four
    pub no_third : 0xE0 ≤ a → holds TAIL (get_or s 1 0) ≡ false → well_formed (a ∷ s) ≡ false
    unfolding long_by three_by four_by pick
    no_third h e =
        long_off (omega arith)
        (told
        ∙ ⊎_elim (λ (l : 0xF0 ≤ a). rw (le-ltb a 0xC2 (omega arith), le-ltb a 0xE0 h, le-ltb a 0xF0 l, e, and-false (holds (SECOND a) (get_or s 0 0)), and-false (ltb a 0xF5)))
        (λ (l : a < 0xF0). rw (le-ltb a 0xC2 (omega arith), le-ltb a 0xE0 h, lt-ltb a 0xF0 l, e, and-false (holds (SECOND a) (get_or s 0 0))))
        (le_or_lt 0xF0 a))

    pub no_fourth : 0xF0 ≤ a → holds TAIL (get_or s 2 0) ≡ false → well_formed (a ∷ s) ≡ false
    unfolding long_by four_by pick
    no_fourth h e =
        long_off (omega arith)
        (told ∙ rw (le-ltb a 0xC2 (omega arith), le-ltb a 0xE0 (omega arith), le-ltb a 0xF0 h, e, and-false (holds TAIL (get_or s 1 0)), and-false (holds (SECOND a) (get_or s 0 0)), and-false (ltb a 0xF5)))

    -- past U+10FFFF, by the first byte
    pub too_high_first : 0xF5 ≤ a → well_formed (a ∷ s) ≡ false
    unfolding long_by four_by pick
    too_high_first h = long_off (omega arith) (told ∙ rw (le-ltb a 0xC2 (omega arith), le-ltb a 0xE0 (omega arith), le-ltb a 0xF0 (omega arith), le-ltb a 0xF5 h))

module _ (b : ℕ) (s : List ℕ) where
  -- longer than it need be: below U+0800 in three bytes, below U+10000 in four
  pub overlong_three : b < 0xA0 → well_formed (0xE0 ∷ b ∷ s) ≡ false
  unfolding length_in long_rows begins pick
  overlong_three h = long_off 0xE0 (b ∷ s) (omega arith) (rw (lt-leb 0xA0 b h))

  pub overlong_four : b < 0x90 → well_formed (0xF0 ∷ b ∷ s) ≡ false
  unfolding length_in long_rows begins pick
  overlong_four h = long_off 0xF0 (b ∷ s) (omega arith) (rw (lt-leb 0x90 b h))

  -- a surrogate, U+D800 to U+DFFF
  pub surrogate : 0xA0 ≤ b → well_formed (0xED ∷ b ∷ s) ≡ false
  unfolding length_in long_rows begins pick
  surrogate h = long_off 0xED (b ∷ s) (omega arith) (rw (over 0x80 0x9F b (omega arith)))

  -- past U+10FFFF, by the second byte
  pub too_high : 0x90 ≤ b → well_formed (0xF4 ∷ b ∷ s) ≡ false
  unfolding length_in long_rows begins pick
  too_high h = long_off 0xF4 (b ∷ s) (omega arith) (rw (over 0x80 0x8F b (omega arith)))
