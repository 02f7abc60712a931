-- A first byte tells its row, and so the character's length. Assumes nothing.
use Rattle.std.specs.Prelude.{◌≡◌, Bool, ◌&&◌, ℕ, suc, ◌-◌, ◌≤◌, ◌<◌, ltb, leb, eqb, length, get_or, drop}
use Rattle.std.proofs.Math.Path.{refl, ap}
use Rattle.std.proofs.Common.{◌∙◌, ⊎_elim, arith, leb-true, ltb-true, eqb-true}
use Rattle.std.proofs.Math.Bool.{true, false}
use mathlib.Core.List.{List, [], ◌∷◌}
use Rattle.std.proofs.lemmas.Bool.{lt-leb}
use Rattle.util.specs.Pick.{pick, yes_no, pick_either, and_left, and_right}
use Rattle.util.specs.Prefix.{all_to, all_at}
use Rattle.utf8.specs.Utf8.{Range, from, holds, TAIL, long_rows, begins, length_in, long_length}
use Rattle.utf8.specs.First.{second_low, second_high, SECOND, two_by, three_by, four_by, long_by}

-- ---- the rows rise: no byte begins two of them, and none has one byte alone
unfoldable pub rising : ℕ → List (List Range) → Bool
rising k [] = true
rising k ([] ∷ rows) = false
rising k ((from low high ∷ []) ∷ rows) = false
rising k ((from low high ∷ r ∷ rest) ∷ rows) = ltb k low && (leb low high && rising high rows)

pub rows_rise : rising 0xC1 long_rows ≡ true
unfolding rising long_rows
rows_rise = refl

module _ (k low high : ℕ) (t : Bool) (e : ltb k low && (leb low high && t) ≡ true) where
  rise_low : k < low
  rise_low = ltb-true k low (and_left (ltb k low) (leb low high && t) e)

  rise_high : low ≤ high
  rise_high = leb-true low high (and_left (leb low high) t (and_right (ltb k low) (leb low high && t) e))

  rise_rest : t ≡ true
  rise_rest = and_right (leb low high) t (and_right (ltb k low) (leb low high && t) e)

under : (low high b : ℕ) → b < low → holds (from low high) b ≡ false
under low high b h = rw (lt-leb low b h)

-- a byte below all rows begins none of them
pub no_row : (a : ℕ) (s : List ℕ) (k : ℕ) (rows : List (List Range)) → rising k rows ≡ true → a ≤ k → length_in rows (a ∷ s) ≡ 0
unfolding rising length_in begins pick
no_row a s k [] e h = refl
no_row a s k ([] ∷ rows) e h = absurd (let z : ◌≡◌ {A = ℕ} 0 1 = cc in omega arith)
no_row a s k ((from low high ∷ []) ∷ rows) e h = absurd (let z : ◌≡◌ {A = ℕ} 0 1 = cc in omega arith)
no_row a s k ((from low high ∷ r ∷ rest) ∷ rows) e h =
    let u = rise_low k low high (rising high rows) e in
    let v = rise_high k low high (rising high rows) e in
    rw (under low high a (omega arith)) (no_row a s high rows (rise_rest k low high (rising high rows) e) (omega arith))

-- ---- the ranges behind the first of the row that a begins; none where it begins no row
unfoldable pub rest_in : List (List Range) → ℕ → List Range
rest_in [] a = []
rest_in ([] ∷ rows) a = rest_in rows a
rest_in ((r ∷ rest) ∷ rows) a = pick (holds r a) rest (rest_in rows a)

-- the length of the character by them, if s stands behind its first byte
unfoldable pub behind : List Range → List ℕ → ℕ
behind [] s = 0
behind (r ∷ rest) s = pick (begins (r ∷ rest) s) (suc (length (r ∷ rest))) 0

pub by_rest : (a : ℕ) (s : List ℕ) (k : ℕ) (rows : List (List Range)) → rising k rows ≡ true → length_in rows (a ∷ s) ≡ behind (rest_in rows a) s
unfolding rising length_in begins pick rest_in behind
by_rest a s k [] e = refl
by_rest a s k ([] ∷ rows) e = absurd (let z : ◌≡◌ {A = ℕ} 0 1 = cc in omega arith)
by_rest a s k ((from low high ∷ []) ∷ rows) e = absurd (let z : ◌≡◌ {A = ℕ} 0 1 = cc in omega arith)
by_rest a s k ((from low high ∷ r ∷ rest) ∷ rows) e =
    let next = rise_rest k low high (rising high rows) e in
    ⊎_elim
    (λ (h : holds (from low high) a ≡ true).
    let q : a ≤ high = leb-true a high (and_right (leb low a) (leb a high) h) in
    ⊎_elim (λ (f : begins (r ∷ rest) s ≡ true). rw (h, f)) (λ (f : begins (r ∷ rest) s ≡ false). rw (h, f, no_row a s high rows next q)) (yes_no (begins (r ∷ rest) s)))
    (λ (h : holds (from low high) a ≡ false). rw h (by_rest a s high rows next))
    (yes_no (holds (from low high) a))

-- ---- those ranges, as the first byte tells them
unfoldable pub rest_by : ℕ → List Range
rest_by a = pick (ltb a 0xC2) [] (pick (ltb a 0xE0) (TAIL ∷ []) (pick (ltb a 0xF0) (SECOND a ∷ TAIL ∷ []) (pick (ltb a 0xF5) (SECOND a ∷ TAIL ∷ TAIL ∷ []) [])))

unfoldable same_ranges : List Range → List Range → Bool
same_ranges [] [] = true
same_ranges [] (r ∷ rs) = false
same_ranges (q ∷ qs) [] = false
same_ranges (from a b ∷ qs) (from c d ∷ rs) = eqb a c && (eqb b d && same_ranges qs rs)

same_ranges_lem : (qs rs : List Range) → same_ranges qs rs ≡ true → qs ≡ rs
unfolding same_ranges
same_ranges_lem [] [] e = refl
same_ranges_lem [] (r ∷ rs) e = cc
same_ranges_lem (q ∷ qs) [] e = cc
same_ranges_lem (from a b ∷ qs) (from c d ∷ rs) e =
    let x : a ≡ c = eqb-true a c (and_left (eqb a c) (eqb b d && same_ranges qs rs) e) in
    let y : b ≡ d = eqb-true b d (and_left (eqb b d) (same_ranges qs rs) (and_right (eqb a c) (eqb b d && same_ranges qs rs) e)) in
    let z : qs ≡ rs = same_ranges_lem qs rs (and_right (eqb b d) (same_ranges qs rs) (and_right (eqb a c) (eqb b d && same_ranges qs rs) e)) in
    rw (x, y, z)

-- computed, byte by byte
all_firsts : all_to (λ a. same_ranges (rest_in long_rows a) (rest_by a)) 256 ≡ true
unfolding all_to same_ranges rest_in long_rows rest_by second_low second_high pick
all_firsts = refl

pub rest_told : (a : ℕ) → a < 256 → rest_in long_rows a ≡ rest_by a
rest_told a h = same_ranges_lem (rest_in long_rows a) (rest_by a) (all_at (λ b. same_ranges (rest_in long_rows b) (rest_by b)) 256 a all_firsts h)

-- ---- a byte past the end reads as 0, which is in none of those ranges
begins_at : (low high : ℕ) (rest : List Range) (s : List ℕ) → 0 < low → begins (from low high ∷ rest) s ≡ (holds (from low high) (get_or s 0 0) && begins rest (drop 1 s))
unfolding begins
begins_at low high rest [] h = rw (under low high 0 h)
begins_at low high rest (b ∷ s) h = refl

next_at : (s : List ℕ) (k : ℕ) → get_or (drop 1 s) k 0 ≡ get_or s (suc k) 0
next_at [] k = refl
next_at (b ∷ s) k = refl

second_some : (a : ℕ) → 0 < second_low a
unfolding second_low
second_some a = pick_either (λ (x : ℕ). 0 < x) (eqb a 0xE0) 0xA0 (pick (eqb a 0xF0) 0x90 0x80) (λ e. omega arith) (pick_either (λ (x : ℕ). 0 < x) (eqb a 0xF0) 0x90 0x80 (λ e. omega arith) (omega arith))

-- a test that decides nothing but itself
and_true : (t : Bool) → t && true ≡ t
and_true true = refl
and_true false = refl

-- ---- two, three and four bytes
module _ (s : List ℕ) where
  two : behind (TAIL ∷ []) s ≡ two_by (get_or s 0 0)
  unfolding behind begins two_by
  two = ap (λ (t : Bool). pick t 2 0) (begins_at 0x80 0xBF [] s (omega arith) ∙ and_true (holds TAIL (get_or s 0 0)))

  module _ (a : ℕ) where
    three : behind (SECOND a ∷ TAIL ∷ []) s ≡ three_by a (get_or s 0 0) (get_or s 1 0)
    unfolding behind begins three_by
    three =
        ap (λ (t : Bool). pick t 3 0)
        (begins_at (second_low a) (second_high a) (TAIL ∷ []) s (second_some a)
        ∙ ap (λ (t : Bool). holds (SECOND a) (get_or s 0 0) && t) (begins_at 0x80 0xBF [] (drop 1 s) (omega arith) ∙ and_true (holds TAIL (get_or (drop 1 s) 0 0)) ∙ ap (holds TAIL) (next_at s 0)))

    abbrev tails : Bool
    tails = holds TAIL (get_or s 1 0) && holds TAIL (get_or s 2 0)

    four_begins : begins (SECOND a ∷ TAIL ∷ TAIL ∷ []) s ≡ (holds (SECOND a) (get_or s 0 0) && tails)
    unfolding begins
    four_begins =
        begins_at (second_low a) (second_high a) (TAIL ∷ TAIL ∷ []) s (second_some a)
        ∙ ap (λ (t : Bool). holds (SECOND a) (get_or s 0 0) && t)
        (begins_at 0x80 0xBF (TAIL ∷ []) (drop 1 s) (omega arith)
        ∙ rw (next_at s 0)
        (ap (λ (t : Bool). holds TAIL (get_or s 1 0) && t)
        (begins_at 0x80 0xBF [] (drop 1 (drop 1 s)) (omega arith) ∙ and_true (holds TAIL (get_or (drop 1 (drop 1 s)) 0 0)) ∙ ap (holds TAIL) (next_at (drop 1 s) 0 ∙ next_at s 1))))

    -- with the test whether a is above the last row
    by_last : (t : Bool) → behind (pick t (SECOND a ∷ TAIL ∷ TAIL ∷ []) []) s ≡ pick (t && (holds (SECOND a) (get_or s 0 0) && tails)) 4 0
    unfolding behind pick
    by_last true = ap (λ (t : Bool). pick t 4 0) four_begins
    by_last false = refl

    four : behind (pick (ltb a 0xF5) (SECOND a ∷ TAIL ∷ TAIL ∷ []) []) s ≡ four_by a (get_or s 0 0) (get_or s 1 0) (get_or s 2 0)
    unfolding four_by
    four = by_last (ltb a 0xF5)

    by_tests : (t u v : Bool)
        → behind (pick t [] (pick u (TAIL ∷ []) (pick v (SECOND a ∷ TAIL ∷ []) (pick (ltb a 0xF5) (SECOND a ∷ TAIL ∷ TAIL ∷ []) [])))) s
        ≡ pick t 0 (pick u (two_by (get_or s 0 0)) (pick v (three_by a (get_or s 0 0) (get_or s 1 0)) (four_by a (get_or s 0 0) (get_or s 1 0) (get_or s 2 0))))
    unfolding behind pick
    by_tests true u v = refl
    by_tests false true v = two
    by_tests false false true = three
    by_tests false false false = four

-- THE LAW: four bytes tell the length, as the rows do
pub long_told : (s : List ℕ) → get_or s 0 0 < 256 → long_length s ≡ long_by (get_or s 0 0) (get_or s 1 0) (get_or s 2 0) (get_or s 3 0)
unfolding long_by rest_by length_in long_rows begins pick
long_told [] h = refl
long_told (a ∷ s) h = by_rest a s 0xC1 long_rows rows_rise ∙ ap (λ (rs : List Range). behind rs s) (rest_told a h) ∙ by_tests s a (ltb a 0xC2) (ltb a 0xE0) (ltb a 0xF0)
