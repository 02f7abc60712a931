-- What a character of several bytes is made of, and that it is the same in a part that holds all of it. Assumes nothing.
use Rattle.std.specs.Prelude.{◌≡◌, refl, Bool, true, false, ◌&&◌, List, [], ◌∷◌, ℕ, zero, suc, ◌≤◌, ◌<◌, leb, length, get_or, take, drop}
use Rattle.std.proofs.Common.{⊎_elim, arith, leb-true}
use Rattle.std.proofs.Math.Seq.{take-nil}
use Rattle.util.specs.Pick.{pick, yes_no, not_both, and_left, and_right, and_both}
use Rattle.utf8.specs.Utf8.{Range, from, holds, TAIL, long_rows, begins, length_in, long_length, octets}

-- ---- what all rows have alike: a first byte of C2 to F4, one to three bytes of 80 to BF behind it
unfoldable tails_only : List Range → Bool
tails_only [] = true
tails_only (from low high ∷ rest) = leb 0x80 low && (leb high 0xBF && tails_only rest)

unfoldable proper : List Range → Bool
proper [] = false
proper (from low high ∷ rest) = leb 0xC2 low && (leb high 0xF4 && (leb 1 (length rest) && (leb (length rest) 3 && tails_only rest)))

unfoldable all_proper : List (List Range) → Bool
all_proper [] = true
all_proper (row ∷ rows) = proper row && all_proper rows

rows_proper : all_proper long_rows ≡ true
unfolding all_proper proper tails_only long_rows
rows_proper = refl

-- ---- so has the character
pub record Tail (b : ℕ) : Type 0 where
  pub low : 0x80 ≤ b
  pub high : b ≤ 0xBF

pub tail_byte : (b : ℕ) → holds TAIL b ≡ true → Tail b
tail_byte b e =
    record {
      low = leb-true 0x80 b (and_left (leb 0x80 b) (leb b 0xBF) e);
      high = leb-true b 0xBF (and_right (leb 0x80 b) (leb b 0xBF) e);
    }

-- n bytes of s are one
pub record LongChar (s : List ℕ) (n : ℕ) : Type 0 where
  pub least : 2 ≤ n
  pub most : n ≤ 4
  pub within : n ≤ length s
  pub first : 0xC2 ≤ get_or s 0 0
  pub last : get_or s 0 0 ≤ 0xF4
  pub tails : (k : ℕ) → 0 < k → k < n → Tail (get_or s k 0)

pub begins_within : (rs : List Range) (s : List ℕ) → begins rs s ≡ true → length rs ≤ length s
unfolding begins
begins_within [] s e = omega arith
begins_within (r ∷ rs) [] e = not_both false e refl
begins_within (r ∷ rs) (b ∷ s) e = let l = begins_within rs s (and_right (holds r b) (begins rs s) e) in omega arith

begins_tails : (rs : List Range) (s : List ℕ) (k : ℕ) → tails_only rs ≡ true → begins rs s ≡ true → k < length rs → Tail (get_or s k 0)
unfolding tails_only begins
begins_tails [] s k t e h = absurd (omega arith)
begins_tails (r ∷ rs) [] k t e h = not_both false e refl
begins_tails (from low high ∷ rs) (b ∷ s) zero t e h =
    let u = leb-true 0x80 low (and_left (leb 0x80 low) (leb high 0xBF && tails_only rs) t) in
    let v = leb-true high 0xBF (and_left (leb high 0xBF) (tails_only rs) (and_right (leb 0x80 low) (leb high 0xBF && tails_only rs) t)) in
    let w = and_left (holds (from low high) b) (begins rs s) e in
    let x = leb-true low b (and_left (leb low b) (leb b high) w) in
    let y = leb-true b high (and_right (leb low b) (leb b high) w) in
    record { low = omega arith; high = omega arith }
begins_tails (from low high ∷ rs) (b ∷ s) (suc k) t e h =
    begins_tails rs s k (and_right (leb high 0xBF) (tails_only rs) (and_right (leb 0x80 low) (leb high 0xBF && tails_only rs) t)) (and_right (holds (from low high) b) (begins rs s) e) (omega arith)

row_char : (row : List Range) (s : List ℕ) → proper row ≡ true → begins row s ≡ true → LongChar s (length row)
unfolding proper begins
row_char [] s p e = not_both false p refl
row_char (from low high ∷ rest) [] p e = not_both false e refl
row_char (from low high ∷ rest) (b ∷ s) p e =
    let u = leb-true 0xC2 low (and_left (leb 0xC2 low) (leb high 0xF4 && (leb 1 (length rest) && (leb (length rest) 3 && tails_only rest))) p) in
    let o = and_right (leb 0xC2 low) (leb high 0xF4 && (leb 1 (length rest) && (leb (length rest) 3 && tails_only rest))) p in
    let m = leb-true high 0xF4 (and_left (leb high 0xF4) (leb 1 (length rest) && (leb (length rest) 3 && tails_only rest)) o) in
    let q = and_right (leb high 0xF4) (leb 1 (length rest) && (leb (length rest) 3 && tails_only rest)) o in
    let v = leb-true 1 (length rest) (and_left (leb 1 (length rest)) (leb (length rest) 3 && tails_only rest) q) in
    let q₂ = and_right (leb 1 (length rest)) (leb (length rest) 3 && tails_only rest) q in
    let w = leb-true (length rest) 3 (and_left (leb (length rest) 3) (tails_only rest) q₂) in
    let t = and_right (leb (length rest) 3) (tails_only rest) q₂ in
    let f = and_left (holds (from low high) b) (begins rest s) e in
    let x = leb-true low b (and_left (leb low b) (leb b high) f) in
    let y = leb-true b high (and_right (leb low b) (leb b high) f) in
    let g = and_right (holds (from low high) b) (begins rest s) e in
    let l = begins_within rest s g in
    record {
      least = omega arith;
      most = omega arith;
      within = omega arith;
      first = omega arith;
      last = omega arith;
      tails = behind_first t g;
    }
  where
    behind_first : tails_only rest ≡ true → begins rest s ≡ true → (k : ℕ) → 0 < k → k < suc (length rest) → Tail (get_or (b ∷ s) k 0)
    behind_first t g zero a h = absurd (omega arith)
    behind_first t g (suc k) a h = begins_tails rest s k t g (omega arith)

rows_char : (rows : List (List Range)) (s : List ℕ) (n : ℕ) → all_proper rows ≡ true → length_in rows s ≡ suc n → LongChar s (suc n)
unfolding all_proper length_in pick
rows_char [] s n p e = absurd (omega arith)
rows_char (row ∷ rows) s n p e =
    ⊎_elim (λ (b : begins row s ≡ true). let q : length row ≡ suc n = rw b at e in rw (← q) (row_char row s (and_left (proper row) (all_proper rows) p) b))
    (λ (b : begins row s ≡ false). rows_char rows s n (and_right (proper row) (all_proper rows) p) (rw b at e))
    (yes_no (begins row s))

-- THE LAW
pub long_char : (s : List ℕ) (n : ℕ) → long_length s ≡ suc n → LongChar s (suc n)
long_char s n e = rows_char long_rows s n rows_proper e

-- ---- in a part
begins_take : (rs : List Range) (s : List ℕ) (n : ℕ) → length rs ≤ n → begins rs s ≡ true → begins rs (take n s) ≡ true
unfolding begins
begins_take [] s n h e = refl
begins_take (r ∷ rs) [] n h e = cc
begins_take (r ∷ rs) (b ∷ s) zero h e = absurd (omega arith)
begins_take (r ∷ rs) (b ∷ s) (suc n) h e =
    and_both (holds r b) (begins rs (take n s)) (and_left (holds r b) (begins rs s) e) (begins_take rs s n (omega arith) (and_right (holds r b) (begins rs s) e))

take_begins : (rs : List Range) (s : List ℕ) (n : ℕ) → begins rs (take n s) ≡ true → begins rs s ≡ true
unfolding begins
take_begins [] s n e = refl
take_begins (r ∷ rs) [] n e = rw (take-nil {A = ℕ} n) at e
take_begins (r ∷ rs) (b ∷ s) zero e = cc
take_begins (r ∷ rs) (b ∷ s) (suc n) e =
    and_both (holds r b) (begins rs s) (and_left (holds r b) (begins rs (take n s)) e) (take_begins rs s n (and_right (holds r b) (begins rs (take n s)) e))

-- the front of n bytes has the same, if that has no more than n
pub length_take : (rows : List (List Range)) (s : List ℕ) (n : ℕ) → length_in rows s ≤ n → length_in rows (take n s) ≡ length_in rows s
unfolding length_in pick
length_take [] s n h = refl
length_take (row ∷ rows) s n h =
    ⊎_elim (λ (b : begins row s ≡ true). let q : length row ≤ n = rw b at h in rw (b, begins_take row s n q b))
    (λ (b : begins row s ≡ false).
    ⊎_elim (λ (c : begins row (take n s) ≡ true). not_both (begins row s) (take_begins row s n c) b)
    (λ (c : begins row (take n s) ≡ false). rw (b, c) (length_take rows s n (rw b at h)))
    (yes_no (begins row (take n s))))
    (yes_no (begins row s))

-- ---- what stands behind k bytes of a character
pub octets_behind : (k : ℕ) (s : List ℕ) → k ≤ length s → octets k s ≡ octets 0 (drop k s)
unfolding octets
octets_behind zero s h = refl
octets_behind (suc k) [] h = absurd (omega arith)
octets_behind (suc k) (b ∷ s) h = octets_behind k s (omega arith)
