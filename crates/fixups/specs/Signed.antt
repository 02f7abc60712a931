-- The signed reading of n bytes, in two's complement: what a processor takes a fixup's bytes for.
use Rattle.std.specs.Prelude.{◌≡◌, ℕ, suc, ◌+◌, ◌-◌, ◌/◌, ◌%◌, ◌^◌, ◌<◌, ◌≤◌, ◌⊎◌, ℤ, pos, negsuc, nat_lt, refl}
use Rattle.std.proofs.Common.{sym, ◌∙◌, ⊎_elim, arith, lt-ltb, le-ltb}
use Rattle.std.proofs.Math.IntN.{sub_ℕ}
use Rattle.util.specs.Pick.{pick, le_or_lt}
use Rattle.le.specs.Le.{get, le, get_low}

-- v, which is below 256 ^ n: the lower half as it is, the upper half less 256 ^ n
unfoldable pub signed : ℕ → ℕ → ℤ
signed n v = pick (nat_lt v (256 ^ n / 2)) (pos v) (sub_ℕ v (256 ^ n))

-- four bytes FF are -1, eight are too
minus_one : (signed 4 0xFFFFFFFF ≡ negsuc 0) × (signed 8 0xFFFFFFFFFFFFFFFF ≡ negsuc 0)
unfolding signed pick
minus_one = (refl, refl)

-- ---- by the two halves
module _ (n v : ℕ) where
  pub signed_low : v < 256 ^ n / 2 → signed n v ≡ pos v
  unfolding signed pick
  signed_low h = rw (lt-ltb v (256 ^ n / 2) h)

  pub signed_high : 256 ^ n / 2 ≤ v → signed n v ≡ sub_ℕ v (256 ^ n)
  unfolding signed pick
  signed_high h = rw (le-ltb v (256 ^ n / 2) h)

-- two differences of naturals are one where the sums crosswise are
pub difference_same : (a b c d : ℕ) → a + d ≡ c + b → sub_ℕ a b ≡ sub_ℕ c d
difference_same a b c d e =
    ⊎_elim (λ h. let k : d ≤ c = omega arith in let p : a - b ≡ c - d = omega arith in rw (le-ltb a b h, le-ltb c d k, p))
    (λ h. let k : c < d = omega arith in let p : b - suc a ≡ d - suc c = omega arith in rw (lt-ltb a b h, lt-ltb c d k, p))
    (le_or_lt b a)

-- and a natural is one where it makes the sum
pub difference_is : (v a b : ℕ) → v + b ≡ a → pos v ≡ sub_ℕ a b
difference_is v a b e = let k : b ≤ a = omega arith in let p : a - b ≡ v = omega arith in rw (le-ltb a b k, p)

-- the four low bytes of v give what its eight do where v is in the range of four, below 0 or not
pub low_keeps : (v : ℕ) → (v < 2 ^ 31) ⊎ ((2 ^ 64 - 2 ^ 31 ≤ v) × (v < 2 ^ 64)) → signed 4 (v % 256 ^ 4) ≡ signed 8 v
low_keeps v h =
    ⊎_elim (λ l.
    let e : v % 256 ^ 4 ≡ v = omega arith in
    let w : v < 256 ^ 8 / 2 = omega arith in
    rw e (signed_low 4 v l ∙ sym (signed_low 8 v w)))
    (λ u.
    let lo = u.0 in
    let hi = u.1 in
    let e : v % 256 ^ 4 + 256 ^ 8 ≡ v + 256 ^ 4 = omega arith in
    let w : 256 ^ 4 / 2 ≤ v % 256 ^ 4 = omega arith in
    let y : 256 ^ 8 / 2 ≤ v = omega arith in
    signed_high 4 (v % 256 ^ 4) w ∙ difference_same (v % 256 ^ 4) (256 ^ 4) v (256 ^ 8) e ∙ sym (signed_high 8 v y))
    h

-- a slot's four bytes keep an address below 2 ^ 31 as it is
pub slot_keeps : (a : ℕ) → a < 2 ^ 31 → signed 4 (get 4 (le 4 a) 0) ≡ pos a
slot_keeps a h = let e : a % 256 ^ 4 ≡ a = omega arith in rw (get_low 4 a, e) (signed_low 4 a h)
