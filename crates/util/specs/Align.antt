-- Rounding up to a multiple (01, "util.rs").
use Rattle.std.specs.Prelude.{◌≡◌, ℕ, ◌+◌, ◌-◌, ◌*◌, ◌/◌, ◌%◌, ◌^◌, ◌<◌, ◌≤◌, ◌≢◌, min, nat_le}
use Rattle.std.proofs.Common.{arith, div-add-mod', mod-lt, add-mul, one-mul, div-mul-le_self, mod-eq_of_lt, lt_of_lt_of_le, ⊎_elim, le-leb}
use Rattle.std.proofs.Math.Nat.{lt-div-mul-add, div-eq_of_lt-le, mul-mod_left}
use Rattle.std.proofs.lemmas.Bool.{lt-leb}
use Rattle.std.proofs.lemmas.Grind.{div_ceil_times}
use Rattle.util.specs.Pick.{pick, le_or_lt}

-- the least multiple of b that is not below i; a b of 0 or 1 rounds nothing
unfoldable pub round_up : ℕ → ℕ → ℕ
round_up i b = pick (nat_le b 1) i ((i + (b - 1)) / b * b)

-- ---- what it is: a multiple, not below, and less than b above
module _ (i b : ℕ) (h : 1 < b) where
  pub up_is : round_up i b ≡ (i + (b - 1)) / b * b
  unfolding round_up pick
  up_is = rw (lt-leb b 1 h)

  pub up_multiple : round_up i b % b ≡ 0
  up_multiple = rw up_is (mul-mod_left _ b)

  pub up_not_below : i ≤ round_up i b
  up_not_below =
      let k : i + (b - 1) < (i + (b - 1)) / b * b + b = lt-div-mul-add (omega arith) in
      rw up_is (omega arith)

  pub up_near : round_up i b < i + b
  up_near =
      let k : (i + (b - 1)) / b * b ≤ i + (b - 1) = div-mul-le_self _ _ in
      rw up_is (omega arith)

pub up_one : (i b : ℕ) → b ≤ 1 → round_up i b ≡ i
unfolding round_up pick
up_one i b h = rw (le-leb b 1 h)

-- a multiple is its own; any other number goes up by what its remainder lacks
pub up_same : (i b : ℕ) → 1 < b → i % b ≡ 0 → round_up i b ≡ i
up_same i b h z =
    let e : i / b * b + i % b ≡ i = div-add-mod' i b in
    let q : (i / b + 1) * b ≡ i / b * b + b = rw (add-mul, one-mul) in
    let d : (i + (b - 1)) / b ≡ i / b = div-eq_of_lt-le b (omega arith) (omega arith) in
    rw (up_is i b h, d) (omega arith)

pub up_more : (i b : ℕ) → 1 < b → (i % b ≢ 0) → round_up i b ≡ i + (b - i % b)
up_more i b h n =
    let e : i / b * b + i % b ≡ i = div-add-mod' i b in
    let m : i % b < b = mod-lt i (omega arith) in
    let z : 0 < i % b = omega arith in
    let q : (i / b + 1) * b ≡ i / b * b + b = rw (add-mul, one-mul) in
    let q2 : (i / b + 1 + 1) * b ≡ i / b * b + b + b = rw (add-mul, one-mul, add-mul, one-mul) in
    let d : (i + (b - 1)) / b ≡ i / b + 1 = div-eq_of_lt-le b (omega arith) (omega arith) in
    rw (up_is i b h, d, q) (omega arith)

-- ---- what `align` gives: of the rounded number what 64 bits hold
module _ (i b : ℕ) (fits : i < 2 ^ 64) where
  pub align_none : b ≤ 1 → i ≡ round_up i b % 2 ^ 64
  align_none h = rw (up_one i b h, mod-eq_of_lt fits)

  pub align_same : 1 < b → i % b ≡ 0 → i ≡ round_up i b % 2 ^ 64
  align_same h z = rw (up_same i b h z, mod-eq_of_lt fits)

pub align_more : (i b r : ℕ) → 1 < b → (i % b ≢ 0) → r ≡ (i + (b - i % b)) % 2 ^ 64 → r ≡ round_up i b % 2 ^ 64
align_more i b r h n e = rw (up_more i b h n) e

pub align_up : (i b q : ℕ) → 1 < b → q ≡ i / b + min 1 (i % b) → q * b % 2 ^ 64 ≡ round_up i b % 2 ^ 64
align_up i b q h e =
    let t : (i ≤ q * b) × (q * b < i + b) = rw e (div_ceil_times i b (omega arith)) in
    let n : (q + 1) * b ≡ q * b + b = rw (add-mul, one-mul) in
    let d : (i + (b - 1)) / b ≡ q = div-eq_of_lt-le b (omega arith) (omega arith) in
    rw (up_is i b h, d)

-- in the range that is used nothing wraps
pub align_exact : (i b : ℕ) → i + b ≤ 2 ^ 64 → i < 2 ^ 64 → round_up i b % 2 ^ 64 ≡ round_up i b
align_exact i b f g =
    ⊎_elim (λ h. rw (up_one i b h) (mod-eq_of_lt g)) (λ h. mod-eq_of_lt (lt_of_lt_of_le (up_near i b h) f)) (le_or_lt b 1)

pub ruleset align_ways = (align_none, align_up)
