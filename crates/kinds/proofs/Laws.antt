-- The ways through the code. Assumes nothing.
use Rattle.std.proofs.Common.{◌≡◌, ◌≢◌, refl, ◌∙◌, ℕ, zero, suc, ◌+◌, ◌-◌, ◌*◌, ◌/◌, ◌%◌, ◌^◌, ◌≤◌, ◌<◌, Bool, true, false, eqb, arith, lit<, one-mul, to_z, lt-ltb, le-ltb}
use Rattle.std.specs.Int.{w16}
use Rattle.std.proofs.Math.Pow.{shl_exact}
use Rattle.util.specs.Pick.{pick}
use Rattle.kinds.specs.declared.Place.{Place}
use Rattle.kinds.specs.declared.Place.TheVariants.{In, Absolute, Nowhere, Other}
use Rattle.kinds.specs.Flags.{permissions_by}
use Rattle.kinds.specs.Symbol.{zero_place, place_by}

-- ---- alignment
-- a power of a code is not cut off
pub shifted : (n : ℕ) → 1 ≤ n → n ≤ 14 → 1 * 2 ^ (n - 1) % 2 ^ 32 ≡ 2 ^ (n - 1)
shifted n a b = shl_exact {a = 1} 1 (n - 1) 32 (lit< tt) (omega arith) ∙ one-mul _

-- ---- places by the field's sixteen bits
module _ (class value : ℕ) where
  pub place_zero : (n : ℕ) (x : Place) → n ≡ 0 → x ≡ zero_place class value → x ≡ place_by (to_z w16 n) class value
  unfolding place_by
  place_zero n x z e = rw z e

  pub place_in : (n : ℕ) → 1 ≤ n → n < 0x8000 → In n ≡ place_by (to_z w16 n) class value
  unfolding place_by
  place_in zero z h = absurd (omega arith)
  place_in (suc n) z h = rw (lt-ltb (suc n) 0x8000 h)

  pub place_absolute : (n : ℕ) → n ≡ 0xFFFF → Absolute ≡ place_by (to_z w16 n) class value
  unfolding place_by
  place_absolute n z = rw z

  pub place_nowhere : (n : ℕ) → n ≡ 0xFFFE → eqb class 103 ≡ true → Nowhere ≡ place_by (to_z w16 n) class value
  unfolding place_by pick
  place_nowhere n z e = rw (z, e)

  pub place_no_file : (n : ℕ) → n ≡ 0xFFFE → eqb class 103 ≡ false → Other ≡ place_by (to_z w16 n) class value
  unfolding place_by pick
  place_no_file n z e = rw (z, e)

  pub place_other : (n : ℕ) → 0x8000 ≤ n → n < 2 ^ 16 → (n ≢ 0xFFFF) → (n ≢ 0xFFFE) → Other ≡ place_by (to_z w16 n) class value
  unfolding place_by
  place_other n h k a b =
      let e : 65536 - suc n ≡ suc (suc (65533 - n)) = omega arith in
      rw (le-ltb n 0x8000 h, e)

pub ruleset places = (place_zero, place_in, place_absolute, place_nowhere, place_no_file, place_other)

-- ---- permissions: a binary digit times its weight
digit : (d k : ℕ) → d < 2 → d * k ≡ pick (eqb d 1) k 0
unfolding pick
digit zero k h = omega arith
digit (suc zero) k h = omega arith
digit (suc (suc d)) k h = absurd (omega arith)

pub permissions_sum : (x : ℕ) → x / 0x40000000 % 2 + x / 0x80000000 % 2 * 2 + x / 0x20000000 % 2 * 4 ≡ permissions_by x
unfolding permissions_by
permissions_sum x =
    let a = digit (x / 0x40000000 % 2) 1 (omega arith) in
    let b = digit (x / 0x80000000 % 2) 2 (omega arith) in
    let c = digit (x / 0x20000000 % 2) 4 (omega arith) in
    omega arith
