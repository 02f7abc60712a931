-- What holds of every alignment (01, "Layout, slots and fixups").
use Rattle.std.specs.Prelude.{◌≡◌, ◌&&◌, ℕ, ◌-◌, ◌^◌, ◌≤◌, leb}
use Rattle.std.proofs.Common.{⊎_elim, arith, leb-true}
use Rattle.std.proofs.Math.Nat.{pow-le-pow_right}
use Rattle.util.specs.Pick.{pick, yes_no, and_right}
use Rattle.kinds.specs.Flags.{align_of}

-- a power of two up to 2 ^ 13
pub record PowerOfTwo (a : ℕ) : Type 0 where
  pub exponent : ℕ
  pub power : a ≡ 2 ^ exponent
  pub small : exponent ≤ 13

-- every code's alignment is one
pub align_power : (n : ℕ) → PowerOfTwo (align_of n)
unfolding align_of pick
align_power n =
    ⊎_elim
    (λ e. let l = leb-true n 14 (and_right (leb 1 n) (leb n 14) e) in record { exponent = n - 1; power = rw e; small = omega arith })
    (λ e. record { exponent = 4; power = rw e; small = omega arith })
    (yes_no (leb 1 n && leb n 14))

-- it is at least 1
pub align_not_zero : (n : ℕ) → 1 ≤ align_of n
align_not_zero n =
    let p = align_power n in
    let a : 2 ^ 0 ≤ 2 ^ p.exponent = pow-le-pow_right {n = 2} (omega arith) {i = 0} {j = p.exponent} (omega arith) in
    let e = p.power in
    omega arith

-- and at most 8,192
pub align_most : (n : ℕ) → align_of n ≤ 8192
align_most n =
    let p = align_power n in
    let s = p.small in
    let a : 2 ^ p.exponent ≤ 2 ^ 13 = pow-le-pow_right {n = 2} (omega arith) {i = p.exponent} {j = 13} (omega arith) in
    let e = p.power in
    omega arith
