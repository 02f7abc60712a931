-- What the proofs of this program cite.
use mathlib.Core.Path.{◌≡◌, sym}
use Prim.Native.Nat.{ℕ, ◌≤◌, ◌<◌, ◌*◌}
use lib.ListN.{length, length-replicate, replicate}
use native.Mathlib.Nat.{mul-le-mul_right}
use native.Mathlib.Omega.{arith}

-- the product of two numbers of 16 bits
pub product_most : (a b : ℕ) → a < 65536 → b < 65536 → a * b ≤ 4294836225
product_most a b p q =
    let h : a ≤ 65535 = omega arith in
    let l : a * b ≤ 65535 * b = mul-le-mul_right b h in
    omega arith

-- a buffer of n zeros has n bytes
pub zeros_long : (n : ℕ) → n ≡ length (replicate {A = ℕ} n 0)
zeros_long n = sym (length-replicate n 0)
