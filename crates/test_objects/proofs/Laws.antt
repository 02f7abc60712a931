-- What the proofs of this program cite.
use mathlib.Core.Path.{◌≡◌, sym}
use mathlib.Core.List.{List}
use Prim.Native.Nat.{ℕ, ◌≤◌}
use lib.ListN.{length, length-replicate, replicate, take}
use lib.Seq.{length-take-le}
use native.Mathlib.Omega.{arith}

-- an array of n times the same byte has n bytes
pub same_long : (n v : ℕ) → n ≡ length (replicate {A = ℕ} n v)
same_long n v = sym (length-replicate n v)

-- and a part that lies within it has the length that it was asked for
pub same_part : (n m v : ℕ) → n ≤ m → n ≡ length (take n (replicate {A = ℕ} m v))
same_part n m v le = sym (length-take-le n (replicate m v) (omega (arith, same_long m v, le)))
