-- What the proofs of this program cite.
use mathlib.Core.Path.{◌≡◌, sym}
use mathlib.Core.List.{List}
use Prim.Native.Nat.{ℕ, ◌≤◌}
use lib.ListN.{length, take}
use lib.Seq.{length-take-le}
use native.Mathlib.Omega.{arith}

-- a part that lies within a buffer has the length that it was asked for
pub part_long : (n m : ℕ) (xs : List ℕ) → m ≡ length xs → n ≤ m → n ≡ length (take n xs)
part_long n m xs is le = sym (length-take-le n xs (omega arith))
