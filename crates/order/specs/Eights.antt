-- Two texts compared eight bytes at a time: what the steps of `compare` promise each other.
use Rattle.std.specs.Prelude.{◌≡◌, Bool, true, List, ℕ, zero, suc, ◌/◌, ◌%◌, ◌<◌, drop}
use Rattle.le.specs.Le.{get}
use Rattle.names.specs.Bytes.{compare_bytes, up_to_zero}

-- none of the n low bytes of x is zero
unfoldable pub NoZeros : ℕ → ℕ → Type 0
NoZeros zero x = Unit {0}
NoZeros (suc n) x = (0 < x % 256) × NoZeros n (x / 256)

-- a test that says yes only then
pub record Clean (x : ℕ) (r : Bool) : Type 0 where
  pub clean : r ≡ true → NoZeros 8 x

-- the same of the eight bytes at i of both, which are equal then
pub record Alike (a b : List ℕ) (i : ℕ) (r : Bool) : Type 0 where
  pub same : r ≡ true → get 8 a i ≡ get 8 b i
  pub clean : r ≡ true → NoZeros 8 (get 8 a i)

-- what stands from i on decides
pub record Ahead (a b : List ℕ) (i : ℕ) : Type 0 where
  pub on : compare_bytes (up_to_zero (drop i a)) (up_to_zero (drop i b)) ≡ compare_bytes (up_to_zero a) (up_to_zero b)
