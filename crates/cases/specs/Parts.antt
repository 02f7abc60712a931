-- The front of a buffer, as it is lent: what the proofs of the test programs cite.
use Rattle.std.specs.Prelude.{◌≡◌, ℕ, ◌≤◌, List, length, take, replicate}
use Rattle.std.proofs.Common.{sym, length-take-le, arith}
use Rattle.std.proofs.lemmas.List.{length-replicate}

-- a part that lies within a buffer has the length that it was asked for
pub part_long : (n m : ℕ) (xs : List ℕ) → m ≡ length xs → n ≤ m → n ≡ length (take n xs)
part_long n m xs is le = sym (length-take-le n xs (omega arith))

-- and so has a part of a buffer of bytes that are all alike
pub alike_part : (n m v : ℕ) → n ≤ m → n ≡ length (take n (replicate {A = ℕ} m v))
alike_part n m v le = part_long n m (replicate m v) (sym (length-replicate m v)) le
