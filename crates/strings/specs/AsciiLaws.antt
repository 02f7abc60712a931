-- A string at any place is the string at an offset, at an address, and from a slice's start.
use Rattle.std.specs.Prelude.{◌≡◌, refl, true, List, ℕ, ◌+◌, ◌-◌, ◌^◌, ◌<◌, max, leb, ltb}
use Rattle.std.proofs.Common.{arith, le-leb}
use Rattle.std.proofs.Math.Bool.{and-true}
use Rattle.util.specs.Pick.{pick}
use Rattle.aspace.specs.Space.{reached}
use Rattle.strings.specs.Ascii.{ascii_of, ascii_at, ascii_from, ascii_there}

module _ (image marks : List ℕ) (minimum : ℕ) where
  pub ascii_relative : (o : ℕ) → ascii_there true image marks o minimum ≡ ascii_of image marks o minimum
  unfolding ascii_there pick
  ascii_relative o = refl

  pub ascii_absolute : (base a : ℕ) → a < 2 ^ 64 → ascii_there (reached base a 1) image marks (a - base) minimum ≡ ascii_at image marks base a minimum
  unfolding ascii_there ascii_at reached
  ascii_absolute base a h = rw (le-leb (a + max 1 1) (2 ^ 64) (omega arith), and-true (leb base a))

  pub ascii_sliced : (start offset : ℕ) → ascii_there (ltb (start + offset) (2 ^ 64)) image marks (start + offset) minimum ≡ ascii_from image marks start offset minimum
  unfolding ascii_there ascii_from
  ascii_sliced start offset = refl
