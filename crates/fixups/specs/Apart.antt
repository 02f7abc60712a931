-- Refusal 23: two fixups share a byte (02, N6). Places are offsets from the base, so that a byte is one of the image.
use Rattle.std.specs.Prelude.{ℕ, ◌+◌, ◌/◌, ◌<◌, ◌≤◌, min, max, Bool, true, not, ◌&&◌, List, [], ◌∷◌, nat_lt}
use Rattle.fixups.specs.declared.Fix.{Fix}

-- behind the last byte that a fixup covers
abbrev pub end_of : Fix → ℕ
end_of x = x.place.0 + x.bits / 8

-- it covers the byte at an offset
pub record Covers (x : Fix) (a : ℕ) : Type 0 where
  pub from : x.place.0 ≤ a
  pub to : a < end_of x

-- two share a byte: the later start lies before the earlier end (`share-byte`, `byte-shared`)
abbrev pub share : Fix → Fix → Bool
share x y = nat_lt (max x.place.0 y.place.0) (min (end_of x) (end_of y))

-- one shares no byte with any of a list
unfoldable pub apart_from : Fix → List Fix → Bool
apart_from x [] = true
apart_from x (y ∷ ys) = not (share x y) && apart_from x ys

-- no two of a list share a byte
unfoldable pub all_apart : List Fix → Bool
all_apart [] = true
all_apart (x ∷ xs) = apart_from x xs && all_apart xs
