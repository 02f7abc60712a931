-- A name's key: its first bytes as one number.
use Rattle.std.proofs.Common.{Ordering, Less, Greater}
use Rattle.std.specs.Prelude.{List, [], ◌∷◌, ℕ, zero, suc, ◌+◌, ◌*◌, ◌^◌, ltb}
use Rattle.util.specs.Pick.{pick}

-- the first k bytes, the first byte highest; zeros where the name is shorter
unfoldable pub key : ℕ → List ℕ → ℕ
key zero s = 0
key (suc k) [] = 0
key (suc k) (x ∷ xs) = x * 256 ^ k + key k xs

-- as many as a number of 64 bits holds
abbrev pub KEY_BYTES : ℕ
KEY_BYTES = 8

-- less, greater, or else what is given
abbrev pub order_by : ℕ → ℕ → Ordering → Ordering
order_by x y o = pick (ltb x y) Less (pick (ltb y x) Greater o)
