-- Bytes as text: where a run ends, decimal digits, and the order of two names (01, "Records").
use Rattle.std.proofs.Common.{Ordering, Less, Equal, Greater}
use Rattle.std.specs.Prelude.{Bool, true, false, ◌&&◌, List, [], ◌∷◌, ℕ, zero, suc, ◌+◌, ◌-◌, ◌*◌, length, get_or, ltb, leb, eqb}
use Rattle.util.specs.Pick.{pick}
use Rattle.util.specs.Prefix.{all_to}

-- how many of the n bytes of f from i stand before the first zero: n where there is none
unfoldable pub run : List ℕ → ℕ → ℕ → ℕ
run f i zero = 0
run f i (suc n) = pick (eqb (get_or f i 0) 0) 0 (suc (run f (i + 1) n))

-- the bytes before the first zero, or all
unfoldable pub up_to_zero : List ℕ → List ℕ
up_to_zero [] = []
up_to_zero (x ∷ xs) = pick (eqb x 0) [] (x ∷ up_to_zero xs)

-- ---- decimal digits
abbrev pub is_digit : ℕ → Bool
is_digit b = leb 0x30 b && leb b 0x39

-- each byte is a digit
abbrev pub all_digits : List ℕ → Bool
all_digits s = all_to (λ k. is_digit (get_or s k 0)) (length s)

-- the number that the first n digits say
unfoldable pub decimal_to : List ℕ → ℕ → ℕ
decimal_to s zero = 0
decimal_to s (suc n) = 10 * decimal_to s n + (get_or s n 0 - 0x30)

-- and that all of them do
abbrev pub decimal : List ℕ → ℕ
decimal s = decimal_to s (length s)

-- ---- the order of two names: by the first byte that differs, as unsigned numbers; a prefix comes first
unfoldable pub compare_bytes : List ℕ → List ℕ → Ordering
compare_bytes [] [] = Equal
compare_bytes [] (y ∷ ys) = Less
compare_bytes (x ∷ xs) [] = Greater
compare_bytes (x ∷ xs) (y ∷ ys) = pick (ltb x y) Less (pick (ltb y x) Greater (compare_bytes xs ys))

-- equality of two names
unfoldable pub are_same_bytes : List ℕ → List ℕ → Bool
are_same_bytes [] [] = true
are_same_bytes [] (y ∷ ys) = false
are_same_bytes (x ∷ xs) [] = false
are_same_bytes (x ∷ xs) (y ∷ ys) = eqb x y && are_same_bytes xs ys

-- the name of the section that holds the extern slots
abbrev pub UNDEF : List ℕ
UNDEF = 0x55 ∷ 0x4E ∷ 0x44 ∷ 0x45 ∷ 0x46 ∷ []
