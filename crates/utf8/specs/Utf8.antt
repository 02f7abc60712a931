-- Well-formed UTF-8: the grammar of byte sequences of RFC 3629, section 4, a row for each of its lines.
use Rattle.std.specs.Prelude.{Bool, true, false, ◌&&◌, List, [], ◌∷◌, ℕ, zero, suc, ◌-◌, leb, eqb, length}
use Rattle.util.specs.Pick.{pick}

-- the bytes from a lowest to a highest
pub data Range : Type 0 where
  from : ℕ → ℕ → Range

abbrev pub holds : Range → ℕ → Bool
holds (from low high) b = leb low b && leb b high

-- UTF8-tail
abbrev pub TAIL : Range
TAIL = from 0x80 0xBF

-- UTF8-1: the ranges of a character's bytes, first to last
abbrev pub ONE : List Range
ONE = from 0x00 0x7F ∷ []

-- UTF8-2, the four of UTF8-3, the three of UTF8-4
unfoldable pub long_rows : List (List Range)
long_rows =
    (from 0xC2 0xDF ∷ TAIL ∷ [])
    ∷ (from 0xE0 0xE0 ∷ from 0xA0 0xBF ∷ TAIL ∷ [])
    ∷ (from 0xE1 0xEC ∷ TAIL ∷ TAIL ∷ [])
    ∷ (from 0xED 0xED ∷ from 0x80 0x9F ∷ TAIL ∷ [])
    ∷ (from 0xEE 0xEF ∷ TAIL ∷ TAIL ∷ [])
    ∷ (from 0xF0 0xF0 ∷ from 0x90 0xBF ∷ TAIL ∷ TAIL ∷ [])
    ∷ (from 0xF1 0xF3 ∷ TAIL ∷ TAIL ∷ TAIL ∷ [])
    ∷ (from 0xF4 0xF4 ∷ from 0x80 0x8F ∷ TAIL ∷ TAIL ∷ [])
    ∷ []

-- s begins with a byte of each of these ranges, in their order
unfoldable pub begins : List Range → List ℕ → Bool
begins [] s = true
begins (r ∷ rs) [] = false
begins (r ∷ rs) (b ∷ s) = holds r b && begins rs s

-- how many bytes the character has that s begins with, by these rows; 0 where it begins with none
unfoldable pub length_in : List (List Range) → List ℕ → ℕ
length_in [] s = 0
length_in (row ∷ rows) s = pick (begins row s) (length row) (length_in rows s)

-- UTF8-char
abbrev pub char_length : List ℕ → ℕ
char_length s = length_in (ONE ∷ long_rows) s

-- the same of characters of two to four bytes alone
abbrev pub long_length : List ℕ → ℕ
long_length s = length_in long_rows s

-- UTF8-octets: behind k bytes that belong to a character, characters alone, to the end
unfoldable pub octets : ℕ → List ℕ → Bool
octets zero [] = true
octets (suc k) [] = false
octets (suc k) (b ∷ s) = octets k s
octets zero (b ∷ s) = pick (eqb (char_length (b ∷ s)) 0) false (octets (char_length (b ∷ s) - 1) s)

-- nothing but characters
abbrev pub well_formed : List ℕ → Bool
well_formed s = octets 0 s
