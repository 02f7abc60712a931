-- What a character's first byte says of it, as the code tells it. That it is what the rows say: `FirstLaws`.
use Rattle.std.specs.Prelude.{◌&&◌, ℕ, ltb, eqb}
use Rattle.util.specs.Pick.{pick}
use Rattle.utf8.specs.Utf8.{Range, from, holds, TAIL}

-- the least second byte: behind E0 and F0 a lower one would make the character longer than it need be
unfoldable pub second_low : ℕ → ℕ
second_low a = pick (eqb a 0xE0) 0xA0 (pick (eqb a 0xF0) 0x90 0x80)

-- the greatest: behind ED the surrogates begin, behind F4 what is past U+10FFFF
unfoldable pub second_high : ℕ → ℕ
second_high a = pick (eqb a 0xED) 0x9F (pick (eqb a 0xF4) 0x8F 0xBF)

-- the second bytes that may stand behind a
abbrev pub SECOND : ℕ → Range
SECOND a = from (second_low a) (second_high a)

-- the length of the character that begins with these bytes, 0 where none does: of two bytes
unfoldable pub two_by : ℕ → ℕ
two_by b = pick (holds TAIL b) 2 0

-- of three
unfoldable pub three_by : ℕ → ℕ → ℕ → ℕ
three_by a b c = pick (holds (SECOND a) b && holds TAIL c) 3 0

-- of four
unfoldable pub four_by : ℕ → ℕ → ℕ → ℕ → ℕ
four_by a b c d = pick (ltb a 0xF5 && (holds (SECOND a) b && (holds TAIL c && holds TAIL d))) 4 0

-- of any number but one
unfoldable pub long_by : ℕ → ℕ → ℕ → ℕ → ℕ
long_by a b c d = pick (ltb a 0xC2) 0 (pick (ltb a 0xE0) (two_by b) (pick (ltb a 0xF0) (three_by a b c) (four_by a b c d)))
