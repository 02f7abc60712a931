-- UTF-8 from the characters' numbers: RFC 3629, section 3. That its grammar takes just this: `EncodingLaws`.
use Rattle.std.specs.Prelude.{Bool, true, ◌&&◌, ◌||◌, List, [], ◌∷◌, ◌++◌, ℕ, ◌+◌, ◌/◌, ◌%◌, ltb, leb}
use Rattle.util.specs.Pick.{pick}

-- a character's number: up to 10FFFF, without the surrogates
abbrev pub is_character : ℕ → Bool
is_character n = ltb n 0xD800 || (leb 0xE000 n && leb n 0x10FFFF)

-- its bytes: six bits in each behind the first, the highest first, in as few as there may be
unfoldable pub encode : ℕ → List ℕ
encode n =
    pick (ltb n 0x80) (n ∷ [])
    (pick (ltb n 0x800) ((0xC0 + n / 64) ∷ (0x80 + n % 64) ∷ [])
    (pick (ltb n 0x10000) ((0xE0 + n / 4096) ∷ (0x80 + n / 64 % 64) ∷ (0x80 + n % 64) ∷ []) ((0xF0 + n / 262144) ∷ (0x80 + n / 4096 % 64) ∷ (0x80 + n / 64 % 64) ∷ (0x80 + n % 64) ∷ [])))

-- of a text, and whether it is one of characters alone
unfoldable pub encode_all : List ℕ → List ℕ
encode_all [] = []
encode_all (n ∷ ns) = encode n ++ encode_all ns

unfoldable pub all_characters : List ℕ → Bool
all_characters [] = true
all_characters (n ∷ ns) = is_character n && all_characters ns
