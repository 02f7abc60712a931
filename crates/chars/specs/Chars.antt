-- What a name may hold, and how far such characters go from a place (01, "Records"; 02, N5).
use Rattle.std.specs.Prelude.{Bool, ◌&&◌, ◌||◌, not, List, ℕ, zero, suc, ◌+◌, ◌-◌, leb, eqb, length, get_or, drop}
use Rattle.util.specs.Pick.{pick}
use Rattle.util.specs.Prefix.{all_to}
use Rattle.utf8.specs.Utf8.{long_length, well_formed}

-- a byte of a section's name: 0x21 to 0x7E
abbrev pub visible : ℕ → Bool
visible b = leb 0x21 b && leb b 0x7E

-- each of them is such a byte
abbrev pub all_visible : List ℕ → Bool
all_visible s = all_to (λ k. visible (get_or s k 0)) (length s)

-- the rule for a section's name, on its bytes: it may be empty
unfoldable pub good_section_name : List ℕ → Bool
good_section_name s = all_visible s

-- a byte of a symbol's name: none below 0x21, and not 0x7F
abbrev pub allowed : ℕ → Bool
allowed b = leb 0x21 b && not (eqb b 0x7F)

abbrev pub all_allowed : List ℕ → Bool
all_allowed s = all_to (λ k. allowed (get_or s k 0)) (length s)

-- the rule for a symbol's name: it may not be empty, and is well-formed UTF-8 of such bytes
unfoldable pub good_symbol_name : List ℕ → Bool
good_symbol_name s = not (eqb (length s) 0) && (well_formed s && all_allowed s)

-- ---- character by character; `section` says whose name it is, a section's or a symbol's
-- how many bytes the character at place i has; 0 where such a name can have none there
unfoldable pub char_at : Bool → List ℕ → ℕ → ℕ
char_at section t i = pick (visible (get_or t i 0)) 1 (pick section 0 (long_length (drop i t)))

-- behind the characters that follow one another from place i on and begin before e; n is no less than their number
unfoldable pub walk_to : Bool → List ℕ → ℕ → ℕ → ℕ → ℕ
walk_to section t e i zero = i
walk_to section t e i (suc n) = pick (leb e i || eqb (char_at section t i) 0) i (walk_to section t e (i + char_at section t i) n)

-- there are no more of them than places
abbrev pub walk : Bool → List ℕ → ℕ → ℕ → ℕ
walk section t e i = walk_to section t e i (e - i)

-- where the characters from place i on stop
abbrev pub stop : Bool → List ℕ → ℕ → ℕ
stop section t i = walk section t (length t) i

-- ---- how many bytes one look takes
abbrev pub EIGHT : ℕ
EIGHT = 8

-- how many must be left for it
abbrev pub ENOUGH : ℕ
ENOUGH = 16

-- the least first byte of a character of several bytes
abbrev pub FIRST : ℕ
FIRST = 0xC2
