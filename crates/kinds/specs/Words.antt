-- The words and numbers that document 01 has for each kind and place (01, "Records"; the program prints those of the kinds).
use Rattle.std.specs.Prelude.{◌≡◌, refl, ◌&&◌, List, [], ◌∷◌, ℕ, zero, suc, ℤ, pos, negsuc, eqb}
use Rattle.std.proofs.Common.{⊎_elim}
use Rattle.std.proofs.Math.Option.{Option, none, some}
use Rattle.util.specs.Pick.{pick, yes_no}
use Rattle.kinds.specs.Symbol.{zero_place, place_by}
use Rattle.kinds.specs.declared.SymbolKind.{SymbolKind}
use Rattle.kinds.specs.declared.SymbolKind.TheVariants as kinds
use Rattle.kinds.specs.declared.Place.{Place}
use Rattle.kinds.specs.declared.Place.TheVariants as places
use Rattle.kinds.specs.declared.RelocationKind.{RelocationKind}
use Rattle.kinds.specs.declared.RelocationKind.TheVariants as relocations

-- ---- words, as their bytes
-- text
abbrev pub TEXT : List ℕ
TEXT = 0x74 ∷ 0x65 ∷ 0x78 ∷ 0x74 ∷ []

-- data
abbrev pub DATA : List ℕ
DATA = 0x64 ∷ 0x61 ∷ 0x74 ∷ 0x61 ∷ []

-- section
abbrev pub SECTION : List ℕ
SECTION = 0x73 ∷ 0x65 ∷ 0x63 ∷ 0x74 ∷ 0x69 ∷ 0x6F ∷ 0x6E ∷ []

-- file
abbrev pub FILE : List ℕ
FILE = 0x66 ∷ 0x69 ∷ 0x6C ∷ 0x65 ∷ []

-- label
abbrev pub LABEL : List ℕ
LABEL = 0x6C ∷ 0x61 ∷ 0x62 ∷ 0x65 ∷ 0x6C ∷ []

-- unknown
abbrev pub UNKNOWN : List ℕ
UNKNOWN = 0x75 ∷ 0x6E ∷ 0x6B ∷ 0x6E ∷ 0x6F ∷ 0x77 ∷ 0x6E ∷ []

-- undefined
abbrev pub UNDEFINED : List ℕ
UNDEFINED = 0x75 ∷ 0x6E ∷ 0x64 ∷ 0x65 ∷ 0x66 ∷ 0x69 ∷ 0x6E ∷ 0x65 ∷ 0x64 ∷ []

-- common
abbrev pub COMMON : List ℕ
COMMON = 0x63 ∷ 0x6F ∷ 0x6D ∷ 0x6D ∷ 0x6F ∷ 0x6E ∷ []

-- absolute
abbrev pub ABSOLUTE : List ℕ
ABSOLUTE = 0x61 ∷ 0x62 ∷ 0x73 ∷ 0x6F ∷ 0x6C ∷ 0x75 ∷ 0x74 ∷ 0x65 ∷ []

-- none
abbrev pub NONE : List ℕ
NONE = 0x6E ∷ 0x6F ∷ 0x6E ∷ 0x65 ∷ []

-- image offset
abbrev pub IMAGE_OFFSET : List ℕ
IMAGE_OFFSET = 0x69 ∷ 0x6D ∷ 0x61 ∷ 0x67 ∷ 0x65 ∷ 0x20 ∷ 0x6F ∷ 0x66 ∷ 0x66 ∷ 0x73 ∷ 0x65 ∷ 0x74 ∷ []

-- section offset
abbrev pub SECTION_OFFSET : List ℕ
SECTION_OFFSET = 0x73 ∷ 0x65 ∷ 0x63 ∷ 0x74 ∷ 0x69 ∷ 0x6F ∷ 0x6E ∷ 0x20 ∷ 0x6F ∷ 0x66 ∷ 0x66 ∷ 0x73 ∷ 0x65 ∷ 0x74 ∷ []

-- relative
abbrev pub RELATIVE : List ℕ
RELATIVE = 0x72 ∷ 0x65 ∷ 0x6C ∷ 0x61 ∷ 0x74 ∷ 0x69 ∷ 0x76 ∷ 0x65 ∷ []

-- not carried
abbrev pub NOT_CARRIED : List ℕ
NOT_CARRIED = 0x6E ∷ 0x6F ∷ 0x74 ∷ 0x20 ∷ 0x63 ∷ 0x61 ∷ 0x72 ∷ 0x72 ∷ 0x69 ∷ 0x65 ∷ 0x64 ∷ []

-- ---- of each case; a kind's number is `kind_number`, a relocation kind's `relocation_kind_number`
abbrev pub kind_word : SymbolKind → List ℕ
kind_word kinds.Unknown = UNKNOWN
kind_word kinds.Text = TEXT
kind_word kinds.Data = DATA
kind_word kinds.Section = SECTION
kind_word kinds.File = FILE
kind_word kinds.Label = LABEL

-- of a symbol in a section the number is the rest of what there is to say
abbrev pub place_word : Place → List ℕ
place_word (places.In n) = SECTION
place_word places.Undefined = UNDEFINED
place_word places.Common = COMMON
place_word places.Absolute = ABSOLUTE
place_word places.Nowhere = NONE
place_word places.Other = UNKNOWN

-- the section number that a place comes from; an unknown place comes from many
abbrev pub place_number : Place → Option ℤ
place_number (places.In n) = some (pos n)
place_number places.Undefined = some (pos 0)
place_number places.Common = some (pos 0)
place_number places.Absolute = some (negsuc 0)
place_number places.Nowhere = some (negsuc 1)
place_number places.Other = none

-- as 01's table of types has it
abbrev pub relocation_kind_word : RelocationKind → List ℕ
relocation_kind_word relocations.Absolute = ABSOLUTE
relocation_kind_word relocations.ImageOffset = IMAGE_OFFSET
relocation_kind_word relocations.SectionOffset = SECTION_OFFSET
relocation_kind_word relocations.Relative = RELATIVE
relocation_kind_word relocations.NotCarried = NOT_CARRIED
relocation_kind_word relocations.Unknown = UNKNOWN

-- a place that is not unknown says the number it came from
pub place_number_lem : (z : ℤ) (class value : ℕ) → (place_by z class value ≡ places.Other → ⊥) → place_number (place_by z class value) ≡ some z
unfolding place_by zero_place pick
place_number_lem (pos zero) class value n = ⊎_elim (λ t. rw t) (λ t. rw t) (yes_no (eqb class 2 && eqb value 0))
place_number_lem (pos (suc k)) class value n = refl
place_number_lem (negsuc zero) class value n = refl
place_number_lem (negsuc (suc zero)) class value n = ⊎_elim (λ t. rw t) (λ t. absurd (n (rw t))) (yes_no (eqb class 103))
place_number_lem (negsuc (suc (suc k))) class value n = absurd (n refl)
