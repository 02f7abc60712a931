-- Kind and place of a symbol by the numbers of its record (01, "Records"; PE/COFF, "COFF Symbol Table").
use Rattle.std.specs.Prelude.{◌≡◌, refl, Bool, ◌&&◌, ◌||◌, not, ℕ, zero, suc, ◌-◌, ◌/◌, ◌%◌, ℤ, pos, negsuc, eqb, ltb}
use Rattle.std.proofs.Common.{⊎_elim, to_z}
use Rattle.std.specs.Int.{w16}
use Rattle.util.specs.Pick.{pick, yes_no}
use Rattle.kinds.specs.declared.SymbolKind.{SymbolKind}
use Rattle.kinds.specs.declared.SymbolKind.TheVariants.{Unknown, Text, Data, Section, File, Label}
use Rattle.kinds.specs.declared.Place.{Place}
use Rattle.kinds.specs.declared.Place.TheVariants.{In, Undefined, Common, Absolute, Nowhere, Other}

-- ---- storage classes (PE/COFF, "Storage Class")
-- an external symbol: defined here for other objects, or in one of them for this
abbrev pub CLASS_EXTERNAL : ℕ
CLASS_EXTERNAL = 2

-- a name of this object alone; with value 0 and auxiliary records it is a section's
abbrev pub CLASS_STATIC : ℕ
CLASS_STATIC = 3

-- a label in code
abbrev pub CLASS_LABEL : ℕ
CLASS_LABEL = 6

-- the source file's name, in auxiliary records
abbrev pub CLASS_FILE : ℕ
CLASS_FILE = 103

-- a section's definition; Microsoft's tools write class 3 instead
abbrev pub CLASS_SECTION : ℕ
CLASS_SECTION = 104

-- a weak external symbol, whose auxiliary record names a substitute
abbrev pub CLASS_WEAK_EXTERNAL : ℕ
CLASS_WEAK_EXTERNAL = 105

-- ---- kind
-- a function's type: bits 4 and 5 hold 2
unfoldable pub is_function : ℕ → Bool
is_function type = eqb (type / 16 % 4) 2

-- class 2 and 105: text if the type is a function's, else data
unfoldable pub code_or_data : ℕ → SymbolKind
code_or_data type = pick (is_function type) Text Data

-- class 3 is a section if its value is 0 and it has auxiliary records, else as class 2
unfoldable pub static_kind : ℕ → ℕ → ℕ → SymbolKind
static_kind type value auxiliary = pick (eqb value 0 && not (eqb auxiliary 0)) Section (code_or_data type)

-- by class, type, value and number of auxiliary records; any other class is unknown
unfoldable pub kind_by : ℕ → ℕ → ℕ → ℕ → SymbolKind
kind_by class type value auxiliary =
    pick (eqb class CLASS_EXTERNAL || eqb class CLASS_WEAK_EXTERNAL) (code_or_data type)
    (pick (eqb class CLASS_STATIC) (static_kind type value auxiliary)
    (pick (eqb class CLASS_SECTION) Section
    (pick (eqb class CLASS_FILE) File
    (pick (eqb class CLASS_LABEL) Label
    Unknown))))

-- ---- place, by the signed section number
-- number 0: undefined if class 2 with value 0, else common
unfoldable pub zero_place : ℕ → ℕ → Place
zero_place class value = pick (eqb class CLASS_EXTERNAL && eqb value 0) Undefined Common

-- positive: that section; 0: undefined or common; -1: absolute; -2: none, for class 103; any other: unknown
unfoldable pub place_by : ℤ → ℕ → ℕ → Place
place_by (pos zero) class value = zero_place class value
place_by (pos (suc n)) class value = In (suc n)
place_by (negsuc zero) class value = Absolute
place_by (negsuc (suc zero)) class value = pick (eqb class CLASS_FILE) Nowhere Other
place_by (negsuc (suc (suc n))) class value = Other

-- the number of a place's section, 0 outside the sections
abbrev pub place_section : Place → ℕ
place_section (In n) = n
place_section Undefined = 0
place_section Common = 0
place_section Absolute = 0
place_section Nowhere = 0
place_section Other = 0

section_negative : (k class value : ℕ) → place_section (place_by (negsuc k) class value) ≡ 0
unfolding place_by pick
section_negative zero class value = refl
section_negative (suc zero) class value = ⊎_elim (λ t. rw t) (λ t. rw t) (yes_no (eqb class CLASS_FILE))
section_negative (suc (suc k)) class value = refl

section_positive : (n class value : ℕ) → place_section (place_by (pos n) class value) ≡ n
unfolding place_by zero_place pick
section_positive zero class value = ⊎_elim (λ t. rw t) (λ t. rw t) (yes_no (eqb class CLASS_EXTERNAL && eqb value 0))
section_positive (suc n) class value = refl

-- a number as its sixteen bits stand in the record is a section's from 1 to 0x7FFF, and no other is
pub section_by : (n class value : ℕ) → place_section (place_by (to_z w16 n) class value) ≡ pick (ltb n 0x8000) n 0
unfolding pick
section_by n class value =
    ⊎_elim (λ t. rw t (section_positive n class value)) (λ t. rw t (section_negative (0x10000 - suc n) class value)) (yes_no (ltb n 0x8000))

-- ---- listing
-- the value that a listing adds: of class 2, 3, 6 or 105, else 0
unfoldable pub listed_by : ℕ → ℕ → ℕ
listed_by class value = pick (eqb class CLASS_EXTERNAL || (eqb class CLASS_STATIC || (eqb class CLASS_LABEL || eqb class CLASS_WEAK_EXTERNAL))) value 0

-- ---- numbers
-- the number that the tables have for a kind
abbrev pub kind_number : SymbolKind → ℕ
kind_number Unknown = 0
kind_number Text = 1
kind_number Data = 2
kind_number Section = 3
kind_number File = 4
kind_number Label = 5

-- the kind that a number of the tables has; a number that is no kind's is unknown
unfoldable pub kind_numbered : ℕ → SymbolKind
kind_numbered n = pick (eqb n 1) Text (pick (eqb n 2) Data (pick (eqb n 3) Section (pick (eqb n 4) File (pick (eqb n 5) Label Unknown))))

pub kind_is : (k : SymbolKind) → kind_numbered (kind_number k) ≡ k
unfolding kind_numbered pick
kind_is Unknown = refl
kind_is Text = refl
kind_is Data = refl
kind_is Section = refl
kind_is File = refl
kind_is Label = refl
