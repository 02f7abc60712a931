-- Names by the noted stops. With the words of the file itself they are those of the rule (`NameLaws`). `section` says whose name it is: a section's may be empty.
use Rattle.names.specs.declared.Name.{Name}
use Rattle.names.specs.Name.{good_name}
use Rattle.std.specs.Prelude.{Bool, true, false, ◌&&◌, ◌||◌, List, ℕ, ◌+◌, ◌-◌, ltb, leb, eqb, get_or, None, Option, Some}
use Rattle.util.specs.Pick.{pick}
use Rattle.le.specs.Le.{get, part}
use Rattle.chars.specs.Chars.{stop}
use Rattle.object.specs.declared.Header.{Header}
use Rattle.object.specs.Format.{NAME_SIZE, LONG_OFFSET_AT, LENGTH_SIZE, section_header_at, symbol_record_at, string_table, string_length}
use Rattle.names.specs.Name.{SLASH, slash_offset}
use Rattle.stops.specs.Stops.{strings, stop_by}

-- in a table that says it has n bytes a name at offset o may end at s: there is a zero within them, behind o, or at o where a name may be empty
unfoldable pub may_end : List ℕ → ℕ → Bool → ℕ → ℕ → Bool
may_end t n section o s = leb LENGTH_SIZE o && (ltb s n && (eqb (get_or t s 0) 0 && (ltb o s || (section && eqb o s))))

-- the long name at offset o whose characters stop at s
abbrev pub long_to : List ℕ → Header → Bool → ℕ → ℕ → Option Name
long_to f h section o s = pick (may_end (strings f h) (string_length f h) section o s) (good_name (string_table h + o) (s - o)) None

-- the same, with s by the noted stops
abbrev pub long_by : List ℕ → Header → List ℕ → Bool → ℕ → Option Name
long_by f h stops section o = long_to f h section o (stop_by section (strings f h) stops o)

-- the bytes of a name's field, which no character goes past
abbrev pub field : List ℕ → ℕ → List ℕ
field f at = part f at NAME_SIZE

-- a name of s bytes may stand in a field: not of none unless it may be empty, and with a zero or the field's end behind them, past which a byte reads as 0
unfoldable pub field_ends : List ℕ → Bool → ℕ → Bool
field_ends t section s = (ltb 0 s || section) && eqb (get_or t s 0) 0

-- that name, if its characters stop there
abbrev pub field_to : List ℕ → Bool → ℕ → ℕ → Option Name
field_to f section at s = pick (field_ends (field f at) section s) (good_name at s) None

-- the same, with s where they do
abbrev pub field_by : List ℕ → Bool → ℕ → Option Name
field_by f section at = field_to f section at (stop section (field f at) 0)

-- the name of symbol j
unfoldable pub symbol_name_by : List ℕ → Header → List ℕ → ℕ → Option Name
symbol_name_by f h stops j =
    pick (eqb (get 4 f (symbol_record_at h j)) 0) (long_by f h stops false (get 4 f (symbol_record_at h j + LONG_OFFSET_AT)))
    (field_by f false (symbol_record_at h j))

-- a section's that begins with a slash, by its digits
unfoldable pub slash_name_by : List ℕ → Header → List ℕ → Option ℕ → Option Name
slash_name_by f h stops (Some o) = long_by f h stops true o
slash_name_by f h stops None = None

-- the name of section i
unfoldable pub section_name_by : List ℕ → Header → List ℕ → ℕ → Option Name
section_name_by f h stops i =
    pick (eqb (get_or f (section_header_at h i) 0) SLASH) (slash_name_by f h stops (slash_offset f (section_header_at h i))) (field_by f true (section_header_at h i))
