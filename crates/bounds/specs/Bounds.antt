-- Refusals 1 to 5: each says that the refusal of its number is not given, of the whole file (01, "Survey"). A check is asked only where those
-- before it passed; past the file a record reads as zeros.
use Rattle.std.specs.Prelude.{Bool, ◌&&◌, ◌||◌, not, List, ℕ, ◌+◌, ◌*◌, length, leb, eqb, is_ok}
use Rattle.util.specs.Prefix.{all_to, sum_to}
use Rattle.limits.specs.Limits.{MAX_FILE, MAX_SECTIONS, MAX_SYMBOLS, MAX_RELOCATIONS}
use Rattle.arch.specs.Machine.{arch_of, machine_refusal}
use Rattle.object.specs.declared.Header.{Header}
use Rattle.object.specs.Format.{HEADER_SIZE, LENGTH_SIZE, RELOCATION_SIZE, section_header_at, string_table, string_length, address_field, raw_pointer, raw_size, relocation_pointer}
use Rattle.object.specs.Section.{loaded, uninitialized, extended, relocation_records, relocation_count}
use Rattle.object.specs.Symbol.{auxiliaries_left}

-- n bytes from start lie in the file; at length 0 the start must too
abbrev pub in_file : List ℕ → ℕ → ℕ → Bool
in_file f start n = leb (start + n) (length f)

-- 1: the file has a header, and is not too large
unfoldable pub size_ok : List ℕ → Bool
size_ok f = leb HEADER_SIZE (length f) && leb (length f) MAX_FILE

-- 2: the header's machine is i386 or x64
abbrev pub machine_ok : Header → Bool
machine_ok h = is_ok (machine_refusal (arch_of h.machine))

-- 3: not too many sections, and their table lies in the file
unfoldable pub section_table_ok : List ℕ → Header → Bool
section_table_ok f h = leb h.sections MAX_SECTIONS && leb (section_header_at h h.sections) (length f)

-- the string table, which has at least its own length, lies in the file, and with it the symbols before it
unfoldable pub strings_ok : List ℕ → Header → Bool
strings_ok f h = in_file f (string_table h) LENGTH_SIZE && (leb LENGTH_SIZE (string_length f h) && in_file f (string_table h) (string_length f h))

-- 4: not too many symbol records, no auxiliary record past their end, and both tables in the file; without symbols there is nothing to check
unfoldable pub symbol_table_ok : List ℕ → Header → Bool
symbol_table_ok f h = eqb h.symbol_table 0 || (leb h.symbols MAX_SYMBOLS && (strings_ok f h && eqb (auxiliaries_left f h h.symbols) 0))

-- the bytes of an initialised section lie in the file
unfoldable pub bytes_ok : List ℕ → Header → ℕ → Bool
bytes_ok f h i = uninitialized f h i || in_file f (raw_pointer f h i) (raw_size f h i)

-- of a loaded section: it has no virtual address, and its bytes lie in the file
unfoldable pub data_ok : List ℕ → Header → ℕ → Bool
data_ok f h i = not (loaded f h i) || (eqb (address_field f h i) 0 && bytes_ok f h i)

-- its relocations lie in the file, loaded or not, and an extended count is not 0
unfoldable pub relocations_ok : List ℕ → Header → ℕ → Bool
relocations_ok f h i =
    in_file f (relocation_pointer f h i) (RELOCATION_SIZE * relocation_records f h i)
    && not (extended f h i && eqb (relocation_records f h i) 0)

-- how many relocations the file has, passed ones too
abbrev pub relocation_total : List ℕ → Header → ℕ
relocation_total f h = sum_to (relocation_count f h) h.sections

-- 5, of section i
abbrev pub section_ok : List ℕ → Header → ℕ → Bool
section_ok f h i = data_ok f h i && relocations_ok f h i

-- 5, of all sections, and of how many relocations they have together
unfoldable pub sections_ok : List ℕ → Header → Bool
sections_ok f h = all_to (section_ok f h) h.sections && leb (relocation_total f h) MAX_RELOCATIONS
