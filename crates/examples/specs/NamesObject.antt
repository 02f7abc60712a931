-- An i386 object of n extern names and m relocations (01's table: 1,024 names). The names rise with their symbols' numbers; relocation k names symbol
-- k, and behind the last symbol that one again. So names come in rising order, and then the greatest as often as there are relocations left.
use Rattle.std.specs.Prelude.{List, [], ◌∷◌, ◌++◌, ℕ, ◌+◌, ◌-◌, ◌*◌, ◌/◌, ◌%◌, min, replicate}
use Rattle.le.specs.Le.{le}
use Rattle.arch.specs.Address.{rva}
use Rattle.arch.specs.Page.{PAGE_SIZE}
use Rattle.limits.specs.Limits.{SLOT_SIZE}
use Rattle.object.specs.declared.Header.{Header}
use Rattle.kinds.specs.declared.RelocationKind.TheVariants.{Absolute}
use Rattle.fixups.specs.declared.Fix.{Fix}
use Rattle.survey.specs.declared.answer.Counts.{Counts}
use Rattle.examples.specs.Records.{records_to}

-- ---- symbols
-- so many names have a good text
abbrev pub MAX_NAMES : ℕ
MAX_NAMES = 4096

-- name k: an underscore and two bytes from 0x30 on
abbrev pub name_text : ℕ → List ℕ
name_text k = 0x5F ∷ (0x30 + k / 64) ∷ (0x30 + k % 64) ∷ []

-- its field of eight bytes
abbrev pub name_field : ℕ → List ℕ
name_field k = name_text k ++ (0 ∷ 0 ∷ 0 ∷ 0 ∷ 0 ∷ [])

-- behind the name: value 0, section 0, type 0, class 2, no auxiliary records
abbrev pub behind_name : List ℕ
behind_name = 0 ∷ 0 ∷ 0 ∷ 0 ∷ 0 ∷ 0 ∷ 0 ∷ 0 ∷ 2 ∷ 0 ∷ []

-- symbol record k
abbrev pub symbol_bytes : ℕ → List ℕ
symbol_bytes k = name_field k ++ behind_name

-- ---- relocation k: its own four bytes of .text, its symbol, type 6
abbrev pub relocation_bytes : ℕ → ℕ → List ℕ
relocation_bytes n k = le 4 (4 * k) ++ (le 4 (min k (n - 1)) ++ (6 ∷ 0 ∷ []))

-- ---- where the relocations start, behind header, section record and raw data
abbrev pub relocations_at : ℕ → ℕ
relocations_at m = 60 + 4 * m

-- the symbols, behind the relocations
abbrev pub symbols_at : ℕ → ℕ
symbols_at m = 60 + 14 * m

-- ---- the file header: i386, one section, n symbols
abbrev pub header_bytes : ℕ → ℕ → List ℕ
header_bytes n m = 0x4C ∷ 0x01 ∷ 1 ∷ 0 ∷ 0 ∷ 0 ∷ 0 ∷ 0 ∷ (le 4 (symbols_at m) ++ (le 4 n ++ (0 ∷ 0 ∷ 0 ∷ 0 ∷ [])))

-- the record of .text: 4 m bytes of initialised code and m relocations
abbrev pub text_bytes : ℕ → List ℕ
text_bytes m =
    46 ∷ 116 ∷ 101 ∷ 120 ∷ 116 ∷ 0 ∷ 0 ∷ 0 ∷ 0 ∷ 0 ∷ 0 ∷ 0 ∷ 0 ∷ 0 ∷ 0 ∷ 0
    ∷ (le 4 (4 * m)
    ++ (60 ∷ 0 ∷ 0 ∷ 0
    ∷ (le 4 (relocations_at m)
    ++ (0 ∷ 0 ∷ 0 ∷ 0
    ∷ (le 2 m
    ++ (0 ∷ 0 ∷ 32 ∷ 0 ∷ 80 ∷ 96 ∷ []))))))

-- ---- the object; its string table is only its length
abbrev pub names_object : ℕ → ℕ → List ℕ
names_object n m =
    header_bytes n m
    ++ (text_bytes m
    ++ (replicate (4 * m) 0
    ++ (records_to (relocation_bytes n) m
    ++ (records_to symbol_bytes n
    ++ (4 ∷ 0 ∷ 0 ∷ 0 ∷ [])))))

-- ---- what it comes to
abbrev pub names_header : ℕ → ℕ → Header
names_header n m = record { machine = 0x14C; sections = 1; section_table = 20; symbol_table = symbols_at m; symbols = n }

-- the pages of .text, behind which UNDEF starts
abbrev pub text_pages : ℕ → ℕ
text_pages m = (4 * m + 4095) / 4096

-- where slot e is, as an offset
abbrev pub slot_at : ℕ → ℕ → ℕ
slot_at m e = PAGE_SIZE * text_pages m + SLOT_SIZE * e

-- relocation k: its four bytes take the address of its symbol's slot
abbrev pub names_fix : ℕ → ℕ → ℕ → Fix
names_fix n m k = record { place = rva (4 * k); bits = 32; kind = Absolute; target = rva (slot_at m (min k (n - 1))); addend = 0 }

-- survey's counts
abbrev pub names_counts : ℕ → ℕ → Counts
names_counts n m =
    record {
      pages = text_pages m + 2;
      sections = 2;
      symbols = 0;
      externs = n;
      fixups = m;
      skips = 0;
      passed = 0;
      file_sections = 1;
      symbol_records = n;
      relocations = m;
    }
