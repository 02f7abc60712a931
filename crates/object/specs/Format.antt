-- The records of a COFF object: sizes, places and widths of their fields, each named once (PE/COFF, "COFF File Header", "Section Table",
-- "COFF Symbol Table", "COFF Relocations"). Every definition that reads a record takes the header, which says where the tables are.
use Rattle.std.specs.Prelude.{List, ℕ, ◌+◌, ◌*◌, eqb, get_or}
use Rattle.util.specs.Pick.{pick}
use Rattle.le.specs.Le.{get}
use Rattle.object.specs.declared.Header.{Header}

-- the file header's bytes
abbrev pub HEADER_SIZE : ℕ
HEADER_SIZE = 20

-- the bytes of a section record
abbrev pub SECTION_SIZE : ℕ
SECTION_SIZE = 40

-- the bytes of a relocation record
abbrev pub RELOCATION_SIZE : ℕ
RELOCATION_SIZE = 10

-- the bytes of a symbol record, the same in every file
abbrev pub symbol_size : Header → ℕ
symbol_size h = 18

-- the bytes of a name field, at the start of a section or symbol record
abbrev pub NAME_SIZE : ℕ
NAME_SIZE = 8

-- in the name field of a symbol whose first four bytes are zero: where the offset of its name in the string table stands
abbrev pub LONG_OFFSET_AT : ℕ
LONG_OFFSET_AT = 4

-- the bytes of the string table's own length, behind which strings stand
abbrev pub LENGTH_SIZE : ℕ
LENGTH_SIZE = 4

-- ---- where each field stands, in bytes from the start of its record, by its name in PE/COFF: of the file header
-- Machine
abbrev pub MACHINE_AT : ℕ
MACHINE_AT = 0

-- NumberOfSections
abbrev pub SECTIONS_AT : ℕ
SECTIONS_AT = 2

-- PointerToSymbolTable
abbrev pub SYMBOL_POINTER_AT : ℕ
SYMBOL_POINTER_AT = 8

-- NumberOfSymbols
abbrev pub SYMBOLS_AT : ℕ
SYMBOLS_AT = 12

-- SizeOfOptionalHeader
abbrev pub OPTIONAL_SIZE_AT : ℕ
OPTIONAL_SIZE_AT = 16

-- ---- of a section record, whose name stands first
-- VirtualAddress
abbrev pub ADDRESS_AT : ℕ
ADDRESS_AT = 12

-- SizeOfRawData
abbrev pub RAW_SIZE_AT : ℕ
RAW_SIZE_AT = 16

-- PointerToRawData
abbrev pub RAW_POINTER_AT : ℕ
RAW_POINTER_AT = 20

-- PointerToRelocations
abbrev pub RELOCATION_POINTER_AT : ℕ
RELOCATION_POINTER_AT = 24

-- NumberOfRelocations
abbrev pub RELOCATIONS_AT : ℕ
RELOCATIONS_AT = 32

-- Characteristics
abbrev pub FLAGS_AT : ℕ
FLAGS_AT = 36

-- ---- of a symbol record, whose name stands first
-- Value
abbrev pub VALUE_AT : ℕ
VALUE_AT = 8

-- SectionNumber
abbrev pub NUMBER_AT : ℕ
NUMBER_AT = 12

-- Type
abbrev pub TYPE_AT : ℕ
TYPE_AT = 14

-- StorageClass
abbrev pub CLASS_AT : ℕ
CLASS_AT = 16

-- NumberOfAuxSymbols
abbrev pub AUXILIARIES_AT : ℕ
AUXILIARIES_AT = 17

-- ---- of a relocation record
-- SymbolTableIndex
abbrev pub RELOCATION_SYMBOL_AT : ℕ
RELOCATION_SYMBOL_AT = 4

-- Type; VirtualAddress stands first
abbrev pub RELOCATION_TYPE_AT : ℕ
RELOCATION_TYPE_AT = 8

-- ---- the file header: machine, section count, symbol pointer and count; the optional header's size says where the section table starts.
-- A symbol pointer of zero means that there are no symbols, whatever the count says (01, "Records").
unfoldable pub header_of : List ℕ → Header
header_of f =
    record {
      machine = get 2 f MACHINE_AT;
      sections = get 2 f SECTIONS_AT;
      section_table = HEADER_SIZE + get 2 f OPTIONAL_SIZE_AT;
      symbol_table = get 4 f SYMBOL_POINTER_AT;
      symbols = pick (eqb (get 4 f SYMBOL_POINTER_AT) 0) 0 (get 4 f SYMBOLS_AT);
    }

-- ---- where records start
-- section record i, from 0
abbrev pub section_header_at : Header → ℕ → ℕ
section_header_at h i = h.section_table + SECTION_SIZE * i

-- symbol record j, from 0; the numbering counts auxiliary records
abbrev pub symbol_record_at : Header → ℕ → ℕ
symbol_record_at h j = h.symbol_table + symbol_size h * j

-- the string table follows the symbols; its first four bytes are its length, themselves included
abbrev pub string_table : Header → ℕ
string_table h = symbol_record_at h h.symbols

-- without symbols there is no string table: its length counts as 0
unfoldable pub string_length : List ℕ → Header → ℕ
string_length f h = pick (eqb h.symbol_table 0) 0 (get 4 f (string_table h))

-- ---- fields of section record i
module _ (f : List ℕ) (h : Header) (i : ℕ) where
  -- VirtualAddress: 0 in a loaded section (refusal 5)
  abbrev pub address_field : ℕ
  address_field = get 4 f (section_header_at h i + ADDRESS_AT)

  -- SizeOfRawData: of an uninitialised section too the bytes that it takes
  abbrev pub raw_size : ℕ
  raw_size = get 4 f (section_header_at h i + RAW_SIZE_AT)

  -- PointerToRawData: where its bytes start in the file
  abbrev pub raw_pointer : ℕ
  raw_pointer = get 4 f (section_header_at h i + RAW_POINTER_AT)

  -- PointerToRelocations: where its relocation records start in the file
  abbrev pub relocation_pointer : ℕ
  relocation_pointer = get 4 f (section_header_at h i + RELOCATION_POINTER_AT)

  -- NumberOfRelocations: the count, or with the overflow flag 65,535
  abbrev pub relocation_field : ℕ
  relocation_field = get 2 f (section_header_at h i + RELOCATIONS_AT)

  -- Characteristics: what `kinds: Flags` tells apart
  abbrev pub flags : ℕ
  flags = get 4 f (section_header_at h i + FLAGS_AT)

-- ---- fields of symbol record j
module _ (f : List ℕ) (h : Header) (j : ℕ) where
  -- Value: of a symbol in a section its offset there
  abbrev pub symbol_value : ℕ
  symbol_value = get 4 f (symbol_record_at h j + VALUE_AT)

  -- as it stands in the record: two's complement of 16 bits
  abbrev pub section_field : ℕ
  section_field = get 2 f (symbol_record_at h j + NUMBER_AT)

  -- Type: bits 4 and 5 tell a function
  abbrev pub symbol_type : ℕ
  symbol_type = get 2 f (symbol_record_at h j + TYPE_AT)

  -- StorageClass: kind, place and listed value go by it
  abbrev pub symbol_class : ℕ
  symbol_class = get_or f (symbol_record_at h j + CLASS_AT) 0

  -- NumberOfAuxSymbols: how many auxiliary records follow it
  abbrev pub auxiliaries : ℕ
  auxiliaries = get_or f (symbol_record_at h j + AUXILIARIES_AT) 0
