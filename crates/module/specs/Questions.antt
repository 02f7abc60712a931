-- The section table as a list of records, and the questions to it (01, "module.rs").
use Rattle.refusal.specs.declared.Refusal.TheVariants.{NoEntry, NoSection}
use Rattle.refusal.specs.declared.Refusal.{Refusal}
use Rattle.std.specs.Prelude.{◌≡◌, ℕ, zero, suc, ◌+◌, ◌-◌, ◌/◌, ◌%◌, ◌^◌, min, Bool, true, false, List, [], ◌∷◌, length, slice_index_or, slice_set, Result, Ok, Err}
use Rattle.util.specs.Pick.{pick}
use Rattle.arch.specs.declared.VA.{VA}
use Rattle.arch.specs.Address.{va}
use Rattle.words.specs.Words.{word_of}
use Rattle.limits.specs.Records.{SECTION_WORDS, SECTION_BYTES, SECTION_START, SECTION_END, SECTION_FILE_START, SECTION_FILE_END, SECTION_PERMISSIONS, SECTION_NAME_START, SECTION_NAME_LENGTH, SECTION_FILE_NUMBER}
use Rattle.section.specs.declared.Section.{Section}
use Rattle.section.specs.declared.Probe.{Probe}
use Rattle.section.specs.declared.OffsetProbe.{OffsetProbe}
use Rattle.section.specs.Section.{holds, file_holds, has_byte, section_has_name, grants, grants_offset}

-- the first record that p takes gives its answer; where there is none, `none` is it
unfoldable pub first_of : {A : Type 0} → (Section → Bool) → (ℕ → Section → A) → A → List Section → ℕ → A
first_of p a none [] i = none
first_of p a none (s ∷ t) i = pick (p s) (a i s) (first_of p a none t (suc i))

-- as far behind `to` as x lies behind `from`; no sum of load's records is past 64 bits
abbrev pub moved : ℕ → ℕ → ℕ → ℕ
moved from to x = (to + (x - from)) % 2 ^ 64

-- what the section that a scan finds answers: as far into the file range as the address is into the range
abbrev pub offset_in : VA → ℕ → Section → Result ℕ Refusal
offset_in a i s = Ok (moved s.start.0 s.file_start a.0)

-- the other way: as far into the range as the file offset is into the file range
abbrev pub address_in : ℕ → ℕ → Section → Result VA Refusal
address_in o i s = Ok (va (moved s.file_start s.start.0 o))

-- its number in the table
abbrev pub numbered : ℕ → Section → Result ℕ Refusal
numbered i s = Ok i

-- what a scan answers that finds none: 19
abbrev pub NONE_HOLDS : Result ℕ Refusal
NONE_HOLDS = Err NoSection

-- the same, where the answer is an address
abbrev pub NO_ADDRESS : Result VA Refusal
NO_ADDRESS = Err NoSection

-- ---- the questions
-- the file offset of an address, past the raw data and in UNDEF too
abbrev pub file_offset : List Section → VA → Result ℕ Refusal
file_offset t a = first_of (holds a) (offset_in a) NONE_HOLDS t 0

-- the address of a file offset
abbrev pub virtual_address : List Section → ℕ → Result VA Refusal
virtual_address t o = first_of (file_holds o) (address_in o) NO_ADDRESS t 0

-- the number in the table of the first section that holds an address
abbrev pub section_of : List Section → VA → Result ℕ Refusal
section_of t a = first_of (holds a) numbered NONE_HOLDS t 0

-- of the first whose file range holds a file offset
abbrev pub section_of_offset : List Section → ℕ → Result ℕ Refusal
section_of_offset t o = first_of (file_holds o) numbered NONE_HOLDS t 0

-- of the first that has a name; where none has it, 20
abbrev pub section_named : List Section → List ℕ → List ℕ → Result ℕ Refusal
section_named t file name = first_of (section_has_name file name) numbered (Err NoEntry) t 0

-- some section grants what is asked of the address
abbrev pub probe_va : List Section → Probe → Bool
probe_va t q = first_of (grants q) (λ i s. true) false t 0

-- the same, of an offset from the base
abbrev pub probe_rva : List Section → OffsetProbe → Bool
probe_rva t q = first_of (grants_offset q) (λ i s. true) false t 0

-- ---- an address in the image
-- some section's file range holds that file offset
abbrev pub is_backed : List Section → Result ℕ Refusal → Bool
is_backed t n = first_of (λ s. has_byte s n) (λ i s. true) false t 0

-- it holds that of the address
abbrev pub is_in_image : List Section → VA → Bool
is_in_image t a = is_backed t (file_offset t a)

-- ---- the table that load wrote
-- record r, its words in their order
abbrev pub section_at : List ℕ → ℕ → Section
section_at table r = record {
  start = va (word_of SECTION_WORDS table r SECTION_START);
  end = va (word_of SECTION_WORDS table r SECTION_END);
  file_start = word_of SECTION_WORDS table r SECTION_FILE_START;
  file_end = word_of SECTION_WORDS table r SECTION_FILE_END;
  permissions = word_of SECTION_WORDS table r SECTION_PERMISSIONS;
  name_start = word_of SECTION_WORDS table r SECTION_NAME_START;
  name_length = word_of SECTION_WORDS table r SECTION_NAME_LENGTH;
  number = word_of SECTION_WORDS table r SECTION_FILE_NUMBER;
}

-- t with its first n records from the table
unfoldable pub fill_to : List ℕ → ℕ → List Section → List Section
fill_to table zero t = t
fill_to table (suc n) t = slice_set (fill_to table n t) n (section_at table n)

-- as many as both have
abbrev pub fill_count : List ℕ → List Section → ℕ
fill_count table t = min (length table / SECTION_BYTES) (length t)

-- t with all those from the table
abbrev pub table_filled : List ℕ → List Section → List Section
table_filled table t = fill_to table (fill_count table t) t

-- the answer says how many, and the records are there
pub record Fills (table : List ℕ) (t t' : List Section) (r : ℕ) : Type 0 where
  pub says : r ≡ fill_count table t
  pub leaves : t' ≡ table_filled table t

-- what stands past the end of a table
abbrev pub blank : Section
blank = record { start = va 0; end = va 0; file_start = 0; file_end = 0; permissions = 0; name_start = 0; name_length = 0; number = 0 }

-- record i
abbrev pub nth : List Section → ℕ → Section
nth t i = slice_index_or t i blank
