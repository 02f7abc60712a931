-- What a section record says (01, "Records" and "Layout, slots and fixups"; PE/COFF, "Section Table").
use Rattle.std.specs.Prelude.{Bool, ◌&&◌, List, ℕ, ◌+◌, ◌-◌, eqb}
use Rattle.util.specs.Pick.{pick}
use Rattle.util.specs.Align.{round_up}
use Rattle.le.specs.Le.{get}
use Rattle.kinds.specs.Flags.{has_flag, LNK_NRELOC_OVFL, loaded_by, uninitialized_by, align_code, align_of, permissions_by}
use Rattle.object.specs.declared.Header.{Header}
use Rattle.object.specs.Format.{RELOCATION_SIZE, raw_size, raw_pointer, relocation_pointer, relocation_field, flags}

-- what the count field of a record holds where the count does not fit it
abbrev pub OVERFLOW_COUNT : ℕ
OVERFLOW_COUNT = 65535

-- ---- of section i
module _ (f : List ℕ) (h : Header) (i : ℕ) where
  -- neither removed nor discardable
  abbrev pub loaded : Bool
  loaded = loaded_by (flags f h i)

  -- its raw size is room in the image, not bytes of the file
  abbrev pub uninitialized : Bool
  uninitialized = uninitialized_by (flags f h i)

  -- where its bytes start in the file; 0 if it is uninitialised
  unfoldable pub file_start : ℕ
  file_start = pick uninitialized 0 (raw_pointer f h i)

  -- behind its last byte there; 0 if it is uninitialised
  unfoldable pub file_end : ℕ
  file_end = pick uninitialized 0 (raw_pointer f h i + raw_size f h i)

  -- how many of its bytes the file has, its raw data; none if it is uninitialised
  unfoldable pub raw_length : ℕ
  raw_length = pick uninitialized 0 (raw_size f h i)

  -- how much of the image it takes: its raw size, rounded up to its alignment
  unfoldable pub range_length : ℕ
  range_length = round_up (raw_size f h i) (align_of (align_code (flags f h i)))

  -- read 1, write 2, execute 4
  abbrev pub permissions : ℕ
  permissions = permissions_by (flags f h i)

  -- ---- its relocations. With the overflow flag and the overflow count the first record's address field is the real count, that record
  -- included; record 0 then follows it.
  unfoldable pub extended : Bool
  extended = has_flag LNK_NRELOC_OVFL (flags f h i) && eqb (relocation_field f h i) OVERFLOW_COUNT

  -- how many records stand at the relocation pointer
  unfoldable pub relocation_records : ℕ
  relocation_records = pick extended (get 4 f (relocation_pointer f h i)) (relocation_field f h i)

  -- how many of them are relocations
  unfoldable pub relocation_count : ℕ
  relocation_count = pick extended (relocation_records - 1) relocation_records

  -- where its record 0 starts in the file
  unfoldable pub relocation_start : ℕ
  relocation_start = pick extended (relocation_pointer f h i + RELOCATION_SIZE) (relocation_pointer f h i)
