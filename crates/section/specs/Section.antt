-- What is asked of one record of the section table (01, "module.rs").
use Rattle.std.specs.Prelude.{◌≡◌, Bool, false, ◌&&◌, ◌||◌, List, ℕ, ◌/◌, ◌%◌, leb, ltb, eqb, None, Option, Some, Result, Ok, Err}
use Rattle.std.proofs.Math.Bool.{and-false}
use Rattle.util.specs.Pick.{pick}
use Rattle.arch.specs.declared.VA.{VA}
use Rattle.arch.specs.Address.{address_of}
use Rattle.le.specs.Le.{part}
use Rattle.names.specs.Bytes.{are_same_bytes, UNDEF}
use Rattle.section.specs.declared.Section.{Section}
use Rattle.section.specs.declared.Probe.{Probe}
use Rattle.section.specs.declared.OffsetProbe.{OffsetProbe}

-- from `low` on and below `high`
abbrev pub within : ℕ → ℕ → ℕ → Bool
within low high x = leb low x && ltb x high

-- the address lies in the section's range
abbrev pub holds : VA → Section → Bool
holds a s = within s.start.0 s.end.0 a.0

-- the offset lies in the section's part of the file
abbrev pub file_holds : ℕ → Section → Bool
file_holds o s = within s.file_start s.file_end o

-- it has the byte of the file that an answer names
abbrev pub has_byte : {E : Type 0} → Section → Result ℕ E → Bool
has_byte s (Ok o) = file_holds o s
has_byte s (Err k) = false

-- a section's name is that part of the file, and UNDEF's, which has no number there, is the constant
unfoldable pub section_has_name : List ℕ → List ℕ → Section → Bool
section_has_name file name s = pick (eqb s.number 0) (are_same_bytes name UNDEF) (are_same_bytes (part file s.name_start s.name_length) name)

-- ---- permissions
-- both have the lowest bit
abbrev pub share_bit : ℕ → ℕ → Bool
share_bit a b = eqb (a % 2) 1 && eqb (b % 2) 1

-- both have read, or write, or execute
abbrev pub intersects : ℕ → ℕ → Bool
intersects a b = share_bit a b || (share_bit (a / 2) (b / 2) || share_bit (a / 4) (b / 4))

-- the section holds the address and has one of the permissions
abbrev pub grants : Probe → Section → Bool
grants q s = holds q.va s && intersects s.permissions q.permissions

-- the same at an address, which past 64 bits there is none of
abbrev pub grants_at : ℕ → Section → Option VA → Bool
grants_at p s (Some a) = grants (record { va = a; permissions = p }) s
grants_at p s None = false

-- and at an offset from the base
abbrev pub grants_offset : OffsetProbe → Section → Bool
grants_offset q s = grants_at q.permissions s (address_of q.base.0 q.rva.0)

-- ---- with no permission asked for it is no
pub intersects_none : (a : ℕ) → intersects a 0 ≡ false
intersects_none a = rw (and-false (eqb (a % 2) 1), and-false (eqb (a / 2 % 2) 1), and-false (eqb (a / 4 % 2) 1))
