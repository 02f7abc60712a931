-- The origin of an image byte, by the table, slots and fix list of a load at a base (the request's third demand; 01, "Patch").
use Rattle.std.specs.Prelude.{Bool, ◌&&◌, List, [], ◌∷◌, ℕ, zero, suc, ◌+◌, ◌-◌, ◌*◌, ◌/◌, ◌%◌, leb, ltb, length, get_or}
use Rattle.std.proofs.Math.Option.{Option, none, some}
use Rattle.arch.specs.Address.{rva}
use Rattle.util.specs.Pick.{pick}
use Rattle.le.specs.Le.{le}
use Rattle.kinds.specs.declared.RelocationKind.TheVariants.{Unknown}
use Rattle.object.specs.Format.{header_of}
use Rattle.object.specs.Section.{loaded, file_start, file_end, range_length, relocation_count}
use Rattle.limits.specs.Limits.{SLOT_SIZE}
use Rattle.layout.specs.Layout.{start_at, undef_start}
use Rattle.externs.specs.Externs.{externs}
use Rattle.fixups.specs.declared.Fix.{Fix}
use Rattle.fixups.specs.Value.{value_of}
use Rattle.fixups.specs.Lists.{fix_list}
use Rattle.survey.specs.Survey.{outcomes}
use Rattle.patch.specs.Fixes.{width_of}

-- byte j of fixup k, byte j of slot e, byte p of the file, or zero
pub data Origin : Type 0 where
  fixup_byte : ℕ → ℕ → Origin
  slot_byte : ℕ → ℕ → Origin
  file_byte : ℕ → Origin
  zero_byte : Origin

-- the first if there is one, else the second
abbrev pub or_else : Option ℕ → Option ℕ → Option ℕ
or_else none y = y
or_else (some x) y = some x

-- the first number below n that passes
unfoldable pub first_below : (ℕ → Bool) → ℕ → Option ℕ
first_below p zero = none
first_below p (suc n) = or_else (first_below p n) (pick (p n) (some n) none)

-- the load's fixups, in list order
abbrev pub fixups_of : List ℕ → List Fix
fixups_of f = fix_list (outcomes f (header_of f)) (relocation_count f (header_of f)) (header_of f).sections

-- what stands past the list's end
abbrev pub no_fixup : Fix
no_fixup = record { place = rva 0; bits = 0; kind = Unknown; target = rva 0; addend = 0 }

-- fixup k, from 0
abbrev pub fixup_at : List ℕ → ℕ → Fix
fixup_at f k = get_or (fixups_of f) k no_fixup

-- how many slots there are
abbrev pub slots_of : List ℕ → ℕ
slots_of f = length (externs f (header_of f))

module _ (f : List ℕ) (base : ℕ) where
  -- ---- fixup k: its place's address, its bytes, its value
  abbrev pub fixup_place : ℕ → ℕ
  fixup_place k = base + (fixup_at f k).place.0

  -- how many bytes it covers
  abbrev pub fixup_width : ℕ → ℕ
  fixup_width k = width_of (fixup_at f k).bits

  -- and what they hold
  abbrev pub fixup_value : ℕ → ℕ
  fixup_value k = value_of base (fixup_at f k)

  -- it covers 4 or 8 bytes from its place
  unfoldable pub covers : ℕ → ℕ → Bool
  covers a k = leb (fixup_place k) a && ltb a (fixup_place k + fixup_width k)

  -- the latest of the applied ones that covers a
  unfoldable pub latest : ℕ → List ℕ → Option ℕ
  latest a [] = none
  latest a (k ∷ ks) = or_else (latest a ks) (pick (covers a k) (some k) none)

  -- ---- slots: slot e is 4 bytes at UNDEF + 4 e
  -- where UNDEF starts
  abbrev pub undef_address : ℕ
  undef_address = base + undef_start f (header_of f)

  -- a slot covers a
  unfoldable pub in_slots : ℕ → Bool
  in_slots a = leb undef_address a && ltb a (undef_address + SLOT_SIZE * slots_of f)

  -- a slot holds its own address
  abbrev pub slot_value : ℕ → ℕ
  slot_value e = undef_address + SLOT_SIZE * e

  -- ---- sections: the loaded one whose range holds a
  -- where section i starts
  abbrev pub section_address : ℕ → ℕ
  section_address i = base + start_at f (header_of f) i

  -- section i is loaded, and its range holds a
  unfoldable pub in_section : ℕ → ℕ → Bool
  in_section a i =
      loaded f (header_of f) i && (leb (section_address i) a && ltb a (section_address i + range_length f (header_of f) i))

  -- as far into its file range as a is into its range, if the file range reaches so far
  unfoldable pub file_origin : ℕ → Option ℕ → Origin
  file_origin a none = zero_byte
  file_origin a (some i) =
      pick (ltb (a - section_address i) (file_end f (header_of f) i - file_start f (header_of f) i))
      (file_byte (file_start f (header_of f) i + (a - section_address i)))
      zero_byte

  -- ---- the origin of the byte at a
  -- as load lays it: a slot's, else the section's
  unfoldable pub laid_origin : ℕ → Origin
  laid_origin a =
      pick (in_slots a)
      (slot_byte ((a - undef_address) / SLOT_SIZE) ((a - undef_address) % SLOT_SIZE))
      (file_origin a (first_below (in_section a) (header_of f).sections))

  -- by the latest applied fixup that covers a; else as laid
  unfoldable pub origin_by : ℕ → Option ℕ → Origin
  origin_by a none = laid_origin a
  origin_by a (some k) = fixup_byte k (a - fixup_place k)

  -- once the fixups ks are applied, the latest last
  abbrev pub origin : List ℕ → ℕ → Origin
  origin ks a = origin_by a (latest a ks)

  -- ---- the byte of an origin: the low bytes of a fixup's or slot's value, the file's own
  unfoldable pub byte_of : Origin → ℕ
  byte_of (fixup_byte k j) = get_or (le (fixup_width k) (fixup_value k)) j 0
  byte_of (slot_byte e j) = get_or (le SLOT_SIZE (slot_value e)) j 0
  byte_of (file_byte p) = get_or f p 0
  byte_of zero_byte = 0
