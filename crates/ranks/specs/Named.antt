-- A section by its name (01, "Layout, slots and fixups"): the first record of the section table that has it. UNDEF's stands behind those of the loaded sections.
use Rattle.std.specs.Prelude.{Bool, ◌&&◌, List, ℕ, zero, suc, ◌+◌}
use Rattle.util.specs.Pick.{pick}
use Rattle.util.specs.Prefix.{any_to}
use Rattle.object.specs.declared.Header.{Header}
use Rattle.object.specs.Section.{loaded}
use Rattle.names.specs.Bytes.{are_same_bytes, UNDEF}
use Rattle.names.specs.Name.{section_text}

-- a record of the section table: that of a loaded section, by the section's place in the file from 0; UNDEF's; or none
pub data TableRecord : Type 0 where
  Loaded : ℕ → TableRecord
  Undef : TableRecord
  Nowhere : TableRecord

-- of the n sections from j, the first that passes the test; behind the last stands UNDEF, which passes by `undef`
unfoldable pub first_in : (ℕ → Bool) → Bool → ℕ → ℕ → TableRecord
first_in p undef j zero = pick undef Undef Nowhere
first_in p undef j (suc n) = pick (p j) (Loaded j) (first_in p undef (j + 1) n)

module _ (f : List ℕ) (h : Header) where
  -- section i has that name
  abbrev pub section_is_named : List ℕ → ℕ → Bool
  section_is_named name i = are_same_bytes (section_text f h i) name

  -- some file section, loaded or not, has it
  abbrev pub some_section_named : List ℕ → Bool
  some_section_named name = any_to (section_is_named name) h.sections

  -- section j is loaded and has that name
  unfoldable pub loaded_named : List ℕ → ℕ → Bool
  loaded_named name j = loaded f h j && section_is_named name j

  -- the first table record of that name, "UNDEF" too
  abbrev pub named_record : List ℕ → TableRecord
  named_record name = first_in (loaded_named name) (are_same_bytes name UNDEF) 0 h.sections
