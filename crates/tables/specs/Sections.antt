-- The section table (01, "Layout, slots and fixups"): a record for each loaded section, in file order, and UNDEF's behind them.
use Rattle.arch.specs.declared.RVA.{RVA}
use Rattle.std.specs.Prelude.{ℕ, ◌+◌, List, [], ◌∷◌, ◌++◌, Option}
use Rattle.arch.specs.Page.{PAGE_SIZE}
use Rattle.object.specs.declared.Header.{Header}
use Rattle.object.specs.Section.{loaded, file_start, file_end, range_length, permissions}
use Rattle.names.specs.Name.{section_name, name_start, name_length}
use Rattle.homes.specs.Home.{start_of}
use Rattle.words.specs.Words.{word_bytes}
use Rattle.words.specs.Picked.{picked}

-- UNDEF can be read
abbrev pub READ : ℕ
READ = 1

-- a record is eight words: start, end, file start, file end, permissions, name start, name length, section number from 1. `home` says where a
-- section's home starts
unfoldable pub section_words : List ℕ → Header → ℕ → (ℕ → Option RVA) → ℕ → List ℕ
section_words f h base home i =
    (base + start_of (home i))
    ∷ (base + start_of (home i) + range_length f h i)
    ∷ file_start f h i
    ∷ file_end f h i
    ∷ permissions f h i
    ∷ name_start (section_name f h i)
    ∷ name_length (section_name f h i)
    ∷ (i + 1)
    ∷ []

-- UNDEF: one page, readable, no bytes and no name in the file, no section's number
abbrev pub undef_words : ℕ → ℕ → List ℕ
undef_words base undef = (base + undef) ∷ (base + undef + PAGE_SIZE) ∷ 0 ∷ 0 ∷ READ ∷ 0 ∷ 0 ∷ 0 ∷ []

-- the table
abbrev pub section_table : List ℕ → Header → ℕ → (ℕ → Option RVA) → ℕ → List ℕ
section_table f h base home undef = picked (loaded f h) (section_words f h base home) h.sections ++ word_bytes (undef_words base undef)
