-- The counted parts of what an accepted load leaves, which later calls are given (01, "Load"): by the file and the base alone.
use Rattle.std.specs.Prelude.{List, ℕ, ◌*◌, length, replicate}
use Rattle.arch.specs.Page.{PAGE_SIZE}
use Rattle.object.specs.Format.{header_of}
use Rattle.object.specs.Section.{relocation_count}
use Rattle.layout.specs.Layout.{mapped_pages, undef_start}
use Rattle.externs.specs.Externs.{externs}
use Rattle.survey.specs.Survey.{outcomes}
use Rattle.homes.specs.Home.{section_home, home_record}
use Rattle.symbol_table.specs.Symbols.{symbol_table}
use Rattle.tables.specs.Sections.{section_table}
use Rattle.tables.specs.Externs.{extern_table}
use Rattle.lists.specs.Relocations.{fix_table}
use Rattle.image.specs.Laid.{laid_image}
use Rattle.marks.specs.Marks.{words_for, mark_bytes}

-- how many pages are mapped
abbrev pub pages_of : List ℕ → ℕ
pages_of f = mapped_pages f (header_of f)

-- the laid image, over zero pages
abbrev pub image_of : List ℕ → ℕ → List ℕ
image_of f base = laid_image f (header_of f) base (length (externs f (header_of f))) (replicate (PAGE_SIZE * pages_of f) 0)

-- the marks of its pages
abbrev pub marks_of : List ℕ → List ℕ
marks_of f = mark_bytes (pages_of f) (words_for (pages_of f))

-- the fix list at the base
abbrev pub fix_table_of : List ℕ → ℕ → List ℕ
fix_table_of f base = fix_table base (outcomes f (header_of f)) (relocation_count f (header_of f)) (header_of f).sections

-- the section table at the base
abbrev pub sections_of : List ℕ → ℕ → List ℕ
sections_of f base = section_table f (header_of f) base (section_home f (header_of f)) (undef_start f (header_of f))

-- the symbol table at the base
abbrev pub symbols_of : List ℕ → ℕ → List ℕ
symbols_of f base = symbol_table f (header_of f) base (section_home f (header_of f)) (home_record f (header_of f))

-- and the table of extern names
abbrev pub externs_of : List ℕ → ℕ → List ℕ
externs_of f base = extern_table f (header_of f) base (undef_start f (header_of f)) (externs f (header_of f)) (length (externs f (header_of f)))

-- ---- the five as they are lent
pub record Lent : Type 0 where
  pub image : List ℕ
  pub marks : List ℕ
  pub fixes : List ℕ
  pub sections : List ℕ
  pub externs : List ℕ

-- the record of the five
abbrev pub lent : List ℕ → List ℕ → List ℕ → List ℕ → List ℕ → Lent
lent image marks fixes sections externs = record { image = image; marks = marks; fixes = fixes; sections = sections; externs = externs }

-- as an accepted load leaves them
abbrev pub lent_of : List ℕ → ℕ → Lent
lent_of f base = lent (image_of f base) (marks_of f) (fix_table_of f base) (sections_of f base) (externs_of f base)
