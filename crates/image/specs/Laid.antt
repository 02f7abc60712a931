-- The laid image, by the writes in the Rust's order: zero pages, then the sections' bytes in file order, then the slots (01, "Layout, slots
-- and fixups"). Offsets from the base are places in the image.
use Rattle.arch.specs.declared.RVA.{RVA}
use Rattle.std.specs.Prelude.{ℕ, zero, suc, ◌+◌, ◌-◌, ◌*◌, List, replicate, Option}
use Rattle.util.specs.Pick.{pick}
use Rattle.arch.specs.Page.{PAGE_SIZE}
use Rattle.le.specs.Le.{le, splice, part}
use Rattle.object.specs.declared.Header.{Header}
use Rattle.object.specs.Section.{loaded, file_start, file_end}
use Rattle.limits.specs.Limits.{SLOT_SIZE}
use Rattle.layout.specs.Layout.{undef_start, mapped_pages}
use Rattle.homes.specs.Home.{section_home, start_of}

-- the mapped pages are zero
abbrev pub zeroed : ℕ → List ℕ → List ℕ
zeroed pages image = splice image 0 (replicate (PAGE_SIZE * pages) 0)

-- the bytes of section i's file range
abbrev pub section_bytes : List ℕ → Header → ℕ → List ℕ
section_bytes f h i = part f (file_start f h i) (file_end f h i - file_start f h i)

-- a loaded section's bytes go to its home's start; an unloaded one leaves the image as it is
unfoldable pub section_step : List ℕ → Header → (ℕ → Option RVA) → List ℕ → ℕ → List ℕ
section_step f h home image i = pick (loaded f h i) (splice image (start_of (home i)) (section_bytes f h i)) image

-- after the sections below i
unfoldable pub sections_laid : List ℕ → Header → (ℕ → Option RVA) → List ℕ → ℕ → List ℕ
sections_laid f h home image zero = image
sections_laid f h home image (suc i) = section_step f h home (sections_laid f h home image i) i

-- slot e, 4 bytes at UNDEF + 4 e, holds its own address
unfoldable pub slot_step : ℕ → ℕ → List ℕ → ℕ → List ℕ
slot_step base undef image e = splice image (undef + SLOT_SIZE * e) (le SLOT_SIZE (base + undef + SLOT_SIZE * e))

-- after the slots below e
unfoldable pub slots_laid : ℕ → ℕ → List ℕ → ℕ → List ℕ
slots_laid base undef image zero = image
slots_laid base undef image (suc e) = slot_step base undef (slots_laid base undef image e) e

-- with n extern names
abbrev pub laid : List ℕ → Header → (ℕ → Option RVA) → ℕ → ℕ → ℕ → ℕ → List ℕ → List ℕ
laid f h home pages base undef n image = slots_laid base undef (sections_laid f h home (zeroed pages image) h.sections) n

-- with the file's own homes, UNDEF and pages: what a load lays
abbrev pub laid_image : List ℕ → Header → ℕ → ℕ → List ℕ → List ℕ
laid_image f h base n image = laid f h (section_home f h) (mapped_pages f h) base (undef_start f h) n image
