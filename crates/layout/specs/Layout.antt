-- Where sections lie in the image, in offsets from the base (01, "Layout, slots and fixups").
use Rattle.std.specs.Prelude.{ℕ, zero, suc, ◌+◌, List}
use Rattle.util.specs.Pick.{pick}
use Rattle.util.specs.Align.{round_up}
use Rattle.util.specs.Prefix.{count_to}
use Rattle.arch.specs.Page.{PAGE_SIZE, page_of}
use Rattle.object.specs.declared.Header.{Header}
use Rattle.object.specs.Section.{loaded, range_length}

-- where UNDEF starts at `undef`, all pages up to its end are mapped, and one more
abbrev pub pages_to : ℕ → ℕ
pages_to undef = page_of undef + 2

module _ (f : List ℕ) (h : Header) where
  -- the page boundary behind section i, if it is loaded and starts at `at`; an unloaded one takes no room
  unfoldable pub next_start : ℕ → ℕ → ℕ
  next_start i at = pick (loaded f h i) (round_up (at + range_length f h i) PAGE_SIZE) at

  -- loaded sections go in file order, each at the next page boundary, the first at the base
  unfoldable pub start_at : ℕ → ℕ
  start_at zero = 0
  start_at (suc i) = next_start i (start_at i)

  -- UNDEF, which holds the extern slots, is one page behind them; slot e stands at its start + 4 e
  abbrev pub undef_start : ℕ
  undef_start = start_at h.sections

  -- the mapped pages
  abbrev pub mapped_pages : ℕ
  mapped_pages = pages_to undef_start

  -- the section table has a record for each loaded section, in file order, and UNDEF's last; section i's stands behind those of the loaded sections
  -- below i
  abbrev pub record_of : ℕ → ℕ
  record_of i = count_to (loaded f h) i

  -- how many records the table has
  abbrev pub table_records : ℕ
  table_records = record_of h.sections + 1
