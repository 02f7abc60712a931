-- Refusals 7, 8 and 12: each says that the refusal of its number is not given, of the whole file or of a base (01, "Survey" and "Load"). A
-- check is asked only where those before it passed; past the file a record reads as zeros.
use Rattle.std.specs.Prelude.{Bool, true, ◌&&◌, List, ℕ, leb}
use Rattle.limits.specs.Limits.{MAX_PAGES, MAX_BASE}
use Rattle.arch.specs.Page.{on_page}
use Rattle.object.specs.declared.Header.{Header}
use Rattle.kinds.specs.declared.Place.{Place}
use Rattle.kinds.specs.declared.Place.TheVariants.{In, Undefined, Common, Absolute, Nowhere, Other}
use Rattle.object.specs.Symbol.{symbol_place, all_symbols}
use Rattle.layout.specs.Layout.{mapped_pages}

-- a place that is a section is one of the n; any other passes
abbrev pub place_within : ℕ → Place → Bool
place_within n (In k) = leb k n
place_within n Undefined = true
place_within n Common = true
place_within n Absolute = true
place_within n Nowhere = true
place_within n Other = true

-- symbol j's section number is not above the count
abbrev pub number_ok : List ℕ → Header → ℕ → Bool
number_ok f h j = place_within h.sections (symbol_place f h j)

-- 7: so of every symbol
abbrev pub numbers_ok : List ℕ → Header → Bool
numbers_ok f h = all_symbols number_ok f h

-- 8: not too many pages are mapped
abbrev pub pages_ok : List ℕ → Header → Bool
pages_ok f h = leb (mapped_pages f h) MAX_PAGES

-- 12: the base is a page multiple and not above the highest
unfoldable pub base_ok : ℕ → Bool
base_ok base = on_page base && leb base MAX_BASE
