-- The slot of a name by a search in halves, as the code goes: in a sorted list the same answer as the plain search, `slot_of` (BisectLaws).
use Rattle.std.proofs.Common.{Ordering, Less, Equal, Greater}
use Rattle.std.specs.Prelude.{List, ℕ, zero, suc, ◌+◌, ◌-◌, ◌/◌, eqb, length, get_or, None, Option, Some}
use Rattle.util.specs.Pick.{pick}
use Rattle.object.specs.declared.Header.{Header}
use Rattle.names.specs.Bytes.{compare_bytes}
use Rattle.names.specs.Name.{symbol_text}

-- the order of a name and symbol x's
abbrev pub name_order : List ℕ → Header → List ℕ → ℕ → Ordering
name_order f h name x = compare_bytes name (symbol_text f h x)

-- a smaller name is left of the entry, a greater one right of it
abbrev pub by_side : Ordering → Option ℕ → Option ℕ → Option ℕ → Option ℕ
by_side Less left here right = left
by_side Equal left here right = here
by_side Greater left here right = right

-- the name among the n entries from lo: the middle one says in which half, or that it is there. `turns` bounds the halvings; n are enough
unfoldable pub halves : List ℕ → Header → List ℕ → List ℕ → ℕ → ℕ → ℕ → Option ℕ
halves f h list name zero lo n = None
halves f h list name (suc turns) lo n =
    pick (eqb n 0) None
    (by_side (name_order f h name (get_or list (lo + n / 2) 0))
    (halves f h list name turns lo (n / 2))
    (Some (lo + n / 2))
    (halves f h list name turns (lo + n / 2 + 1) (n - n / 2 - 1)))

-- the index of the name in a sorted list of symbol numbers
abbrev pub bisect : List ℕ → Header → List ℕ → List ℕ → Option ℕ
bisect f h list name = halves f h list name (length list) 0 (length list)
