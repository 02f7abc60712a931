-- The slot of a name: its index in the list of externs (01, "Layout, slots and fixups").
use Rattle.std.specs.Prelude.{Bool, List, [], ◌∷◌, ℕ, suc, None, Option, Some}
use Rattle.util.specs.Pick.{pick}
use Rattle.object.specs.declared.Header.{Header}
use Rattle.names.specs.Bytes.{are_same_bytes}
use Rattle.names.specs.Name.{symbol_text}

-- symbol x has that name
abbrev pub symbol_has_name : List ℕ → Header → List ℕ → ℕ → Bool
symbol_has_name f h name x = are_same_bytes (symbol_text f h x) name

-- the first that has the name, in what is left of the list from index i
unfoldable pub slot_from : List ℕ → Header → List ℕ → ℕ → List ℕ → Option ℕ
slot_from f h name i [] = None
slot_from f h name i (x ∷ xs) = pick (symbol_has_name f h name x) (Some i) (slot_from f h name (suc i) xs)

-- the first index of the list of symbol numbers whose symbol has the name
abbrev pub slot_of : List ℕ → Header → List ℕ → List ℕ → Option ℕ
slot_of f h list name = slot_from f h name 0 list
