-- The symbol table (01, "Layout, slots and fixups"): the listed symbols in file order. `home` says where a section's home
-- starts, and `row` which record of the section table it is.
use Rattle.arch.specs.declared.RVA.{RVA}
use Rattle.std.specs.Prelude.{ℕ, ◌+◌, List, [], ◌∷◌, Option}
use Rattle.object.specs.declared.Header.{Header}
use Rattle.object.specs.Symbol.{kind, symbol_place}
use Rattle.kinds.specs.Symbol.{kind_number}
use Rattle.names.specs.Name.{symbol_name, name_start, name_length}
use Rattle.homes.specs.Listed.{of_place, listed, listed_offset}
use Rattle.words.specs.Picked.{picked}

-- a record is six words: address, kind, name start, name length, symbol number, home. The home of a symbol is its section's record in the section table
unfoldable pub symbol_words : List ℕ → Header → ℕ → (ℕ → Option RVA) → (ℕ → ℕ) → ℕ → List ℕ
symbol_words f h base home row j =
    (base + listed_offset f h home j)
    ∷ kind_number (kind f h j)
    ∷ name_start (symbol_name f h j)
    ∷ name_length (symbol_name f h j)
    ∷ j
    ∷ of_place row 0 (symbol_place f h j)
    ∷ []

-- the table
abbrev pub symbol_table : List ℕ → Header → ℕ → (ℕ → Option RVA) → (ℕ → ℕ) → List ℕ
symbol_table f h base home row = picked (listed f h home) (symbol_words f h base home row) h.symbols
