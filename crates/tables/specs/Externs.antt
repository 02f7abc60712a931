-- The table of extern names (01, "Layout, slots and fixups"): slot e is at UNDEF + 4 e; `slots` has the n symbol numbers in the order of their names.
use Rattle.std.specs.Prelude.{ℕ, zero, suc, ◌+◌, ◌*◌, List, [], ◌∷◌, ◌++◌, slice_index}
use Rattle.object.specs.declared.Header.{Header}
use Rattle.names.specs.Name.{symbol_name, name_start, name_length}
use Rattle.limits.specs.Limits.{SLOT_SIZE}
use Rattle.words.specs.Words.{word_bytes}

module _ (f : List ℕ) (h : Header) (base undef : ℕ) (slots : List ℕ) where
  -- a record is four words: slot address, symbol number, name start, name length
  unfoldable pub extern_words : ℕ → List ℕ
  extern_words e =
      (base + undef + SLOT_SIZE * e)
      ∷ slice_index slots e
      ∷ name_start (symbol_name f h (slice_index slots e))
      ∷ name_length (symbol_name f h (slice_index slots e))
      ∷ []

  -- the table of the first n
  unfoldable pub extern_table : ℕ → List ℕ
  extern_table zero = []
  extern_table (suc e) = extern_table e ++ word_bytes (extern_words e)
