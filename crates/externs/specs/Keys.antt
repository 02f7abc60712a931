-- Beside the list of externs the keys of its names, by which most are told apart: what the parts of `collect` promise of them.
use Rattle.std.specs.Prelude.{◌≡◌, List, [], ◌∷◌, ℕ, ◌+◌, ◌≤◌, ◌<◌, length, get_or}
use Rattle.object.specs.declared.Header.{Header}
use Rattle.names.specs.Name.{symbol_text}
use Rattle.order.specs.Key.{KEY_BYTES, key}
use Rattle.externs.specs.Held.{held, put_at}
use Rattle.externs.specs.Inserting.{Rising}

-- the key of symbol j's name
abbrev pub symbol_key : List ℕ → Header → ℕ → ℕ
symbol_key f h j = key KEY_BYTES (symbol_text f h j)

-- those of a list of symbols, in its order
unfoldable pub keys_of : List ℕ → Header → List ℕ → List ℕ
keys_of f h [] = []
keys_of f h (j ∷ js) = symbol_key f h j ∷ keys_of f h js

-- the first n keys are those of the first n symbols
unfoldable pub InStep : List ℕ → Header → List ℕ → List ℕ → ℕ → Type 0
InStep f h slots keys n = held n keys ≡ keys_of f h (held n slots)

-- the whole list is sorted by name, and its keys are the first of `keys`
pub record Keyed (f : List ℕ) (h : Header) (list keys : List ℕ) : Type 0 where
  pub rising : Rising f h list
  pub step : InStep f h list keys (length list)

-- j and its key at p among the first n
pub record PutBoth (slots keys : List ℕ) (n p j k : ℕ) (slots' keys' : List ℕ) : Type 0 where
  pub list : held (n + 1) slots' ≡ put_at p j (held n slots)
  pub beside : held (n + 1) keys' ≡ put_at p k (held n keys)

-- of the first n keys none is above a later one
pub record KeysRise (keys : List ℕ) (n : ℕ) : Type 0 where
  pub rise : (i j : ℕ) → i < j → j < n → get_or keys i 0 ≤ get_or keys j 0

-- the keys from p to r are lower than k
pub record Skipped (keys : List ℕ) (n p k r : ℕ) : Type 0 where
  pub low : p ≤ r
  pub high : r ≤ n
  pub lower : (i : ℕ) → p ≤ i → i < r → get_or keys i 0 < k
