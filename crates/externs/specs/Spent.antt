-- A symbol whose name was put needs no second insertion: from then on its code is that of a symbol which takes the slot of its name, or UNDEF, without putting it.
-- What the parts of `collect` promise of the codes, and of the list beside them.
use Rattle.refusal.specs.declared.Refusal.{Refusal}
use Rattle.std.specs.Prelude.{◌≡◌, true, false, List, [], ◌∷◌, ◌⊎◌, ℕ, ◌+◌, ◌*◌, ◌≤◌, ◌<◌, eqb, ltb, length, get_or, Result, Ok, Err, Option, Some, None}
use Rattle.util.specs.Pick.{pick}
use Rattle.le.specs.Le.{get, splice}
use Rattle.object.specs.declared.Header.{Header}
use Rattle.object.specs.Format.{RELOCATION_SIZE, RELOCATION_SYMBOL_AT}
use Rattle.codes.specs.Code.{SLOT, UNDEF_RECORD, UNDEF_EXTERN, puts_in}
use Rattle.externs.specs.Held.{held}
use Rattle.externs.specs.Keys.{InStep}
use Rattle.externs.specs.Inserting.{Rising, Has}

-- the code of a symbol once its name was put
unfoldable pub spent : ℕ → ℕ
spent c = pick (eqb c UNDEF_EXTERN) UNDEF_RECORD SLOT

-- the codes once symbol j put its name; a number past the symbols stays as it is
unfoldable pub spend : Header → List ℕ → ℕ → List ℕ
spend h codes j = pick (ltb j h.symbols) (splice codes j (spent (get_or codes j 0) ∷ [])) codes

-- symbol j put its name, and that is in the list
pub record SpentAt (f : List ℕ) (h : Header) (before after xs : List ℕ) (j : ℕ) : Type 0 where
  pub inside : j < h.symbols
  pub did : puts_in before j ≡ true
  pub is : get_or after j 0 ≡ spent (get_or before j 0)
  pub has : Has f h j xs

-- each code is as it was before, or its symbol has put its name
pub record Spends (f : List ℕ) (h : Header) (before after xs : List ℕ) : Type 0 where
  pub long : length after ≡ length before
  pub each : (j : ℕ) → (get_or after j 0 ≡ get_or before j 0) ⊎ SpentAt f h before after xs j

-- the first n symbols are sorted by name, with their keys
pub record Kept (f : List ℕ) (h : Header) (slots keys : List ℕ) (n : ℕ) : Type 0 where
  pub step : InStep f h slots keys n
  pub rising : Rising f h (held n slots)

-- both, with as many as the answer says
pub record Left (f : List ℕ) (h : Header) (before after slots keys : List ℕ) (n : ℕ) : Type 0 where
  pub list : Kept f h slots keys n
  pub codes : Spends f h before after (held n slots)

unfoldable pub LeftFor : List ℕ → Header → List ℕ → List ℕ → List ℕ → List ℕ → Option ℕ → Type 0
LeftFor f h before after slots keys None = Unit {0}
LeftFor f h before after slots keys (Some n) = Left f h before after slots keys n

-- t has the bytes of relocation records: by the codes, those from k to r put no name
pub record Passing (t codes : List ℕ) (k r : ℕ) : Type 0 where
  pub low : k ≤ r
  pub whole : (q : ℕ) → k ≤ q → q < r → RELOCATION_SIZE * q + RELOCATION_SIZE ≤ length t
  pub none : (q : ℕ) → k ≤ q → q < r → puts_in codes (get 4 t (RELOCATION_SIZE * q + RELOCATION_SYMBOL_AT)) ≡ false
