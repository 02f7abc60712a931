-- The codes of the symbols (crate `codes`) once the extern names are known: where a slot is looked for, which it is.
use Rattle.std.specs.Prelude.{◌≡◌, Bool, true, ◌||◌, List, ℕ, ◌+◌, ◌%◌, eqb, leb, length, get_or, None, Option, Some}
use Rattle.util.specs.Pick.{pick}
use Rattle.util.specs.Prefix.{list_to}
use Rattle.le.specs.Le.{splice}
use Rattle.limits.specs.Limits.{MAX_EXTERNS}
use Rattle.object.specs.declared.Header.{Header}
use Rattle.names.specs.Name.{symbol_text}
use Rattle.codes.specs.Code.{SLOT, EXTERN, UNDEF_RECORD, UNDEF_EXTERN, NO_SLOT, SPAN, SLOTS}
use Rattle.externs.specs.Slot.{slot_of}

-- the code of a slot
unfoldable pub found_code : Option ℕ → ℕ
found_code (Some e) = SLOTS + e % SPAN
found_code None = NO_SLOT

-- a symbol with this code takes the slot of its name
abbrev pub takes_slot : ℕ → Bool
takes_slot c = eqb c SLOT || eqb c EXTERN

-- a code that takes no slot: nothing is put any more
unfoldable pub settled : ℕ → ℕ
settled c = pick (eqb c UNDEF_EXTERN) UNDEF_RECORD c

-- code c once it is known which slot its name has
unfoldable pub slotted_code : ℕ → Option ℕ → ℕ
slotted_code c found = pick (takes_slot c) (found_code found) (settled c)

-- ---- ys are the extern names, `codes` what was kept before them
module _ (f : List ℕ) (h : Header) (ys codes : List ℕ) where
  -- symbol j's code
  unfoldable pub slotted_at : ℕ → ℕ
  slotted_at j = slotted_code (get_or codes j 0) (slot_of f h ys (symbol_text f h j))

  -- those of the symbols below n
  abbrev pub slotted_to : ℕ → List ℕ
  slotted_to n = list_to slotted_at n

  -- the kept words, with the codes of all symbols at the front
  abbrev pub slotted : List ℕ
  slotted = splice codes 0 (slotted_to h.symbols)

-- so the codes are, where there are not too many names; where there are, nobody asks for a code
pub record CodesAfter (f : List ℕ) (h : Header) (codes ys after : List ℕ) : Type 0 where
  pub few : leb (length ys) MAX_EXTERNS ≡ true → after ≡ slotted f h ys codes
