-- What a symbol record says (01, "Records"; PE/COFF, "COFF Symbol Table").
use Rattle.std.specs.Prelude.{Bool, ◌&&◌, ◌||◌, not, List, ℕ, zero, suc, ◌+◌, ◌-◌, ℤ, eqb, ltb, get_or}
use Rattle.std.specs.Int.{w16}
use Rattle.std.proofs.Common.{to_z}
use Rattle.util.specs.Pick.{pick}
use Rattle.util.specs.Prefix.{all_to}
use Rattle.le.specs.Le.{get}
use Rattle.kinds.specs.declared.SymbolKind.{SymbolKind}
use Rattle.kinds.specs.declared.Place.{Place}
use Rattle.kinds.specs.Symbol.{kind_by, place_by, listed_by}
use Rattle.object.specs.declared.Header.{Header}
use Rattle.object.specs.declared.Symbol.{Symbol}
use Rattle.object.specs.Format.{VALUE_AT, NUMBER_AT, TYPE_AT, CLASS_AT, AUXILIARIES_AT, symbol_record_at, symbol_value, section_field, symbol_type, symbol_class, auxiliaries}

-- ---- by the fields behind its name
-- text, data, section, file, label or unknown
abbrev pub kind_of : Symbol → SymbolKind
kind_of s = kind_by s.class s.symbol_type s.value s.auxiliaries

-- in a section, undefined, common, absolute, none or unknown
abbrev pub place_of : Symbol → Place
place_of s = place_by (to_z w16 s.number) s.class s.value

-- the value that a listing adds to the home's start
abbrev pub listed_of : Symbol → ℕ
listed_of s = listed_by s.class s.value

-- those fields of the record that starts at a place of the file
abbrev pub symbol_in : List ℕ → ℕ → Symbol
symbol_in f at =
    record {
      value = get 4 f (at + VALUE_AT);
      number = get 2 f (at + NUMBER_AT);
      symbol_type = get 2 f (at + TYPE_AT);
      class = get_or f (at + CLASS_AT) 0;
      auxiliaries = get_or f (at + AUXILIARIES_AT) 0;
    }

-- ---- of symbol j
module _ (f : List ℕ) (h : Header) (j : ℕ) where
  -- the fields of its record
  abbrev pub symbol_of : Symbol
  symbol_of = symbol_in f (symbol_record_at h j)

  -- its section number with its sign: from 1, or 0, -1, -2
  abbrev pub section_number : ℤ
  section_number = to_z w16 (section_field f h j)

  -- what it is, by its class, type, value and number of auxiliary records
  abbrev pub kind : SymbolKind
  kind = kind_by (symbol_class f h j) (symbol_type f h j) (symbol_value f h j) (auxiliaries f h j)

  -- where it is, by its section number, class and value
  abbrev pub symbol_place : Place
  symbol_place = place_by section_number (symbol_class f h j) (symbol_value f h j)

-- what the symbol list adds to its home's start: its value, or 0 by its class
abbrev pub listed_value : List ℕ → Header → ℕ → ℕ
listed_value f h j = listed_by (symbol_class f h j) (symbol_value f h j)

-- ---- auxiliary records
-- one record further, if `left` auxiliary records stand from j on: a symbol's own record has its auxiliary ones behind it
unfoldable pub left_after : List ℕ → Header → ℕ → ℕ → ℕ
left_after f h j left = pick (eqb left 0) (auxiliaries f h j) (left - 1)

-- how many of the records from j on are auxiliary ones of a symbol before j
unfoldable pub auxiliaries_left : List ℕ → Header → ℕ → ℕ
auxiliaries_left f h zero = 0
auxiliaries_left f h (suc j) = left_after f h j (auxiliaries_left f h j)

-- record j is a symbol's own, and no auxiliary record
unfoldable pub primary : List ℕ → Header → ℕ → Bool
primary f h j = eqb (auxiliaries_left f h j) 0

-- number j is a symbol's: its own record; past the records there is none
unfoldable pub is_symbol : List ℕ → Header → ℕ → Bool
is_symbol f h j = ltb j h.symbols && primary f h j

-- a test of every symbol, by its own record
unfoldable pub ok_at : (List ℕ → Header → ℕ → Bool) → List ℕ → Header → ℕ → Bool
ok_at ok f h j = not (primary f h j) || ok f h j

-- every symbol of the file passes the test
abbrev pub all_symbols : (List ℕ → Header → ℕ → Bool) → List ℕ → Header → Bool
all_symbols ok f h = all_to (ok_at ok f h) h.symbols
