-- Questions to the tables of symbols and of extern names (01, "Layout, slots and fixups": a name finds the last, an address all).
use Rattle.refusal.specs.declared.Refusal.TheVariants.{NoEntry}
use Rattle.refusal.specs.declared.Refusal.{Refusal}
use Rattle.std.specs.Prelude.{Bool, List, [], ℕ, zero, suc, ◌-◌, ◌*◌, ◌/◌, ltb, eqb, length, Result, Ok, Err}
use Rattle.util.specs.Pick.{pick}
use Rattle.le.specs.Le.{part}
use Rattle.names.specs.Bytes.{are_same_bytes}
use Rattle.arch.specs.declared.VA.{VA}
use Rattle.arch.specs.Address.{va}
use Rattle.symbols.specs.declared.Symbol.{Symbol}
use Rattle.symbols.specs.declared.Extern.{Extern}
use Rattle.words.specs.Words.{word_of}
use Rattle.limits.specs.Records.{WORD, SYMBOL_WORDS, SYMBOL_BYTES, EXTERN_WORDS, EXTERN_BYTES, ADDRESS, NAME_START, NAME_LENGTH, SYMBOL_KIND, SYMBOL_NUMBER, SYMBOL_HOME, EXTERN_NUMBER}

-- ---- the tables
-- the whole records of a table whose records have W words; what is left behind them is none
abbrev pub count : ℕ → List ℕ → ℕ
count W table = length table / (WORD * W)

-- the whole records of a symbol table; what is left behind them is none
abbrev pub symbol_count : List ℕ → ℕ
symbol_count table = length table / SYMBOL_BYTES

-- the whole records of an extern table
abbrev pub extern_count : List ℕ → ℕ
extern_count table = length table / EXTERN_BYTES

-- ---- a record by number
-- of the symbols, as its words say
abbrev pub symbol_record : List ℕ → ℕ → Symbol
symbol_record table k = record {
  address = va (word_of SYMBOL_WORDS table k ADDRESS);
  kind = word_of SYMBOL_WORDS table k SYMBOL_KIND;
  name_start = word_of SYMBOL_WORDS table k NAME_START;
  name_length = word_of SYMBOL_WORDS table k NAME_LENGTH;
  number = word_of SYMBOL_WORDS table k SYMBOL_NUMBER;
  home = word_of SYMBOL_WORDS table k SYMBOL_HOME;
}

-- of the extern names
abbrev pub extern_record : List ℕ → ℕ → Extern
extern_record table k = record {
  address = va (word_of EXTERN_WORDS table k ADDRESS);
  number = word_of EXTERN_WORDS table k EXTERN_NUMBER;
  name_start = word_of EXTERN_WORDS table k NAME_START;
  name_length = word_of EXTERN_WORDS table k NAME_LENGTH;
}

-- of any table: below the count the record, else a refusal
unfoldable pub entry : {R : Type 0} → ℕ → (List ℕ → ℕ → R) → List ℕ → ℕ → Result R Refusal
entry W record_of table k = pick (ltb k (count W table)) (Ok (record_of table k)) (Err NoEntry)

-- of the symbols
unfoldable pub symbol_entry : List ℕ → ℕ → Result Symbol Refusal
symbol_entry table k = pick (ltb k (symbol_count table)) (Ok (symbol_record table k)) (Err NoEntry)

-- of an extern name likewise
unfoldable pub extern_entry : List ℕ → ℕ → Result Extern Refusal
extern_entry table k = pick (ltb k (extern_count table)) (Ok (extern_record table k)) (Err NoEntry)

-- ---- a record by name
-- the name of record k of n, of W words each, as that part of the file
unfoldable pub name_of : ℕ → ℕ → List ℕ → List ℕ → ℕ → List ℕ
name_of W n file table k = pick (ltb k n) (part file (word_of W table k NAME_START) (word_of W table k NAME_LENGTH)) []

-- record k has that name
abbrev pub has_name : ℕ → ℕ → List ℕ → List ℕ → List ℕ → ℕ → Bool
has_name W n file table name k = are_same_bytes (name_of W n file table k) name

-- the last below n of which p holds; where there is none, the refusal c
unfoldable pub last_to : Refusal → (ℕ → Bool) → ℕ → Result ℕ Refusal
last_to c p zero = Err c
last_to c p (suc n) = pick (p n) (Ok n) (last_to c p n)

-- a name finds the last
abbrev pub last_named : ℕ → ℕ → List ℕ → List ℕ → List ℕ → Result ℕ Refusal
last_named W n file table name = last_to NoEntry (has_name W n file table name) n

-- the last symbol of a name, by its record's number
abbrev pub symbol_named : List ℕ → List ℕ → List ℕ → Result ℕ Refusal
symbol_named file table name = last_named SYMBOL_WORDS (symbol_count table) file table name

-- the last extern entry of a name; load's list has each name once
abbrev pub extern_named : List ℕ → List ℕ → List ℕ → Result ℕ Refusal
extern_named file table name = last_named EXTERN_WORDS (extern_count table) file table name

-- ---- a record by address
-- the first from k on of n of which p holds
unfoldable pub first_from : (ℕ → Bool) → ℕ → ℕ → Result ℕ Refusal
first_from p k zero = Err NoEntry
first_from p k (suc n) = pick (p k) (Ok k) (first_from p (suc k) n)

-- record k lies at that address
unfoldable pub lies_at : List ℕ → VA → ℕ → Bool
lies_at table a k = eqb (word_of SYMBOL_WORDS table k ADDRESS) a.0

-- an address finds all, one after another
abbrev pub symbol_at : List ℕ → VA → ℕ → Result ℕ Refusal
symbol_at table a from = first_from (lies_at table a) from (symbol_count table - from)
