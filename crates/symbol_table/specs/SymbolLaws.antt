-- The symbol table, read back word by word, gives the records of its definition. For every file and every buffer that the table fits.
use Rattle.arch.specs.declared.RVA.{RVA}
use Rattle.std.specs.Prelude.{◌≡◌, ℕ, ◌+◌, ◌*◌, ◌%◌, ◌^◌, ◌<◌, ◌≤◌, true, List, length, slice_index, slice_index_or, Option}
use Rattle.std.proofs.Math.Path.{refl}
use Rattle.std.proofs.Common.{ap, ◌∙◌, arith}
use Rattle.util.specs.Prefix.{count_to, count_below}
use Rattle.le.specs.Le.{splice}
use Rattle.object.specs.declared.Header.{Header}
use Rattle.object.specs.Symbol.{kind, symbol_place}
use Rattle.kinds.specs.Symbol.{kind_number}
use Rattle.names.specs.Name.{symbol_name, name_start, name_length}
use Rattle.homes.specs.Listed.{of_place, listed, listed_offset, listed_total}
use Rattle.words.specs.Words.{word_bytes, word_of, length_words}
use Rattle.words.specs.Rows.{row_words, length_rows, row_back}
use Rattle.words.specs.Picked.{chosen, length_chosen, chosen_at, picked_rows}
use Rattle.limits.specs.Records.{SYMBOL_WORDS, SYMBOL_BYTES, ADDRESS, NAME_START, NAME_LENGTH, SYMBOL_KIND, SYMBOL_NUMBER, SYMBOL_HOME}
use Rattle.symbol_table.specs.Symbols.{symbol_words, symbol_table}

-- the listed symbols below j, in file order
abbrev pub listed_to : List ℕ → Header → (ℕ → Option RVA) → ℕ → List ℕ
listed_to f h home j = chosen (listed f h home) j

pub symbols_counted : (f : List ℕ) (h : Header) (home : ℕ → Option RVA) → length (listed_to f h home h.symbols) ≡ listed_total f h home
symbols_counted f h home = length_chosen (listed f h home) h.symbols

module _ (f : List ℕ) (h : Header) (base : ℕ) (home : ℕ → Option RVA) (row : ℕ → ℕ) where
  length_symbol : (j : ℕ) → length (symbol_words f h base home row j) ≡ SYMBOL_WORDS
  unfolding symbol_words
  length_symbol j = refl

  pub symbol_words_lem : symbol_table f h base home row ≡ word_bytes (row_words (symbol_words f h base home row) (listed_to f h home h.symbols))
  symbol_words_lem = picked_rows (listed f h home) (symbol_words f h base home row) h.symbols

  pub length_symbols : length (symbol_table f h base home row) ≡ SYMBOL_BYTES * length (listed_to f h home h.symbols)
  length_symbols =
      let l = length_rows (symbol_words f h base home row) SYMBOL_WORDS length_symbol (listed_to f h home h.symbols) in
      rw symbol_words_lem (length_words (row_words (symbol_words f h base home row) (listed_to f h home h.symbols)) ∙ (omega arith))

  pub symbols_fill : length (symbol_table f h base home row) ≡ SYMBOL_BYTES * listed_total f h home
  symbols_fill = length_symbols ∙ ap (λ (m : ℕ). SYMBOL_BYTES * m) (symbols_counted f h home)

  module _ (b : List ℕ) (r : SYMBOL_BYTES * length (listed_to f h home h.symbols) ≤ length b) (w : ℕ) (q : w < SYMBOL_WORDS) where
    -- word w of record k
    pub symbol_back : (k d : ℕ) → k < length (listed_to f h home h.symbols)
        → word_of SYMBOL_WORDS (splice b 0 (symbol_table f h base home row)) k w
        ≡ slice_index (symbol_words f h base home row (slice_index_or (listed_to f h home h.symbols) k d)) w % 2 ^ 64
    symbol_back k d t =
        rw symbol_words_lem (row_back (symbol_words f h base home row) SYMBOL_WORDS length_symbol (listed_to f h home h.symbols) b k w d (omega arith) t q)

    -- and of the record of symbol j, which stands behind those of the listed symbols before it
    pub symbol_record_lem : (j : ℕ) → j < h.symbols → listed f h home j ≡ true
        → word_of SYMBOL_WORDS (splice b 0 (symbol_table f h base home row)) (count_to (listed f h home) j) w
        ≡ slice_index (symbol_words f h base home row j) w % 2 ^ 64
    symbol_record_lem j n t =
        symbol_back (count_to (listed f h home) j) 0
        (rw (length_chosen (listed f h home) h.symbols) (count_below (listed f h home) h.symbols j n t))
        ∙ ap (λ (x : ℕ). slice_index (symbol_words f h base home row x) w % 2 ^ 64) (chosen_at (listed f h home) h.symbols j 0 n t)

-- ---- a record by the names of its words: what record r of t has
pub record SymbolAt (t : List ℕ) (r : ℕ) (f : List ℕ) (h : Header) (base : ℕ) (home : ℕ → Option RVA) (row : ℕ → ℕ) (j : ℕ) : Type 0 where
  pub address : word_of SYMBOL_WORDS t r ADDRESS ≡ (base + listed_offset f h home j) % 2 ^ 64
  pub kind_of : word_of SYMBOL_WORDS t r SYMBOL_KIND ≡ kind_number (kind f h j) % 2 ^ 64
  pub name_from : word_of SYMBOL_WORDS t r NAME_START ≡ name_start (symbol_name f h j) % 2 ^ 64
  pub name_long : word_of SYMBOL_WORDS t r NAME_LENGTH ≡ name_length (symbol_name f h j) % 2 ^ 64
  pub number : word_of SYMBOL_WORDS t r SYMBOL_NUMBER ≡ j % 2 ^ 64
  pub home_record : word_of SYMBOL_WORDS t r SYMBOL_HOME ≡ of_place row 0 (symbol_place f h j) % 2 ^ 64

pub symbol_read : (f : List ℕ) (h : Header) (base : ℕ) (home : ℕ → Option RVA) (row : ℕ → ℕ) (b : List ℕ) (j : ℕ) → SYMBOL_BYTES * listed_total f h home ≤ length b
    → j < h.symbols → listed f h home j ≡ true
    → SymbolAt (splice b 0 (symbol_table f h base home row)) (count_to (listed f h home) j) f h base home row j
unfolding symbol_words
symbol_read f h base home row b j r n t =
    let room : SYMBOL_BYTES * length (listed_to f h home h.symbols) ≤ length b = rw (symbols_counted f h home) r in
    record {
      address = symbol_record_lem f h base home row b room ADDRESS (omega arith) j n t;
      kind_of = symbol_record_lem f h base home row b room SYMBOL_KIND (omega arith) j n t;
      name_from = symbol_record_lem f h base home row b room NAME_START (omega arith) j n t;
      name_long = symbol_record_lem f h base home row b room NAME_LENGTH (omega arith) j n t;
      number = symbol_record_lem f h base home row b room SYMBOL_NUMBER (omega arith) j n t;
      home_record = symbol_record_lem f h base home row b room SYMBOL_HOME (omega arith) j n t;
    }
