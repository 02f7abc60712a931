-- What the fields of `names_object` read as.
use Rattle.std.specs.Prelude.{◌≡◌, false, List, [], ◌∷◌, ◌++◌, ℕ, ◌+◌, ◌-◌, ◌*◌, ◌≤◌, ◌<◌, min, eqb, replicate}
use Rattle.std.proofs.Math.Path.{refl, ap}
use Rattle.std.proofs.Common.{◌∙◌, ne_eqb}
use native.Mathlib.Omega.{arith}
use Rattle.std.proofs.Math.ListN.{length, get_or, length-append, get_or-append}
use Rattle.std.proofs.lemmas.List.{length-replicate}
use Rattle.util.specs.Pick.{pick}
use Rattle.le.specs.Le.{get, le, get_le}
use Rattle.limits.specs.Limits.{MAX_RELOCATIONS}
use Rattle.object.specs.declared.Header.{Header}
use Rattle.object.specs.Format.{header_of, address_field, raw_size, raw_pointer, relocation_pointer, relocation_field, flags, symbol_value, section_field, symbol_type, symbol_class, auxiliaries}
use Rattle.object.specs.Section.{extended, relocation_records, relocation_count, relocation_start}
use Rattle.object.specs.Relocation.{relocation_in, relocation, relocation_address, relocation_symbol, relocation_type}
use Rattle.examples.specs.Records.{records_to, length_records, record_at_lem, byte_behind, same_number}
use Rattle.examples.specs.NamesObject.{MAX_NAMES, symbol_bytes, relocation_bytes, relocations_at, symbols_at, header_bytes, text_bytes, names_object, names_header}

-- ---- bytes, whatever the numbers
length_relocation : (n k : ℕ) → length (relocation_bytes n k) ≡ 10
unfolding le
length_relocation n k = refl

length_symbol : (k : ℕ) → length (symbol_bytes k) ≡ 18
length_symbol k = refl

module _ (n m : ℕ) where
  abbrev f : List ℕ
  f = names_object n m

  -- the file from the symbols on, from the relocations on, and from the raw data on
  abbrev from_symbols : List ℕ
  from_symbols = records_to symbol_bytes n ++ (4 ∷ 0 ∷ 0 ∷ 0 ∷ [])

  abbrev from_relocations : List ℕ
  from_relocations = records_to (relocation_bytes n) m ++ from_symbols

  abbrev from_data : List ℕ
  from_data = replicate (4 * m) 0 ++ from_relocations

  long_data : length {A = ℕ} (replicate (4 * m) 0) ≡ 4 * m
  long_data = length-replicate {A = ℕ} (4 * m) 0

  long_relocations : length (records_to (relocation_bytes n) m) ≡ 10 * m
  long_relocations = length_records (relocation_bytes n) 10 (length_relocation n) m

  long_symbols : length (records_to symbol_bytes n) ≡ 18 * n
  long_symbols = length_records symbol_bytes 18 length_symbol n

  -- the file's length
  pub length_names : length f ≡ symbols_at m + 18 * n + 4
  unfolding le
  length_names =
      let a : length f ≡ 60 + length from_data = length-append (header_bytes n m ++ text_bytes m) from_data in
      let b = length-append (replicate (4 * m) 0) from_relocations in
      let c = length-append (records_to (relocation_bytes n) m) from_symbols in
      let d = length-append (records_to symbol_bytes n) (4 ∷ 0 ∷ 0 ∷ 0 ∷ []) in
      let x = long_data in
      let y = long_relocations in
      let z = long_symbols in
      omega arith

  -- a byte from the relocations on, and from the symbols on
  relocations_on : (i : ℕ) → get_or f (relocations_at m + i) 0 ≡ get_or from_relocations i 0
  unfolding le
  relocations_on i =
      let e : relocations_at m + i ≡ 60 + (4 * m + i) = omega arith in
      ap (λ (t : ℕ). get_or f t 0) e
      ∙ byte_behind (header_bytes n m ++ text_bytes m) from_data 60 (4 * m + i) refl
      ∙ byte_behind (replicate (4 * m) 0) from_relocations (4 * m) i long_data

  symbols_on : (i : ℕ) → get_or f (symbols_at m + i) 0 ≡ get_or from_symbols i 0
  symbols_on i =
      let e : symbols_at m + i ≡ relocations_at m + (10 * m + i) = omega arith in
      ap (λ (t : ℕ). get_or f t 0) e ∙ relocations_on (10 * m + i) ∙ byte_behind (records_to (relocation_bytes n) m) from_symbols (10 * m) i long_relocations

  -- byte i of relocation k, and of symbol k
  relocation_byte : (k i : ℕ) → k < m → i < 10 → get_or f (relocations_at m + 10 * k + i) 0 ≡ get_or (relocation_bytes n k) i 0
  relocation_byte k i h q =
      let e : relocations_at m + 10 * k + i ≡ relocations_at m + (10 * k + i) = omega arith in
      let l = long_relocations in
      ap (λ (t : ℕ). get_or f t 0) e
      ∙ relocations_on (10 * k + i)
      ∙ get_or-append (records_to (relocation_bytes n) m) from_symbols 0 (10 * k + i) (omega arith)
      ∙ record_at_lem (relocation_bytes n) 10 (length_relocation n) m k i h q

  pub symbol_byte : (k i : ℕ) → k < n → i < 18 → get_or f (symbols_at m + 18 * k + i) 0 ≡ get_or (symbol_bytes k) i 0
  symbol_byte k i h q =
      let e : symbols_at m + 18 * k + i ≡ symbols_at m + (18 * k + i) = omega arith in
      let l = long_symbols in
      ap (λ (t : ℕ). get_or f t 0) e
      ∙ symbols_on (18 * k + i)
      ∙ get_or-append (records_to symbol_bytes n) (4 ∷ 0 ∷ 0 ∷ 0 ∷ []) 0 (18 * k + i) (omega arith)
      ∙ record_at_lem symbol_bytes 18 length_symbol n k i h q

  -- and the numbers in them
  relocation_number : (w k i : ℕ) → k < m → i + w ≤ 10 → get w f (relocations_at m + 10 * k + i) ≡ get w (relocation_bytes n k) i
  relocation_number w k i h q =
      let l = length_relocation n k in
      same_number w f (relocation_bytes n k) (relocations_at m + 10 * k) i (λ j p. relocation_byte k j h (omega arith)) (omega arith)

  pub symbol_number : (w k i : ℕ) → k < n → i + w ≤ 18 → get w f (symbols_at m + 18 * k + i) ≡ get w (symbol_bytes k) i
  symbol_number w k i h q = same_number w f (symbol_bytes k) (symbols_at m + 18 * k) i (λ j p. symbol_byte k j h p) q

  -- the string table's length
  pub strings_number : get 4 f (symbols_at m + 18 * n) ≡ 4
  unfolding get
  strings_number =
      let e : symbols_at m + 18 * n ≡ symbols_at m + 18 * n + 0 = omega arith in
      ap (get 4 f) e
      ∙ same_number 4 f (4 ∷ 0 ∷ 0 ∷ 0 ∷ []) (symbols_at m + 18 * n) 0
      (λ j p.
      let d : symbols_at m + 18 * n + j ≡ symbols_at m + (18 * n + j) = omega arith in
      ap (λ (t : ℕ). get_or f t 0) d ∙ symbols_on (18 * n + j) ∙ byte_behind (records_to symbol_bytes n) (4 ∷ 0 ∷ 0 ∷ 0 ∷ []) (18 * n) j long_symbols)
      (omega arith)

-- ---- fields, where every number fits its own
module _ (n m : ℕ) (names : n ≤ MAX_NAMES) (most : m ≤ MAX_RELOCATIONS) where
  abbrev file : List ℕ
  file = names_object n m

  abbrev h : Header
  h = names_header n m

  -- of the file header
  pub names_header_lem : header_of file ≡ h
  unfolding header_of get le pick
  names_header_lem =
      let a : get 4 file 8 ≡ symbols_at m = get_le 4 (symbols_at m) (omega arith) in
      let b : get 4 file 12 ≡ n = get_le 4 n (omega arith) in
      let d : pick (eqb (symbols_at m) 0) 0 (get 4 file 12) ≡ n = rw (ne_eqb (symbols_at m) 0 (λ e. omega arith)) b in
      ap (λ (p : ℕ). record { machine = 0x14C; sections = 1; section_table = 20; symbol_table = p; symbols = pick (eqb p 0) 0 (get 4 file 12) }) a
      ∙ ap (λ (s : ℕ). record { machine = 0x14C; sections = 1; section_table = 20; symbol_table = symbols_at m; symbols = s }) d

  -- of the section record
  pub text_address : address_field file h 0 ≡ 0
  unfolding get le
  text_address = refl

  pub text_size : raw_size file h 0 ≡ 4 * m
  unfolding get le
  text_size = get_le 4 (4 * m) (omega arith)

  pub text_pointer : raw_pointer file h 0 ≡ 60
  unfolding get le
  text_pointer = refl

  pub text_relocations : relocation_pointer file h 0 ≡ relocations_at m
  unfolding get le
  text_relocations = get_le 4 (relocations_at m) (omega arith)

  text_field : relocation_field file h 0 ≡ m
  unfolding get le
  text_field = get_le 2 m (omega arith)

  pub text_flags : flags file h 0 ≡ 0x60500020
  unfolding get le
  text_flags = refl

  -- without the overflow flag the count is the field's
  pub text_extended : extended file h 0 ≡ false
  unfolding extended
  text_extended = rw text_flags

  pub text_records : relocation_records file h 0 ≡ m
  unfolding relocation_records pick
  text_records = rw text_extended text_field

  pub text_count : relocation_count file h 0 ≡ m
  unfolding relocation_count pick
  text_count = rw text_extended text_records

  text_start : relocation_start file h 0 ≡ relocations_at m
  unfolding relocation_start pick
  text_start = rw text_extended text_relocations

  -- of relocation k
  module _ (k : ℕ) (below : k < m) where
    address_is : relocation_address file h 0 k ≡ 4 * k
    unfolding get le
    address_is =
        let e : relocations_at m + 10 * k ≡ relocations_at m + 10 * k + 0 = omega arith in
        rw text_start (ap (get 4 file) e ∙ relocation_number n m 4 k 0 below (omega arith) ∙ get_le 4 (4 * k) (omega arith))

    pub symbol_is : relocation_symbol file h 0 k ≡ min k (n - 1)
    unfolding get le
    symbol_is = rw text_start (relocation_number n m 4 k 4 below (omega arith) ∙ get_le 4 (min k (n - 1)) (omega arith))

    type_is : relocation_type file h 0 k ≡ 6
    unfolding get le
    type_is = rw text_start (relocation_number n m 2 k 8 below (omega arith))

    pub relocation_is : relocation file h 0 k ≡ record { address = 4 * k; symbol = min k (n - 1); typ = 6 }
    unfolding relocation_in
    relocation_is = rw (address_is, symbol_is, type_is)

  -- of symbol k
  module _ (k : ℕ) (below : k < n) where
    pub value_is : symbol_value file h k ≡ 0
    unfolding get
    value_is = symbol_number n m 4 k 8 below (omega arith)

    pub section_is : section_field file h k ≡ 0
    unfolding get
    section_is = symbol_number n m 2 k 12 below (omega arith)

    pub symbol_type_is : symbol_type file h k ≡ 0
    unfolding get
    symbol_type_is = symbol_number n m 2 k 14 below (omega arith)

    pub class_is : symbol_class file h k ≡ 2
    class_is = symbol_byte n m k 16 below (omega arith)

    pub auxiliaries_are : auxiliaries file h k ≡ 0
    auxiliaries_are = symbol_byte n m k 17 below (omega arith)
