-- Each table, read back word by word, gives the records of its definition. For every file and every buffer that the table fits.
use Rattle.arch.specs.declared.RVA.{RVA}
use Rattle.std.specs.Prelude.{◌≡◌, ℕ, zero, suc, ◌+◌, ◌*◌, ◌%◌, ◌^◌, ◌<◌, ◌≤◌, Bool, true, List, ◌++◌, length, get_or, slice_index, slice_index_or, Option}
use Rattle.std.proofs.Math.Path.{refl, ap}
use Rattle.std.proofs.Common.{sym, ◌∙◌, arith, length-append}
use Rattle.util.specs.Pick.{pick}
use Rattle.util.specs.Prefix.{count_to, count_below}
use Rattle.le.specs.Le.{splice}
use Rattle.arch.specs.Page.{PAGE_SIZE}
use Rattle.object.specs.declared.Header.{Header}
use Rattle.object.specs.Section.{loaded, file_start, file_end, range_length, permissions}
use Rattle.names.specs.Name.{section_name, symbol_name, name_start, name_length}
use Rattle.limits.specs.Limits.{SLOT_SIZE}
use Rattle.limits.specs.Records.{SECTION_WORDS, SECTION_BYTES, SECTION_START, SECTION_END, SECTION_FILE_START, SECTION_FILE_END, SECTION_PERMISSIONS, SECTION_NAME_START, SECTION_NAME_LENGTH, SECTION_FILE_NUMBER, EXTERN_WORDS, EXTERN_BYTES, ADDRESS, EXTERN_NUMBER, NAME_START, NAME_LENGTH}
use Rattle.layout.specs.Layout.{record_of, table_records}
use Rattle.homes.specs.Home.{start_of}
use Rattle.words.specs.Words.{word_bytes, word_of, words_append, length_words}
use Rattle.words.specs.Rows.{row_words, length_rows, row_before, row_back, row_behind}
use Rattle.words.specs.Picked.{picked, chosen, length_chosen, chosen_at, picked_rows}
use Rattle.tables.specs.Sections.{READ, section_words, undef_words, section_table}
use Rattle.tables.specs.Externs.{extern_words, extern_table}

-- ---- sections: the loaded sections below i, in file order
abbrev pub loaded_to : List ℕ → Header → ℕ → List ℕ
loaded_to f h i = chosen (loaded f h) i

-- they and UNDEF are the records that survey counts
pub sections_counted : (f : List ℕ) (h : Header) → length (loaded_to f h h.sections) + 1 ≡ table_records f h
sections_counted f h = ap (λ (n : ℕ). n + 1) (length_chosen (loaded f h) h.sections)

module _ (f : List ℕ) (h : Header) (base : ℕ) (home : ℕ → Option RVA) (undef : ℕ) where
  length_section : (i : ℕ) → length (section_words f h base home i) ≡ SECTION_WORDS
  unfolding section_words
  length_section i = refl

  pub section_words_lem : section_table f h base home undef ≡ word_bytes (row_words (section_words f h base home) (loaded_to f h h.sections) ++ undef_words base undef)
  section_words_lem = rw (picked_rows (loaded f h) (section_words f h base home) h.sections) (sym (words_append (row_words (section_words f h base home) (loaded_to f h h.sections)) (undef_words base undef)))

  pub length_sections : length (section_table f h base home undef) ≡ SECTION_BYTES * (length (loaded_to f h h.sections) + 1)
  length_sections =
      let l = length_rows (section_words f h base home) SECTION_WORDS length_section (loaded_to f h h.sections) in
      let a = length-append (row_words (section_words f h base home) (loaded_to f h h.sections)) (undef_words base undef) in
      rw section_words_lem (length_words (row_words (section_words f h base home) (loaded_to f h h.sections) ++ undef_words base undef) ∙ (omega arith))

  pub sections_fill : length (section_table f h base home undef) ≡ SECTION_BYTES * table_records f h
  sections_fill = length_sections ∙ ap (λ (m : ℕ). SECTION_BYTES * m) (sections_counted f h)

  module _ (b : List ℕ) (r : SECTION_BYTES * (length (loaded_to f h h.sections) + 1) ≤ length b) (w : ℕ) (q : w < SECTION_WORDS) where
    -- word w of record k
    pub section_back : (k d : ℕ) → k < length (loaded_to f h h.sections)
        → word_of SECTION_WORDS (splice b 0 (section_table f h base home undef)) k w
        ≡ slice_index (section_words f h base home (slice_index_or (loaded_to f h h.sections) k d)) w % 2 ^ 64
    section_back k d t =
        rw section_words_lem
        (row_before (section_words f h base home) SECTION_WORDS length_section (loaded_to f h h.sections) (undef_words base undef) b k w d (omega arith) t q)

    -- and of the record of section i
    pub section_record : (i : ℕ) → i < h.sections → loaded f h i ≡ true
        → word_of SECTION_WORDS (splice b 0 (section_table f h base home undef)) (record_of f h i) w ≡ slice_index (section_words f h base home i) w % 2 ^ 64
    section_record i n t =
        section_back (record_of f h i) 0 (rw (length_chosen (loaded f h) h.sections) (count_below (loaded f h) h.sections i n t))
        ∙ ap (λ (x : ℕ). slice_index (section_words f h base home x) w % 2 ^ 64) (chosen_at (loaded f h) h.sections i 0 n t)

    -- UNDEF's record is the last
    pub undef_back : word_of SECTION_WORDS (splice b 0 (section_table f h base home undef)) (length (loaded_to f h h.sections)) w ≡ slice_index (undef_words base undef) w % 2 ^ 64
    undef_back =
        rw section_words_lem (row_behind (section_words f h base home) SECTION_WORDS length_section (loaded_to f h h.sections) (undef_words base undef) b w (omega arith) q)

-- ---- externs: a record for each number below n
abbrev every : ℕ → Bool
every e = true

count_every : (n : ℕ) → count_to every n ≡ n
unfolding count_to pick
count_every zero = refl
count_every (suc n) = rw (count_every n) (omega arith)

module _ (f : List ℕ) (h : Header) (base undef : ℕ) (slots : List ℕ) where
  length_extern : (e : ℕ) → length (extern_words f h base undef slots e) ≡ EXTERN_WORDS
  unfolding extern_words
  length_extern e = refl

  extern_picked : (n : ℕ) → extern_table f h base undef slots n ≡ picked every (extern_words f h base undef slots) n
  unfolding extern_table picked pick
  extern_picked zero = refl
  extern_picked (suc n) = ap (λ (l : List ℕ). l ++ word_bytes (extern_words f h base undef slots n)) (extern_picked n)

  extern_words_lem : (n : ℕ) → extern_table f h base undef slots n ≡ word_bytes (row_words (extern_words f h base undef slots) (chosen every n))
  extern_words_lem n = extern_picked n ∙ picked_rows every (extern_words f h base undef slots) n

  every_long : (n : ℕ) → length (chosen every n) ≡ n
  every_long n = length_chosen every n ∙ count_every n

  pub length_externs : (n : ℕ) → length (extern_table f h base undef slots n) ≡ EXTERN_BYTES * n
  length_externs n =
      let l = length_rows (extern_words f h base undef slots) EXTERN_WORDS length_extern (chosen every n) in
      let c = every_long n in
      rw (extern_words_lem n) (length_words (row_words (extern_words f h base undef slots) (chosen every n)) ∙ (omega arith))

  pub extern_back : (n e w : ℕ) (b : List ℕ) → EXTERN_BYTES * n ≤ length b → e < n → w < EXTERN_WORDS
      → word_of EXTERN_WORDS (splice b 0 (extern_table f h base undef slots n)) e w ≡ slice_index (extern_words f h base undef slots e) w % 2 ^ 64
  extern_back n e w b r t q =
      let c = every_long n in
      let a : get_or (chosen every n) e 0 ≡ e = rw (count_every e) at (chosen_at every n e 0 t refl) in
      rw (extern_words_lem n) (row_back (extern_words f h base undef slots) EXTERN_WORDS length_extern (chosen every n) b e w 0 (omega arith) (omega arith) q)
      ∙ ap (λ (x : ℕ). slice_index (extern_words f h base undef slots x) w % 2 ^ 64) a

-- ---- the records by the names of their words: what record r of t has
module _ (t : List ℕ) (r : ℕ) where
  -- of section i: its range at the base, its file range, permissions, name, and number from 1
  pub record SectionAt (f : List ℕ) (h : Header) (base : ℕ) (home : ℕ → Option RVA) (i : ℕ) : Type 0 where
    pub start : word_of SECTION_WORDS t r SECTION_START ≡ (base + start_of (home i)) % 2 ^ 64
    pub end : word_of SECTION_WORDS t r SECTION_END ≡ (base + start_of (home i) + range_length f h i) % 2 ^ 64
    pub file_from : word_of SECTION_WORDS t r SECTION_FILE_START ≡ file_start f h i % 2 ^ 64
    pub file_to : word_of SECTION_WORDS t r SECTION_FILE_END ≡ file_end f h i % 2 ^ 64
    pub allowed : word_of SECTION_WORDS t r SECTION_PERMISSIONS ≡ permissions f h i % 2 ^ 64
    pub name_from : word_of SECTION_WORDS t r SECTION_NAME_START ≡ name_start (section_name f h i) % 2 ^ 64
    pub name_long : word_of SECTION_WORDS t r SECTION_NAME_LENGTH ≡ name_length (section_name f h i) % 2 ^ 64
    pub number : word_of SECTION_WORDS t r SECTION_FILE_NUMBER ≡ (i + 1) % 2 ^ 64

  -- of UNDEF: one page, no bytes in the file, readable, no name in the file, number 0
  pub record UndefAt (base undef : ℕ) : Type 0 where
    pub start : word_of SECTION_WORDS t r SECTION_START ≡ (base + undef) % 2 ^ 64
    pub end : word_of SECTION_WORDS t r SECTION_END ≡ (base + undef + PAGE_SIZE) % 2 ^ 64
    pub file_from : word_of SECTION_WORDS t r SECTION_FILE_START ≡ 0
    pub file_to : word_of SECTION_WORDS t r SECTION_FILE_END ≡ 0
    pub allowed : word_of SECTION_WORDS t r SECTION_PERMISSIONS ≡ READ
    pub name_from : word_of SECTION_WORDS t r SECTION_NAME_START ≡ 0
    pub name_long : word_of SECTION_WORDS t r SECTION_NAME_LENGTH ≡ 0
    pub number : word_of SECTION_WORDS t r SECTION_FILE_NUMBER ≡ 0

  -- of extern name e: its slot's address, the symbol that put it there, its name
  pub record ExternAt (f : List ℕ) (h : Header) (base undef : ℕ) (slots : List ℕ) (e : ℕ) : Type 0 where
    pub slot : word_of EXTERN_WORDS t r ADDRESS ≡ (base + undef + SLOT_SIZE * e) % 2 ^ 64
    pub symbol : word_of EXTERN_WORDS t r EXTERN_NUMBER ≡ slice_index slots e % 2 ^ 64
    pub name_from : word_of EXTERN_WORDS t r NAME_START ≡ name_start (symbol_name f h (slice_index slots e)) % 2 ^ 64
    pub name_long : word_of EXTERN_WORDS t r NAME_LENGTH ≡ name_length (symbol_name f h (slice_index slots e)) % 2 ^ 64

module _ (f : List ℕ) (h : Header) (base : ℕ) (home : ℕ → Option RVA) (undef : ℕ) (b : List ℕ) (r : SECTION_BYTES * table_records f h ≤ length b) where
  room : SECTION_BYTES * (length (loaded_to f h h.sections) + 1) ≤ length b
  room = rw (sections_counted f h) r

  pub section_read : (i : ℕ) → i < h.sections → loaded f h i ≡ true
      → SectionAt (splice b 0 (section_table f h base home undef)) (record_of f h i) f h base home i
  unfolding section_words
  section_read i n t =
      record {
        start = section_record f h base home undef b room SECTION_START (omega arith) i n t;
        end = section_record f h base home undef b room SECTION_END (omega arith) i n t;
        file_from = section_record f h base home undef b room SECTION_FILE_START (omega arith) i n t;
        file_to = section_record f h base home undef b room SECTION_FILE_END (omega arith) i n t;
        allowed = section_record f h base home undef b room SECTION_PERMISSIONS (omega arith) i n t;
        name_from = section_record f h base home undef b room SECTION_NAME_START (omega arith) i n t;
        name_long = section_record f h base home undef b room SECTION_NAME_LENGTH (omega arith) i n t;
        number = section_record f h base home undef b room SECTION_FILE_NUMBER (omega arith) i n t;
      }

  -- UNDEF's record stands behind the loaded sections'
  pub undef_read : UndefAt (splice b 0 (section_table f h base home undef)) (record_of f h h.sections) base undef
  undef_read =
      rw (← length_chosen (loaded f h) h.sections)
      (record {
        start = undef_back f h base home undef b room SECTION_START (omega arith);
        end = undef_back f h base home undef b room SECTION_END (omega arith);
        file_from = undef_back f h base home undef b room SECTION_FILE_START (omega arith);
        file_to = undef_back f h base home undef b room SECTION_FILE_END (omega arith);
        allowed = undef_back f h base home undef b room SECTION_PERMISSIONS (omega arith);
        name_from = undef_back f h base home undef b room SECTION_NAME_START (omega arith);
        name_long = undef_back f h base home undef b room SECTION_NAME_LENGTH (omega arith);
        number = undef_back f h base home undef b room SECTION_FILE_NUMBER (omega arith);
      })

pub extern_read : (f : List ℕ) (h : Header) (base undef : ℕ) (slots b : List ℕ) (n e : ℕ) → EXTERN_BYTES * n ≤ length b → e < n
    → ExternAt (splice b 0 (extern_table f h base undef slots n)) e f h base undef slots e
unfolding extern_words
extern_read f h base undef slots b n e r t =
    record {
      slot = extern_back f h base undef slots n e ADDRESS b r t (omega arith);
      symbol = extern_back f h base undef slots n e EXTERN_NUMBER b r t (omega arith);
      name_from = extern_back f h base undef slots n e NAME_START b r t (omega arith);
      name_long = extern_back f h base undef slots n e NAME_LENGTH b r t (omega arith);
    }
