-- 01's table of single facts ("A small object" and below), each over the definitions that the contracts use. What an object can show is shown on
-- one: computed, or where it is long by the laws of `examples`.
use Rattle.refusal.specs.declared.Refusal.TheVariants.{FileSize, SectionTable, Pages, Externs, Place}
use Rattle.refusal.specs.Refusal.{PASSES, BASE, EXTERNS, answer_of}
use Rattle.refusal.specs.declared.Refusal.{Refusal}
use Rattle.std.specs.Prelude.{◌≡◌, refl, true, false, List, [], ◌∷◌, ◌++◌, ℕ, ◌+◌, ◌*◌, ◌≤◌, length, get_or, Some, Result, Ok, Err}
use Rattle.std.proofs.Common.{ap, ◌∙◌, arith, le-leb}
use Rattle.arch.specs.declared.Arch.TheVariants.{X64}
use Rattle.arch.specs.Address.{rva}
use Rattle.survey.specs.declared.answer.Counts.{Counts}
use Rattle.survey.specs.Survey.{survey_of, extern_checks, first_failed, counts_by}
use Rattle.fixups.specs.Outcome.{fix_of, by_kind, resolved, outcome_at, outcome}
use Rattle.tables.specs.Sections.{section_words, undef_words}
use Rattle.symbol_table.specs.Symbols.{symbol_words}
use Rattle.tables.specs.Externs.{extern_words}
use Rattle.lists.specs.Relocations.{fix_words}
use Rattle.externs.specs.Externs.{externs, insert_name, extern_step}
use Rattle.layout.specs.Layout.{undef_start, next_start, start_at}
use Rattle.good_names.specs.GoodNames.{names_ok}
use Rattle.checks.specs.Checks.{base_ok}
use Rattle.storage.specs.Storage.{Storage}
use Rattle.loading.specs.Load.{load_checks}
use Rattle.demands.specs.Calls.{Call, patch, asked, applied_by, applied}
use Rattle.demands.specs.Origin.{no_fixup, fixup_at, fixup_value, slot_value, undef_address, covers, latest, origin_by, byte_of}
use Rattle.demands.specs.Counted.{lent_of}
use Rattle.demands.specs.Demand2.{standard_value, standard_at}
use Rattle.demands.specs.Demand3.{image_after, Demand3, demand_3}
use Rattle.util.specs.Align.{round_up}
use Rattle.util.specs.Pick.{pick}
use Rattle.util.specs.Prefix.{all_to, any_to, sum_to, count_to, list_to, list_at}
use Rattle.util.specs.Fold.{fold_records, fold_sections}
use Rattle.arch.specs.Machine.{arch_of}
use Rattle.le.specs.Le.{get, le, part}
use Rattle.object.specs.declared.Header.{Header}
use Rattle.object.specs.Format.{header_of, section_header_at, string_length}
use Rattle.kinds.specs.Types.{type32, type64, type_of}
use Rattle.object.specs.Section.{file_start, file_end, range_length, extended, relocation_records, relocation_count, relocation_start}
use Rattle.kinds.specs.Flags.{loaded_by, align_of, permissions_by}
use Rattle.object.specs.Symbol.{ok_at, left_after, auxiliaries_left, primary, is_symbol}
use Rattle.kinds.specs.Symbol.{is_function, code_or_data, static_kind, kind_by, zero_place, place_by, listed_by}
use Rattle.words.specs.Picked.{chosen}
use Rattle.utf8.specs.Utf8.{long_rows, begins, length_in, octets}
use Rattle.chars.specs.Chars.{good_section_name, good_symbol_name}
use Rattle.names.specs.Bytes.{run, up_to_zero, decimal_to, compare_bytes, are_same_bytes}
use Rattle.names.specs.Name.{name_bytes, long_run, symbol_run, slash_run, section_run, checked, left_from, long_span, span_at}
use Rattle.ranks.specs.Named.{first_in, loaded_named}
use Rattle.homes.specs.Home.{section_home, home_record, record_start, start_of, by_number}
use Rattle.bounds.specs.Bounds.{size_ok, machine_ok, section_table_ok, strings_ok, symbol_table_ok, bytes_ok, data_ok, relocations_ok, sections_ok}
use Rattle.codes.specs.Puts.{puts_by, puts}
use Rattle.externs.specs.Slot.{slot_from}
use Rattle.fixups.specs.Lists.{append_step, fix_at_record, skip_at_record}
use Rattle.fixups.specs.Tally.{count_step, tally_of}
use Rattle.targets.specs.Target.{home_target, slot_target, named_target, rule_target, target_of}
use Rattle.object.specs.Relocation.{relocation_in}
use Rattle.fixups.specs.Value.{value_of}
use Rattle.fixups.specs.declared.Fix.{Fix}
use Rattle.examples.specs.NamesObject.{names_object, names_fix}
use Rattle.examples.specs.SurveyLaws.{names_accepted, names_refused, names_words, names_fixes}
use Rattle.homes.specs.Listed.{of_place, offset_from, listed}

-- ---- the small object, with its relocation at a given offset of .text
abbrev pub small_with : ℕ → List ℕ
small_with offset =
    76 ∷ 1 ∷ 1 ∷ 0 ∷ 0 ∷ 0 ∷ 0 ∷ 0 ∷ 76 ∷ 0 ∷ 0 ∷ 0 ∷ 2 ∷ 0 ∷ 0 ∷ 0 ∷ 0 ∷ 0 ∷ 0 ∷ 0
    ∷ 46 ∷ 116 ∷ 101 ∷ 120 ∷ 116 ∷ 0 ∷ 0 ∷ 0 ∷ 0 ∷ 0 ∷ 0 ∷ 0 ∷ 0 ∷ 0 ∷ 0 ∷ 0 ∷ 6 ∷ 0 ∷ 0 ∷ 0
    ∷ 60 ∷ 0 ∷ 0 ∷ 0 ∷ 66 ∷ 0 ∷ 0 ∷ 0 ∷ 0 ∷ 0 ∷ 0 ∷ 0 ∷ 1 ∷ 0 ∷ 0 ∷ 0 ∷ 32 ∷ 0 ∷ 80 ∷ 96
    ∷ 232 ∷ 0 ∷ 0 ∷ 0 ∷ 0 ∷ 195
    ∷ (le 4 offset
    ++ (1 ∷ 0 ∷ 0 ∷ 0 ∷ 20 ∷ 0
    ∷ 95 ∷ 116 ∷ 111 ∷ 112 ∷ 117 ∷ 112 ∷ 0 ∷ 0 ∷ 0 ∷ 0 ∷ 0 ∷ 0 ∷ 1 ∷ 0 ∷ 32 ∷ 0 ∷ 2 ∷ 0
    ∷ 95 ∷ 112 ∷ 117 ∷ 114 ∷ 115 ∷ 101 ∷ 0 ∷ 0 ∷ 0 ∷ 0 ∷ 0 ∷ 0 ∷ 0 ∷ 0 ∷ 32 ∷ 0 ∷ 2 ∷ 0
    ∷ 4 ∷ 0 ∷ 0 ∷ 0 ∷ []))

-- 01's small object: the relocation at offset 1
abbrev pub small_object : List ℕ
small_object = small_with 1

-- ---- objects for the single facts
-- an i386 header and nothing else
abbrev pub empty_object : List ℕ
empty_object = 0x4C ∷ 0x01 ∷ 0 ∷ 0 ∷ 0 ∷ 0 ∷ 0 ∷ 0 ∷ 0 ∷ 0 ∷ 0 ∷ 0 ∷ 0 ∷ 0 ∷ 0 ∷ 0 ∷ 0 ∷ 0 ∷ 0 ∷ 0 ∷ []

-- an i386 object of one uninitialised section, of a size and an alignment code
abbrev pub sized : ℕ → ℕ → List ℕ
sized size code =
    0x4C ∷ 0x01 ∷ 1 ∷ 0 ∷ 0 ∷ 0 ∷ 0 ∷ 0 ∷ 0 ∷ 0 ∷ 0 ∷ 0 ∷ 0 ∷ 0 ∷ 0 ∷ 0 ∷ 0 ∷ 0 ∷ 0 ∷ 0
    ∷ 46 ∷ 98 ∷ 115 ∷ 115 ∷ 0 ∷ 0 ∷ 0 ∷ 0 ∷ 0 ∷ 0 ∷ 0 ∷ 0 ∷ 0 ∷ 0 ∷ 0 ∷ 0
    ∷ (le 4 size
    ++ (0 ∷ 0 ∷ 0 ∷ 0 ∷ 0 ∷ 0 ∷ 0 ∷ 0 ∷ 0 ∷ 0 ∷ 0 ∷ 0 ∷ 0 ∷ 0 ∷ 0 ∷ 0
    ∷ 0x80 ∷ 0 ∷ (16 * code) ∷ 0xC0 ∷ []))

-- the range length of a file's first section
abbrev pub range_of : List ℕ → ℕ
range_of f = range_length f (header_of f) 0

-- ---- an i386 object of two uninitialised sections; the first has a relocation, of type 6 at its start, by a symbol at the start of the second
abbrev pub two_uninitialized : List ℕ
two_uninitialized =
    0x4C ∷ 0x01 ∷ 2 ∷ 0 ∷ 0 ∷ 0 ∷ 0 ∷ 0 ∷ 110 ∷ 0 ∷ 0 ∷ 0 ∷ 1 ∷ 0 ∷ 0 ∷ 0 ∷ 0 ∷ 0 ∷ 0 ∷ 0
    ∷ 46 ∷ 98 ∷ 115 ∷ 115 ∷ 0 ∷ 0 ∷ 0 ∷ 0 ∷ 0 ∷ 0 ∷ 0 ∷ 0 ∷ 0 ∷ 0 ∷ 0 ∷ 0 ∷ 16 ∷ 0 ∷ 0 ∷ 0
    ∷ 0 ∷ 0 ∷ 0 ∷ 0 ∷ 100 ∷ 0 ∷ 0 ∷ 0 ∷ 0 ∷ 0 ∷ 0 ∷ 0 ∷ 1 ∷ 0 ∷ 0 ∷ 0 ∷ 0x80 ∷ 0 ∷ 0x10 ∷ 0xC0
    ∷ 46 ∷ 98 ∷ 115 ∷ 115 ∷ 0 ∷ 0 ∷ 0 ∷ 0 ∷ 0 ∷ 0 ∷ 0 ∷ 0 ∷ 0 ∷ 0 ∷ 0 ∷ 0 ∷ 16 ∷ 0 ∷ 0 ∷ 0
    ∷ 0 ∷ 0 ∷ 0 ∷ 0 ∷ 0 ∷ 0 ∷ 0 ∷ 0 ∷ 0 ∷ 0 ∷ 0 ∷ 0 ∷ 0 ∷ 0 ∷ 0 ∷ 0 ∷ 0x80 ∷ 0 ∷ 0x10 ∷ 0xC0
    ∷ 0 ∷ 0 ∷ 0 ∷ 0 ∷ 0 ∷ 0 ∷ 0 ∷ 0 ∷ 6 ∷ 0
    ∷ 95 ∷ 98 ∷ 115 ∷ 115 ∷ 0 ∷ 0 ∷ 0 ∷ 0 ∷ 0 ∷ 0 ∷ 0 ∷ 0 ∷ 2 ∷ 0 ∷ 0 ∷ 0 ∷ 3 ∷ 0
    ∷ 4 ∷ 0 ∷ 0 ∷ 0 ∷ []

-- pages, records of the section table, symbols, externs, fixups; the file's sections, symbol records, relocations
abbrev pub counts_with : ℕ → ℕ → ℕ → ℕ → ℕ → ℕ → ℕ → ℕ → Counts
counts_with p s y e x n m r =
    record {
      pages = p;
      sections = s;
      symbols = y;
      externs = e;
      fixups = x;
      skips = 0;
      passed = 0;
      file_sections = n;
      symbol_records = m;
      relocations = r;
    }

-- what survey answers for the small object
abbrev pub small_counts : Counts
small_counts = counts_with 3 2 1 1 1 1 2 1

-- ---- an object of as many names as there may be, each in one relocation
abbrev pub most_names : List ℕ
most_names = names_object 1024 1024

-- the words of its last extern name
abbrev pub last_name : ℕ → List ℕ
last_name base = extern_words most_names (header_of most_names) base (undef_start most_names (header_of most_names)) (externs most_names (header_of most_names)) 1023

most_slot : (base : ℕ) → last_name base ≡ (undef_address most_names base + 4092) ∷ 1023 ∷ 32810 ∷ 3 ∷ []
most_slot base = names_words 1024 1024 (omega arith) (omega arith) (omega arith) (omega arith) base 1023 (omega arith)

most_fixup : fixup_at most_names 1023 ≡ names_fix 1024 1024 1023
most_fixup =
    ap (λ (l : List Fix). get_or l 1023 no_fixup) (names_fixes 1024 1024 (omega arith) (omega arith) (omega arith) (omega arith))
    ∙ list_at (names_fix 1024 1024) no_fixup 1024 1023 (omega arith)

most_words : fix_words 0x20000000 (fixup_at most_names 1023) ≡ 0x20000FFC ∷ 32 ∷ 0x20001FFC ∷ []
unfolding fix_words value_of pick
most_words = ap (fix_words 0x20000000) most_fixup

-- ---- the table
pub record Table : Type 0 where
  -- the small object at 0x20000000: layout, symbol, slot, and the fixup with its value
  pub small : survey_of small_object ≡ Ok small_counts
  pub small_text : section_words small_object (header_of small_object) 0x20000000 (section_home small_object (header_of small_object)) 0 ≡ 0x20000000 ∷ 0x20000010 ∷ 60 ∷ 66 ∷ 5 ∷ 20 ∷ 5 ∷ 1 ∷ []
  pub small_undef : undef_words 0x20000000 (undef_start small_object (header_of small_object)) ≡ 0x20001000 ∷ 0x20002000 ∷ 0 ∷ 0 ∷ 1 ∷ 0 ∷ 0 ∷ 0 ∷ []
  pub small_symbol : symbol_words small_object (header_of small_object) 0x20000000 (section_home small_object (header_of small_object)) (home_record small_object (header_of small_object)) 0 ≡ 0x20000000 ∷ 1 ∷ 76 ∷ 6 ∷ 0 ∷ 0 ∷ []
  pub small_slot : extern_words small_object (header_of small_object) 0x20000000 (undef_start small_object (header_of small_object)) (externs small_object (header_of small_object)) 0 ≡ 0x20001000 ∷ 1 ∷ 94 ∷ 6 ∷ []
  pub small_fixup : fix_words 0x20000000 (fixup_at small_object 0) ≡ 0x20000001 ∷ 32 ∷ 4091 ∷ []
  -- 19 bytes, whatever they are: 1
  pub bytes_19 : (f : List ℕ) → length f ≡ 19 → survey_of f ≡ Err FileSize
  -- an empty i386 header: 2 pages
  pub empty : survey_of empty_object ≡ Ok (counts_with 2 1 0 0 0 0 0 0)
  -- ranges by size and alignment code
  pub size_1_code_0 : range_of (sized 1 0) ≡ 16
  pub size_1_code_1 : range_of (sized 1 1) ≡ 1
  pub size_1_code_14 : range_of (sized 1 14) ≡ 8192
  pub size_4097_code_0 : range_of (sized 4097 0) ≡ 4112
  -- 4,094 section pages are accepted, 4,095 refused: 8
  pub pages_4094 : survey_of (sized (4096 * 4094) 1) ≡ Ok (counts_with 4096 2 0 0 0 1 0 0)
  pub pages_4095 : survey_of (sized (4096 * 4095) 1) ≡ Err Pages
  -- 1,024 sections whose records lie in the file pass 3, and 1,025 are refused by it, whatever follows (02, N2)
  pub sections_1024 : (f : List ℕ) (h : Header) → h.sections ≡ 1024 → section_header_at h 1024 ≤ length f → section_table_ok f h ≡ true
  pub sections_1025 : (f : List ℕ) → size_ok f ≡ true → machine_ok (header_of f) ≡ true → (header_of f).sections ≡ 1025 → survey_of f ≡ Err SectionTable
  -- 1,024 names are accepted, 1,025 refused: 9
  pub names_1024 : survey_of most_names ≡ Ok (counts_with 3 2 0 1024 1024 1 1024 1024)
  pub names_1025 : survey_of (names_object 1025 1025) ≡ Err Externs
  -- the last slot is at UNDEF + 4,092, with symbol 1,023; the last fixup takes its address
  pub last_slot : (base : ℕ) → last_name base ≡ (undef_address most_names base + 4092) ∷ 1023 ∷ 32810 ∷ 3 ∷ []
  pub last_fixup : fix_words 0x20000000 (fixup_at most_names 1023) ≡ 0x20000FFC ∷ 32 ∷ 0x20001FFC ∷ []
  -- the same of any file with so many
  pub check_1024 : first_failed (extern_checks 1024) ≡ PASSES
  pub check_1025 : first_failed (extern_checks 1025) ≡ EXTERNS
  pub slot_1023 : (f : List ℕ) (base : ℕ) → slot_value f base 1023 ≡ undef_address f base + 4092
  -- x64 type 9 from 0x20000010 to 0x20001000
  pub type_9 : value_of 0x20000000 (fix_of (type_of X64 9) (rva 0x10) (rva 0x1000)) ≡ 4071
  -- base 0x7F000000 is taken, 0x7F001000 refused, whatever the file and the storage: 12
  pub base_taken : base_ok 0x7F000000 ≡ true
  pub base_refused : (f : List ℕ) (s : Storage) → first_failed (load_checks f (header_of f) 0x7F001000 s) ≡ BASE
  -- a 32-bit fixup 4 bytes before the last mapped end is taken, one 3 bytes before it refused: 11
  pub last_place : survey_of (small_with 12284) ≡ Ok small_counts
  pub past_the_end : survey_of (small_with 12285) ≡ Err Place

most_sections : (f : List ℕ) (h : Header) → h.sections ≡ 1024 → section_header_at h 1024 ≤ length f → section_table_ok f h ≡ true
unfolding section_table_ok
most_sections f h e k = rw (e, le-leb (section_header_at h 1024) (length f) k)

no_table : (f : List ℕ) (h : Header) → h.sections ≡ 1025 → section_table_ok f h ≡ false
unfolding section_table_ok
no_table f h e = rw e

more_sections : (f : List ℕ) → size_ok f ≡ true → machine_ok (header_of f) ≡ true → (header_of f).sections ≡ 1025 → survey_of f ≡ Err SectionTable
unfolding first_failed pick answer_of
more_sections f s m e = rw (s, m, no_table f (header_of f) e)

-- each of these facts holds
pub table : Table
unfolding round_up pick all_to any_to sum_to count_to list_to arch_of get le part header_of string_length type32 type64 type_of loaded_by align_of permissions_by file_start file_end
    range_length extended relocation_records relocation_count relocation_start is_function code_or_data static_kind kind_by zero_place place_by listed_by primary
    long_rows begins length_in octets run up_to_zero good_section_name good_symbol_name decimal_to compare_bytes are_same_bytes name_bytes long_run symbol_run slash_run section_run checked left_from long_span span_at first_in
    loaded_named record_start home_record section_home start_of by_number next_start start_at size_ok section_table_ok strings_ok symbol_table_ok bytes_ok data_ok relocations_ok sections_ok
    ok_at names_ok insert_name extern_step puts_by puts slot_from append_step fix_at_record skip_at_record by_kind resolved outcome_at outcome relocation_in rule_target target_of
    count_step tally_of home_target slot_target named_target value_of of_place offset_from listed first_failed counts_by answer_of
    fold_records fold_sections left_after auxiliaries_left is_symbol section_words symbol_words
    extern_words fix_words base_ok
table =
    record {
      small = refl;
      small_text = refl;
      small_undef = refl;
      small_symbol = refl;
      small_slot = refl;
      small_fixup = refl;
      bytes_19 = λ f e. rw e;
      empty = refl;
      size_1_code_0 = refl;
      size_1_code_1 = refl;
      size_1_code_14 = refl;
      size_4097_code_0 = refl;
      pages_4094 = refl;
      pages_4095 = refl;
      sections_1024 = most_sections;
      sections_1025 = more_sections;
      names_1024 = names_accepted 1024 1024 (omega arith) (omega arith) (omega arith) (omega arith);
      names_1025 = names_refused 1025 1025 (omega arith) (omega arith) (omega arith) (omega arith);
      last_slot = most_slot;
      last_fixup = most_words;
      check_1024 = refl;
      check_1025 = refl;
      slot_1023 = λ f base. omega arith;
      type_9 = refl;
      base_taken = refl;
      base_refused = λ f s. refl;
      last_place = refl;
      past_the_end = refl;
    }

-- ---- demand 3 of the small object, so that its hypotheses are met: any calls, at the lowest and the highest base
pub small_demand_3 : (calls : List Call) → Demand3 small_object 0 0x7F000000 (lent_of small_object 0) (lent_of small_object 0x7F000000) calls
unfolding base_ok
small_demand_3 calls = demand_3 small_object small_counts table.small 0 0x7F000000 refl refl calls

-- patched fully at 0x20000000, the first byte of its call's field is the value's lowest
pub small_patched : get_or (image_after 0x20000000 (lent_of small_object 0x20000000) (patch 1 0 ∷ [])) 1 0 ≡ 0xFB
unfolding round_up pick all_to any_to sum_to count_to list_to arch_of get le part header_of string_length type32 type64 type_of loaded_by align_of permissions_by file_start file_end
    range_length extended relocation_records relocation_count relocation_start is_function code_or_data static_kind kind_by zero_place place_by listed_by primary
    long_rows begins length_in octets run up_to_zero good_section_name good_symbol_name decimal_to compare_bytes are_same_bytes name_bytes long_run symbol_run slash_run section_run checked left_from long_span span_at first_in
    loaded_named record_start home_record section_home start_of by_number next_start start_at size_ok section_table_ok strings_ok symbol_table_ok bytes_ok data_ok relocations_ok sections_ok
    ok_at names_ok insert_name extern_step puts_by puts slot_from append_step fix_at_record skip_at_record by_kind resolved outcome_at outcome relocation_in rule_target target_of
    count_step tally_of home_target slot_target named_target value_of of_place offset_from listed first_failed counts_by answer_of
    fold_records fold_sections left_after auxiliaries_left is_symbol section_words symbol_words
    extern_words fix_words base_ok
    chosen asked applied_by applied covers latest origin_by byte_of
small_patched = (demand_3 small_object small_counts table.small 0x20000000 0x20000000 refl refl (patch 1 0 ∷ [])).one.bytes 1 (omega arith)

-- ---- two uninitialised sections have two homes, and a fixup to a symbol of the second has the standard's value (02, N3)
pub record TwoUninitialized : Type 0 where
  pub accepted : survey_of two_uninitialized ≡ Ok (counts_with 4 3 1 0 1 2 1 1)
  pub first : section_home two_uninitialized (header_of two_uninitialized) 0 ≡ Some (rva 0)
  pub second : section_home two_uninitialized (header_of two_uninitialized) 1 ≡ Some (rva 0x1000)
  pub ours : fixup_value two_uninitialized 0x20000000 0 ≡ 0x20001000
  pub standard : standard_at two_uninitialized 0 0 0x20000000 ≡ 0x20001000

-- each of these holds
pub two_uninitialized_lem : TwoUninitialized
unfolding round_up pick all_to any_to sum_to count_to list_to arch_of get le part header_of string_length type32 type64 type_of loaded_by align_of permissions_by file_start file_end
    range_length extended relocation_records relocation_count relocation_start is_function code_or_data static_kind kind_by zero_place place_by listed_by primary
    long_rows begins length_in octets run up_to_zero good_section_name good_symbol_name decimal_to compare_bytes are_same_bytes name_bytes long_run symbol_run slash_run section_run checked left_from long_span span_at first_in
    loaded_named record_start home_record section_home start_of by_number next_start start_at size_ok section_table_ok strings_ok symbol_table_ok bytes_ok data_ok relocations_ok sections_ok
    ok_at names_ok insert_name extern_step puts_by puts slot_from append_step fix_at_record skip_at_record by_kind resolved outcome_at outcome relocation_in rule_target target_of
    count_step tally_of home_target slot_target named_target value_of of_place offset_from listed first_failed counts_by answer_of
    fold_records fold_sections left_after auxiliaries_left is_symbol section_words symbol_words
    extern_words fix_words base_ok standard_value
two_uninitialized_lem = record { accepted = refl; first = refl; second = refl; ours = refl; standard = refl }
