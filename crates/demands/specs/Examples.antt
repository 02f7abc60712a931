-- The theorems of the demands with their hypotheses met: by the small object of 01's table, and where it costs nothing more by every file.
use Rattle.refusal.specs.Refusal.{answer_of, unless_refused}
use Rattle.refusal.specs.declared.Refusal.TheVariants.{Place, Base, NoSection, NoRoutine}
use Rattle.nearest.specs.declared.Routine.{Routine}
use Rattle.refusal.specs.declared.Refusal.{Refusal}
use Rattle.std.specs.Prelude.{◌≡◌, refl, true, List, ℕ, ◌*◌, ◌<◌, leb, ltb, eqb, length, get_or, replicate, Result, Ok, Err}
use Rattle.std.proofs.Common.{sym, inr, ⊎_elim, arith, le-leb, ltb-true}
use Rattle.std.proofs.lemmas.List.{length-replicate}
use Rattle.std.proofs.Math.ListN.{get_or-eq_default}
use Rattle.util.specs.Pick.{pick, le_or_lt}
use Rattle.arch.specs.Page.{PAGE_SIZE}
use Rattle.arch.specs.Address.{va}
use Rattle.arch.specs.Machine.{arch_of}
use Rattle.util.specs.Prefix.{all_to, count_to, list_to, all_at}
use Rattle.util.specs.Align.{round_up}
use Rattle.util.specs.Fold.{fold_records, fold_sections}
use Rattle.le.specs.Le.{get, le, part, IsBytes}
use Rattle.object.specs.Format.{header_of}
use Rattle.kinds.specs.Types.{type32, type_of}
use Rattle.object.specs.Section.{file_start, file_end, range_length, extended, relocation_records, relocation_count, relocation_start}
use Rattle.kinds.specs.Flags.{loaded_by, align_of, permissions_by}
use Rattle.object.specs.Symbol.{left_after, auxiliaries_left, primary, is_symbol}
use Rattle.kinds.specs.Symbol.{is_function, code_or_data, kind_by, zero_place, place_by, listed_by}
use Rattle.names.specs.Bytes.{up_to_zero, are_same_bytes}
use Rattle.names.specs.Name.{left_from, long_span, span_at}
use Rattle.ranks.specs.Named.{first_in}
use Rattle.homes.specs.Home.{section_home, home_record, start_of, by_number}
use Rattle.homes.specs.Listed.{of_place, offset_from, listed}
use Rattle.layout.specs.Layout.{next_start, start_at}
use Rattle.tables.specs.Sections.{section_words}
use Rattle.symbol_table.specs.Symbols.{symbol_words}
use Rattle.words.specs.Words.{word_bytes, word_of}
use Rattle.words.specs.Picked.{picked}
use Rattle.limits.specs.Records.{FIXUP_BYTES, SKIP_BYTES, EXTERN_BYTES, SYMBOL_BYTES, SECTION_BYTES}
use Rattle.externs.specs.Externs.{insert_name, extern_step}
use Rattle.codes.specs.Puts.{puts_by, puts}
use Rattle.externs.specs.Slot.{slot_from}
use Rattle.fixups.specs.Lists.{append_step, fix_at_record}
use Rattle.fixups.specs.Outcome.{by_kind, resolved, outcome_at, outcome}
use Rattle.targets.specs.Target.{home_target, slot_target, rule_target, target_of}
use Rattle.object.specs.Relocation.{relocation_in}
use Rattle.survey.specs.declared.answer.Counts.{Counts}
use Rattle.survey.specs.Survey.{first_failed, checks, counts, survey_of}
use Rattle.survey.specs.Acceptance.{IsFixed, no_skips_all_fixed}
use Rattle.marks.specs.Marks.{WORD_BYTES, words_for}
use Rattle.checks.specs.Checks.{base_ok}
use Rattle.symbols.specs.Symbol.{last_to}
use Rattle.nearest.specs.Nearest.{qualifies, is_greatest, with_distance}
use Rattle.module.specs.Questions.{first_of}
use Rattle.module.specs.Routine.{of_holder, routine, table_sections}
use Rattle.plan.specs.Plan.{layout_room, lists_room}
use Rattle.storage.specs.Storage.{Storage, storage, stored}
use Rattle.loading.specs.Load.{room_ok, load_checks, load_answer, Loads}
use Rattle.demands.specs.Calls.{Call}
use Rattle.demands.specs.Origin.{fixup_at, fixup_value}
use Rattle.demands.specs.Held.{starts_alone, is_held}
use Rattle.demands.specs.Demand2.{standard_at, From, Stays, standard_of_file}
use Rattle.demands.specs.Demand3.{image_after, answers_after, Demand3}
use Rattle.demands.specs.Loaded.{Lends, load_lends, lent_from, load_demand_3}
use Rattle.demands.specs.Counted.{sections_of, symbols_of}
use Rattle.demands.specs.Traced.{FileSays, asked_after, load_traced}
use Rattle.demands.specs.Running.{RunOfLoad, runs_are}
use Rattle.demands.specs.Table.{small_object, small_with, small_counts, table}
use Rattle.demands.specs.Demand1.{FirstFailure, survey_refuses, Refuses, load_refuses, load_does}

-- ---- load's contract is met for every file, base and storage
-- by this answer
abbrev pub load_says : List ℕ → ℕ → Storage → Result Counts Refusal
load_says f base s = load_answer (first_failed (load_checks f (header_of f) base s)) (counts f (header_of f))

-- and these contents
abbrev pub left_by : List ℕ → ℕ → Storage → Storage
left_by f base s = unless_refused (first_failed (load_checks f (header_of f) base s)) (stored f (header_of f) base s) s

pub loads_exists : (f : List ℕ) (base : ℕ) (s : Storage) → Loads f base s (left_by f base s) (load_says f base s)
loads_exists f base s = record { says = refl; leaves = refl }

-- ---- refusals
-- the small object with its relocation 3 bytes before the mapped end: 11 is the first check that fails
pub small_refused : FirstFailure (checks (small_with 12285) (header_of (small_with 12285))) Place
small_refused = survey_refuses (small_with 12285) Place table.past_the_end

-- any file and storage at base 0x7F001000: 12, and the storage is as it was
pub base_loads : (f : List ℕ) (s : Storage) → Loads f 0x7F001000 s s (Err Base)
unfolding answer_of unless_refused
base_loads f s = record { says = rw (table.base_refused f s); leaves = rw (table.base_refused f s) }

pub base_refuses : (f : List ℕ) (s : Storage) → Refuses f 0x7F001000 s s Base
base_refuses f s = load_refuses f 0x7F001000 s s Base (base_loads f s)

-- ---- storage that has just the room
abbrev pub roomy : Counts → Storage
roomy c =
    storage (replicate (PAGE_SIZE * c.pages) 0) (replicate (WORD_BYTES * words_for c.pages) 0) (replicate (SECTION_BYTES * c.sections) 0) (replicate (SYMBOL_BYTES * c.symbols) 0)
    (replicate (EXTERN_BYTES * c.externs) 0) (replicate (FIXUP_BYTES * c.fixups) 0) (replicate (SKIP_BYTES * c.skips) 0)

room_in : (n : ℕ) → leb n (length {A = ℕ} (replicate n 0)) ≡ true
room_in n = le-leb n (length {A = ℕ} (replicate n 0)) (rw (length-replicate {A = ℕ} n 0) (omega arith))

pub roomy_fits : (c : Counts) → room_ok c (roomy c) ≡ true
unfolding layout_room lists_room
roomy_fits c =
    rw (
      room_in (PAGE_SIZE * c.pages),
      room_in (WORD_BYTES * words_for c.pages),
      room_in (SECTION_BYTES * c.sections),
      room_in (SYMBOL_BYTES * c.symbols),
      room_in (EXTERN_BYTES * c.externs),
      room_in (FIXUP_BYTES * c.fixups),
      room_in (SKIP_BYTES * c.skips),
    )

-- ---- every file that survey accepts is loaded, at every allowed base, into every storage with room
pub accepted_loads : (f : List ℕ) (base : ℕ) (s : Storage) (c : Counts) → survey_of f ≡ Ok c → base_ok base ≡ true → room_ok c s ≡ true
    → Loads f base s (stored f (header_of f) base s) (Ok c)
accepted_loads f base s c a b r =
    let d = load_does f base s (left_by f base s) c a b r (load_says f base s) (loads_exists f base s) in
    record { says = sym d.says; leaves = sym d.leaves }

-- so is the small object, at 0x20000000 and at the highest base: with just enough room
abbrev pub small_storage : Storage
small_storage = roomy small_counts

-- what the load leaves there
abbrev pub small_left : ℕ → Storage
small_left base = stored small_object (header_of small_object) base small_storage

small_base : base_ok 0x20000000 ≡ true
unfolding base_ok
small_base = refl

-- at 0x20000000
pub small_loads : Loads small_object 0x20000000 small_storage (small_left 0x20000000) (Ok small_counts)
small_loads = accepted_loads small_object 0x20000000 small_storage small_counts table.small small_base (roomy_fits small_counts)

-- at the highest base
pub small_loads_highest : Loads small_object 0x7F000000 small_storage (small_left 0x7F000000) (Ok small_counts)
small_loads_highest = accepted_loads small_object 0x7F000000 small_storage small_counts table.small table.base_taken (roomy_fits small_counts)

-- what later calls are given is the counted parts
pub small_lends : Lends small_object 0x20000000 (small_left 0x20000000) small_counts
small_lends = load_lends small_object 0x20000000 small_storage (small_left 0x20000000) small_counts small_loads

-- demand 3 of what the two left
pub small_load_demand_3 : (calls : List Call)
    → Demand3 small_object 0x20000000 0x7F000000 (lent_from (small_left 0x20000000) small_counts) (lent_from (small_left 0x7F000000) small_counts) calls
small_load_demand_3 =
    load_demand_3 small_object 0x20000000 small_storage (small_left 0x20000000) small_counts small_loads 0x7F000000 small_storage (small_left 0x7F000000) small_counts small_loads_highest

-- ---- calls on what that load lends: every byte they leave is its origin's, and the answers are those at the highest base
pub small_runs : (calls : List Call) (answers : List ℕ)
    → RunOfLoad small_object 0x20000000 calls (image_after 0x20000000 (lent_from (small_left 0x20000000) small_counts) calls)
    (answers_after 0x20000000 (lent_from (small_left 0x20000000) small_counts) calls) 0x7F000000
small_runs calls answers =
    (runs_are 0x20000000 _ _ calls _ _ answers _ refl refl).demand small_object small_counts table.small small_base
    small_lends.image small_lends.marks small_lends.fixes 0x7F000000 table.base_taken

-- ---- the small object's fixup, from relocation 0 of section 0: relative, by an extern name of value 0, over a field of zeros
pub small_standard : standard_at small_object 0 0 0x20000000 ≡ fixup_value small_object 0x20000000 0
unfolding pick list_to fold_records fold_sections arch_of get le part header_of type32 type_of loaded_by file_start file_end
    extended relocation_records relocation_count relocation_start is_function code_or_data kind_by zero_place place_by left_after auxiliaries_left primary is_symbol
    up_to_zero are_same_bytes left_from long_span span_at first_in section_home by_number start_at
    insert_name extern_step puts_by puts slot_from append_step fix_at_record by_kind resolved outcome_at outcome relocation_in rule_target target_of
    home_target slot_target
small_standard =
    let r : From small_object (fixup_at small_object 0) = record { section = 0; index = 0; inside = omega arith; counted = omega arith; is = refl } in
    let s : Stays small_object 0 0 = record { direct = tt; carried = inr refl; value = refl; field = refl } in
    standard_of_file small_object small_counts table.small 0x20000000 small_base 0 (omega arith) r s

-- ---- it is held against the Rust, so that its homes are the Rust's (`held_homes`)
pub small_held : is_held small_object (header_of small_object) ≡ true
unfolding pick all_to get le header_of file_start starts_alone
small_held = refl

-- ---- the small object has no skips, so every relocation of its loaded section is in the fix list
pub small_all_fixed : (k : ℕ) → k < relocation_count small_object (header_of small_object) 0 → IsFixed small_object small_counts table.small 0 k
unfolding pick get le header_of loaded_by
small_all_fixed k l = no_skips_all_fixed small_object small_counts table.small refl 0 k (omega arith) l refl

-- ---- the routines of addresses, asked of what that load left: the theorem's hypotheses are met, and three answers
bytes_by : (l : List ℕ) → all_to (λ i. ltb (get_or l i 0) 256) (length l) ≡ true → IsBytes l
bytes_by l e i =
    ⊎_elim
    (λ q. rw (get_or-eq_default l 0 {n = i} q) (omega arith))
    (λ q. ltb-true (get_or l i 0) 256 (all_at (λ k. ltb (get_or l k 0) 256) (length l) i e q))
    (le_or_lt (length l) i)

small_bytes : IsBytes small_object
unfolding all_to le
small_bytes = bytes_by small_object refl

pub small_traced : (x : ℕ) → FileSays small_object 0x20000000 (part (small_left 0x20000000).symbols 0 (SYMBOL_BYTES * small_counts.symbols)) x (asked_after (small_left 0x20000000) small_counts x)
small_traced = load_traced small_object small_bytes 0x20000000 small_storage (small_left 0x20000000) small_counts small_loads

-- _topup is at 0x20000000, and .text has 16 bytes; behind them nothing holds an address, and UNDEF has no symbol
abbrev pub small_routine : ℕ → Result Routine Refusal
small_routine x = routine (table_sections (sections_of small_object 0x20000000)) (symbols_of small_object 0x20000000) (va x)

pub record SmallRoutines : Type 0 where
  pub inside : small_routine 0x20000004 ≡ Ok (record { symbol = 0; distance = 4 })
  pub last_byte : small_routine 0x2000000F ≡ Ok (record { symbol = 0; distance = 15 })
  pub behind : small_routine 0x20000010 ≡ Err NoSection
  pub undef : small_routine 0x20001000 ≡ Err NoRoutine

pub small_routines : SmallRoutines
unfolding pick all_to count_to list_to get le header_of loaded_by permissions_by file_start file_end range_length align_of round_up is_function code_or_data kind_by zero_place place_by listed_by left_after auxiliaries_left primary
    home_record section_home start_of by_number start_at next_start of_place offset_from listed section_words symbol_words picked word_bytes word_of first_of last_to is_greatest qualifies with_distance of_holder
small_routines = record { inside = refl; last_byte = refl; behind = refl; undef = refl }
