-- What `names_object` comes to, for every n from 1 on and every m from n to 32,768: with up to 1,024 names it is accepted, and the last slot is at
-- UNDEF + 4 * (n - 1); with more, up to 4,096, it is refused by 9.
use Rattle.refusal.specs.Refusal.{answer_of}
use Rattle.refusal.specs.declared.Refusal.TheVariants.{Externs}
use Rattle.survey.specs.declared.answer.Counts.{Counts}
use Rattle.refusal.specs.declared.Refusal.{Refusal}
use Rattle.std.specs.Prelude.{◌≡◌, Bool, true, false, List, [], ◌∷◌, ◌++◌, length, get_or, Some, Result, Ok, Err}
use Rattle.std.proofs.Math.Path.{refl}
use Rattle.std.proofs.Common.{ap, ◌∙◌, arith}
use Rattle.std.proofs.Math.Bool.{and-false}
use Prim.Native.Nat.{ℕ, zero, suc, ◌+◌, ◌-◌, ◌*◌, ◌≤◌, ◌<◌, min}
use Rattle.std.proofs.Math.Nat.{zero-add}
use borrow.Author.Tests.{le-leb, lt-leb}
use Rattle.util.specs.Fold.{fold_records, fold_sections}
use Rattle.util.specs.Pick.{pick}
use Rattle.util.specs.Prefix.{sum_to, count_to, list_to, length_list, list_at}
use Rattle.arch.specs.Address.{rva}
use Rattle.arch.specs.Machine.{arch_of}
use Rattle.arch.specs.Page.{PAGE_SIZE}
use Rattle.limits.specs.Limits.{MAX_EXTERNS, MAX_RELOCATIONS, SLOT_SIZE}
use Rattle.kinds.specs.Types.{type32, type_of}
use Rattle.object.specs.declared.Header.{Header}
use Rattle.object.specs.Format.{header_of}
use Rattle.object.specs.Section.{relocation_count}
use Rattle.object.specs.Symbol.{primary}
use Rattle.names.specs.Name.{symbol_text}
use Rattle.layout.specs.Layout.{undef_start, table_records}
use Rattle.homes.specs.Home.{section_home}
use Rattle.homes.specs.Listed.{of_place, listed, listed_total}
use Rattle.codes.specs.Puts.{puts}
use Rattle.externs.specs.Externs.{externs}
use Rattle.externs.specs.Slot.{slot_of}
use Rattle.externs.specs.ExternLaws.{externs_own}
use Rattle.tables.specs.Externs.{extern_words}
use Rattle.targets.specs.declared.Target.TheVariants.{Slot}
use Rattle.targets.specs.Target.{slot_target, rule_target, target_of, targets}
use Rattle.fixups.specs.declared.Outcome.{Outcome}
use Rattle.fixups.specs.declared.Outcome.TheVariants.{Fixup}
use Rattle.fixups.specs.Outcome.{by_kind, resolved, outcome_at, outcome}
use Rattle.fixups.specs.Lists.{over_records, append_step, fix_at_record, fix_list}
use Rattle.fixups.specs.Tally.{is_passed, is_skipped, is_refused, is_fixup, is_outside, count_step, how_many, tally_of}
use Rattle.survey.specs.Survey.{first_failed, extern_checks, target_checks, outcomes, tally, counts_by, counts, checks, survey_of}
use Rattle.survey.specs.SurveyLaws.{records_rest}
use Rattle.examples.specs.NamesObject.{MAX_NAMES, symbols_at, names_object, names_header, text_pages, slot_at, names_fix, names_counts}
use Rattle.examples.specs.FieldLaws.{names_header_lem, text_count, relocation_is}
use Rattle.examples.specs.NameLaws.{name_is}
use Rattle.examples.specs.ExternLaws.{numbers, is_primary, place_is, rule_is, externs_are}
use Rattle.examples.specs.CheckLaws.{text_loaded, undef_is, pages_are, home_is, names_ordered}

-- ---- a count of none
count_none : (p : ℕ → Bool) (n : ℕ) → ((i : ℕ) → i < n → p i ≡ false) → count_to p n ≡ 0
unfolding count_to pick
count_none p zero each = refl
count_none p (suc n) each = rw (each n (omega arith), count_none p n (λ i q. each i (omega arith)))

-- the fold over the records of one section
one_section : {A : Type 0} (step : A → ℕ → ℕ → A) (count : ℕ → ℕ) (x : A) (k : ℕ) → count 0 ≡ k → fold_sections step count x 1 ≡ fold_records step 0 x k
unfolding fold_sections
one_section step count x k e = rw e

module _ (n m : ℕ) (some : 1 ≤ n) (names : n ≤ MAX_NAMES) (all : n ≤ m) (most : m ≤ MAX_RELOCATIONS) where
  abbrev f : List ℕ
  f = names_object n m

  abbrev h : Header
  h = names_header n m

  -- ---- slots
  -- there are n
  length_externs : length (externs f h) ≡ n
  length_externs = rw (externs_are n m names most some all) (length_list (λ (j : ℕ). j) n)

  entry_is : (k : ℕ) → k < n → get_or (externs f h) k 0 ≡ k
  entry_is k q = rw (externs_are n m names most some all) (list_at (λ (j : ℕ). j) 0 n k q)

  -- and symbol k has slot k
  slot_is : (k : ℕ) → k < n → slot_of f h (externs f h) (symbol_text f h k) ≡ Some k
  slot_is k q = rw (entry_is k q) at (externs_own f h (puts f h) k (rw length_externs q))

  target_is : (k : ℕ) → k < n → targets f h k ≡ Slot (rva (slot_at m k))
  unfolding target_of rule_target slot_target pick
  target_is k q = rw (lt-leb n k q, is_primary n m names most k q, rule_is n m names most k q, slot_is k q, undef_is n m names most)

  words_are : (base k : ℕ) → k < n
      → extern_words f h base (undef_start f h) (externs f h) k ≡ (base + undef_start f h + SLOT_SIZE * k) ∷ k ∷ (symbols_at m + 18 * k) ∷ 3 ∷ []
  unfolding extern_words
  words_are base k q = rw (entry_is k q, name_is n m names k q)

  -- ---- relocations
  outcome_is : (k : ℕ) → k < m → outcomes f h 0 k ≡ Fixup (names_fix n m k)
  unfolding outcome outcome_at resolved type_of type32 by_kind arch_of pick
  outcome_is k q = rw (home_is n m names most, relocation_is n m names most k q, target_is (min k (n - 1)) (omega arith), zero-add (4 * k))

  fixes_to : (k : ℕ) → k ≤ m → over_records (fix_at_record (outcomes f h)) 0 k ≡ list_to (names_fix n m) k
  unfolding fold_records append_step fix_at_record list_to
  fixes_to zero q = refl
  fixes_to (suc k) q = rw (fixes_to k (omega arith), outcome_is k q)

  fixes_are : fix_list (outcomes f h) (relocation_count f h) 1 ≡ list_to (names_fix n m) m
  fixes_are = one_section (append_step (fix_at_record (outcomes f h))) (relocation_count f h) [] m (text_count n m names most) ∙ fixes_to m (omega arith)

  none_to : (p : Outcome → Bool) → ((k : ℕ) → k < m → p (Fixup (names_fix n m k)) ≡ false) → (k : ℕ) → k ≤ m → fold_records (count_step p (outcomes f h)) 0 0 k ≡ 0
  unfolding fold_records count_step pick
  none_to p each zero q = refl
  none_to p each (suc k) q = rw (none_to p each k (omega arith), outcome_is k q, each k q)

  none_are : (p : Outcome → Bool) → ((k : ℕ) → k < m → p (Fixup (names_fix n m k)) ≡ false) → how_many p (outcomes f h) (relocation_count f h) 1 ≡ 0
  none_are p each = one_section (count_step p (outcomes f h)) (relocation_count f h) 0 m (text_count n m names most) ∙ none_to p each m (omega arith)

  fixups_to : (k : ℕ) → k ≤ m → fold_records (count_step is_fixup (outcomes f h)) 0 0 k ≡ k
  unfolding fold_records count_step pick
  fixups_to zero q = refl
  fixups_to (suc k) q = rw (fixups_to k (omega arith), outcome_is k q) (omega arith)

  all_fixups : how_many is_fixup (outcomes f h) (relocation_count f h) 1 ≡ m
  all_fixups = one_section (count_step is_fixup (outcomes f h)) (relocation_count f h) 0 m (text_count n m names most) ∙ fixups_to m (omega arith)

  none_outside : (k : ℕ) → k < m → is_outside (text_pages m + 2) (Fixup (names_fix n m k)) ≡ false
  none_outside k q = rw (le-leb (4 * k + 4) (PAGE_SIZE * (text_pages m + 2)) (omega arith))

  tally_is : tally f h ≡ record { passed = 0; skips = 0; refused = 0; fixups = m; outside = 0 }
  unfolding tally_of
  tally_is =
      rw (
        pages_are n m names most,
        none_are is_passed (λ k q. refl),
        none_are is_skipped (λ k q. refl),
        none_are is_refused (λ k q. refl),
        all_fixups,
        none_are (is_outside (text_pages m + 2)) none_outside,
      )

  -- ---- the counts
  -- no symbol is in a section
  none_listed : listed_total f h (section_home f h) ≡ 0
  unfolding listed of_place
  none_listed = count_none (listed f h (section_home f h)) n (λ k q. rw (place_is n m names most k q) (and-false (primary f h k)))

  -- .text and UNDEF
  two_records : table_records f h ≡ 2
  unfolding count_to pick
  two_records = rw (text_loaded n m names most)

  counts_are : counts f h ≡ names_counts n m
  unfolding counts_by sum_to
  counts_are = rw (tally_is, pages_are n m names most, two_records, none_listed, length_externs, text_count n m names most, zero-add m)

  -- behind the checks of its records, the number of names decides
  rest_is : first_failed (checks f h) ≡ first_failed (extern_checks n ++ target_checks (tally f h))
  rest_is =
      records_rest f h (extern_checks (length (externs f h)) ++ target_checks (tally f h)) (names_ordered n m names most)
      ∙ ap (λ (x : ℕ). first_failed (extern_checks x ++ target_checks (tally f h))) length_externs

  -- ---- the file as it is read
  pub names_externs : externs f (header_of f) ≡ numbers n
  names_externs = rw (names_header_lem n m names most) (externs_are n m names most some all)

  -- symbol k's slot is slot k: its record has the slot's address, the symbol, and where its name of three bytes starts
  pub names_words : (base k : ℕ) → k < n
      → extern_words f (header_of f) base (undef_start f (header_of f)) (externs f (header_of f)) k
      ≡ (base + undef_start f (header_of f) + SLOT_SIZE * k) ∷ k ∷ (symbols_at m + 18 * k) ∷ 3 ∷ []
  names_words base k q = rw (names_header_lem n m names most) (words_are base k q)

  -- every relocation is a fixup
  pub names_outcome : (k : ℕ) → k < m → outcomes f (header_of f) 0 k ≡ Fixup (names_fix n m k)
  names_outcome k q = rw (names_header_lem n m names most) (outcome_is k q)

  pub names_fixes : fix_list (outcomes f (header_of f)) (relocation_count f (header_of f)) (header_of f).sections ≡ list_to (names_fix n m) m
  names_fixes = rw (names_header_lem n m names most) fixes_are

  -- that of the last relocation has the last slot for a target, at UNDEF + 4 * (n - 1)
  pub last_target : (names_fix n m (m - 1)).target ≡ rva (undef_start f (header_of f) + SLOT_SIZE * (n - 1))
  last_target = let e : min (m - 1) (n - 1) ≡ n - 1 = omega arith in rw (names_header_lem n m names most, undef_is n m names most, e)

  accepted : n ≤ MAX_EXTERNS → survey_of f ≡ Ok (names_counts n m)
  unfolding answer_of first_failed pick
  accepted few = rw (names_header_lem n m names most, counts_are, rest_is, le-leb n MAX_EXTERNS few, tally_is)

  refused : MAX_EXTERNS < n → survey_of f ≡ Err Externs
  unfolding answer_of first_failed pick
  refused many = rw (names_header_lem n m names most, rest_is, lt-leb n MAX_EXTERNS many)

-- ---- survey's answer
pub names_accepted : (n m : ℕ) → 1 ≤ n → n ≤ MAX_EXTERNS → n ≤ m → m ≤ MAX_RELOCATIONS → survey_of (names_object n m) ≡ Ok (names_counts n m)
names_accepted n m some few all most = accepted n m some (omega arith) all most few

pub names_refused : (n m : ℕ) → MAX_EXTERNS < n → n ≤ MAX_NAMES → n ≤ m → m ≤ MAX_RELOCATIONS → survey_of (names_object n m) ≡ Err Externs
names_refused n m many names all most = refused n m (omega arith) names all most many
