-- What an accepted load says and leaves: the file is accepted, the base allowed, there was room; each buffer's counted part is its table, and what lies behind it is as it was.
use Rattle.refusal.specs.declared.Refusal.{Refusal}
use Rattle.std.specs.Prelude.{◌≡◌, refl, true, false, ℕ, ◌-◌, ◌*◌, ◌≤◌, eqb, leb, length, get_or, Result, Ok, Err}
use Rattle.std.proofs.Common.{sym, ◌∙◌, arith}
use Rattle.std.proofs.Math.Path.{ap}
use mathlib.Core.List.{List, [], ◌∷◌, ◌++◌}
use borrow.Author.Tests.{leb-true}
use Rattle.util.specs.Pick.{pick}
use Rattle.arch.specs.Page.{PAGE_SIZE}
use Rattle.le.specs.Le.{splice, part, part_splice, splice_above}
use Rattle.object.specs.declared.Header.{Header}
use Rattle.object.specs.Format.{header_of}
use Rattle.object.specs.Section.{relocation_count}
use Rattle.layout.specs.Layout.{undef_start, mapped_pages, table_records}
use Rattle.homes.specs.Home.{section_home, home_record}
use Rattle.limits.specs.Limits.{MAX_PAGES, MAX_EXTERNS}
use Rattle.limits.specs.Records.{SECTION_BYTES, SYMBOL_BYTES, EXTERN_BYTES, FIXUP_BYTES, SKIP_BYTES}
use Rattle.externs.specs.Externs.{externs}
use Rattle.fixups.specs.Tally.{is_fixup, is_skipped, how_many, tally_of}
use Rattle.refusal.specs.declared.Refusal.TheVariants as refusals
use Rattle.refusal.specs.Refusal.{Code, PASSES, PLACE, STORAGE, answer_of, unless_refused}
use Rattle.survey.specs.declared.answer.Counts.{Counts}
use Rattle.homes.specs.Listed.{listed_total}
use Rattle.survey.specs.Survey.{Check, check, first_failed, extern_checks, target_checks, checks, counts, counts_by, tally, outcomes, answer_by, survey_of}
use Rattle.survey.specs.SurveyLaws.{check_holds, checks_hold, Ordered, ordered, ordered_rest, records_rest}
use Rattle.tables.specs.Sections.{section_table}
use Rattle.symbol_table.specs.Symbols.{symbol_table}
use Rattle.tables.specs.Externs.{extern_table}
use Rattle.lists.specs.Relocations.{fix_table, skip_table}
use Rattle.tables.specs.TableLaws.{sections_fill, length_externs}
use Rattle.symbol_table.specs.SymbolLaws.{symbols_fill}
use Rattle.lists.specs.RelocationLaws.{fixes_fill, skips_fill}
use Rattle.marks.specs.Marks.{WORD_BYTES, words_for, mark_bytes}
use Rattle.marks.specs.PutLaws.{length_marks}
use Rattle.image.specs.Laid.{laid_image}
use Rattle.image.specs.LaidLaws.{laid_past}
use Rattle.checks.specs.Checks.{base_ok}
use Rattle.plan.specs.PlanLaws.{Rooms, rooms}
use Rattle.storage.specs.Storage.{Storage, stored_by, stored}
use Rattle.loading.specs.Load.{lengths_of, room_ok, load_checks, load_answer, Loads}

-- ---- an answer tells its code
pub tells_loaded : (code : Code) (a c : Counts) → load_answer code a ≡ Ok c → (code ≡ PASSES) × (a ≡ c)
unfolding answer_of
tells_loaded (Ok u) a c e = (refl, cc)
tells_loaded (Err r) a c e = cc

pub load_tells_refused : (code : Code) (a : Counts) (r : Refusal) → load_answer code a ≡ Err r → code ≡ Err r
unfolding answer_of
load_tells_refused (Ok u) a r e = cc
load_tells_refused (Err k) a r e = cc

-- ---- what the answer says
pub record LoadAccepts (f : List ℕ) (base : ℕ) (s s' : Storage) (c : Counts) : Type 0 where
  pub accepted : survey_of f ≡ Ok c
  pub allowed : base_ok base ≡ true
  pub room : room_ok c s ≡ true
  pub counted : counts f (header_of f) ≡ c
  pub names : length (externs f (header_of f)) ≤ MAX_EXTERNS
  pub pages : mapped_pages f (header_of f) ≤ MAX_PAGES
  pub leaves : s' ≡ stored f (header_of f) base s

module _ (f : List ℕ) (base : ℕ) (s s' : Storage) (c : Counts) (loads : Loads f base s s' (Ok c)) where
  abbrev h : Header
  h = header_of f

  told : (first_failed (load_checks f h base s) ≡ PASSES) × (counts f h ≡ c)
  told = tells_loaded (first_failed (load_checks f h base s)) (counts f h) c (sym loads.says)

  abbrev late : List Check
  late = target_checks (tally f h) ++ (check (room_ok (counts f h) s) STORAGE ∷ [])

  records : first_failed (checks f h ++ (check (room_ok (counts f h) s) STORAGE ∷ [])) ≡ PASSES
  records = checks_hold (base_ok base) refusals.Base (checks f h ++ (check (room_ok (counts f h) s) STORAGE ∷ [])) told.0

  in_order : Ordered f h
  in_order = ordered f h (extern_checks (length (externs f h)) ++ late) records

  rest : first_failed (extern_checks (length (externs f h)) ++ late) ≡ PASSES
  rest = ordered_rest f h (extern_checks (length (externs f h)) ++ late) records

  targets : first_failed late ≡ PASSES
  targets = checks_hold _ _ _ rest

  few_names : leb (length (externs f h)) MAX_EXTERNS ≡ true
  few_names = check_holds _ _ _ rest

  abbrev last : List Check
  last = check (room_ok (counts f h) s) STORAGE ∷ []

  none_refused : eqb (tally f h).refused 0 ≡ true
  none_refused = check_holds (eqb (tally f h).refused 0) refusals.Target (check (eqb (tally f h).outside 0) PLACE ∷ last) targets

  inside : first_failed (check (eqb (tally f h).outside 0) PLACE ∷ last) ≡ PASSES
  inside = checks_hold (eqb (tally f h).refused 0) refusals.Target (check (eqb (tally f h).outside 0) PLACE ∷ last) targets

  none_outside : eqb (tally f h).outside 0 ≡ true
  none_outside = check_holds (eqb (tally f h).outside 0) refusals.Place last inside

  survey_accepts : survey_of f ≡ Ok c
  unfolding answer_of first_failed pick
  survey_accepts =
      let z : first_failed (checks f h) ≡ PASSES =
      records_rest f h (extern_checks (length (externs f h)) ++ target_checks (tally f h)) in_order ∙ rw (few_names, none_refused, none_outside) in
      rw z (ap Ok told.1)

  -- an accepted load has passed every check, and leaves what is to be stored
  pub load_accepts : LoadAccepts f base s s' c
  unfolding unless_refused
  load_accepts =
      record {
        accepted = survey_accepts;
        allowed = check_holds (base_ok base) refusals.Base (checks f h ++ (check (room_ok (counts f h) s) STORAGE ∷ [])) told.0;
        room = rw (← told.1) (check_holds (room_ok (counts f h) s) refusals.Storage [] (checks_hold (eqb (tally f h).outside 0) refusals.Place last inside));
        counted = told.1;
        names = leb-true (length (externs f h)) MAX_EXTERNS few_names;
        pages = leb-true (mapped_pages f h) MAX_PAGES in_order.pages;
        leaves = rw told.0 at loads.leaves;
      }

-- ---- a buffer that a table was written to: the table, and behind it what stood there
pub record Keeps (table : List ℕ) (size : ℕ) (before after : List ℕ) : Type 0 where
  pub long : length table ≡ size
  pub room : size ≤ length before
  pub counted : part after 0 size ≡ table
  pub behind : (k : ℕ) → size ≤ k → get_or after k 0 ≡ get_or before k 0

keeps : (table : List ℕ) (size : ℕ) (before after : List ℕ) → length table ≡ size → size ≤ length before → after ≡ splice before 0 table → Keeps table size before after
keeps table size before after e r q =
    record {
      long = e;
      room = r;
      counted = rw (q, ← e) (part_splice before 0 table (omega arith));
      behind = λ k l. rw q (splice_above before 0 table k (omega arith));
    }

-- ---- what each buffer holds
pub record LoadLeaves (f : List ℕ) (base : ℕ) (s s' : Storage) (c : Counts) : Type 0 where
  pub image : s'.image ≡ laid_image f (header_of f) base (length (externs f (header_of f))) s.image
  pub image_behind : (k : ℕ) → PAGE_SIZE * c.pages ≤ k → get_or s'.image k 0 ≡ get_or s.image k 0
  pub marks : Keeps (mark_bytes c.pages (words_for c.pages)) (WORD_BYTES * words_for c.pages) s.marks s'.marks
  pub sections : Keeps (section_table f (header_of f) base (section_home f (header_of f)) (undef_start f (header_of f))) (SECTION_BYTES * c.sections) s.sections s'.sections
  pub symbols : Keeps (symbol_table f (header_of f) base (section_home f (header_of f)) (home_record f (header_of f))) (SYMBOL_BYTES * c.symbols) s.symbols s'.symbols
  pub externs : Keeps (extern_table f (header_of f) base (undef_start f (header_of f)) (externs f (header_of f)) (length (externs f (header_of f)))) (EXTERN_BYTES * c.externs) s.externs s'.externs
  pub fixups : Keeps (fix_table base (outcomes f (header_of f)) (relocation_count f (header_of f)) (header_of f).sections) (FIXUP_BYTES * c.fixups) s.fixups s'.fixups
  pub skips : Keeps (skip_table (outcomes f (header_of f)) (relocation_count f (header_of f)) (header_of f).sections) (SKIP_BYTES * c.skips) s.skips s'.skips

module _ (f : List ℕ) (base : ℕ) (s s' : Storage) (c : Counts) (loads : Loads f base s s' (Ok c)) where
  accepts : LoadAccepts f base s s' c
  accepts = load_accepts f base s s' c loads

  fits : Rooms c (lengths_of s)
  fits = rooms c (lengths_of s) accepts.room

  pub pages_counted : c.pages ≡ mapped_pages f (header_of f)
  unfolding counts_by
  pages_counted = ap (λ (k : Counts). k.pages) (sym accepts.counted)

  sections_are : c.sections ≡ table_records f (header_of f)
  unfolding counts_by
  sections_are = ap (λ (k : Counts). k.sections) (sym accepts.counted)

  symbols_are : c.symbols ≡ listed_total f (header_of f) (section_home f (header_of f))
  unfolding counts_by
  symbols_are = ap (λ (k : Counts). k.symbols) (sym accepts.counted)

  externs_are : c.externs ≡ length (externs f (header_of f))
  unfolding counts_by
  externs_are = ap (λ (k : Counts). k.externs) (sym accepts.counted)

  fixups_are : c.fixups ≡ how_many is_fixup (outcomes f (header_of f)) (relocation_count f (header_of f)) (header_of f).sections
  unfolding counts_by tally_of
  fixups_are = ap (λ (k : Counts). k.fixups) (sym accepts.counted)

  skips_are : c.skips ≡ how_many is_skipped (outcomes f (header_of f)) (relocation_count f (header_of f)) (header_of f).sections
  unfolding counts_by tally_of
  skips_are = ap (λ (k : Counts). k.skips) (sym accepts.counted)

  -- so each buffer holds its table, and behind it what it held
  pub load_leaves : LoadLeaves f base s s' c
  unfolding stored_by
  load_leaves =
      let l = accepts.leaves in
      let i : s'.image ≡ laid_image f (header_of f) base (length (externs f (header_of f))) s.image = ap (λ (z : Storage). z.image) l in
      record {
        image = i;
        image_behind =
            λ k q. rw i (laid_past f (header_of f) base (length (externs f (header_of f))) s.image accepts.pages accepts.names (rw (← pages_counted) fits.image) k (rw (← pages_counted) q));
        marks = keeps _ _ s.marks s'.marks (length_marks c.pages (words_for c.pages)) fits.marks (rw pages_counted (ap (λ (z : Storage). z.marks) l));
        sections = keeps _ _ s.sections s'.sections (rw sections_are (sections_fill f (header_of f) base _ _)) fits.sections (ap (λ (z : Storage). z.sections) l);
        symbols = keeps _ _ s.symbols s'.symbols (rw symbols_are (symbols_fill f (header_of f) base _ _)) fits.symbols (ap (λ (z : Storage). z.symbols) l);
        externs = keeps _ _ s.externs s'.externs (rw externs_are (length_externs f (header_of f) base _ _ _)) fits.externs (ap (λ (z : Storage). z.externs) l);
        fixups = keeps _ _ s.fixups s'.fixups (rw fixups_are (fixes_fill base _ _ _)) fits.fixups (ap (λ (z : Storage). z.fixups) l);
        skips = keeps _ _ s.skips s'.skips (rw skips_are (skips_fill _ _ _)) fits.skips (ap (λ (z : Storage). z.skips) l);
      }

-- ---- a refusal changes nothing
pub load_refused : (f : List ℕ) (base : ℕ) (s s' : Storage) (r : Refusal) → Loads f base s s' (Err r) → s' ≡ s
unfolding unless_refused
load_refused f base s s' r loads =
    rw (load_tells_refused (first_failed (load_checks f (header_of f) base s)) (counts f (header_of f)) r (sym loads.says)) at loads.leaves
