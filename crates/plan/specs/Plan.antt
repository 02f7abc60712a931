-- The plan of a load: 12, survey's refusals, then 13 by the lengths of the lent buffers; or the counts (01, "Load").
use Rattle.refusal.specs.declared.Refusal.{Refusal}
use Rattle.std.specs.Prelude.{◌≡◌, Bool, ◌&&◌, List, [], ◌∷◌, ◌++◌, ℕ, ◌*◌, ◌≤◌, leb, eqb, length, replicate, Result, Ok, Err}
use Rattle.limits.specs.Limits.{MAX_SECTIONS, MAX_PAGES, MAX_EXTERNS, EXTERN_ROOM}
use Rattle.limits.specs.Records.{SECTION_BYTES, SYMBOL_BYTES, EXTERN_BYTES, FIXUP_BYTES, SKIP_BYTES}
use Rattle.refusal.specs.Refusal.{Code, PASSES, answer_of, BASE, STORAGE}
use Rattle.arch.specs.Page.{PAGE_SIZE}
use Rattle.object.specs.declared.Header.{Header}
use Rattle.layout.specs.Layout.{undef_start, mapped_pages}
use Rattle.homes.specs.Home.{section_home, home_record, home_in, record_in}
use Rattle.checks.specs.Checks.{base_ok}
use Rattle.marks.specs.Marks.{WORD_BYTES, words_for}
use Rattle.externs.specs.Externs.{externs, slot_words}
use Rattle.targets.specs.Target.{targets}
use Rattle.targets.specs.Table.{target_in}
use Rattle.survey.specs.declared.answer.Counts.{Counts}
use Rattle.survey.specs.Surveying.{Cleared}
use Rattle.survey.specs.Survey.{Check, check, first_failed, checks, counts}
use Rattle.plan.specs.declared.Lengths.{Lengths}

-- ---- 13: each buffer has room for what is counted
-- image, marks and section table
unfoldable pub layout_room : Counts → Lengths → Bool
layout_room c l =
    leb (PAGE_SIZE * c.pages) l.image && (leb (WORD_BYTES * words_for c.pages) l.marks && leb (SECTION_BYTES * c.sections) l.sections)

-- the tables of symbols, extern names, fixups and skips
unfoldable pub lists_room : Counts → Lengths → Bool
lists_room c l =
    leb (SYMBOL_BYTES * c.symbols) l.symbols
    && (leb (EXTERN_BYTES * c.externs) l.externs
    && (leb (FIXUP_BYTES * c.fixups) l.fixups
    && leb (SKIP_BYTES * c.skips) l.skips))

-- all seven
abbrev pub room_for : Counts → Lengths → Bool
room_for c l = layout_room c l && lists_room c l

-- the check of it
abbrev pub room_check : Counts → Lengths → List Check
room_check c l = check (room_for c l) STORAGE ∷ []

-- the checks: 12, then survey's, then 13
abbrev pub plan_checks : List ℕ → Header → ℕ → Lengths → List Check
plan_checks f h base l = check (base_ok base) BASE ∷ (checks f h ++ room_check (counts f h) l)

-- a plan by its code
abbrev pub plan_by : Code → Counts → ℕ → Result (Counts × ℕ) Refusal
plan_by code c n = answer_of code (c, n)

-- arrays of zeros, with the room that the file's records ask for
pub record Blank (h : Header) (homes codes slots : List ℕ) : Type 0 where
  pub zeros : Cleared h homes codes
  pub no_slots : slots ≡ replicate EXTERN_ROOM 0

-- arrays that say what the rules do, and the limits
pub record Found (f : List ℕ) (h : Header) (homes codes slots : List ℕ) : Type 0 where
  pub home : home_in homes ≡ section_home f h
  pub row : record_in homes ≡ home_record f h
  pub target : target_in homes (undef_start f h) codes ≡ targets f h
  pub words : slots ≡ slot_words (externs f h)
  pub sections : h.sections ≤ MAX_SECTIONS
  pub pages : mapped_pages f h ≤ MAX_PAGES
  pub names : length (externs f h) ≤ MAX_EXTERNS

-- what the plan says by the checks' code, and where nothing is refused what it has found
pub record Plans (f : List ℕ) (h : Header) (base : ℕ) (l : Lengths) (homes codes slots : List ℕ) (r : Result (Counts × ℕ) Refusal) : Type 0 where
  pub says : r ≡ plan_by (first_failed (plan_checks f h base l)) (counts f h) (length (externs f h))
  pub found : first_failed (plan_checks f h base l) ≡ PASSES → Found f h homes codes slots
