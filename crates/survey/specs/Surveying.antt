-- What the parts of survey promise and ask.
use Rattle.refusal.specs.declared.Refusal.TheVariants.{Pages}
use Rattle.survey.specs.declared.answer.Counts.{Counts}
use Rattle.refusal.specs.declared.Refusal.{Refusal}
use Rattle.arch.specs.declared.RVA.{RVA}
use Rattle.std.specs.Prelude.{◌≡◌, Bool, ◌&&◌, List, ◌++◌, ℕ, ◌≤◌, leb, length, replicate, Option, Result, Ok, Err}
use Rattle.util.specs.Pick.{pick}
use Rattle.le.specs.Le.{splice}
use Rattle.object.specs.declared.Header.{Header}
use Rattle.layout.specs.Layout.{undef_start, mapped_pages}
use Rattle.homes.specs.Home.{homes_to, home_in}
use Rattle.limits.specs.Limits.{MAX_SECTIONS, MAX_SYMBOLS, FEW_SECTIONS, FEW_SYMBOLS, MAX_PAGES}
use Rattle.checks.specs.Checks.{pages_ok}
use Rattle.codes.specs.Code.{codes_to, puts_in}
use Rattle.externs.specs.Externs.{externs_by}
use Rattle.externs.specs.Slotted.{slotted}
use Rattle.targets.specs.declared.Target.{Target}
use Rattle.targets.specs.Table.{target_in}
use Rattle.survey.specs.Survey.{first_failed, extern_checks, target_checks, tally_by, counts_by, answer_by}

-- the file's records fit the limits, so that the local arrays hold them
pub record Fits (f : List ℕ) (h : Header) : Type 0 where
  pub sections : h.sections ≤ MAX_SECTIONS
  pub symbols : h.symbols ≤ MAX_SYMBOLS
  pub pages : mapped_pages f h ≤ MAX_PAGES

-- an answer behind 8
abbrev pub behind_pages : List ℕ → Header → Result Counts Refusal → Result Counts Refusal
behind_pages f h s = pick (pages_ok f h) s (Err Pages)

-- ---- the answer by homes and targets, with n extern names
module _ (f : List ℕ) (h : Header) (home : ℕ → Option RVA) (target : ℕ → Target) (n : ℕ) where
  -- 10, 11 and the counts
  abbrev pub targets_answer : Result Counts Refusal
  targets_answer = answer_by (first_failed (target_checks (tally_by f h home target))) (counts_by f h home n (tally_by f h home target))

  -- the same behind 8
  abbrev pub planned_by : Result Counts Refusal
  planned_by = behind_pages f h targets_answer

  -- behind 9
  abbrev pub externs_answer : Result Counts Refusal
  externs_answer = answer_by (first_failed (extern_checks n ++ target_checks (tally_by f h home target))) (counts_by f h home n (tally_by f h home target))

-- ---- by the words that are kept of the sections and of the symbols
module _ (f : List ℕ) (h : Header) where
  -- the extern names, by the codes
  abbrev pub names_in : List ℕ → List ℕ
  names_in codes = externs_by f h (puts_in codes)

  -- the answer from 9 on, by all of them
  abbrev pub answer_in : List ℕ → List ℕ → Result Counts Refusal
  answer_in homes codes = externs_answer f h (home_in homes) (target_in homes (undef_start f h) (slotted f h (names_in codes) codes)) (length (names_in codes))

-- small arrays hold what is kept of the records
unfoldable pub few_records : Header → Bool
few_records h = leb h.sections FEW_SECTIONS && leb h.symbols FEW_SYMBOLS

-- the room of the array for the sections' homes,
unfoldable pub section_room : Header → ℕ
section_room h = pick (few_records h) FEW_SECTIONS MAX_SECTIONS

-- and for what the symbols come to
unfoldable pub code_room : Header → ℕ
code_room h = pick (few_records h) FEW_SYMBOLS MAX_SYMBOLS

-- arrays of zeros with that room
pub record Cleared (h : Header) (homes codes : List ℕ) : Type 0 where
  pub no_homes : homes ≡ replicate (section_room h) 0
  pub no_codes : codes ≡ replicate (code_room h) 0

-- ---- those words, filled once
module _ (f : List ℕ) (h : Header) where
  -- the sections' homes
  abbrev pub home_words : List ℕ
  home_words = splice (replicate (section_room h) 0) 0 (homes_to f h h.sections)

  -- what the symbols come to
  abbrev pub code_words : List ℕ
  code_words = splice (replicate (code_room h) 0) 0 (codes_to f h h.symbols)
