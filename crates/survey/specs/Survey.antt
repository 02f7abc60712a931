-- Survey: the counts, or the first refusal that applies (01, "Survey"). The checks stand in one list, in 01's order; each is over the whole file.
use Rattle.names.specs.declared.Name.{Name}
use Rattle.refusal.specs.declared.Refusal.{Refusal}
use Rattle.arch.specs.declared.RVA.{RVA}
use Rattle.std.specs.Prelude.{Bool, List, [], ◌∷◌, ◌++◌, ℕ, leb, eqb, length, Option, None, Result, Ok, Err, Some}
use Rattle.refusal.specs.Refusal.{Code, PASSES, answer_of, FILE_SIZE, SECTION_TABLE, SYMBOL_TABLE, SECTION_DATA, SECTION_NUMBER, PAGES, PLACE}
use Rattle.util.specs.Pick.{pick}
use Rattle.arch.specs.Machine.{arch_of, arch_by, machine_refusal}
use Rattle.object.specs.declared.Header.{Header}
use Rattle.object.specs.Format.{header_of}
use Rattle.object.specs.Section.{relocation_count}
use Rattle.names.specs.Name.{name_refusal}
use Rattle.layout.specs.Layout.{mapped_pages, table_records}
use Rattle.homes.specs.Home.{section_home}
use Rattle.homes.specs.Listed.{listed_total}
use Rattle.limits.specs.Limits.{MAX_EXTERNS}
use Rattle.bounds.specs.Bounds.{size_ok, machine_ok, section_table_ok, symbol_table_ok, sections_ok, relocation_total}
use Rattle.good_names.specs.GoodNames.{names_ok}
use Rattle.checks.specs.Checks.{numbers_ok, pages_ok}
use Rattle.externs.specs.Externs.{externs, names_refusal}
use Rattle.targets.specs.declared.Target.{Target}
use Rattle.targets.specs.Target.{targets}
use Rattle.fixups.specs.declared.Outcome.{Outcome}
use Rattle.fixups.specs.declared.Outcome.TheVariants as fixups
use Rattle.fixups.specs.declared.Tally.{Tally}
use Rattle.fixups.specs.Outcome.{outcome, outcome_refusal}
use Rattle.fixups.specs.Tally.{tally_of}
use Rattle.survey.specs.declared.answer.Counts.{Counts}

-- ---- checks and their refusals
-- whether it passes, and the refusal if it does not
pub record Check : Type 0 where
  pub passes : Bool
  pub refusal : Code

-- as one stands in the list
abbrev pub check : Bool → Code → Check
check ok r = record { passes = ok; refusal = r }

-- the refusal of the first check that does not pass; nothing is refused if all pass
unfoldable pub first_failed : List Check → Code
first_failed [] = PASSES
first_failed (c ∷ cs) = pick c.passes (first_failed cs) c.refusal

-- 1 to 7, of the file's records
abbrev pub early_checks : List ℕ → Header → List Check
early_checks f h =
    check (size_ok f) FILE_SIZE
    ∷ check (machine_ok h) (machine_refusal None)
    ∷ check (section_table_ok f h) SECTION_TABLE
    ∷ check (symbol_table_ok f h) SYMBOL_TABLE
    ∷ check (sections_ok f h) SECTION_DATA
    ∷ check (names_ok f h) (name_refusal None)
    ∷ check (numbers_ok f h) SECTION_NUMBER
    ∷ []

-- 8, of the layout
abbrev pub page_checks : List ℕ → Header → List Check
page_checks f h = check (pages_ok f h) PAGES ∷ []

-- 1 to 8
abbrev pub record_checks : List ℕ → Header → List Check
record_checks f h = early_checks f h ++ page_checks f h

-- 9, by the number of extern names
abbrev pub extern_checks : ℕ → List Check
extern_checks n = check (leb n MAX_EXTERNS) (names_refusal None) ∷ []

-- 10 and 11, by the tally
abbrev pub target_checks : Tally → List Check
target_checks t = check (eqb t.refused 0) (outcome_refusal fixups.Refused) ∷ check (eqb t.outside 0) PLACE ∷ []

-- ---- what the relocations come to: `home` says where a section's home starts, `target` what each number of a symbol comes to
module _ (f : List ℕ) (h : Header) (home : ℕ → Option RVA) (target : ℕ → Target) where
  -- of relocation k of section i
  abbrev pub outcomes_by : ℕ → ℕ → Outcome
  outcomes_by = outcome (arch_by (arch_of h.machine)) f h home target

  -- how many of each outcome there are
  abbrev pub tally_by : Tally
  tally_by = tally_of (mapped_pages f h) outcomes_by (relocation_count f h) h.sections

-- the counts, with n extern names and the tally t
unfoldable pub counts_by : List ℕ → Header → (ℕ → Option RVA) → ℕ → Tally → Counts
counts_by f h home n t =
    record {
      pages = mapped_pages f h;
      sections = table_records f h;
      symbols = listed_total f h home;
      externs = n;
      fixups = t.fixups;
      skips = t.skips;
      passed = t.passed;
      file_sections = h.sections;
      symbol_records = h.symbols;
      relocations = relocation_total f h;
    }

module _ (f : List ℕ) (h : Header) where
  -- what becomes of relocation k of section i, with the file's homes and targets
  abbrev pub outcomes : ℕ → ℕ → Outcome
  outcomes = outcomes_by f h (section_home f h) (targets f h)

  -- how many of each outcome there are in the file
  abbrev pub tally : Tally
  tally = tally_by f h (section_home f h) (targets f h)

  -- what survey answers where every check passes
  abbrev pub counts : Counts
  counts = counts_by f h (section_home f h) (length (externs f h)) tally

  -- 1 to 11 in this order, each over the whole file
  abbrev pub checks : List Check
  checks = record_checks f h ++ (extern_checks (length (externs f h)) ++ target_checks tally)

-- ---- the answer
-- by the first refusal, if there is one
abbrev pub answer_by : Code → Counts → Result Counts Refusal
answer_by = answer_of

-- of a file: the counts, or the first refusal
abbrev pub survey_of : List ℕ → Result Counts Refusal
survey_of f = answer_by (first_failed (checks f (header_of f))) (counts f (header_of f))
