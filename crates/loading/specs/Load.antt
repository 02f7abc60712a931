-- Load: everything that survey counts is written into lent storage at a base, or nothing is (01, "Load").
use Rattle.refusal.specs.declared.Refusal.{Refusal}
use Rattle.refusal.specs.Refusal.{Code, answer_of, unless_refused}
use Rattle.std.specs.Prelude.{◌≡◌, Bool, List, ℕ, length, Result, Ok, Err}
use Rattle.object.specs.declared.Header.{Header}
use Rattle.object.specs.Format.{header_of}
use Rattle.survey.specs.declared.answer.Counts.{Counts}
use Rattle.survey.specs.Survey.{Check, first_failed, counts}
use Rattle.plan.specs.declared.Lengths.{Lengths}
use Rattle.plan.specs.Plan.{room_for, plan_checks}
use Rattle.storage.specs.Storage.{Storage, stored}

-- the lengths of the seven
abbrev pub lengths_of : Storage → Lengths
lengths_of s =
    record {
      image = length s.image;
      marks = length s.marks;
      sections = length s.sections;
      symbols = length s.symbols;
      externs = length s.externs;
      fixups = length s.fixups;
      skips = length s.skips;
    }

-- 13: the storage has room for what is counted
abbrev pub room_ok : Counts → Storage → Bool
room_ok c s = room_for c (lengths_of s)

-- the checks: 12, then survey's, then 13
abbrev pub load_checks : List ℕ → Header → ℕ → Storage → List Check
load_checks f h base s = plan_checks f h base (lengths_of s)

-- load's answer by its code: the counts, or the refusal
abbrev pub load_answer : Code → Counts → Result Counts Refusal
load_answer = answer_of

-- by a code: the counts and the new contents, or the refusal and what there was
pub record LoadIs (code : Code) (c : Counts) (new old after : Storage) (r : Result Counts Refusal) : Type 0 where
  pub says : r ≡ load_answer code c
  pub leaves : after ≡ unless_refused code new old

-- load's answer, and the storage at exit
abbrev pub Loads : List ℕ → ℕ → Storage → Storage → Result Counts Refusal → Type 0
Loads f base s s' r =
    LoadIs (first_failed (load_checks f (header_of f) base s)) (counts f (header_of f)) (stored f (header_of f) base s) s s' r
