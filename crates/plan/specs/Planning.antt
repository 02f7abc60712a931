-- What the parts of the plan promise.
use Rattle.refusal.specs.declared.Refusal.TheVariants.{Storage}
use Rattle.refusal.specs.declared.Refusal.{Refusal}
use Rattle.arch.specs.declared.RVA.{RVA}
use Rattle.std.specs.Prelude.{◌≡◌, List, ◌∷◌, ◌++◌, ℕ, length, Option, Result, Ok, Err}
use Rattle.refusal.specs.Refusal.{BASE}
use Rattle.util.specs.Pick.{pick}
use Rattle.object.specs.declared.Header.{Header}
use Rattle.layout.specs.Layout.{undef_start}
use Rattle.homes.specs.Home.{home_in}
use Rattle.checks.specs.Checks.{base_ok}
use Rattle.externs.specs.Externs.{slot_words}
use Rattle.externs.specs.Slotted.{slotted, CodesAfter}
use Rattle.targets.specs.declared.Target.{Target}
use Rattle.targets.specs.Table.{target_in}
use Rattle.survey.specs.declared.answer.Counts.{Counts}
use Rattle.survey.specs.Survey.{Check, check, first_failed, early_checks, extern_checks, target_checks, tally_by, counts_by}
use Rattle.survey.specs.Surveying.{names_in}
use Rattle.plan.specs.declared.Lengths.{Lengths}
use Rattle.plan.specs.Plan.{room_for, room_check, plan_by}

-- 12, then 1 to 7
abbrev pub first_checks : List ℕ → Header → ℕ → List Check
first_checks f h base = check (base_ok base) BASE ∷ early_checks f h

-- 13 behind survey's answer
unfoldable pub with_room : Result Counts Refusal → Lengths → ℕ → Result (Counts × ℕ) Refusal
with_room (Err k) l n = Err k
with_room (Ok c) l n = pick (room_for c l) (Ok (c, n)) (Err Storage)

-- ---- the plan from refusal 9 on, by homes and targets, with n extern names
module _ (f : List ℕ) (h : Header) (home : ℕ → Option RVA) (target : ℕ → Target) (n : ℕ) (l : Lengths) where
  -- the counts with those
  abbrev pub planned_counts : Counts
  planned_counts = counts_by f h home n (tally_by f h home target)

  -- 9, 10, 11 and 13
  abbrev pub late_checks : List Check
  late_checks = extern_checks n ++ (target_checks (tally_by f h home target) ++ room_check planned_counts l)

  -- the first of them that fails, or the counts
  abbrev pub late_plan : Result (Counts × ℕ) Refusal
  late_plan = plan_by (first_failed late_checks) planned_counts n

-- by the words that are kept, with what becomes of them
pub record PlannedIn (f : List ℕ) (h : Header) (homes codes : List ℕ) (l : Lengths) (codes' slots : List ℕ) (r : Result (Counts × ℕ) Refusal) : Type 0 where
  pub says : r ≡ late_plan f h (home_in homes) (target_in homes (undef_start f h) (slotted f h (names_in f h codes) codes)) (length (names_in f h codes)) l
  pub words : slots ≡ slot_words (names_in f h codes)
  pub coded : CodesAfter f h codes (names_in f h codes) codes'
