-- The ways through the code. Assumes nothing.
use Rattle.refusal.specs.declared.Refusal.{Refusal}
use Rattle.std.specs.Prelude.{Result, Ok, Err}
use Rattle.refusal.specs.Refusal.{Code, PASSES, answer_of, unless_refused}
use mathlib.Core.Path.{◌≡◌, refl, sym, ap, ◌∙◌}
use mathlib.Core.Bool.{true, false}
use mathlib.Core.List.{List, ◌++◌}
use Prim.Native.Nat.{ℕ, ◌-◌}
use lib.Dec.{leb}
use lib.ListN.{length, replicate, length-replicate}
use lib.Seq.{take-append_seam}
use borrow.Author.Tests.{le-leb}
use Rattle.limits.specs.Limits.{MAX_EXTERNS, EXTERN_ROOM}
use Rattle.util.specs.Pick.{pick}
use Rattle.le.specs.Le.{part, part_front}
use Rattle.object.specs.declared.Header.{Header}
use Rattle.object.specs.Format.{header_of}
use Rattle.externs.specs.Externs.{externs, slot_words}
use Rattle.survey.specs.declared.answer.Counts.{Counts}
use Rattle.survey.specs.Survey.{first_failed, counts}
use Rattle.survey.specs.Surveying.{Cleared}
use Rattle.plan.specs.declared.Lengths.{Lengths}
use Rattle.plan.specs.Plan.{plan_checks, Blank, Found, Plans}
use Rattle.plan.specs.PlanLaws.{plan_says, plan_says_no}
use Rattle.storage.specs.Storage.{Storage, stored, Known}
use Rattle.loading.specs.Load.{lengths_of, load_checks, Loads}

-- ---- the whole
-- a plan that is ready
module _ (f : List ℕ) (h : Header) (homes codes slots : List ℕ) (base : ℕ) (l : Lengths) (p : Result (Counts × ℕ) Refusal) (plans : Plans f h base l homes codes slots p) (c : Counts) (n : ℕ) (is : p ≡ Ok (c, n)) where
  abbrev ready_code : Code
  ready_code = first_failed (plan_checks f h base l)

  told : (ready_code ≡ PASSES) × (c ≡ counts f h) × (n ≡ length (externs f h))
  told = plan_says ready_code (counts f h) (length (externs f h)) c n (sym is ∙ plans.says)

  found : Found f h homes codes slots
  found = plans.found told.0

  externs_are : part slots 0 n ≡ externs f h
  unfolding slot_words pick
  externs_are =
      let m = told.2 in
      let z : leb (length (externs f h)) MAX_EXTERNS ≡ true = le-leb (length (externs f h)) MAX_EXTERNS found.names in
      let y : slots ≡ externs f h ++ replicate (EXTERN_ROOM - length (externs f h)) 0 = rw z at found.words in
      rw (m, y, part_front) (take-append_seam (externs f h) _)

  pub known_is : Known f h homes codes (part slots 0 n)
  known_is =
      record { home = found.home; row = found.row; target = found.target; names = externs_are; pages = found.pages; few = rw externs_are found.names }

-- the slots' array keeps its length
pub slots_long : {n : ℕ} → (length (replicate {A = ℕ} EXTERN_ROOM 0) ≡ EXTERN_ROOM → n ≡ EXTERN_ROOM) → EXTERN_ROOM ≡ n
slots_long e = sym (e (length-replicate {A = ℕ} EXTERN_ROOM 0))

-- what the plan gives for arrays of zeros
module _ (f homes₀ codes₀ : List ℕ) (base : ℕ) (s : Storage) (homes codes slots : List ℕ) (p : Result (Counts × ℕ) Refusal)
    (made : Blank (header_of f) homes₀ codes₀ (replicate EXTERN_ROOM 0) → Plans f (header_of f) base (lengths_of s) homes codes slots p) where
  abbrev h : Header
  h = header_of f

  abbrev code : Code
  code = first_failed (load_checks f h base s)

  plans : Cleared h homes₀ codes₀ → Plans f h base (lengths_of s) homes codes slots p
  plans zeros = made (record { zeros = zeros; no_slots = refl })

  pub load_no : (r : Refusal) → p ≡ Err r → Cleared h homes₀ codes₀ → Loads f base s s (Err r)
  unfolding answer_of unless_refused
  load_no r e zeros =
      let t = plan_says_no code (counts f h) (length (externs f h)) r (sym e ∙ (plans zeros).says) in
      record { says = rw t; leaves = rw t }

  pub load_yes : (c : Counts) (n : ℕ) (after : Storage) → p ≡ Ok (c, n) → (Known f h homes codes (part slots 0 n) → after ≡ stored f h base s) → Cleared h homes₀ codes₀ → Loads f base s after (Ok c)
  unfolding answer_of unless_refused
  load_yes c n after is wrote zeros =
      let t = told f h homes codes slots base (lengths_of s) p (plans zeros) c n is in
      let e : after ≡ stored f h base s = wrote (known_is f h homes codes slots base (lengths_of s) p (plans zeros) c n is) in
      record { says = rw t.0 (ap Ok t.1); leaves = rw t.0 e }
