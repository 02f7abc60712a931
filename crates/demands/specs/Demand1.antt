-- The request's first demand: every file that passes the checks is loaded whole, every other input gets the first refusal that applies, and then nothing has changed.
use Rattle.refusal.specs.declared.Refusal.{Refusal}
use Rattle.std.specs.Prelude.{◌≡◌, refl, false, ℕ, eqb, leb, length, Result, Ok, Err}
use Rattle.std.proofs.Common.{sym, ap, ◌∙◌, ⊎_elim, arith}
use Rattle.std.proofs.Math.Bool.{true}
use mathlib.Core.List.{List, [], ◌∷◌, ◌++◌}
use Rattle.util.specs.Pick.{pick, yes_no}
use Rattle.object.specs.Format.{header_of}
use Rattle.limits.specs.Limits.{MAX_EXTERNS}
use Rattle.externs.specs.Externs.{externs}
use Rattle.refusal.specs.declared.Refusal.TheVariants.{Externs, Target, Place}
use Rattle.refusal.specs.Refusal.{PASSES, PLACE, STORAGE, answer_of, unless_refused}
use Rattle.survey.specs.declared.answer.Counts.{Counts}
use Rattle.survey.specs.Survey.{Check, check, first_failed, extern_checks, target_checks, tally, checks, counts, survey_of}
use Rattle.survey.specs.SurveyLaws.{check_holds, checks_hold, ordered, ordered_rest, records_rest, tells_accepted, tells_refused}
use Rattle.checks.specs.Checks.{base_ok}
use Rattle.storage.specs.Storage.{Storage, stored}
use Rattle.loading.specs.Load.{room_ok, load_checks, Loads}
use Rattle.load.specs.LoadLaws.{load_refused, load_tells_refused}

-- ---- the first of a list of checks that fails, and its refusal
-- every check passes
abbrev pub AllPass : List Check → Type 0
AllPass [] = Unit {0}
AllPass (c ∷ cs) = (c.passes ≡ true) × AllPass cs

-- r is the refusal of a check that fails, and all before it in the list pass
pub record FirstFailure (cs : List Check) (r : Refusal) : Type 0 where
  pub before : List Check
  pub failed : Check
  pub after : List Check
  pub split : cs ≡ before ++ (failed ∷ after)
  pub before_pass : AllPass before
  pub fails : failed.passes ≡ false
  pub refuses : failed.refusal ≡ Err r

pub refusal_is_first : (cs : List Check) (r : Refusal) → first_failed cs ≡ Err r → FirstFailure cs r
unfolding first_failed pick
refusal_is_first [] n e = cc
refusal_is_first (c ∷ cs) n e =
    ⊎_elim
    (λ t.
    let r = refusal_is_first cs n (rw t at e) in
    record {
      before = c ∷ r.before;
      failed = r.failed;
      after = r.after;
      split = ap (λ (l : List Check). c ∷ l) r.split;
      before_pass = (t, r.before_pass);
      fails = r.fails;
      refuses = r.refuses;
    })
    (λ t. record { before = []; failed = c; after = cs; split = refl; before_pass = tt; fails = t; refuses = rw t at e })
    (yes_no c.passes)

-- ---- survey
pub survey_refuses : (f : List ℕ) (r : Refusal) → survey_of f ≡ Err r → FirstFailure (checks f (header_of f)) r
survey_refuses f r e =
    refusal_is_first (checks f (header_of f)) r (tells_refused (first_failed (checks f (header_of f))) (counts f (header_of f)) r e)

-- ---- load: whatever it answers, by what its contract says
module _ (f : List ℕ) (base : ℕ) (s s' : Storage) where
  -- a refusal is the first check that fails, of 12, then survey's, then 13; all seven buffers are as they were
  pub record Refuses (r : Refusal) : Type 0 where
    pub first : FirstFailure (load_checks f (header_of f) base s) r
    pub unchanged : s' ≡ s

  pub load_refuses : (r : Refusal) → Loads f base s s' (Err r) → Refuses r
  load_refuses r loads =
      let t = load_tells_refused (first_failed (load_checks f (header_of f) base s)) (counts f (header_of f)) r (sym loads.says) in
      record { first = refusal_is_first (load_checks f (header_of f) base s) r t; unchanged = load_refused f base s s' r loads }

  -- a file that survey accepts is loaded whole at every allowed base into storage that has room
  module _ (c : Counts) (accepted : survey_of f ≡ Ok c) (allowed : base_ok base ≡ true) (room : room_ok c s ≡ true) where
    told : (first_failed (checks f (header_of f)) ≡ PASSES) × (counts f (header_of f) ≡ c)
    told = tells_accepted (first_failed (checks f (header_of f))) (counts f (header_of f)) c accepted

    abbrev last : List Check
    last = check (room_ok (counts f (header_of f)) s) STORAGE ∷ []

    abbrev late : List Check
    late = extern_checks (length (externs f (header_of f))) ++ target_checks (tally f (header_of f))

    abbrev place : List Check
    place = check (eqb (tally f (header_of f)).outside 0) PLACE ∷ []

    names : first_failed late ≡ PASSES
    names = ordered_rest f (header_of f) late told.0

    targets : first_failed (target_checks (tally f (header_of f))) ≡ PASSES
    targets = checks_hold (leb (length (externs f (header_of f))) MAX_EXTERNS) Externs (target_checks (tally f (header_of f))) names

    places : first_failed place ≡ PASSES
    places = checks_hold (eqb (tally f (header_of f)).refused 0) Target place targets

    no_failure : first_failed (load_checks f (header_of f) base s) ≡ PASSES
    unfolding first_failed pick
    no_failure =
        let o = ordered f (header_of f) late told.0 in
        let r : room_ok (counts f (header_of f)) s ≡ true = rw told.1 room in
        rw allowed
        (records_rest f (header_of f) (extern_checks (length (externs f (header_of f))) ++ (target_checks (tally f (header_of f)) ++ last)) o
        ∙ rw (
          check_holds (leb (length (externs f (header_of f))) MAX_EXTERNS) Externs (target_checks (tally f (header_of f))) names,
          check_holds (eqb (tally f (header_of f)).refused 0) Target place targets,
          check_holds (eqb (tally f (header_of f)).outside 0) Place [] places,
          r,
        ))

    -- load says so, and the storage holds everything
    pub record Does (r : Result Counts Refusal) : Type 0 where
      pub says : r ≡ Ok c
      pub leaves : s' ≡ stored f (header_of f) base s

    pub load_does : (r : Result Counts Refusal) → Loads f base s s' r → Does r
    unfolding answer_of unless_refused
    load_does r loads =
        record { says = loads.says ∙ rw no_failure (ap Ok told.1); leaves = rw no_failure at loads.leaves }
