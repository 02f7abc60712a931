-- The ways through the code. Assumes nothing.
use Rattle.refusal.specs.declared.Refusal.{Refusal}
use Rattle.refusal.specs.declared.Refusal.TheVariants as refusals
use Rattle.std.specs.Prelude.{Ok, Err, Result}
use mathlib.Core.Path.{◌≡◌, refl, sym, ap, subst, ◌∙◌}
use mathlib.Core.Bool.{Bool, true, false}
use mathlib.Core.List.{List, [], ◌∷◌, ◌++◌}
use mathlib.Core.Logic.{⊎_elim}
use Prim.Native.Nat.{ℕ}
use lib.Dec.{leb}
use lib.ListN.{length}
use Rattle.util.specs.Pick.{pick, yes_no}
use Rattle.arch.specs.Address.{va}
use Rattle.words.specs.Words.{word_bytes}
use Rattle.le.specs.Le.{splice}
use Rattle.refusal.specs.Refusal.{Code, PASSES, BASE, STORAGE, POSITION, code_number, answer_of, unless_refused, Leaves}
use Rattle.object.specs.Format.{header_of}
use Rattle.checks.specs.Checks.{base_ok}
use Rattle.survey.specs.declared.answer.Counts.{Counts}
use Rattle.survey.specs.Survey.{Check, check, first_failed, checks, counts, answer_by, survey_of}
use Rattle.results.specs.Results.{COUNTS_BYTES, counts_words, PROGRESS_BYTES, progress_words, ROUTINE_BYTES, routine_words}
use Rattle.nearest.specs.declared.Routine.{Routine}
use Rattle.module.specs.Routine.{table_sections, routine}
use Rattle.storage.specs.Storage.{Storage, stored}
use Rattle.loading.specs.Load.{room_ok, load_checks, Loads}
use Rattle.patch.specs.declared.answer.Progress.{Progress}
use Rattle.patch.specs.Fixes.{fix_count}
use Rattle.patch.specs.Patch.{patch_code, Patches}
use Rattle.station.specs.Station.{code_with, patch_code_with, told_in, Told, ToldBoth, Surveyed, Loaded, Patched, routine_code, nearest_words, Traced, survey_code, counts_in, CountsTold, untold, unstored_code, unlaid_code, untold_patch_code, progress_in, ProgressTold, RoutineTold}
use Rattle.station.specs.StationLaws.{room_same, short_kept, patch_room, patch_short, untold_kept}

-- ---- an answer, told
module _ (a : Result Counts Refusal) (c : Counts) (out : List ℕ) where
  pub counts_accepted : (out' : List ℕ) → a ≡ Ok c → leb COUNTS_BYTES (length out) ≡ true → out' ≡ told_in out (counts_words c) → CountsTold a out out' (Ok tt)
  unfolding survey_code counts_in pick
  counts_accepted out' e t d = rw e (record { says = rw t; result = rw t d })

  pub counts_short : a ≡ Ok c → leb COUNTS_BYTES (length out) ≡ false → CountsTold a out out (Err refusals.Storage)
  unfolding survey_code counts_in pick
  counts_short e t = rw e (record { says = rw t; result = rw t })

pub counts_refused : (a : Result Counts Refusal) (r : Refusal) (out : List ℕ) → a ≡ Err r → CountsTold a out out (Err r)
unfolding survey_code counts_in
counts_refused a r out e = rw e (record { says = refl; result = refl })

pub untold_accepted : (f : List ℕ) (a : Result Counts Refusal) (c : Counts) → a ≡ survey_of f → a ≡ Ok c → STORAGE ≡ unstored_code f
unfolding untold
untold_accepted f a c q e = rw (← q, e)

pub untold_refused : (f : List ℕ) (a : Result Counts Refusal) (r : Refusal) → a ≡ survey_of f → a ≡ Err r → Err r ≡ unstored_code f
unfolding untold
untold_refused f a r q e = rw (← q, e)

module _ (f : List ℕ) (base : ℕ) {ok : Bool} where
  pub unlaid_base : ok ≡ base_ok base → ok ≡ false → BASE ≡ unlaid_code f base
  unfolding pick
  unlaid_base q e = rw (← q, e)

  pub unlaid_file : (r : Code) → ok ≡ base_ok base → ok ≡ true → r ≡ unstored_code f → r ≡ unlaid_code f base
  unfolding pick
  unlaid_file r q e d = rw (← q, e) d

module _ (fixes : List ℕ) (position n : ℕ) where
  pub untold_position : n ≡ fix_count fixes → leb position n ≡ false → POSITION ≡ untold_patch_code fixes position
  unfolding pick
  untold_position q e = rw (← q, e)

  pub untold_progress : n ≡ fix_count fixes → leb position n ≡ true → STORAGE ≡ untold_patch_code fixes position
  unfolding pick
  untold_progress q e = rw (← q, e)

pub ruleset unpatched = (untold_position, untold_progress)

pub progress_applied : (a : Result Progress Refusal) (p : Progress) (out out' : List ℕ) → a ≡ Ok p → out' ≡ told_in out (progress_words p.position p.done)
    → ProgressTold a out out' (Ok tt)
unfolding progress_in
progress_applied a p out out' e d = rw e (record { says = refl; result = d })

pub progress_refused : (a : Result Progress Refusal) (r : Refusal) (out : List ℕ) → a ≡ Err r → ProgressTold a out out (Err r)
unfolding progress_in
progress_refused a r out e = rw e (record { says = refl; result = refl })

-- ---- the code of an answer that a code gives is that code
pick_kept : {A : Type 0} (b : Bool) (new old : A) → pick b new old ≡ unless_refused (pick b PASSES STORAGE) new old
unfolding pick unless_refused
pick_kept true new old = refl
pick_kept false new old = refl

counts_by_lem : (code : Code) (c : Counts) (a : Result Counts Refusal) (out out' : List ℕ) (r : Code) → a ≡ answer_by code c → CountsTold a out out' r
    → Told (code_with COUNTS_BYTES out code) (told_in out (counts_words c)) out out' (code_number r)
unfolding answer_of survey_code counts_in unless_refused code_with
counts_by_lem (Ok v) c a out out' r e t =
    let u : CountsTold (Ok c) out out' r = subst (λ (x : Result Counts Refusal). CountsTold x out out' r) e t in
    record { says = ap code_number u.says; leaves = u.result ∙ pick_kept (leb COUNTS_BYTES (length out)) _ out }
counts_by_lem (Err k) c a out out' r e t =
    let u : CountsTold (Err k) out out' r = subst (λ (x : Result Counts Refusal). CountsTold x out out' r) e t in
    record { says = ap code_number u.says; leaves = u.result }

progress_by : (code : Code) (p : Progress) (a : Result Progress Refusal) (out out' : List ℕ) (r : Code) → a ≡ answer_of code p → ProgressTold a out out' r
    → Told code (told_in out (progress_words p.position p.done)) out out' (code_number r)
unfolding answer_of progress_in unless_refused
progress_by (Ok v) p a out out' r e t =
    let u : ProgressTold (Ok p) out out' r = subst (λ (x : Result Progress Refusal). ProgressTold x out out' r) e t in
    record { says = ap code_number u.says; leaves = u.result }
progress_by (Err k) p a out out' r e t =
    let u : ProgressTold (Err k) out out' r = subst (λ (x : Result Progress Refusal). ProgressTold x out out' r) e t in
    record { says = ap code_number u.says; leaves = u.result }

-- ---- without room for the counts load's order is 12, 1 to 11, 13
untold_by : (n : ℕ) (out : List ℕ) (code : Code) (c : Counts) → leb n (length out) ≡ false → code_with n out code ≡ untold (answer_by code c)
unfolding code_with pick untold answer_of
untold_by n out (Ok u) c e = rw e
untold_by n out (Err r) c e = refl

-- a last check by 13 does not matter there
short_last : (n : ℕ) (out : List ℕ) (xs : List Check) (ok : Bool) → leb n (length out) ≡ false
    → code_with n out (first_failed (xs ++ (check ok STORAGE ∷ []))) ≡ code_with n out (first_failed xs)
unfolding first_failed pick code_with
short_last n out [] true e = refl
short_last n out [] false e = rw e
short_last n out (x ∷ xs) ok e =
    ⊎_elim (λ t. rw t (short_last n out xs ok e)) (λ t. rw t) (yes_no x.passes)

unlaid_by : (f : List ℕ) (base : ℕ) (s : Storage) (out : List ℕ) → leb COUNTS_BYTES (length out) ≡ false
    → unlaid_code f base ≡ code_with COUNTS_BYTES out (first_failed (load_checks f (header_of f) base s))
unfolding first_failed pick code_with
unlaid_by f base s out e =
    ⊎_elim
    (λ t. rw t (sym (short_last COUNTS_BYTES out (checks f (header_of f)) (room_ok (counts f (header_of f)) s) e ∙ untold_by COUNTS_BYTES out (first_failed (checks f (header_of f))) (counts f (header_of f)) e)))
    (λ t. rw t)
    (yes_no (base_ok base))

both_by : {A B : Type 0} (code code' : Code) → code ≡ code' → (new old x : A) (new₂ old₂ x₂ : B) (r : ℕ) → x ≡ unless_refused code new old → Told code new₂ old₂ x₂ r → ToldBoth code' new old x new₂ old₂ x₂ r
both_by {A} {B} code code' e new old x new₂ old₂ x₂ r q t =
    subst (λ (k : Code). ToldBoth k new old x new₂ old₂ x₂ r) e (record { says = t.says; leaves = q; leaves₂ = t.leaves })

-- ---- the four operations
pub survey_told : (f out out' : List ℕ) (a : Result Counts Refusal) (r : Code) (n : ℕ) → a ≡ survey_of f → CountsTold a out out' r → n ≡ code_number r → Surveyed f out out' n
survey_told f out out' a r n q t m = rw m
    (counts_by_lem (first_failed (checks f (header_of f))) (counts f (header_of f)) a out out' r q t)

module _ (f : List ℕ) (base : ℕ) (s : Storage) (out : List ℕ) where
  abbrev code : Code
  code = first_failed (load_checks f (header_of f) base s)

  abbrev new : Storage
  new = stored f (header_of f) base s

  pub load_told : (s' s'' : Storage) (out' : List ℕ) (a : Result Counts Refusal) (r : Code) (n : ℕ) → leb COUNTS_BYTES (length out) ≡ true → Loads f base s s' a → CountsTold a out out' r
      → n ≡ code_number r → s'' ≡ s' → Loaded f base s s'' out out' n
  load_told s' s'' out' a r n e q t m b =
      let u : Told (code_with COUNTS_BYTES out code) (told_in out (counts_words (counts f (header_of f)))) out out' (code_number r) =
      counts_by_lem code (counts f (header_of f)) a out out' r q.says t
      in
      record {
        says = m ∙ u.says;
        leaves = b ∙ q.leaves ∙ ap (λ (k : Code). unless_refused k new s) (sym (room_same COUNTS_BYTES out code e));
        leaves₂ = u.leaves;
      }

  pub load_short : (k : Code) (n : ℕ) → leb COUNTS_BYTES (length out) ≡ false → k ≡ unlaid_code f base → n ≡ code_number k → Loaded f base s s out out n
  load_short k n e q m =
      record {
        says = m ∙ ap code_number (q ∙ unlaid_by f base s out e);
        leaves = short_kept COUNTS_BYTES out code new s e;
        leaves₂ = short_kept COUNTS_BYTES out code _ out e;
      }

module _ (base : ℕ) (marks fixes : List ℕ) (number position : ℕ) (image out : List ℕ) where
  abbrev own : Code
  own = patch_code (length image) marks base fixes number position

  pub patch_told : (image' out' : List ℕ) (a : Result Progress Refusal) (r : Code) (n : ℕ) → leb PROGRESS_BYTES (length out) ≡ true
      → Patches base marks fixes number position image image' a → ProgressTold a out out' r → n ≡ code_number r → Patched base marks fixes number position image image' out out' n
  patch_told image' out' a r n e q t m = rw m
      (let same : own ≡ patch_code_with (length image) marks base fixes number position out = sym (patch_room (length image) marks base fixes number position out e) in
      both_by own _ same _ image image' _ out out' _ q.leaves (progress_by own _ a out out' r q.says t))

  pub patch_untold : (k : Code) (n : ℕ) → leb PROGRESS_BYTES (length out) ≡ false → k ≡ untold_patch_code fixes position → n ≡ code_number k → Patched base marks fixes number position image image out out n
  patch_untold k n e q m = rw m
      (let same : untold_patch_code fixes position ≡ patch_code_with (length image) marks base fixes number position out = sym (patch_short (length image) marks base fixes number position out e) in
      both_by (untold_patch_code fixes position) _ same _ image image _ out out _ (untold_kept fixes position _ image) (record { says = ap code_number q; leaves = untold_kept fixes position _ out }))

pub read_told : (code : Code) (out new out' : List ℕ) (a : Code) (r : ℕ) → Leaves code out new out' a → r ≡ code_number a → Told code new out out' r
read_told code out new out' a r q e = record { says = e ∙ ap code_number q.says; leaves = q.leaves }

-- ---- the routine of an address
none_told : (out : List ℕ) → told_in out [] ≡ out
unfolding word_bytes splice
none_told out = refl

pub routine_found : (a : Result Routine Refusal) (p : Routine) (out out' : List ℕ) → a ≡ Ok p → out' ≡ told_in out (routine_words p.symbol p.distance) → RoutineTold a out out' (Ok tt)
unfolding nearest_words
routine_found a p out out' e d = rw e (record { says = refl; result = d })

pub routine_refused : (a : Result Routine Refusal) (k : Refusal) (out : List ℕ) → a ≡ Err k → RoutineTold a out out (Err k)
unfolding nearest_words
routine_refused a k out e = rw e (record { says = refl; result = sym (none_told out) })

routine_by : (a : Result Routine Refusal) (out out' : List ℕ) (r : Code) → RoutineTold a out out' r → Told (routine_code a) (told_in out (nearest_words a)) out out' (code_number r)
unfolding nearest_words unless_refused
routine_by (Ok p) out out' r t = record { says = ap code_number t.says; leaves = t.result }
routine_by (Err k) out out' r t = record { says = ap code_number t.says; leaves = t.result ∙ none_told out }

module _ (sections symbols : List ℕ) (address : ℕ) (out : List ℕ) where
  pub routine_told : (a : Result Routine Refusal) (out' : List ℕ) (r : Code) (n : ℕ) → leb ROUTINE_BYTES (length out) ≡ true → a ≡ routine (table_sections sections) symbols (va address) → RoutineTold a out out' r
      → n ≡ code_number r → Traced sections symbols address out out' n
  unfolding pick
  routine_told a out' r n e q t m = rw (m, e, ← q) (routine_by a out out' r t)

  pub routine_untold : leb ROUTINE_BYTES (length out) ≡ false → Traced sections symbols address out out 13
  unfolding pick unless_refused
  routine_untold e = rw e (record { says = refl; leaves = refl })
