-- What the C functions do is what the operations do, also on refusal: what is proved of load and patch (demands 1 and 3) holds of them.
use Rattle.survey.specs.declared.answer.Counts.{Counts}
use Rattle.refusal.specs.declared.Refusal.{Refusal}
use Rattle.std.specs.Prelude.{◌≡◌, refl, Bool, true, false, List, ℕ, suc, leb, eqb, length, Result, Ok, Err}
use Rattle.std.proofs.Math.Path.{sym, ap}
use Rattle.std.proofs.Common.{◌∙◌, ⊎_elim, arith, ne_eqb}
use Rattle.util.specs.Pick.{pick, yes_no}
use Rattle.refusal.specs.Refusal.{Code, PASSES, STORAGE, POSITION, code_number, code_numbered, code_back, answer_of, unless_refused}
use Rattle.object.specs.Format.{header_of}
use Rattle.survey.specs.Survey.{first_failed, counts}
use Rattle.results.specs.Results.{COUNTS_BYTES, PROGRESS_BYTES}
use Rattle.storage.specs.Storage.{Storage, stored}
use Rattle.loading.specs.Load.{load_checks, load_answer, Loads}
use Rattle.patch.specs.Fixes.{fix_count, fixed_from}
use Rattle.patch.specs.Patch.{portion, patch_code, patch_answer, Patches}
use Rattle.station.specs.Station.{code_with, patch_code_with, untold_patch_code, Loaded, Patched}

-- no number of a refusal is 0
pub not_zero : (k : ℕ) → eqb (suc k) 0 ≡ false
not_zero k = ne_eqb (suc k) 0 (λ e. omega arith)

-- with room, the code is the operation's own; without, a buffer keeps what it had
pub room_same : (n : ℕ) (out : List ℕ) (code : Code) → leb n (length out) ≡ true → code_with n out code ≡ code
unfolding code_with pick
room_same n out (Ok u) e = rw e
room_same n out (Err r) e = refl

pub short_kept : {A : Type 0} (n : ℕ) (out : List ℕ) (code : Code) (new old : A) → leb n (length out) ≡ false → old ≡ unless_refused (code_with n out code) new old
unfolding code_with pick unless_refused
short_kept n out (Ok u) new old e = rw e
short_kept n out (Err r) new old e = refl

-- only where nothing is refused the number is 0
pub zero_passes : (k : Code) → code_number k ≡ 0 → k ≡ PASSES
unfolding code_numbered
zero_passes k e = sym (code_back k) ∙ ap code_numbered e

-- done means that the operation is, and that there was room
done_own : (n : ℕ) (out : List ℕ) (code : Code) → code_with n out code ≡ PASSES → code ≡ PASSES
unfolding code_with
done_own n out (Ok u) e = refl
done_own n out (Err r) e = e

pick_twice : (b : Bool) (x y : Code) → pick b (pick b x y) y ≡ pick b x y
unfolding pick
pick_twice true x y = refl
pick_twice false x y = refl

module _ (size : ℕ) (marks : List ℕ) (base : ℕ) (fixes : List ℕ) (number position : ℕ) (out : List ℕ) where
  pub patch_room : leb PROGRESS_BYTES (length out) ≡ true → patch_code_with size marks base fixes number position out ≡ patch_code size marks base fixes number position
  unfolding pick patch_code
  patch_room e =
      ap (λ (b : Bool). pick (leb position (fix_count fixes)) (pick b (patch_code size marks base fixes number position) STORAGE) POSITION) e
      ∙ pick_twice (leb position (fix_count fixes)) _ POSITION

  pub patch_short : leb PROGRESS_BYTES (length out) ≡ false → patch_code_with size marks base fixes number position out ≡ untold_patch_code fixes position
  unfolding pick
  patch_short e = rw e

pub untold_kept : {A : Type 0} (fixes : List ℕ) (position : ℕ) (new old : A) → old ≡ unless_refused (untold_patch_code fixes position) new old
unfolding pick unless_refused
untold_kept fixes position new old = ⊎_elim (λ t. rw t) (λ t. rw t) (yes_no (leb position (fix_count fixes)))

untold_same : {A : Type 0} (fixes : List ℕ) (position : ℕ) (k : Code) (new old x : A) → k ≡ untold_patch_code fixes position → x ≡ unless_refused k new old → x ≡ old
untold_same fixes position k new old x e q = q ∙ ap (λ (j : Code). unless_refused j new old) e ∙ sym (untold_kept fixes position new old)

-- ---- load
module _ (f : List ℕ) (base : ℕ) (s s' : Storage) (out out' : List ℕ) where
  abbrev code : Code
  code = first_failed (load_checks f (header_of f) base s)

  -- with room for the counts: load's answer, whose number is told, and load's storage
  pub c_load_is_load : (r : ℕ) → leb COUNTS_BYTES (length out) ≡ true → Loaded f base s s' out out' r → Loads f base s s' (load_answer (code_numbered r) (counts f (header_of f)))
  c_load_is_load r e l =
      let same : code_with COUNTS_BYTES out code ≡ code = room_same COUNTS_BYTES out code e in
      record {
        says = ap (λ (k : Code). load_answer k (counts f (header_of f))) (ap code_numbered (l.says ∙ ap code_number same) ∙ code_back code);
        leaves = l.leaves ∙ ap (λ (k : Code). unless_refused k (stored f (header_of f) base s) s) same;
      }

  -- an answer of 0 is load's acceptance
  pub c_load_done : Loaded f base s s' out out' 0 → Loads f base s s' (Ok (counts f (header_of f)))
  unfolding answer_of unless_refused
  c_load_done l =
      let told : code_with COUNTS_BYTES out code ≡ PASSES = zero_passes (code_with COUNTS_BYTES out code) (sym l.says) in
      let none : code ≡ PASSES = done_own COUNTS_BYTES out code told in
      record { says = rw none; leaves = rw none (rw told at l.leaves) }

  -- without room for the counts nothing is written
  pub c_load_short : (r : ℕ) → leb COUNTS_BYTES (length out) ≡ false → Loaded f base s s' out out' r → (s' ≡ s) × (out' ≡ out)
  c_load_short r e l = (l.leaves ∙ sym (short_kept COUNTS_BYTES out code _ s e), l.leaves₂ ∙ sym (short_kept COUNTS_BYTES out code _ out e))

-- ---- patch
module _ (base : ℕ) (marks fixes : List ℕ) (number position : ℕ) (image image' out out' : List ℕ) where
  -- with room for the progress: patch's answer, whose number is told, and patch's image
  pub c_patch_is_patch : (r : ℕ) → leb PROGRESS_BYTES (length out) ≡ true → Patched base marks fixes number position image image' out out' r
      → Patches base marks fixes number position image image' (patch_answer (code_numbered r) (fix_count fixes) number position)
  c_patch_is_patch r e p =
      let same : patch_code_with (length image) marks base fixes number position out ≡ patch_code (length image) marks base fixes number position = patch_room (length image) marks base fixes number position out e in
      record {
        says = ap (λ (k : Code). patch_answer k (fix_count fixes) number position) (ap code_numbered (p.says ∙ ap code_number same) ∙ code_back (patch_code (length image) marks base fixes number position));
        leaves = p.leaves ∙ ap (λ (k : Code). unless_refused k (fixed_from base fixes image position (portion (fix_count fixes) number position)) image) same;
      }

  -- without, no fixup is applied
  pub c_patch_short : (r : ℕ) → leb PROGRESS_BYTES (length out) ≡ false → Patched base marks fixes number position image image' out out' r → (image' ≡ image) × (out' ≡ out)
  c_patch_short r e p =
      let same : patch_code_with (length image) marks base fixes number position out ≡ untold_patch_code fixes position = patch_short (length image) marks base fixes number position out e in
      (untold_same fixes position _ _ image image' same p.leaves, untold_same fixes position _ _ out out' same p.leaves₂)
