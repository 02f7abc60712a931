-- What any list of patch calls leaves, if none is refused but for its position: the applied fixups, one after another. For any base, marks and fix list.
use Rattle.patch.specs.declared.answer.Progress.{Progress}
use Rattle.refusal.specs.declared.Refusal.{Refusal}
use Rattle.std.specs.Prelude.{◌≡◌, true, false, leb, Result, Ok, Err}
use Rattle.std.proofs.Math.Path.{refl, sym, ap}
use Rattle.std.proofs.Common.{◌∙◌}
use mathlib.Core.List.{List, [], ◌∷◌, ◌++◌}
use Rattle.std.proofs.Math.Logic.{⊎_elim}
use Prim.Native.Nat.{ℕ, zero, suc, ◌+◌, ◌-◌, ◌≤◌, ◌<◌}
use native.Mathlib.Omega.{arith}
use Rattle.std.proofs.Math.ListN.{length}
use borrow.Author.Tests.{leb-true, leb-false, le-leb, lt-leb, le-ltb, lt-ltb}
use Rattle.util.specs.Pick.{pick, yes_no, le_or_lt}
use Rattle.words.specs.Picked.{chosen}
use Rattle.le.specs.Le.{length_splice}
use Rattle.refusal.specs.Refusal.{Code, PASSES, POSITION, unless_refused}
use Rattle.patch.specs.Fixes.{fix_count, fixed, fixed_from}
use Rattle.patch.specs.Patch.{portion, patch_code, patch_answer}
use Rattle.demands.specs.Calls.{Call, patch, asked, applied_by, applied, after_call, answer_to, after_calls, answers_to}

-- the image once the fixups ks are applied, one after another
unfoldable pub written_at : ℕ → List ℕ → List ℕ → List ℕ → List ℕ
written_at base fixes image [] = image
written_at base fixes image (k ∷ ks) = written_at base fixes (fixed base fixes image k) ks

-- only 14 can be the answer's refusal: by the position alone
abbrev pub plain_code : ℕ → ℕ → Code
plain_code count position = pick (leb position count) PASSES POSITION

-- patch's answer then
unfoldable pub plain_answer : ℕ → Call → Result Progress Refusal
plain_answer count (patch number position) = patch_answer (plain_code count position) count number position

-- the answers to a list of calls, by the list's count alone
unfoldable pub plain_answers : ℕ → List Call → List (Result Progress Refusal)
plain_answers count [] = []
plain_answers count (c ∷ cs) = plain_answer count c ∷ plain_answers count cs

-- ---- the fixups that a call asks for are a portion from its position on
-- n numbers from p on
unfoldable up_from : ℕ → ℕ → List ℕ
up_from p zero = []
up_from p (suc n) = up_from p n ++ ((p + n) ∷ [])

module _ (number position : ℕ) where
  asked_none : (n : ℕ) → n ≤ position → chosen (asked number position) n ≡ []
  unfolding chosen asked pick
  asked_none zero h = refl
  asked_none (suc n) h = rw (lt-leb position n (omega arith)) (asked_none n (omega arith))

  asked_more : (n : ℕ) → position ≤ n → chosen (asked number position) n ≡ up_from position (portion n number position)
      → chosen (asked number position) (suc n) ≡ up_from position (portion (suc n) number position)
  unfolding chosen asked pick up_from
  asked_more n a e =
      ⊎_elim
      (λ g. let q : portion (suc n) number position ≡ portion n number position = omega arith in
      rw (le-leb position n a, le-ltb n (position + number) g, q) e)
      (λ l. let p : portion n number position ≡ n - position = omega arith in
      let q : portion (suc n) number position ≡ suc (n - position) = omega arith in
      let z : position + (n - position) ≡ n = omega arith in
      rw (le-leb position n a, lt-ltb n (position + number) l, q, z) (ap (λ (t : List ℕ). t ++ (n ∷ [])) (e ∙ ap (up_from position) p)))
      (le_or_lt (position + number) n)

  asked_up : (n : ℕ) → position ≤ n → chosen (asked number position) n ≡ up_from position (portion n number position)
  unfolding chosen up_from
  asked_up zero h = let q : portion zero number position ≡ 0 = omega arith in rw q
  asked_up (suc n) h =
      ⊎_elim (λ a. asked_more n a (asked_up n a))
      (λ l. let q : portion (suc n) number position ≡ 0 = omega arith in asked_none (suc n) l ∙ rw q)
      (le_or_lt position n)

module _ (count number position : ℕ) where
  applies : leb position count ≡ true → applied_by count (patch number position) ≡ up_from position (portion count number position)
  unfolding applied_by
  applies e = asked_up number position count (leb-true position count e)

  applies_none : leb position count ≡ false → applied_by count (patch number position) ≡ []
  unfolding applied_by
  applies_none e = let l = leb-false position count e in asked_none number position count (omega arith)

-- ---- the applied fixups are fixups of the list
abbrev pub AllBelow : ℕ → List ℕ → Type 0
AllBelow count [] = Unit {0}
AllBelow count (k ∷ ks) = (k < count) × AllBelow count ks

below_both : (count : ℕ) (xs ys : List ℕ) → AllBelow count xs → AllBelow count ys → AllBelow count (xs ++ ys)
below_both count [] ys a b = b
below_both count (x ∷ xs) ys a b = (a.0, below_both count xs ys a.1 b)

up_below : (count p n : ℕ) → p + n ≤ count → AllBelow count (up_from p n)
unfolding up_from
up_below count p zero h = tt
up_below count p (suc n) h = below_both count (up_from p n) ((p + n) ∷ []) (up_below count p n (omega arith)) (omega arith, tt)

by_below : (count : ℕ) (c : Call) → AllBelow count (applied_by count c)
by_below count (patch number position) =
    ⊎_elim
    (λ e. let k = leb-true position count e in rw (applies count number position e) (up_below count position (portion count number position) (omega arith)))
    (λ e. rw (applies_none count number position e) tt)
    (yes_no (leb position count))

pub applied_below : (count : ℕ) (cs : List Call) → AllBelow count (applied count cs)
unfolding applied
applied_below count [] = tt
applied_below count (c ∷ cs) = below_both count (applied_by count c) (applied count cs) (by_below count c) (applied_below count cs)

-- ---- the calls
module _ (base : ℕ) (fixes : List ℕ) where
  length_fixed : (image : List ℕ) (k : ℕ) → length (fixed base fixes image k) ≡ length image
  unfolding fixed
  length_fixed image k = length_splice _ _ _

  pub length_written : (image ks : List ℕ) → length (written_at base fixes image ks) ≡ length image
  unfolding written_at
  length_written image [] = refl
  length_written image (k ∷ ks) = length_written (fixed base fixes image k) ks ∙ length_fixed image k

  written_both : (image xs ys : List ℕ) → written_at base fixes image (xs ++ ys) ≡ written_at base fixes (written_at base fixes image xs) ys
  unfolding written_at
  written_both image [] ys = refl
  written_both image (x ∷ xs) ys = written_both (fixed base fixes image x) xs ys

  from_written : (image : List ℕ) (p n : ℕ) → fixed_from base fixes image p n ≡ written_at base fixes image (up_from p n)
  unfolding fixed_from up_from written_at
  from_written image p zero = refl
  from_written image p (suc n) =
      ap (λ (l : List ℕ). fixed base fixes l (p + n)) (from_written image p n) ∙ sym (written_both image (up_from p n) ((p + n) ∷ []))

  module _ (marks : List ℕ) (size : ℕ) (plain : (number position : ℕ) → patch_code size marks base fixes number position ≡ plain_code (fix_count fixes) position) where
    call_writes : (image : List ℕ) (c : Call) → length image ≡ size → after_call base marks fixes image c ≡ written_at base fixes image (applied_by (fix_count fixes) c)
    unfolding after_call pick unless_refused written_at
    call_writes image (patch number position) e =
        ⊎_elim
        (λ b.
        let z : patch_code size marks base fixes number position ≡ PASSES = plain number position ∙ rw b in
        rw (e, z, applies (fix_count fixes) number position b) (from_written image position (portion (fix_count fixes) number position)))
        (λ b.
        let z : patch_code size marks base fixes number position ≡ POSITION = plain number position ∙ rw b in
        rw (e, z, applies_none (fix_count fixes) number position b))
        (yes_no (leb position (fix_count fixes)))

    pub calls_write : (cs : List Call) (image : List ℕ) → length image ≡ size → after_calls base marks fixes image cs ≡ written_at base fixes image (applied (fix_count fixes) cs)
    unfolding after_calls applied written_at
    calls_write [] image e = refl
    calls_write (c ∷ cs) image e =
        let w : after_call base marks fixes image c ≡ written_at base fixes image (applied_by (fix_count fixes) c) = call_writes image c e in
        let l : length (after_call base marks fixes image c) ≡ size = rw w (length_written image (applied_by (fix_count fixes) c) ∙ e) in
        calls_write cs (after_call base marks fixes image c) l
        ∙ ap (λ (i : List ℕ). written_at base fixes i (applied (fix_count fixes) cs)) w
        ∙ sym (written_both image (applied_by (fix_count fixes) c) (applied (fix_count fixes) cs))

    answer_plain : (image : List ℕ) (c : Call) → length image ≡ size → answer_to base marks fixes image c ≡ plain_answer (fix_count fixes) c
    unfolding answer_to plain_answer
    answer_plain image (patch number position) e = rw (e, plain number position)

    pub answers_plain : (cs : List Call) (image : List ℕ) → length image ≡ size → answers_to base marks fixes image cs ≡ plain_answers (fix_count fixes) cs
    unfolding answers_to plain_answers
    answers_plain [] image e = refl
    answers_plain (c ∷ cs) image e =
        let w : after_call base marks fixes image c ≡ written_at base fixes image (applied_by (fix_count fixes) c) = call_writes image c e in
        let l : length (after_call base marks fixes image c) ≡ size = rw w (length_written image (applied_by (fix_count fixes) c) ∙ e) in
        rw (answer_plain image c e, answers_plain cs (after_call base marks fixes image c) l)
