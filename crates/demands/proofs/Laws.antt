-- The ways through the code. Assumes nothing.
use Rattle.refusal.specs.declared.Refusal.{Refusal}
use Rattle.std.specs.Prelude.{Result, Ok, Err}
use mathlib.Core.Path.{◌≡◌, refl, sym, ap, ◌∙◌}
use mathlib.Core.List.{List, [], ◌∷◌}
use Prim.Native.Nat.{ℕ, zero, suc, ◌+◌, ◌*◌, ◌/◌, ◌≤◌, ◌<◌, min}
use native.Mathlib.Omega.{arith}
use lib.ListN.{length}
use mir.Val.{bool_byte}
use Rattle.util.specs.Pick.{flag_is}
use Rattle.le.specs.Le.{get, splice, splice_next, length_splice}
use Rattle.words.specs.Words.{word_bytes}
use Rattle.refusal.specs.Refusal.{Code, refusal_number, unless_refused}
use Rattle.patch.specs.declared.answer.Progress.{Progress}
use Rattle.patch.specs.Fixes.{length_from}
use Rattle.patch.specs.Patch.{Patches}
use Rattle.demands.specs.Calls.{Call, patch, after_call, answer_to, after_calls, answers_to}
use Rattle.demands.specs.Running.{CALL_BYTES, POSITION_AT, ANSWER_BYTES, call_at, calls_to, calls_in, answer_words, answer_bytes, RunsCall, RunsTo, Runs, runs_are, after_one_more, answers_one_more, length_answers}

-- ---- an answer
pub answer_applied : (a : Result Progress Refusal) (p : Progress) (w at : ℕ) (l b : List ℕ) → a ≡ Ok p → w ≡ bool_byte p.done → b ≡ splice l at (word_bytes (0 ∷ p.position ∷ w ∷ []))
    → b ≡ splice l at (word_bytes (answer_words a))
unfolding answer_words
answer_applied a p w at l b e q d = rw (e, ← flag_is p.done, ← q) d

pub answer_refused : (a : Result Progress Refusal) (r : Refusal) (n at : ℕ) (l b : List ℕ) → a ≡ Err r → n ≡ refusal_number r → b ≡ splice l at (word_bytes (n ∷ 0 ∷ 0 ∷ [])) → b ≡ splice l at (word_bytes (answer_words a))
unfolding answer_words
answer_refused a r n at l b e q d = rw (e, ← q) d

-- ---- a call
pub call_is : (base : ℕ) (marks fixes words : List ℕ) (k number position : ℕ) (image image' answers answers' : List ℕ) (r : Result Progress Refusal)
    → number ≡ get 8 words (CALL_BYTES * k) → position ≡ get 8 words (CALL_BYTES * k + POSITION_AT) → Patches base marks fixes number position image image' r
    → answers' ≡ splice answers (ANSWER_BYTES * k) (word_bytes (answer_words r)) → RunsCall base marks fixes (call_at words k) (ANSWER_BYTES * k) image image' answers answers'
unfolding after_call answer_to
call_is base marks fixes words k number position image image' answers answers' r n p x a =
    record { leaves = rw (← n, ← p) x.leaves; says = a ∙ ap (λ (t : Result Progress Refusal). splice answers (ANSWER_BYTES * k) (word_bytes (answer_words t))) (rw (← n, ← p) x.says) }

-- ---- the loop
module _ (base : ℕ) (marks fixes words image answers : List ℕ) where
  pub run_none : RunsTo base marks fixes words 0 image image answers answers
  unfolding after_calls answers_to calls_to answer_bytes splice
  run_none = record { leaves = refl; says = refl }

  pub run_again : (k : ℕ) (image₁ image₂ answers₁ answers₂ : List ℕ) → RunsTo base marks fixes words k image image₁ answers answers₁
      → RunsCall base marks fixes (call_at words k) (ANSWER_BYTES * k) image₁ image₂ answers₁ answers₂ → RunsTo base marks fixes words (k + 1) image image₂ answers answers₂
  run_again k image₁ image₂ answers₁ answers₂ t c =
      let z : k + 1 ≡ suc k = omega arith in
      let said : List ℕ = answer_bytes (answers_to base marks fixes image (calls_to words k)) in
      let l = length_answers base marks fixes words image k in
      rw z
      (record {
        leaves = c.leaves ∙ ap (λ (i : List ℕ). after_call base marks fixes i (call_at words k)) t.leaves ∙ sym (after_one_more base marks fixes words image k);
        says =
            c.says
            ∙ rw (t.leaves, t.says)
            (splice_next answers 0 (answer_bytes (answers_to base marks fixes image (calls_to words k)))
            (word_bytes (answer_words (answer_to base marks fixes (after_calls base marks fixes image (calls_to words k)) (call_at words k)))) (ANSWER_BYTES * k) (omega arith))
            ∙ ap (splice answers 0) (sym (answers_one_more base marks fixes words image k));
      })

  pub run_end : (k n a b : ℕ) (image₁ answers₁ : List ℕ) → RunsTo base marks fixes words k image image₁ answers answers₁ → n ≡ min a b
      → a ≡ length words / CALL_BYTES → b ≡ length answers / ANSWER_BYTES → k ≤ n → n ≤ k → Runs base marks fixes (calls_in words (length answers)) image image₁ answers answers₁
  run_end k n a b image₁ answers₁ t q a' b' l m =
      let z : min (length words / CALL_BYTES) (length answers / ANSWER_BYTES) ≡ k = omega arith in
      rw z (runs_are base marks fixes (calls_to words k) image image₁ answers answers₁ t.leaves t.says)

length_either : (code : Code) (new old : List ℕ) → length new ≡ length old → length (unless_refused code new old) ≡ length old
unfolding unless_refused
length_either (Ok u) new old e = e
length_either (Err r) new old e = refl

length_call : (base : ℕ) (marks fixes image : List ℕ) (c : Call) → length (after_call base marks fixes image c) ≡ length image
unfolding after_call
length_call base marks fixes image (patch number position) = length_either _ _ image (length_from base fixes image position _)

length_calls : (base : ℕ) (marks fixes image : List ℕ) (cs : List Call) → length (after_calls base marks fixes image cs) ≡ length image
unfolding after_calls
length_calls base marks fixes image [] = refl
length_calls base marks fixes image (c ∷ cs) = length_calls base marks fixes (after_call base marks fixes image c) cs ∙ length_call base marks fixes image c

module _ (base : ℕ) (marks fixes words image answers : List ℕ) (k : ℕ) (image₁ answers₁ : List ℕ) (t : RunsTo base marks fixes words k image image₁ answers answers₁) where
  pub run_long : length image₁ ≡ length image
  run_long = rw t.leaves (length_calls base marks fixes image (calls_to words k))

  pub answers_long : length answers₁ ≡ length answers
  answers_long = rw t.says (length_splice answers 0 _)

  pub answer_fits : (n a b : ℕ) → n ≡ min a b → b ≡ length answers / ANSWER_BYTES → k < n → ANSWER_BYTES * k + ANSWER_BYTES ≤ length answers₁
  answer_fits n a b q e l = let m = answers_long in omega arith

pub ruleset run_loop = (run_none, run_again, run_end, run_long, answers_long, answer_fits)
