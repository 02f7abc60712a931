-- A list of calls in lent words, run by the program.
use Rattle.refusal.specs.Refusal.{refusal_number}
use Rattle.patch.specs.declared.answer.Progress.{Progress}
use Rattle.refusal.specs.declared.Refusal.{Refusal}
use Rattle.std.specs.Prelude.{◌≡◌, true, length, get_or, Result, Ok, Err}
use Rattle.std.proofs.Math.Path.{refl, sym, ap}
use Rattle.std.proofs.Common.{◌∙◌}
use mathlib.Core.List.{List, [], ◌∷◌, ◌++◌, append_assoc, append-nil}
use Prim.Native.Nat.{ℕ, zero, suc, ◌+◌, ◌*◌, ◌/◌, ◌<◌, min}
use native.Mathlib.Omega.{arith}
use Rattle.std.proofs.Math.ListN.{length-append}
use Rattle.util.specs.Pick.{pick}
use Rattle.arch.specs.Page.{PAGE_SIZE}
use Rattle.le.specs.Le.{get, splice}
use Rattle.words.specs.Words.{word_bytes, length_words}
use Rattle.survey.specs.declared.answer.Counts.{Counts}
use Rattle.survey.specs.Survey.{survey_of}
use Rattle.checks.specs.Checks.{base_ok}
use Rattle.demands.specs.Calls.{Call, patch, after_call, answer_to, after_calls, answers_to}
use Rattle.demands.specs.Origin.{origin, byte_of}
use Rattle.demands.specs.Counted.{pages_of, image_of, marks_of, fix_table_of, lent_of}
use Rattle.demands.specs.Demand3.{applied_to, answers_after, Demand3, demand_3}

-- a call is two words: how many fixups, and from which position
abbrev pub CALL_BYTES : ℕ
CALL_BYTES = 16

-- where its position stands, in bytes; the number stands first
abbrev pub POSITION_AT : ℕ
POSITION_AT = 8

-- call k, from 0
abbrev pub call_at : List ℕ → ℕ → Call
call_at words k = patch (get 8 words (CALL_BYTES * k)) (get 8 words (CALL_BYTES * k + POSITION_AT))

-- the first k calls
unfoldable pub calls_to : List ℕ → ℕ → List Call
calls_to words zero = []
calls_to words (suc k) = calls_to words k ++ (call_at words k ∷ [])

-- its answer is three words: 0, the new position and 1 if all are done, else 0; or the refusal's number and zeros
abbrev pub ANSWER_BYTES : ℕ
ANSWER_BYTES = 24

-- the three words of one answer
unfoldable pub answer_words : Result Progress Refusal → List ℕ
answer_words (Ok p) = 0 ∷ p.position ∷ pick p.done 1 0 ∷ []
answer_words (Err r) = refusal_number r ∷ 0 ∷ 0 ∷ []

-- of all answers, one behind another
unfoldable pub answer_bytes : List (Result Progress Refusal) → List ℕ
answer_bytes [] = []
answer_bytes (a ∷ l) = word_bytes (answer_words a) ++ answer_bytes l

-- the calls that are run: as many as there are, and as the answers have room for
abbrev pub calls_in : List ℕ → ℕ → List Call
calls_in words room = calls_to words (min (length words / CALL_BYTES) (room / ANSWER_BYTES))

-- every byte of the image is that of its origin
abbrev pub FromOrigins : List ℕ → ℕ → List Call → List ℕ → Type 0
FromOrigins f base calls image = (d : ℕ) → d < PAGE_SIZE * pages_of f → get_or image d 0 ≡ byte_of f base (origin f base (applied_to f calls) (base + d))

-- what running the calls leaves, of the file's load at the base: its bytes are their origins', the answers those at any other base, and demand 3 holds
-- of both
pub record RunOfLoad (f : List ℕ) (base : ℕ) (calls : List Call) (image' : List ℕ) (said : List (Result Progress Refusal)) (b₂ : ℕ) : Type 0 where
  pub bytes : FromOrigins f base calls image'
  pub answers : said ≡ answers_after b₂ (lent_of f b₂) calls
  pub demand : Demand3 f base b₂ (lent_of f base) (lent_of f b₂) calls

-- what running the calls leaves in the image and among the answers; and if image, marks and fix list are those of an accepted load, demand 3 of it
pub record Runs (base : ℕ) (marks fixes : List ℕ) (calls : List Call) (image image' answers answers' : List ℕ) : Type 0 where
  pub leaves : image' ≡ after_calls base marks fixes image calls
  pub says : answers' ≡ splice answers 0 (answer_bytes (answers_to base marks fixes image calls))
  pub demand : (f : List ℕ) (c : Counts) → survey_of f ≡ Ok c → base_ok base ≡ true → image ≡ image_of f base → marks ≡ marks_of f → fixes ≡ fix_table_of f base
      → (b₂ : ℕ) → base_ok b₂ ≡ true → RunOfLoad f base calls image' (answers_to base marks fixes image calls) b₂

pub runs_are : (base : ℕ) (marks fixes : List ℕ) (calls : List Call) (image image' answers answers' : List ℕ) → image' ≡ after_calls base marks fixes image calls
    → answers' ≡ splice answers 0 (answer_bytes (answers_to base marks fixes image calls)) → Runs base marks fixes calls image image' answers answers'
runs_are base marks fixes calls image image' answers answers' e s =
    record {
      leaves = e;
      says = s;
      demand = λ f c a b i m x b₂ b'.
          let w = demand_3 f c a base b₂ b b' calls in
          record {
            bytes = λ d l. (ap (λ (z : List ℕ). get_or z d 0) e ∙ rw (i, m, x)) ∙ w.one.bytes d l;
            answers = rw (i, m, x) w.both.answers;
            demand = w;
          };
    }

-- ---- one call after another
-- what one call leaves, with its answer at its place
pub record RunsCall (base : ℕ) (marks fixes : List ℕ) (c : Call) (at : ℕ) (image image' answers answers' : List ℕ) : Type 0 where
  pub leaves : image' ≡ after_call base marks fixes image c
  pub says : answers' ≡ splice answers at (word_bytes (answer_words (answer_to base marks fixes image c)))

-- what the first k calls leave
pub record RunsTo (base : ℕ) (marks fixes words : List ℕ) (k : ℕ) (image image' answers answers' : List ℕ) : Type 0 where
  pub leaves : image' ≡ after_calls base marks fixes image (calls_to words k)
  pub says : answers' ≡ splice answers 0 (answer_bytes (answers_to base marks fixes image (calls_to words k)))

module _ (base : ℕ) (marks fixes : List ℕ) where
  after_both : (xs ys : List Call) (image : List ℕ) → after_calls base marks fixes image (xs ++ ys) ≡ after_calls base marks fixes (after_calls base marks fixes image xs) ys
  unfolding after_calls
  after_both [] ys image = refl
  after_both (x ∷ xs) ys image = after_both xs ys (after_call base marks fixes image x)

  pub after_one_more : (words image : List ℕ) (k : ℕ)
      → after_calls base marks fixes image (calls_to words (suc k)) ≡ after_call base marks fixes (after_calls base marks fixes image (calls_to words k)) (call_at words k)
  unfolding calls_to after_calls
  after_one_more words image k = after_both (calls_to words k) (call_at words k ∷ []) image

  answers_both : (xs ys : List Call) (image : List ℕ)
      → answers_to base marks fixes image (xs ++ ys) ≡ answers_to base marks fixes image xs ++ answers_to base marks fixes (after_calls base marks fixes image xs) ys
  unfolding answers_to after_calls
  answers_both [] ys image = refl
  answers_both (x ∷ xs) ys image = ap (λ (l : List (Result Progress Refusal)). answer_to base marks fixes image x ∷ l) (answers_both xs ys (after_call base marks fixes image x))

  length_one : (a : Result Progress Refusal) → length (word_bytes (answer_words a)) ≡ ANSWER_BYTES
  unfolding answer_words
  length_one (Ok p) = length_words (0 ∷ p.position ∷ pick p.done 1 0 ∷ [])
  length_one (Err r) = length_words (refusal_number r ∷ 0 ∷ 0 ∷ [])

  bytes_both : (xs ys : List (Result Progress Refusal)) → answer_bytes (xs ++ ys) ≡ answer_bytes xs ++ answer_bytes ys
  unfolding answer_bytes
  bytes_both [] ys = refl
  bytes_both (x ∷ xs) ys = ap (λ (l : List ℕ). word_bytes (answer_words x) ++ l) (bytes_both xs ys) ∙ sym (append_assoc (word_bytes (answer_words x)) (answer_bytes xs) (answer_bytes ys))

  -- one answer more
  pub answers_one_more : (words image : List ℕ) (k : ℕ)
      → answer_bytes (answers_to base marks fixes image (calls_to words (suc k)))
      ≡ answer_bytes (answers_to base marks fixes image (calls_to words k)) ++ word_bytes (answer_words (answer_to base marks fixes (after_calls base marks fixes image (calls_to words k)) (call_at words k)))
  unfolding calls_to answers_to answer_bytes
  answers_one_more words image k =
      ap answer_bytes (answers_both (calls_to words k) (call_at words k ∷ []) image)
      ∙ bytes_both (answers_to base marks fixes image (calls_to words k)) (answer_to base marks fixes (after_calls base marks fixes image (calls_to words k)) (call_at words k) ∷ [])
      ∙ ap (λ (l : List ℕ). answer_bytes (answers_to base marks fixes image (calls_to words k)) ++ l)
      (append-nil (word_bytes (answer_words (answer_to base marks fixes (after_calls base marks fixes image (calls_to words k)) (call_at words k)))))

  -- each takes its room
  pub length_answers : (words image : List ℕ) (k : ℕ) → length (answer_bytes (answers_to base marks fixes image (calls_to words k))) ≡ ANSWER_BYTES * k
  unfolding calls_to answers_to answer_bytes
  length_answers words image zero = refl
  length_answers words image (suc k) =
      let e = length_answers words image k in
      let a = length_one (answer_to base marks fixes (after_calls base marks fixes image (calls_to words k)) (call_at words k)) in
      let l = length-append (answer_bytes (answers_to base marks fixes image (calls_to words k))) (word_bytes (answer_words (answer_to base marks fixes (after_calls base marks fixes image (calls_to words k)) (call_at words k)))) in
      ap (length {A = ℕ}) (answers_one_more words image k) ∙ omega arith
