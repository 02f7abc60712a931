-- The calls that follow a load: which fixups they apply, and what the program's contracts say they do (01, "Patch").
use Rattle.patch.specs.declared.answer.Progress.{Progress}
use Rattle.refusal.specs.declared.Refusal.{Refusal}
use Rattle.std.specs.Prelude.{Bool, ◌&&◌, List, [], ◌∷◌, ◌++◌, ℕ, ◌+◌, leb, ltb, length, Result, Ok, Err}
use Rattle.words.specs.Picked.{chosen}
use Rattle.patch.specs.Fixes.{fix_count}
use Rattle.patch.specs.Patch.{patch_code, patch_answer, patched}

-- a call's number and position; other calls may join
pub data Call : Type 0 where
  patch : ℕ → ℕ → Call

-- ---- what is applied, by the calls alone
-- fixup k is one of `number` from the position on
unfoldable pub asked : ℕ → ℕ → ℕ → Bool
asked number position k = leb position k && ltb k (position + number)

-- of a list of `count` fixups those that are asked for, in list order; from a position above the count there are none
unfoldable pub applied_by : ℕ → Call → List ℕ
applied_by count (patch number position) = chosen (asked number position) count

-- the fixups that are applied, the latest last
unfoldable pub applied : ℕ → List Call → List ℕ
applied count [] = []
applied count (c ∷ cs) = applied_by count c ++ applied count cs

-- ---- what patch's contract says of the same calls, one after another, each on the image that the one before left
module _ (base : ℕ) (marks fixes : List ℕ) where
  -- the image after a call
  unfoldable pub after_call : List ℕ → Call → List ℕ
  after_call image (patch number position) =
      patched (patch_code (length image) marks base fixes number position) base fixes image number position

  -- its answer
  unfoldable pub answer_to : List ℕ → Call → Result Progress Refusal
  answer_to image (patch number position) =
      patch_answer (patch_code (length image) marks base fixes number position) (fix_count fixes) number position

  -- the image after all of them
  unfoldable pub after_calls : List ℕ → List Call → List ℕ
  after_calls image [] = image
  after_calls image (c ∷ cs) = after_calls (after_call image c) cs

  -- their answers, in order
  unfoldable pub answers_to : List ℕ → List Call → List (Result Progress Refusal)
  answers_to image [] = []
  answers_to image (c ∷ cs) = answer_to image c ∷ answers_to (after_call image c) cs
