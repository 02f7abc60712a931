-- The ways through the choice of the output. Assumes nothing.
use Rattle.refusal.specs.declared.Refusal.{Refusal}
use Rattle.std.specs.Prelude.{Result, Ok, Err}
use mathlib.Core.Path.{◌≡◌}
use mathlib.Core.Bool.{Bool, true, false, ◌&&◌}
use mathlib.Core.List.{List}
use Prim.Native.Nat.{ℕ}
use lib.Dec.{leb}
use lib.ListN.{length}
use Rattle.util.specs.Pick.{pick}
use Rattle.survey.specs.declared.answer.Counts.{Counts}
use Rattle.survey.specs.Survey.{survey_of}
use Rattle.verdict.specs.declared.answer.Verdict.{Verdict}
use Rattle.verdict.specs.declared.answer.Verdict.TheVariants.{TooLarge, Refused, Lines}
use Rattle.verdict.specs.Verdict.{MOST_BYTES, MOST_PAGES, MOST_SECTIONS, MOST_SYMBOLS, MOST_RELOCATIONS, fits, verdict_by, verdict_of}

-- ---- survey's answer
module _ (s : Result Counts Refusal) where
  pub says_refused : (r : Refusal) → s ≡ Err r → Refused r ≡ verdict_by s
  unfolding verdict_by
  says_refused r e = rw e

  module _ (c : Counts) (is : s ≡ Ok c) (b : Bool) (fit : b ≡ fits c) where
    pub says_lines : b ≡ true → Lines c ≡ verdict_by s
    unfolding verdict_by pick
    says_lines e = rw (is, ← fit, e)

    pub says_large : b ≡ false → TooLarge ≡ verdict_by s
    unfolding verdict_by pick
    says_large e = rw (is, ← fit, e)

pub ruleset survey_ways = (says_refused, says_lines, says_large)

-- ---- the size
module _ (f : List ℕ) where
  pub too_long : leb (length f) MOST_BYTES ≡ false → TooLarge ≡ verdict_of f
  unfolding verdict_of pick
  too_long e = rw e

  pub not_long : (s : Result Counts Refusal) (r : Verdict) → leb (length f) MOST_BYTES ≡ true → s ≡ survey_of f → r ≡ verdict_by s → r ≡ verdict_of f
  unfolding verdict_of pick
  not_long s r e q x = rw (e, ← q) x

pub ruleset size_ways = (too_long, not_long)
