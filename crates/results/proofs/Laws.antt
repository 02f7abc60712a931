-- The record of progress. Assumes nothing.
use mathlib.Core.Path.{◌≡◌}
use mathlib.Core.Bool.{Bool}
use mathlib.Core.List.{List, [], ◌∷◌}
use Prim.Native.Nat.{ℕ}
use mir.Val.{bool_byte}
use Rattle.util.specs.Pick.{flag_is}
use Rattle.le.specs.Le.{splice}
use Rattle.words.specs.Words.{word_bytes}
use Rattle.results.specs.Results.{progress_words}

pub progress_put : (l b : List ℕ) (p w : ℕ) (done : Bool) → w ≡ bool_byte done → b ≡ splice l 0 (word_bytes (p ∷ w ∷ [])) → b ≡ splice l 0 (word_bytes (progress_words p done))
progress_put l b p w done e d = rw (← flag_is done, ← e) d
