-- The ways through the code. Assumes nothing.
use mathlib.Core.Path.{◌≡◌, sym, ◌∙◌}
use mathlib.Core.Bool.{Bool, true, false}
use mathlib.Core.List.{List}
use Prim.Native.Nat.{ℕ}
use lib.ListN.{replicate}
use Rattle.limits.specs.Limits.{FEW_SECTIONS, FEW_SYMBOLS, MAX_SECTIONS, MAX_SYMBOLS}
use Rattle.object.specs.declared.Header.{Header}
use Rattle.object.specs.Format.{header_of}
use Rattle.survey.specs.Surveying.{few_records, Cleared}
use Rattle.survey.specs.TableLaws.{few_cleared, many_cleared}

-- ---- the arrays
module _ (f : List ℕ) (h : Header) (r : Bool) (is : h ≡ header_of f) (e : r ≡ few_records h) where
  pub few_arrays : r ≡ true → Cleared (header_of f) (replicate FEW_SECTIONS 0) (replicate FEW_SYMBOLS 0)
  few_arrays t = few_cleared (header_of f) (rw is at (sym e ∙ t))

  pub many_arrays : r ≡ false → Cleared (header_of f) (replicate MAX_SECTIONS 0) (replicate MAX_SYMBOLS 0)
  many_arrays t = many_cleared (header_of f) (rw is at (sym e ∙ t))
