-- The ways through the checks. Assumes nothing.
use mathlib.Core.Path.{◌≡◌, refl, sym, ap, ◌∙◌}
use mathlib.Core.Bool.{Bool, true, ◌&&◌}
use mathlib.Core.List.{List}
use Prim.Native.Nat.{ℕ, ◌≤◌, ◌<◌}
use native.Mathlib.Omega.{arith}
use lib.Dec.{leb, ltb}
use borrow.Author.Tests.{le-leb, lt-ltb, le-ltb}
use Rattle.util.specs.Pick.{pick}
use Rattle.limits.specs.Limits.{MAX_PAGES, MAX_BASE}
use Rattle.arch.specs.Page.{on_page}
use Rattle.layout.specs.Layout.{pages_to}
use Rattle.object.specs.declared.Header.{Header}
use Rattle.object.specs.declared.Symbol.{Symbol}
use Rattle.object.specs.Symbol.{symbol_of, place_of}
use Rattle.object.specs.SymbolLaws.{at_own, at_other, left_none, left_past}
use Rattle.util.specs.Prefix.{all_none, all_again}
use Rattle.kinds.specs.declared.Place.{Place}
use Rattle.kinds.specs.declared.Place.TheVariants.{In, Undefined, Common, Absolute, Nowhere, Other}
use Rattle.kinds.specs.Symbol.{place_section, section_by}
use Rattle.checks.specs.Checks.{base_ok, number_ok, place_within}

-- ---- 7: by the number's sixteen bits
within_section : (n : ℕ) (p : Place) → place_within n p ≡ leb (place_section p) n
within_section n (In k) = refl
within_section n Undefined = sym (le-leb 0 n (omega arith))
within_section n Common = sym (le-leb 0 n (omega arith))
within_section n Absolute = sym (le-leb 0 n (omega arith))
within_section n Nowhere = sym (le-leb 0 n (omega arith))
within_section n Other = sym (le-leb 0 n (omega arith))

module _ (n : ℕ) (s : Symbol) where
  within_by : place_within n (place_of s) ≡ leb (pick (ltb s.number 0x8000) s.number 0) n
  within_by = within_section n (place_of s) ∙ ap (λ (k : ℕ). leb k n) (section_by s.number s.class s.value)

  pub within_low : s.number < 0x8000 → leb s.number n ≡ place_within n (place_of s)
  unfolding pick
  within_low k = rw (within_by, lt-ltb s.number 0x8000 k)

  pub within_negative : 0x8000 ≤ s.number → true ≡ place_within n (place_of s)
  unfolding pick
  within_negative k = rw (within_by, le-ltb s.number 0x8000 k) (sym (le-leb 0 n (omega arith)))

pub ruleset within_ways = (within_low, within_negative)

pub number_is : (f : List ℕ) (h : Header) (s : Symbol) (j : ℕ) {r : Bool} → r ≡ place_within h.sections (place_of s) → s ≡ symbol_of f h j → r ≡ number_ok f h j
number_is f h s j e read = rw read at e

pub ruleset own_number = (at_own, at_other, number_is)

pub ruleset number_loop = (all_none, all_again, left_none, left_past)
