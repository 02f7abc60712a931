-- The ways through the code. Assumes nothing.
use mathlib.Core.Path.{◌≡◌}
use mathlib.Core.Bool.{Bool, true, false, not}
use mathlib.Core.List.{List}
use Prim.Native.Nat.{ℕ, ◌+◌, ◌<◌}
use Rattle.util.specs.Prefix.{all_to, all_none, all_out, all_again}
use Rattle.object.specs.declared.Header.{Header}
use Rattle.object.specs.SymbolLaws.{at_own, at_other, left_none, left_again}
use Rattle.names.specs.Name.{is_good}
use Rattle.stops.specs.Stops.{stops_of}
use Rattle.stops.specs.Names.{symbol_name_by, section_name_by}
use Rattle.stops.specs.NameLaws.{symbol_name_is, section_name_is}
use Rattle.good_names.specs.GoodNames.{section_name_ok, name_ok}

module _ (f : List ℕ) (h : Header) where
  pub symbol_good : (stops : List ℕ) (j : ℕ) {r : Bool} → r ≡ is_good (symbol_name_by f h stops j) → stops ≡ stops_of false f h → r ≡ name_ok f h j
  symbol_good stops j p w = rw (symbol_name_is f h stops w j) at p

  pub section_good : (stops : List ℕ) (i : ℕ) {r : Bool} → r ≡ is_good (section_name_by f h stops i) → stops ≡ stops_of true f h → r ≡ section_name_ok f h i
  section_good stops i p w = rw (section_name_is f h stops w i) at p

module _ (f : List ℕ) (h : Header) (stops : List ℕ) where
  pub section_out : (i n m : ℕ) (r : Bool) → i < n → n ≡ m → r ≡ is_good (section_name_by f h stops i) → stops ≡ stops_of true f h → not r ≡ true → false ≡ all_to (section_name_ok f h) m
  section_out i n m r l q e w t = all_out (section_name_ok f h) i n m r l q (section_good f h stops i e w) t

  pub section_again : (i : ℕ) (r : Bool) → all_to (section_name_ok f h) i ≡ true → r ≡ is_good (section_name_by f h stops i) → stops ≡ stops_of true f h → not r ≡ false
      → all_to (section_name_ok f h) (i + 1) ≡ true
  section_again i r a e w t = all_again (section_name_ok f h) i r a (section_good f h stops i e w) t

pub ruleset section_loop = (all_none, section_out, section_again)

pub ruleset symbol_ways = (at_own, at_other, symbol_good)

pub ruleset symbol_loop = (all_none, all_out, all_again, left_none, left_again)
