-- What is kept of homes, put and read back, and listed symbols. Assumes nothing.
use Rattle.std.specs.Prelude.{None, Option, Some}
use mathlib.Core.Path.{◌≡◌, refl, sym, ap, ◌∙◌}
use mathlib.Core.Bool.{Bool, true, false, not, ◌&&◌}
use mathlib.Core.List.{List, [], ◌∷◌}
use Prim.Native.Nat.{ℕ, zero, suc, ◌+◌, ◌-◌, ◌*◌, ◌/◌, ◌%◌, ◌≤◌, ◌<◌, ◌^◌}
use native.Mathlib.Omega.{arith}
use lib.Dec.{eqb, ltb}
use lib.ListN.{get_or}
use borrow.Author.Tests.{ne_eqb, lt-ltb, le-ltb}
use Rattle.util.specs.Pick.{pick}
use Rattle.util.specs.Prefix.{count_none, count_yes, count_no, count_end}
use Rattle.arch.specs.declared.RVA.{RVA}
use Rattle.arch.specs.Address.{rva}
use Rattle.arch.specs.Page.{PAGE_SIZE}
use Rattle.le.specs.Le.{splice, splice_long, fill_none, fill_again, fill_end}
use Rattle.layout.specs.Layout.{start_at, undef_start, record_of}
use Rattle.layout.specs.LayoutLaws.{start_none, start_again}
use Rattle.object.specs.declared.Header.{Header}
use Rattle.object.specs.Section.{loaded}
use Rattle.object.specs.declared.Symbol.{Symbol}
use Rattle.object.specs.Symbol.{place_of}
use Rattle.object.specs.SymbolLaws.{left_none, left_past}
use Rattle.kinds.specs.Symbol.{section_by}
use Rattle.kinds.specs.declared.Place.{Place}
use Rattle.kinds.specs.declared.Place.TheVariants.{In, Undefined, Common, Absolute, Nowhere, Other}
use Rattle.homes.specs.Home.{by_number, start_of, HALF, kept_word, home_word, word_start, word_home, word_record, homes_to, home_in, record_in, Low}
use Rattle.homes.specs.HomeLaws.{word_start_lem}
use Rattle.homes.specs.Listed.{of_place, place_home, is_some, offset_from, of_section, listed_is}

-- ---- filling
pub kept_is : (r start page : ℕ) → page ≡ start / PAGE_SIZE % HALF → HALF * (r + 1) + page ≡ kept_word r start
unfolding kept_word
kept_is r start page e = rw e

pub kept_fits : (r page : ℕ) → r + 1 < 2 ^ 16 → page < HALF → HALF * (r + 1) + page < 2 ^ 32
kept_fits r page k q = omega arith

pub ruleset keeps = (kept_is, kept_fits)

module _ (f : List ℕ) (h : Header) (l b b' : List ℕ) (i : ℕ) (t : Bool) (e : b ≡ splice l 0 (homes_to f h i)) where
  pub fill_loaded : (at r w : ℕ) → t ≡ loaded f h i → t ≡ true → at ≡ start_at f h i → r ≡ record_of f h i → w ≡ kept_word r at → b' ≡ splice b i (w ∷ []) → b' ≡ splice l 0 (homes_to f h (i + 1))
  unfolding home_word pick
  fill_loaded at r w is y p q k d = fill_again (home_word f h) l b b' i w e (rw (← is, y, ← p, ← q) k) d

  pub fill_unloaded : t ≡ loaded f h i → t ≡ false → b' ≡ splice b i (0 ∷ []) → b' ≡ splice l 0 (homes_to f h (i + 1))
  unfolding home_word pick
  fill_unloaded is n d = fill_again (home_word f h) l b b' i 0 e (rw (← is, n)) d

pub fill_undef : (f : List ℕ) (h : Header) (i at n : ℕ) → at ≡ start_at f h i → i ≤ n → n ≤ i → n ≡ h.sections → rva at ≡ rva (undef_start f h)
fill_undef f h i at n e a b q = let z : i ≡ h.sections = omega arith in rw (e, z)

pub ruleset homes_loop = (fill_none, fill_loaded, fill_unloaded, fill_end, fill_undef, start_none, start_again, count_none, count_yes, count_no, splice_long)

-- ---- what is kept, read back
pub start_in : (l : List ℕ) (i w : ℕ) (r : RVA) → w ≡ get_or l i 0 → r ≡ rva (word_start w) → r ≡ rva (start_of (home_in l i))
start_in l i w r is e = rw (← is, ← word_start_lem w) e

module _ (x : Option RVA) where
  pub low_at : (o : RVA) → o.0 < 2 ^ 32 → Low (Some o)
  unfolding Low
  low_at o k = k

pub low_none : Low None
unfolding Low
low_none = tt

module _ (l : List ℕ) (i w : ℕ) (is : w ≡ get_or l i 0) where
  pub in_none : w ≡ 0 → None ≡ home_in l i
  unfolding word_home pick
  in_none z = rw (← is, z)

  pub in_at : (o : RVA) → (w ≡ 0 → ⊥) → o ≡ rva (word_start w) → Some o ≡ home_in l i
  unfolding word_home pick
  in_at o n e = rw (← is, ne_eqb w 0 n, e)

module _ {A : Type 0} (of : ℕ → A) (none : A) (n : ℕ) where
  pub number_none : n ≡ 0 → none ≡ by_number of none n
  unfolding by_number
  number_none z = rw z

  pub number_some : (r : A) → (n ≡ 0 → ⊥) → r ≡ of (n - 1) → r ≡ by_number of none n
  unfolding by_number
  number_some r z q = let e : n ≡ suc (n - 1) = omega arith in q ∙ sym (ap (by_number of none) e)

pub number_record : (l : List ℕ) (n w r : ℕ) → (n ≡ 0 → ⊥) → w ≡ get_or l (n - 1) 0 → r ≡ word_record w → r ≡ by_number (record_in l) 0 n
number_record l n w r z is e = number_some (record_in l) 0 n r z (rw (← is) e)

pub ruleset words = (low_at, low_none, in_none, in_at, start_in, number_none, number_some, number_record)

-- ---- places
module _ {A : Type 0} (of : ℕ → A) (none : A) (p : Place) where
  pub place_in : (n : ℕ) (r : A) → p ≡ In n → r ≡ by_number of none n → r ≡ of_place of none p
  unfolding of_place
  place_in n r e q = rw e q

  pub place_undefined : p ≡ Undefined → none ≡ of_place of none p
  unfolding of_place
  place_undefined e = rw e

  pub place_common : p ≡ Common → none ≡ of_place of none p
  unfolding of_place
  place_common e = rw e

  pub place_absolute : p ≡ Absolute → none ≡ of_place of none p
  unfolding of_place
  place_absolute e = rw e

  pub place_nowhere : p ≡ Nowhere → none ≡ of_place of none p
  unfolding of_place
  place_nowhere e = rw e

  pub place_other : p ≡ Other → none ≡ of_place of none p
  unfolding of_place
  place_other e = rw e

pub ruleset places = (place_in, place_undefined, place_common, place_absolute, place_nowhere, place_other)

-- ---- listed symbols
word_some : (w : ℕ) → not (eqb w 0) ≡ is_some (word_home w)
unfolding word_home pick
word_some zero = refl
word_some (suc w) = rw (ne_eqb (suc w) 0 (λ z. omega arith))

-- by the number's sixteen bits
module _ (l : List ℕ) (n : ℕ) where
  pub some_zero : n ≡ 0 → false ≡ is_some (by_number (home_in l) None (pick (ltb n 0x8000) n 0))
  unfolding by_number pick
  some_zero z = rw z

  pub some_in : (w : ℕ) → (n ≡ 0 → ⊥) → n < 0x8000 → w ≡ get_or l (n - 1) 0 → not (eqb w 0) ≡ is_some (by_number (home_in l) None (pick (ltb n 0x8000) n 0))
  unfolding pick
  some_in w z k e =
      rw (lt-ltb n 0x8000 k, ← number_some (home_in l) None n (home_in l (n - 1)) z refl) (rw e (word_some (get_or l (n - 1) 0)))

  pub some_negative : 0x8000 ≤ n → false ≡ is_some (by_number (home_in l) None (pick (ltb n 0x8000) n 0))
  unfolding by_number pick
  some_negative k = rw (le-ltb n 0x8000 k)

module _ (home : ℕ → Option RVA) (left : ℕ) (s : Symbol) where
  pub listed_own : (r : Bool) → eqb left 0 ≡ true → r ≡ is_some (by_number home None (pick (ltb s.number 0x8000) s.number 0)) → r ≡ (eqb left 0 && is_some (place_home home (place_of s)))
  listed_own r z e = rw (z, of_section home None (place_of s), section_by s.number s.class s.value) e

  pub listed_other : eqb left 0 ≡ false → false ≡ (eqb left 0 && is_some (place_home home (place_of s)))
  listed_other z = rw z

pub ruleset listed_ways = (some_zero, some_in, some_negative, listed_own, listed_other)

pub offset_is : (home : ℕ → Option RVA) (x : Option RVA) (p : Place) {r : RVA} (v : ℕ) → x ≡ place_home home p → r ≡ rva (offset_from x v) → r ≡ rva (offset_from (place_home home p) v)
offset_is home x p v at_home e = rw (← at_home) e

module _ (x : Option RVA) (v : ℕ) where
  pub from_at : (o : RVA) → x ≡ Some o → rva (o.0 + v) ≡ rva (offset_from x v)
  unfolding offset_from
  from_at o e = rw e

  pub from_none : x ≡ None → rva v ≡ rva (offset_from x v)
  unfolding offset_from
  from_none e = rw e

  low_is : (o : RVA) → Low x → x ≡ Some o → o.0 < 2 ^ 32
  unfolding Low
  low_is o k e = rw e at k

  pub low_fits : (o : RVA) → Low x → x ≡ Some o → v < 2 ^ 32 → o.0 + v < 2 ^ 64
  low_fits o k e q = let z = low_is o k e in omega arith

  pub low_sum : (o : RVA) → Low x → x ≡ Some o → v < 2 ^ 32 → o.0 + v < 2 ^ 33
  low_sum o k e q = let z = low_is o k e in omega arith

pub ruleset listings = (from_at, from_none)

pub ruleset lows = (low_fits, low_sum)

pub ruleset total_loop = (count_none, count_yes, count_no, count_end, left_none, left_past, listed_is)
