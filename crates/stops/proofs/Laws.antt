-- The ways through the code. Assumes nothing.
use Rattle.names.specs.declared.Name.{Name}
use Rattle.names.specs.Name.{good_name}
use Rattle.std.specs.Prelude.{None, Option, Some}
use mathlib.Core.Path.{◌≡◌, refl, sym, ap, ◌∙◌}
use mathlib.Core.Bool.{Bool, true, false, ◌&&◌, ◌||◌, not}
use mathlib.Core.List.{List, [], ◌∷◌}
use mathlib.Core.Logic.{⊎_elim}
use Prim.Native.Nat.{ℕ, suc, ◌+◌, ◌-◌, ◌*◌, ◌/◌, ◌%◌, ◌≤◌, ◌<◌, ◌^◌, min}
use native.Mathlib.Omega.{arith}
use borrow.Author.Tests.{lt-ltb, le-ltb, ltb-true, eqb-true, not-true, not-false}
use lib.ListN.{length, get_or}
use lib.Dec.{ltb, leb, eqb}
use Rattle.util.specs.Pick.{pick, yes_no, le_or_lt, and_left, and_right}
use Rattle.le.specs.Le.{get, part, splice, splice_long, part_most, fill_none, fill_again, fill_end}
use Rattle.utf8.specs.Utf8.{holds, TAIL}
use Rattle.chars.specs.Chars.{walk, stop}
use Rattle.chars.specs.WalkLaws.{walk_least}
use Rattle.object.specs.declared.Header.{Header}
use Rattle.object.specs.Format.{LONG_OFFSET_AT, LENGTH_SIZE, string_table, string_length, section_header_at, symbol_record_at}
use Rattle.names.specs.Name.{SLASH, slash_offset, is_good}
use Rattle.stops.specs.Stops.{strings, skip_to, skip, TAILS, BLOCK, blocks_of, block_stop, stop_words, stop_count, stops_of, stop_behind, stop_by}
use Rattle.stops.specs.StopLaws.{skip_least, past_tail, Serves, serves_none, serves_next, stop_low}
use Rattle.stops.specs.Names.{may_end, field, field_ends, field_by, long_by, slash_name_by, symbol_name_by, section_name_by}

-- ---- the string table
module _ (f t : List ℕ) (h : Header) (k l : ℕ) (is : t ≡ part f k l) where
  pub strings_are : k ≡ string_table h → l ≡ string_length f h → t ≡ strings f h
  strings_are a b = rw (← a, ← b) is

  pub strings_short : l < 2 ^ 32 → length t < 2 ^ 32
  strings_short b = let m = part_most f k l in rw is (omega arith)

pub ruleset table = (strings_are, strings_short)

-- ---- behind the tails: w of the places from i lie within the table
module _ (t : List ℕ) (i k w x : ℕ) (room : w ≡ min TAILS (length t - i)) where
  left_suc : k < i + w → i + TAILS - k ≡ suc (i + TAILS - (k + 1))
  left_suc a = omega arith

  pub skip_found : (r : Bool) → k < i + w → r ≡ holds TAIL (get_or t k 0) → not r ≡ true → skip_to t k (i + TAILS - k) ≡ x → k ≡ x
  unfolding skip_to pick
  skip_found r a v z e = simp (left_suc a, ← v, not-true r z) at e

  pub skip_more : (r : Bool) → k < i + w → r ≡ holds TAIL (get_or t k 0) → not r ≡ false → skip_to t k (i + TAILS - k) ≡ x → skip_to t (k + 1) (i + TAILS - (k + 1)) ≡ x
  unfolding skip_to pick
  skip_more r a v z e = simp (left_suc a, ← v, not-false r z) at e

  pub skip_end : k ≤ i + w → i + w ≤ k → skip_to t k (i + TAILS - k) ≡ x → k ≡ x
  unfolding skip_to pick
  skip_end a b e =
      ⊎_elim (λ (c : TAILS ≤ length t - i). let z : i + TAILS - k ≡ 0 = omega arith in rw z at e)
      (λ (c : length t - i < TAILS). let z : i + TAILS - k ≡ suc (i + TAILS - (k + 1)) = omega arith in rw (z, past_tail t k (omega arith)) at e)
      (le_or_lt TAILS (length t - i))

pub skip_begin : (t : List ℕ) (i : ℕ) → skip_to t i (i + TAILS - i) ≡ skip t i
skip_begin t i = let z : i + TAILS - i ≡ TAILS = omega arith in rw z

pub ruleset skip_loop = (skip_begin, skip_found, skip_more, skip_end)

-- ---- the stops of the blocks, one behind another
module _ (section : Bool) (t : List ℕ) (b s o : ℕ) (is : o ≡ skip t ((b + 1) * BLOCK)) where
  pub next_same : (x : ℕ) (a : Bool) → x ≡ get_or t o 0 → a ≡ holds TAIL x → o ≤ s → not a ≡ true → Serves section t ((b + 1) * BLOCK) s → s ≡ block_stop section t b
  next_same x a at-o tail l y p =
      let n : holds TAIL (get_or t o 0) ≡ false = rw (← at-o, ← tail) (not-true a y) in
      let m : (b + 1) * BLOCK ≤ o = rw is (skip_least t TAILS ((b + 1) * BLOCK)) in
      p.serves o m l n ∙ ap (stop section t) is

  pub next_stop : (r : ℕ) → r ≡ stop section t o → r ≡ block_stop section t b
  next_stop r e = e ∙ ap (stop section t) is

pub ruleset next_ways = (next_same, next_stop)

module _ (section : Bool) (t : List ℕ) (b s : ℕ) where
  pub first_serves : b ≡ 0 → s ≡ 0 → Serves section t ((b + 1) * BLOCK) s
  first_serves z q = rw q (serves_none section t ((b + 1) * BLOCK) (omega arith))

  pub next_serves : s ≡ block_stop section t b → Serves section t ((b + 1 + 1) * BLOCK) s
  next_serves e = serves_next section t b s e

  pub next_block : (n : ℕ) → b < n → n ≤ length t / BLOCK → b < length t / BLOCK
  next_block n a m = omega arith

  pub next_fits : (n : ℕ) → b < n → n ≤ length t / BLOCK → length t < 2 ^ 32 → s ≡ block_stop section t b → s < 2 ^ 32
  next_fits n a m l e = let r = stop_low section t b (omega arith) in omega arith

  pub stops_again : (l m m' : List ℕ) (x : ℕ) → m ≡ splice l 0 (stop_words section t b) → x ≡ s → s ≡ block_stop section t b → m' ≡ splice m b (x ∷ []) → m' ≡ splice l 0 (stop_words section t (b + 1))
  stops_again l m m' x e q p d = fill_again (block_stop section t) l m m' b x e (q ∙ p) d

pub ruleset stops_loop = (fill_none, stops_again, fill_end, first_serves, next_serves, next_block, next_fits, splice_long)

-- of the file's string table
module _ (f t : List ℕ) (h : Header) (n : ℕ) (table : t ≡ strings f h) (said : n ≡ blocks_of (length t)) where
  pub blocks_are : n ≡ stop_count f h
  blocks_are = rw (← table) said

  pub stops_are : (section : Bool) (l m : List ℕ) → m ≡ splice l 0 (stop_words section t n) → m ≡ splice l 0 (stops_of section f h)
  stops_are section l m e = rw (← table, ← said) e

pub ruleset filling = (blocks_are, stops_are)

-- ---- the stop from o
module _ (section : Bool) (t stops : List ℕ) (o s : ℕ) (is : s ≡ walk section t (o + (BLOCK - o % BLOCK)) o) where
  pub by_least : o ≤ s
  by_least = let a = walk_least section t (o + (BLOCK - o % BLOCK)) o in omega arith

  pub by_here : s - o < BLOCK - o % BLOCK → s ≡ stop_by section t stops o
  unfolding stop_by pick
  by_here a = rw (← is, lt-ltb (s - o) (BLOCK - o % BLOCK) a)

  module _ (x : ℕ) (tail : Bool) (none : BLOCK - o % BLOCK ≤ s - o) (at-s : x ≡ get_or t s 0) (says : tail ≡ holds TAIL x) where
    pub by_stray : tail ≡ true → s ≡ stop_by section t stops o
    unfolding stop_by stop_behind pick
    by_stray y = rw (← is, le-ltb (s - o) (BLOCK - o % BLOCK) none, ← at-s, ← says, y)

    module _ (y : ℕ) (no : tail ≡ false) where
      pub by_noted : o / BLOCK < length stops → y ≡ get_or stops (o / BLOCK) 0 → y ≡ stop_by section t stops o
      unfolding stop_by stop_behind pick
      by_noted a e = rw (← is, le-ltb (s - o) (BLOCK - o % BLOCK) none, ← at-s, ← says, no, lt-ltb (o / BLOCK) (length stops) a) e

      pub by_behind : length stops ≤ o / BLOCK → y ≡ stop section t s → y ≡ stop_by section t stops o
      unfolding stop_by stop_behind pick
      by_behind a e = rw (← is, le-ltb (s - o) (BLOCK - o % BLOCK) none, ← at-s, ← says, no, le-ltb (o / BLOCK) (length stops) a) e

pub ruleset stop_ways = (by_least, by_here, by_stray, by_noted, by_behind)

-- ---- a long name
pub end_is : (t : List ℕ) (n o s b : ℕ) (section : Bool) {r x y z w : Bool} → r ≡ (leb LENGTH_SIZE o && x) → x ≡ (ltb s n && y) → y ≡ (eqb b 0 && z) → z ≡ (ltb o s || w) → w ≡ (section && eqb o s) → b ≡ get_or t s 0
    → r ≡ may_end t n section o s
unfolding may_end
end_is t n o s b section e d g v u a = rw (← a, ← u, ← v, ← g, ← d) e

far_behind : (o s : ℕ) (section : Bool) → (ltb o s || (section && eqb o s)) ≡ true → o ≤ s
far_behind o s section e =
    ⊎_elim (λ a. let l = ltb-true o s a in omega arith)
    (λ a. let z : (section && eqb o s) ≡ true = rw a at e in let q = eqb-true o s (and_right section (eqb o s) z) in omega arith)
    (yes_no (ltb o s))

module _ (t : List ℕ) (n o s : ℕ) (section : Bool) (r : Bool) (says : r ≡ may_end t n section o s) (yes : r ≡ true) where
  ending : (leb LENGTH_SIZE o && (ltb s n && (eqb (get_or t s 0) 0 && (ltb o s || (section && eqb o s))))) ≡ true
  unfolding may_end
  ending = sym says ∙ yes

  within : (ltb s n && (eqb (get_or t s 0) 0 && (ltb o s || (section && eqb o s)))) ≡ true
  within = and_right (leb LENGTH_SIZE o) _ ending

  pub end_behind : o ≤ s
  end_behind = far_behind o s section (and_right (eqb (get_or t s 0) 0) _ (and_right (ltb s n) _ within))

  pub end_fits : (k : ℕ) → k < 2 ^ 38 → n < 2 ^ 32 → k + o < 2 ^ 64
  end_fits k a b = let l = ltb-true s n (and_left (ltb s n) _ within) in let q = end_behind in omega arith

-- a test for a name is good where it holds
good_by_lem : (b : Bool) (at n : ℕ) → is_good (pick b (good_name at n) None) ≡ b
unfolding pick
good_by_lem true at n = refl
good_by_lem false at n = refl

module _ (f : List ℕ) (h : Header) (stops t : List ℕ) (n o s : ℕ) (section r : Bool) (table : t ≡ strings f h) (said : n ≡ string_length f h) (ends : s ≡ stop_by section t stops o) (says : r ≡ may_end t n section o s) where
  pub long_good : (k : ℕ) → r ≡ true → k ≡ string_table h → good_name (k + o) (s - o) ≡ long_by f h stops section o
  unfolding pick
  long_good k y e = rw (← table, ← said, ← ends, ← says, y, e)

  pub long_bad : r ≡ false → None ≡ long_by f h stops section o
  unfolding pick
  long_bad y = rw (← table, ← said, ← ends, ← says, y)

  pub long_test : r ≡ is_good (long_by f h stops section o)
  long_test = rw (← table, ← said, ← ends) (says ∙ sym (good_by_lem (may_end t n section o s) (string_table h + o) (s - o)))

pub ruleset long_ways = (end_behind, end_fits, long_good, long_bad)

-- ---- the name in a field
pub field_ends_lem : (t : List ℕ) (section : Bool) (s b : ℕ) {r y : Bool} → r ≡ (y && eqb b 0) → y ≡ (ltb 0 s || section) → b ≡ get_or t s 0 → r ≡ field_ends t section s
unfolding field_ends
field_ends_lem t section s b e v q = rw (← q, ← v) e

module _ (f t : List ℕ) (at s : ℕ) (section r : Bool) (table : t ≡ field f at) (is : s ≡ stop section t 0) (says : r ≡ field_ends t section s) where
  field_stop : s ≡ stop section (field f at) 0
  field_stop = rw (← table) is

  pub field_good : r ≡ true → good_name at s ≡ field_by f section at
  unfolding pick
  field_good y = rw (← field_stop, ← table, ← says, y)

  pub field_bad : r ≡ false → None ≡ field_by f section at
  unfolding pick
  field_bad y = rw (← field_stop, ← table, ← says, y)

  pub field_test : r ≡ is_good (field_by f section at)
  field_test = rw (← field_stop, ← table) (says ∙ sym (good_by_lem (field_ends t section s) at s))

pub ruleset field_ways = (field_good, field_bad)

-- ---- the name of a symbol and of a section
module _ (f : List ℕ) (h : Header) (stops : List ℕ) {r : Option Name} where
  pub symbol_long : (j at x o : ℕ) → at ≡ symbol_record_at h j → x ≡ get 4 f at → eqb x 0 ≡ true → o ≡ get 4 f (at + LONG_OFFSET_AT) → r ≡ long_by f h stops false o → r ≡ symbol_name_by f h stops j
  unfolding symbol_name_by pick
  symbol_long j at x o a e z q p = rw (← a, ← e, z, ← q) p

  pub symbol_short : (j at x : ℕ) → at ≡ symbol_record_at h j → x ≡ get 4 f at → eqb x 0 ≡ false → r ≡ field_by f false at → r ≡ symbol_name_by f h stops j
  unfolding symbol_name_by pick
  symbol_short j at x a e z p = let y : eqb (get 4 f (symbol_record_at h j)) 0 ≡ false = rw (← a, ← e) z in rw y (rw a at p)

  pub slash_long : (d : Option ℕ) (o : ℕ) → d ≡ Some o → r ≡ long_by f h stops true o → r ≡ slash_name_by f h stops d
  unfolding slash_name_by
  slash_long d o e p = rw e p

  pub section_slash : (i at b : ℕ) (d : Option ℕ) → at ≡ section_header_at h i → b ≡ get_or f at 0 → eqb b SLASH ≡ true → d ≡ slash_offset f (section_header_at h i) → r ≡ slash_name_by f h stops d → r ≡ section_name_by f h stops i
  unfolding section_name_by pick
  section_slash i at b d a e z q p = let y : eqb (get_or f (section_header_at h i) 0) SLASH ≡ true = rw (← a, ← e) z in rw (y, ← q) p

  pub section_short : (i at b : ℕ) → at ≡ section_header_at h i → b ≡ get_or f at 0 → eqb b SLASH ≡ false → r ≡ field_by f true at → r ≡ section_name_by f h stops i
  unfolding section_name_by pick
  section_short i at b a e z p = let y : eqb (get_or f (section_header_at h i) 0) SLASH ≡ false = rw (← a, ← e) z in rw y (rw a at p)

pub slash_bad : (f : List ℕ) (h : Header) (stops : List ℕ) (d : Option ℕ) → d ≡ None → None ≡ slash_name_by f h stops d
unfolding slash_name_by
slash_bad f h stops d e = rw e

pub ruleset name_ways = (symbol_long, symbol_short, slash_long, slash_bad, section_slash, section_short)
