-- A name by the noted stops is the one that the rule says. Assumes nothing.
use Rattle.names.specs.Name.{good_name}
use Rattle.std.specs.Prelude.{◌≡◌, Bool, ◌&&◌, ◌||◌, not, List, ℕ, ◌+◌, ◌-◌, ◌≤◌, ◌<◌, length, get_or, replicate, leb, None, Option, Some}
use Rattle.std.proofs.Math.Path.{refl, sym, ap}
use Rattle.std.proofs.Common.{◌∙◌, inl, inr, arith, drop-drop}
use Rattle.std.proofs.Math.Bool.{true, false}
use Rattle.std.proofs.Math.Logic.{⊎_elim}
use borrow.Author.Tests.{lt-ltb, le-ltb, ltb-true, le-leb, leb-true, eq-eqb, ne_eqb, eqb-true}
use Rattle.std.proofs.Math.ListN.{take, drop, get_or-eq_default}
use Rattle.std.proofs.lemmas.List.{length-replicate}
use Rattle.std.proofs.Math.Seq.{take-take}
use Rattle.std.proofs.Math.Dec.{ltb, eqb}
use Rattle.util.specs.Pick.{pick, yes_no, le_or_lt, both_ways, and_left, and_right, and_both, or_left, or_right, not_of_false}
use Rattle.util.specs.Prefix.{length_list}
use Rattle.le.specs.Le.{get, part, splice, part_at, part_most, part_splice}
use Rattle.chars.specs.Chars.{good_section_name, good_symbol_name, stop}
use Rattle.chars.specs.WalkLaws.{drop_front, walk_least, stop_part}
use Rattle.chars.specs.GoodLaws.{section_walk, symbol_walk}
use Rattle.object.specs.declared.Header.{Header}
use Rattle.object.specs.Format.{NAME_SIZE, LONG_OFFSET_AT, LENGTH_SIZE, string_table, string_length, section_header_at, symbol_record_at}
use Rattle.names.specs.Bytes.{run}
use Rattle.names.specs.Name.{short_run, long_run, symbol_run, section_run, SLASH, slash_offset, slash_by, checked, section_name, symbol_name}
use Rattle.names.specs.NameLaws.{run_most, run_zero, run_before, run_long}
use Rattle.names.proofs.SlashLaws.{slash_is}
use Rattle.stops.specs.Stops.{strings, BLOCKS, block_stop, stop_count, stops_of}
use Rattle.stops.specs.StopLaws.{stop_noted}
use Rattle.stops.specs.Names.{may_end, field, field_ends, field_by, long_to, long_by, slash_name_by, symbol_name_by, section_name_by}

-- ---- what is left of a name by its rule
checked_run : (good : List ℕ → Bool) (f : List ℕ) (c : Bool) (at n : ℕ) → checked good f (pick c (good_name at n) None) ≡ pick (c && good (part f at n)) (good_name at n) None
unfolding pick checked
checked_run good f true at n = refl
checked_run good f false at n = refl

same_pick : (a b : Bool) (at m n : ℕ) → a ≡ b → (a ≡ true → n ≡ m) → pick a (good_name at m) None ≡ pick b (good_name at n) None
unfolding pick
same_pick true b at m n e q = rw (← e) (ap (good_name at) (sym (q refl)))
same_pick false b at m n e q = rw (← e)

may_be_empty : (a b : Bool) → (a || not b) ≡ true → b ≡ true → a ≡ true
may_be_empty true b s e = refl
may_be_empty false true s e = s
may_be_empty false false s e = e

-- the rule for a section's name or for a symbol's, by the characters
unfoldable good_by : Bool → List ℕ → Bool
good_by true s = good_section_name s
good_by false s = good_symbol_name s

good_by_lem : (section : Bool) (p : List ℕ) → good_by section p ≡ ((section || not (eqb (length p) 0)) && leb (length p) (stop section p 0))
unfolding good_by
good_by_lem true p = section_walk p
good_by_lem false p = symbol_walk p

-- ---- run and stop from place o of a part t of the file, of n bytes from `base` on: the run stands at `start`, with `left` bytes to its end
module _ (section : Bool) (f : List ℕ) (base n o start left : ℕ) (starts : start ≡ base + o) (lasts : left ≡ n - o) (inside : o ≤ n) where
  abbrev T : List ℕ
  T = part f base n

  abbrev S : ℕ
  S = stop section T o

  abbrev R : ℕ
  R = run f start left

  abbrev P : List ℕ
  P = part f start R

  byte : (k : ℕ) → k < left → get_or T (o + k) 0 ≡ get_or f (start + k) 0
  byte k l = let e : base + (o + k) ≡ start + k = omega arith in rw e at (part_at f base n (o + k) (omega arith))

  -- behind the run there is a zero, or the part's end
  zero_behind : get_or T (o + R) 0 ≡ 0
  zero_behind =
      let m = part_most f base n in
      let w = run_most f start left in
      ⊎_elim (λ (l : left ≤ R). get_or-eq_default T 0 {n = o + R} (omega arith)) (λ (l : R < left). byte R l ∙ run_zero f start left l) (le_or_lt left R)

  part_is : P ≡ part T o R
  unfolding part
  part_is =
      let w = run_most f start left in
      let e : drop o (take n (drop base f)) ≡ take (n - o) (drop (base + o) f) = drop_front o n (drop base f) ∙ ap (take (n - o)) (drop-drop o base f) in
      rw (e, take-take R (n - o) (drop (base + o) f) (omega arith), starts)

  -- the characters stop no later than the run, and the run's own as far behind its start
  stop_most : S ≤ o + R
  stop_most = let z : o + 0 ≡ o = omega arith in rw z at (stop_part section T o R 0 zero_behind (omega arith)).before

  stop_own : o + stop section P 0 ≡ S
  stop_own = let z : o + 0 ≡ o = omega arith in rw part_is (rw z at (stop_part section T o R 0 zero_behind (omega arith)).at_same)

  -- so they go to its end exactly if they stop at a zero
  run_ends : get_or T S 0 ≡ 0 → R ≡ S - o
  run_ends z =
      let m = stop_most in
      let a = walk_least section T (length T) o in
      let w = run_most f start left in
      ⊎_elim
      (λ (l : S < o + R).
      let e : o + (S - o) ≡ S = omega arith in
      absurd (run_before f start left (S - o) (omega arith) (sym (byte (S - o) (omega arith)) ∙ rw e z)))
      (λ (l : o + R ≤ S). omega arith)
      (⊎_elim (λ (l : o + R ≤ S). inr l) (λ (l : S < o + R). inl l) (le_or_lt (o + R) S))

  all_stop : eqb (get_or T S 0) 0 ≡ leb (length P) (stop section P 0)
  all_stop =
      let long = run_long f start left in
      let own = stop_own in
      let m = stop_most in
      both_ways (eqb (get_or T S 0) 0) (leb (length P) (stop section P 0))
      (λ e. let r = run_ends (eqb-true (get_or T S 0) 0 e) in le-leb (length P) (stop section P 0) (omega arith))
      (λ e.
      let l = leb-true (length P) (stop section P 0) e in
      let z : S ≡ o + R = omega arith in
      eq-eqb (get_or T S 0) 0 (rw z zero_behind))

  -- and the rule with it
  good_is : good_by section P ≡ ((section || not (eqb (length P) 0)) && eqb (get_or T S 0) 0)
  good_is = rw all_stop (good_by_lem section P)

-- ---- a long name: what its stop says is what the rule says of its run
module _ (section : Bool) (f : List ℕ) (h : Header) (o : ℕ) where
  abbrev at_stop : ℕ
  at_stop = stop section (strings f h) o

  abbrev the_run : ℕ
  the_run = run f (string_table h + o) (string_length f h - o)

  abbrev the_name : List ℕ
  the_name = part f (string_table h + o) the_run

  abbrev by_run : Bool
  by_run = (leb LENGTH_SIZE o && ltb the_run (string_length f h - o)) && good_by section the_name

  -- behind o, or at o where a name may be empty
  abbrev far : Bool
  far = ltb o at_stop || (section && eqb o at_stop)

  abbrev by_stop : Bool
  by_stop = leb LENGTH_SIZE o && (ltb at_stop (string_length f h) && (eqb (get_or (strings f h) at_stop 0) 0 && far))

  long_ends : by_stop ≡ true → the_run ≡ at_stop - o
  long_ends e =
      let b = and_right (leb LENGTH_SIZE o) (ltb at_stop (string_length f h) && (eqb (get_or (strings f h) at_stop 0) 0 && far)) e in
      let l : at_stop < string_length f h = ltb-true _ _ (and_left (ltb at_stop (string_length f h)) (eqb (get_or (strings f h) at_stop 0) 0 && far) b) in
      let z = and_left (eqb (get_or (strings f h) at_stop 0) 0) far (and_right (ltb at_stop (string_length f h)) (eqb (get_or (strings f h) at_stop 0) 0 && far) b) in
      let a = walk_least section (strings f h) (length (strings f h)) o in
      run_ends section f (string_table h) (string_length f h) o (string_table h + o) (string_length f h - o) refl refl (omega arith) (eqb-true _ _ z)

  to_stop : by_run ≡ true → by_stop ≡ true
  to_stop e =
      let c = and_left (leb LENGTH_SIZE o && ltb the_run (string_length f h - o)) (good_by section the_name) e in
      let l : the_run < string_length f h - o = ltb-true _ _ (and_right (leb LENGTH_SIZE o) (ltb the_run (string_length f h - o)) c) in
      let inside : o ≤ string_length f h = omega arith in
      let g : ((section || not (eqb (length the_name) 0)) && eqb (get_or (strings f h) at_stop 0) 0) ≡ true =
      sym (good_is section f (string_table h) (string_length f h) o (string_table h + o) (string_length f h - o) refl refl inside)
      ∙ and_right (leb LENGTH_SIZE o && ltb the_run (string_length f h - o)) (good_by section the_name) e in
      let some = and_left (section || not (eqb (length the_name) 0)) (eqb (get_or (strings f h) at_stop 0) 0) g in
      let z = and_right (section || not (eqb (length the_name) 0)) (eqb (get_or (strings f h) at_stop 0) 0) g in
      let r = run_ends section f (string_table h) (string_length f h) o (string_table h + o) (string_length f h - o) refl refl inside (eqb-true _ _ z) in
      let a = walk_least section (strings f h) (length (strings f h)) o in
      let m = run_long f (string_table h + o) (string_length f h - o) in
      let w : far ≡ true =
      ⊎_elim
      (λ (k : the_run ≤ 0).
      let y : section ≡ true = may_be_empty section (eqb (length the_name) 0) some (eq-eqb (length the_name) 0 (omega arith)) in
      or_right (ltb o at_stop) (section && eqb o at_stop) (and_both section (eqb o at_stop) y (eq-eqb o at_stop (omega arith))))
      (λ (k : 0 < the_run). or_left (ltb o at_stop) (section && eqb o at_stop) (lt-ltb o at_stop (omega arith)))
      (le_or_lt the_run 0)
      in
      and_both (leb LENGTH_SIZE o) _ (and_left (leb LENGTH_SIZE o) (ltb the_run (string_length f h - o)) c)
      (and_both (ltb at_stop (string_length f h)) _ (lt-ltb at_stop (string_length f h) (omega arith)) (and_both (eqb (get_or (strings f h) at_stop 0) 0) far z w))

  to_run : by_stop ≡ true → by_run ≡ true
  to_run e =
      let r = long_ends e in
      let b = and_right (leb LENGTH_SIZE o) (ltb at_stop (string_length f h) && (eqb (get_or (strings f h) at_stop 0) 0 && far)) e in
      let l : at_stop < string_length f h = ltb-true _ _ (and_left (ltb at_stop (string_length f h)) (eqb (get_or (strings f h) at_stop 0) 0 && far) b) in
      let c = and_right (ltb at_stop (string_length f h)) (eqb (get_or (strings f h) at_stop 0) 0 && far) b in
      let w = and_right (eqb (get_or (strings f h) at_stop 0) 0) far c in
      let a = walk_least section (strings f h) (length (strings f h)) o in
      let m = run_long f (string_table h + o) (string_length f h - o) in
      let some : (section || not (eqb (length the_name) 0)) ≡ true =
      ⊎_elim
      (λ (k : at_stop ≤ o).
      let y : (section && eqb o at_stop) ≡ true = rw (le-ltb o at_stop k) at w in
      or_left section (not (eqb (length the_name) 0)) (and_left section (eqb o at_stop) y))
      (λ (k : o < at_stop). or_right section (not (eqb (length the_name) 0)) (not_of_false _ (ne_eqb (length the_name) 0 (λ (x : length the_name ≡ 0). absurd (omega arith)))))
      (le_or_lt at_stop o)
      in
      let g : good_by section the_name ≡ true =
      good_is section f (string_table h) (string_length f h) o (string_table h + o) (string_length f h - o) refl refl (omega arith)
      ∙ and_both (section || not (eqb (length the_name) 0)) (eqb (get_or (strings f h) at_stop 0) 0) some (and_left (eqb (get_or (strings f h) at_stop 0) 0) far c)
      in
      and_both (leb LENGTH_SIZE o && ltb the_run (string_length f h - o)) (good_by section the_name)
      (and_both (leb LENGTH_SIZE o) (ltb the_run (string_length f h - o)) (and_left (leb LENGTH_SIZE o) (ltb at_stop (string_length f h) && (eqb (get_or (strings f h) at_stop 0) 0 && far)) e) (lt-ltb the_run (string_length f h - o) (omega arith)))
      g

  long_is : long_to f h section o at_stop ≡ checked (good_by section) f (long_run f h o)
  unfolding may_end long_run
  long_is =
      same_pick by_stop by_run (string_table h + o) (at_stop - o) the_run (both_ways by_stop by_run to_run to_stop) long_ends
      ∙ sym (checked_run (good_by section) f (leb LENGTH_SIZE o && ltb the_run (string_length f h - o)) (string_table h + o) the_run)

-- ---- the name in a field: the same with the field for a table
module _ (section : Bool) (f : List ℕ) (at : ℕ) where
  abbrev field_stop : ℕ
  field_stop = stop section (field f at) 0

  abbrev field_run : ℕ
  field_run = run f at NAME_SIZE

  abbrev field_name : List ℕ
  field_name = part f at field_run

  field_ends_lem : get_or (field f at) field_stop 0 ≡ 0 → field_run ≡ field_stop
  field_ends_lem z = let r = run_ends section f at NAME_SIZE 0 at NAME_SIZE (omega arith) (omega arith) (omega arith) z in omega arith

  field_good : ((ltb 0 field_stop || section) && eqb (get_or (field f at) field_stop 0) 0) ≡ good_by section field_name
  field_good =
      let g = good_is section f at NAME_SIZE 0 at NAME_SIZE (omega arith) (omega arith) (omega arith) in
      let m = run_long f at NAME_SIZE in
      both_ways ((ltb 0 field_stop || section) && eqb (get_or (field f at) field_stop 0) 0) (good_by section field_name)
      (λ e.
      let z = and_right (ltb 0 field_stop || section) (eqb (get_or (field f at) field_stop 0) 0) e in
      let y = and_left (ltb 0 field_stop || section) (eqb (get_or (field f at) field_stop 0) 0) e in
      let r = field_ends_lem (eqb-true _ _ z) in
      g
      ∙ and_both (section || not (eqb (length field_name) 0)) (eqb (get_or (field f at) field_stop 0) 0)
      (⊎_elim (λ (k : field_stop ≤ 0). or_left section (not (eqb (length field_name) 0)) (rw (le-ltb 0 field_stop k) at y))
      (λ (k : 0 < field_stop). or_right section (not (eqb (length field_name) 0)) (not_of_false _ (ne_eqb (length field_name) 0 (λ (x : length field_name ≡ 0). absurd (omega arith)))))
      (le_or_lt field_stop 0))
      z)
      (λ e.
      let q : ((section || not (eqb (length field_name) 0)) && eqb (get_or (field f at) field_stop 0) 0) ≡ true = sym g ∙ e in
      let z = and_right (section || not (eqb (length field_name) 0)) (eqb (get_or (field f at) field_stop 0) 0) q in
      let y = and_left (section || not (eqb (length field_name) 0)) (eqb (get_or (field f at) field_stop 0) 0) q in
      let r = field_ends_lem (eqb-true _ _ z) in
      and_both (ltb 0 field_stop || section) (eqb (get_or (field f at) field_stop 0) 0)
      (⊎_elim (λ (k : field_stop ≤ 0). or_right (ltb 0 field_stop) section (may_be_empty section (eqb (length field_name) 0) y (eq-eqb (length field_name) 0 (omega arith))))
      (λ (k : 0 < field_stop). or_left (ltb 0 field_stop) section (lt-ltb 0 field_stop k))
      (le_or_lt field_stop 0))
      z)

  field_is : field_by f section at ≡ pick (good_by section field_name) (good_name at field_run) None
  unfolding field_ends
  field_is =
      same_pick ((ltb 0 field_stop || section) && eqb (get_or (field f at) field_stop 0) 0) (good_by section field_name) at field_stop field_run field_good
      (λ e. field_ends_lem (eqb-true _ _ (and_right (ltb 0 field_stop || section) (eqb (get_or (field f at) field_stop 0) 0) e)))

-- a section's is its run
section_field_lem : (f : List ℕ) (at : ℕ) → field_by f true at ≡ checked good_section_name f (short_run f at)
unfolding checked good_by
section_field_lem f at = field_is true f at

-- a symbol's too, as an empty run is no good name
module _ (f : List ℕ) (at : ℕ) where
  empty_run : eqb (get_or f at 0) 0 ≡ true → run f at NAME_SIZE ≡ 0
  unfolding run pick
  empty_run z = rw z

  empty_bad : eqb (get_or f at 0) 0 ≡ true → good_symbol_name (part f at (run f at NAME_SIZE)) ≡ false
  unfolding good_symbol_name
  empty_bad z =
      let e = empty_run z in
      let l = run_long f at NAME_SIZE in
      let n : eqb (length (part f at (run f at NAME_SIZE))) 0 ≡ true = eq-eqb (length (part f at (run f at NAME_SIZE))) 0 (omega arith) in
      rw n

  run_checked : (b : Bool) → eqb (get_or f at 0) 0 ≡ b
      → checked good_symbol_name f (pick b None (short_run f at)) ≡ pick (good_symbol_name (part f at (run f at NAME_SIZE))) (good_name at (run f at NAME_SIZE)) None
  unfolding checked pick
  run_checked true e = rw (empty_bad e)
  run_checked false e = refl

  symbol_field : field_by f false at ≡ checked good_symbol_name f (pick (eqb (get_or f at 0) 0) None (short_run f at))
  unfolding good_by
  symbol_field = field_is false f at ∙ sym (run_checked (eqb (get_or f at 0) 0) refl)

-- ---- with the words of the file's own string table, as the part of an array that was filled
pub stops_kept : (section : Bool) (f : List ℕ) (h : Header) (l m w : List ℕ) (n : ℕ) → m ≡ splice l 0 (stops_of section f h) → length l ≡ BLOCKS → n ≡ stop_count f h → w ≡ part m 0 n → w ≡ stops_of section f h
stops_kept section f h l m w n e long k q =
    let x = length_list (block_stop section (strings f h)) (stop_count f h) in
    let y : n ≡ length (stops_of section f h) = omega arith in
    q ∙ rw (e, y) (part_splice l 0 (stops_of section f h) (omega arith))

pub zeros_long : length {A = ℕ} (replicate BLOCKS 0) ≡ BLOCKS
zeros_long = length-replicate {A = ℕ} BLOCKS 0

pub ruleset kept = (stops_kept, zeros_long)

module _ (f : List ℕ) (h : Header) (stops : List ℕ) where
  long_by_lem : (section : Bool) → stops ≡ stops_of section f h → (o : ℕ) → long_by f h stops section o ≡ checked (good_by section) f (long_run f h o)
  long_by_lem section words o = ap (long_to f h section o) (stop_noted section (strings f h) stops (stop_count f h) o words) ∙ long_is section f h o

  slash_by_lem : stops ≡ stops_of true f h → (d : Option ℕ) → slash_name_by f h stops d ≡ checked good_section_name f (slash_by f h d)
  unfolding slash_name_by slash_by checked good_by
  slash_by_lem words (Some o) = long_by_lem true words o
  slash_by_lem words None = refl

  -- the name of symbol j is the rule's
  pub symbol_name_is : stops ≡ stops_of false f h → (j : ℕ) → symbol_name_by f h stops j ≡ symbol_name f h j
  unfolding symbol_name_by symbol_run pick good_by
  symbol_name_is words j =
      ⊎_elim (λ e. rw e (long_by_lem false words (get 4 f (symbol_record_at h j + LONG_OFFSET_AT)))) (λ e. rw e (symbol_field f (symbol_record_at h j))) (yes_no (eqb (get 4 f (symbol_record_at h j)) 0))

  -- and that of section i
  pub section_name_is : stops ≡ stops_of true f h → (i : ℕ) → section_name_by f h stops i ≡ section_name f h i
  unfolding section_name_by section_run pick
  section_name_is words i =
      ⊎_elim (λ (e : eqb (get_or f (section_header_at h i) 0) SLASH ≡ true). rw (e, slash_is f h (section_header_at h i)) (slash_by_lem words (slash_offset f (section_header_at h i)))) (λ e. rw e (section_field_lem f (section_header_at h i))) (yes_no (eqb (get_or f (section_header_at h i) 0) SLASH))
