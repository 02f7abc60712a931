-- The ways through the code, from two sections to all of them. Assumes nothing.
use Rattle.std.proofs.Common.{Ordering, Less, Equal, Greater}
use mathlib.Core.Path.{◌≡◌, refl, sym, ap, ◌∙◌}
use mathlib.Core.Bool.{Bool, true, false}
use mathlib.Core.List.{List, [], ◌∷◌, ◌++◌}
use Prim.Native.Nat.{ℕ, ◌+◌, ◌≤◌, ◌<◌}
use native.Mathlib.Omega.{arith}
use native.Mathlib.Numerals.{add-one}
use borrow.Author.Tests.{eq-eqb, ne_eqb}
use lib.Dec.{ltb, leb}
use lib.ListN.{length, get_or, take, drop, set, length-set, drop_of_length-le}
use lib.Seq.{drop-cons, take_all, take-suc-set}
use Rattle.util.specs.Pick.{pick}
use Rattle.util.specs.Prefix.{list_to, length_list}
use Rattle.limits.specs.Limits.{MAX_SECTIONS}
use Rattle.object.specs.declared.Header.{Header}
use Rattle.object.specs.Section.{loaded}
use Rattle.names.specs.Bytes.{compare_bytes}
use Rattle.names.specs.declared.Span.{Span}
use Rattle.names.specs.Name.{section_span, span_text, section_text}
use Rattle.ranks.specs.RankLaws.{ranks_room}
use Rattle.ranks.specs.Rank.{by_keys, tie_before, precedes, ranked, lateness}
use Rattle.ranks.specs.Merge.{left_next}

-- ---- the order of two sections
module _ (f : List ℕ) (h : Header) (i : ℕ) (r : Bool) (is : r ≡ loaded f h i) where
  pub late_no : r ≡ true → 0 ≡ lateness f h i
  unfolding lateness pick
  late_no e = rw (← is, e)

  pub late_yes : r ≡ false → 1 ≡ lateness f h i
  unfolding lateness pick
  late_yes e = rw (← is, e)

pub ruleset late_ways = (late_no, late_yes)

module _ (late : ℕ → ℕ) (i j a b : ℕ) (p : a ≡ late i) (q : b ≡ late j) where
  pub tie_same : a ≡ b → leb i j ≡ tie_before late i j
  unfolding tie_before pick
  tie_same e = rw (← p, ← q, eq-eqb a b e)

  pub tie_apart : (a ≡ b → ⊥) → ltb a b ≡ tie_before late i j
  unfolding tie_before pick
  tie_apart n = rw (← p, ← q, ne_eqb a b n)

pub ruleset tie_ways = (tie_same, tie_apart)

module _ (f : List ℕ) (h : Header) (i j : ℕ) (a b : Span) (o : Ordering) (p : a ≡ section_span f h i) (q : b ≡ section_span f h j) (by : o ≡ compare_bytes (span_text f a) (span_text f b)) where
  name_order_lem : o ≡ compare_bytes (section_text f h i) (section_text f h j)
  name_order_lem = rw (← p, ← q) by

  pub precedes_less : o ≡ Less → true ≡ precedes (section_text f h) (lateness f h) i j
  unfolding precedes by_keys
  precedes_less e = rw (← name_order_lem, e)

  pub precedes_equal : (r : Bool) → o ≡ Equal → r ≡ tie_before (lateness f h) i j → r ≡ precedes (section_text f h) (lateness f h) i j
  unfolding precedes by_keys
  precedes_equal r e t = rw (← name_order_lem, e) t

  pub precedes_greater : o ≡ Greater → false ≡ precedes (section_text f h) (lateness f h) i j
  unfolding precedes by_keys
  precedes_greater e = rw (← name_order_lem, e)

pub ruleset precedes_ways = (precedes_less, precedes_equal, precedes_greater)

-- ---- the first of what is left of two lists
module _ (key : ℕ → List ℕ) (late : ℕ → ℕ) (a b : List ℕ) (i j : ℕ) where
  pub left_none : length a ≤ i → false ≡ left_next key late (drop i a) (drop j b)
  unfolding left_next
  left_none h = rw (drop_of_length-le a {i = i} h)

  pub left_all : i < length a → length b ≤ j → true ≡ left_next key late (drop i a) (drop j b)
  unfolding left_next
  left_all h k = rw (drop-cons a i 0 h, drop_of_length-le b {i = j} k)

  pub left_by : (r : Bool) → i < length a → j < length b → r ≡ precedes key late (get_or a i 0) (get_or b j 0) → r ≡ left_next key late (drop i a) (drop j b)
  unfolding left_next
  left_by r h k e = rw (drop-cons a i 0 h, drop-cons b j 0 k) e

pub ruleset left_ways = (left_none, left_all, left_by)

-- ---- the numbers from 0
pub record Numbered (a₀ a : List ℕ) (i : ℕ) : Type 0 where
  pub long : length a ≡ length a₀
  pub few : i ≤ length a₀
  pub front : take i a ≡ list_to (λ (k : ℕ). k) i

pub number_none : (a : List ℕ) → Numbered a a 0
unfolding list_to
number_none a = record { long = refl; few = omega arith; front = refl }

module _ (a₀ a : List ℕ) where
  pub number_again : (i n : ℕ) → Numbered a₀ a i → i < n → n ≡ length a₀ → Numbered a₀ (set a i i) (i + 1)
  unfolding list_to
  number_again i n m h q =
      let l = m.long in
      let room : i < length a = omega arith in
      rw add-one
      (record {
        long = length-set a i i ∙ l;
        few = omega arith;
        front = take-suc-set a i i room ∙ ap (λ (x : List ℕ). x ++ (i ∷ [])) m.front;
      })

  pub number_end : (i n : ℕ) → Numbered a₀ a i → n ≤ i → n ≡ length a₀ → a ≡ list_to (λ (k : ℕ). k) (length a₀)
  number_end i n m h q =
      let l = m.long in
      let k = m.few in
      let e : i ≡ length a₀ = omega arith in
      sym (take_all i a (omega arith)) ∙ m.front ∙ ap (list_to (λ (k : ℕ). k)) e

pub ruleset number_loop = (number_none, number_again, number_end)

-- ---- all of it
pub fill_even : (a b l : List ℕ) → b ≡ list_to (λ (i : ℕ). i) (length a) → length a ≤ MAX_SECTIONS → length l ≡ MAX_SECTIONS → length (take (length a) l) ≡ length b
fill_even a b l e h q = sym (ranks_room (length a) l h q) ∙ sym (rw e (length_list (λ (i : ℕ). i) (length a)))

module _ (key : ℕ → List ℕ) (late : ℕ → ℕ) (a b d : List ℕ) (m : ℕ) where
  pub fill_sorted : b ≡ list_to (λ (i : ℕ). i) (length a) → d ≡ ranked key late b → length a ≡ m → m ≤ MAX_SECTIONS
      → d ≡ ranked key late (list_to (λ (i : ℕ). i) m)
  fill_sorted e q l h = q ∙ ap (ranked key late) (e ∙ ap (list_to (λ (i : ℕ). i)) l)

  pub fill_left : MAX_SECTIONS < length a → length a ≡ m → m ≤ MAX_SECTIONS → a ≡ ranked key late (list_to (λ (i : ℕ). i) m)
  fill_left k l h = absurd (omega arith)

pub ruleset fill_ways = (ranks_room, fill_even, fill_sorted, fill_left)
