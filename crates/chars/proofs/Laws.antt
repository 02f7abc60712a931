-- The ways through the code. Assumes nothing.
use mathlib.Core.Path.{◌≡◌, refl, sym, ap, ◌∙◌}
use mathlib.Core.Bool.{Bool, true, false, ◌&&◌, not}
use mathlib.Core.List.{List, [], ◌∷◌}
use Rattle.std.specs.Prelude.{fold}
use Rattle.std.proofs.Math.Bool.{and-true, and_assoc}
use mathlib.Core.Logic.{inl, inr, ⊎_elim}
use Prim.Native.Nat.{ℕ, zero, suc, ◌+◌, ◌-◌, ◌≤◌, ◌<◌, ◌^◌, min}
use native.Mathlib.Omega.{arith}
use borrow.Author.Tests.{not-true, not-false}
use lib.ListN.{length, get_or, take, drop, length-take, length-drop}
use lib.Seq.{take_all}
use lib.Dec.{leb, eqb}
use Rattle.util.specs.Pick.{pick, le_or_lt, not_both}
use Rattle.util.specs.Prefix.{all_to, all_at}
use Rattle.le.specs.Le.{part, part_at}
use Rattle.utf8.specs.Utf8.{long_length}
use Rattle.chars.specs.Chars.{EIGHT, ENOUGH, FIRST, visible, all_visible, good_section_name, good_symbol_name, char_at, walk, stop}
use Rattle.chars.specs.WalkLaws.{VisibleTo, VisibleRun, is_char, low_no_char, past_no_char, walk_off, walk_on, walk_past, walk_visible}
use Rattle.chars.specs.GoodLaws.{section_walk, symbol_walk}

-- ---- eight bytes at once
all_front : (p : ℕ → Bool) (n : ℕ) → all_to p (suc n) ≡ p 0 && all_to (λ k. p (suc k)) n
unfolding all_to
all_front p zero = sym (and-true (p 0))
all_front p (suc n) = rw (all_front p n) (and_assoc (p 0) (all_to (λ k. p (suc k)) n) (p (suc n)))

fold_on : (a : Bool) (s : List ℕ) → fold (λ ok b. ok && visible b) a s ≡ a && all_visible s
unfolding all_to
fold_on a [] = sym (and-true a)
fold_on a (b ∷ s) =
    fold_on (a && visible b) s
    ∙ (and_assoc a (visible b) (all_visible s) ∙ ap (λ (r : Bool). a && r) (sym (all_front (λ k. visible (get_or (b ∷ s) k 0)) (length s))))

pub fold_visible : (s : List ℕ) → fold (λ ok b. ok && visible b) true s ≡ all_visible s
fold_visible s = fold_on true s

module _ (t : List ℕ) (i e : ℕ) where
  pub visible_none : i ≤ e → VisibleTo t i e i
  visible_none l = record { behind = omega arith; before = l; seen = λ k a b. absurd (omega arith) }

  pub leap_fits : (k : ℕ) → VisibleTo t i e k → ENOUGH ≤ e - k → (i < e → e ≤ length t) → k + EIGHT ≤ length t
  leap_fits k p l room = let a = p.behind in let b = room (omega arith) in omega arith

  -- of the eight from k on
  pub visible_more : (k : ℕ) (r : Bool) → VisibleTo t i e k → ENOUGH ≤ e - k → r ≡ all_visible (take (k + EIGHT - k) (drop k t)) → r ≡ true → (i < e → e ≤ length t) → VisibleTo t i e (k + EIGHT)
  unfolding part
  visible_more k r p l v z room =
      let n : k + EIGHT - k ≡ EIGHT = omega arith in
      let y : all_visible (take EIGHT (drop k t)) ≡ true = sym (rw n at v) ∙ z in
      let inside = leap_fits k p l room in
      let w : length (take EIGHT (drop k t)) ≡ EIGHT = rw (length-take, length-drop) (omega arith) in
      record {
        behind = let a = p.behind in omega arith;
        before = let a = p.before in omega arith;
        seen = λ j a b.
            ⊎_elim (λ (q : k ≤ j).
            let s : k + (j - k) ≡ j = omega arith in
            let u : visible (get_or (take EIGHT (drop k t)) (j - k) 0) ≡ true = all_at (λ m. visible (get_or (take EIGHT (drop k t)) m 0)) (length (take EIGHT (drop k t))) (j - k) y (omega arith) in
            ap visible (sym (rw s at (part_at t k EIGHT (j - k) (omega arith)))) ∙ u)
            (λ (q : j < k). p.seen j a q)
            (le_or_lt k j);
      }

pub ruleset leap_loop = (visible_none, leap_fits, visible_more)

-- ---- the visible bytes from i on
module _ (t : List ℕ) (i e k : ℕ) where
  pub run_begin : i ≤ e → VisibleTo t i e i
  run_begin l = visible_none t i e l

  pub run_room : VisibleTo t i e k → k < e → (i < e → e ≤ length t) → k < length t
  run_room p l room = let a = p.behind in let b = room (omega arith) in omega arith

  module _ (r : Bool) (sees : r ≡ visible (get_or t k 0)) where
    pub run_stop : VisibleTo t i e k → not r ≡ true → VisibleRun t i e k
    run_stop p z = record { visible_to = p; ends = λ l. rw (← sees) (not-true r z) }

    pub run_more : VisibleTo t i e k → k < e → not r ≡ false → VisibleTo t i e (k + 1)
    run_more p l z =
        record {
          behind = let a = p.behind in omega arith;
          before = omega arith;
          seen = λ j a b. ⊎_elim (λ (q : k ≤ j). let y : j ≡ k = omega arith in rw (y, ← sees) (not-false r z)) (λ (q : j < k). p.seen j a q) (le_or_lt k j);
        }

  pub run_end : VisibleTo t i e k → e ≤ k → VisibleRun t i e k
  run_end p l = record { visible_to = p; ends = λ a. absurd (omega arith) }

  pub run_within : VisibleTo t i e k → k ≤ e
  run_within p = p.before

  pub run_over : VisibleTo t i e k → (i < e → e ≤ length t) → k < e → e ≤ length t
  run_over p room l = let a = p.behind in room (omega arith)

  -- behind a first stretch
  pub run_on : (r : ℕ) → VisibleTo t i e k → VisibleRun t k e r → VisibleRun t i e r
  run_on r p q =
      let v = q.visible_to in
      record {
        visible_to = record {
          behind = let a = p.behind in let b = v.behind in omega arith;
          before = v.before;
          seen = λ j a b. ⊎_elim (λ (x : k ≤ j). v.seen j x b) (λ (x : j < k). p.seen j a x) (le_or_lt k j);
        };
        ends = q.ends;
      }

pub ruleset run_loop = (run_begin, run_room, run_stop, run_more, run_end)

pub ruleset run_parts = (run_within, run_over, run_on)

-- a walk goes on behind them
visible_walk : (section : Bool) (t : List ℕ) (i e k : ℕ) → VisibleTo t i e k → walk section t e k ≡ walk section t e i
visible_walk section t i e k p =
    let a = p.behind in
    let b = p.before in
    let z : i + (k - i) ≡ k = omega arith in
    rw z at (walk_visible section t e (k - i) i (omega arith) (λ j c d. p.seen j c (omega arith)))

-- ---- the walk over characters of several bytes
module _ (t : List ℕ) (i e k x : ℕ) where
  pub on_room : (i < e → e ≤ length t) → i ≤ k → k < e → k < length t
  on_room room a l = let b = room (omega arith) in omega arith

  pub on_within : (i < e → e ≤ length t) → i ≤ k → k < e → k ≤ length t
  on_within room a l = let b = room (omega arith) in omega arith

  pub on_far : (i < e → e ≤ length t) → i ≤ k → k < e → e ≤ length t
  on_far room a l = room (omega arith)

  -- a visible byte is passed, so the run goes on
  module _ (j : ℕ) (v : Bool) (sees : v ≡ visible (get_or t k 0)) (yes : v ≡ true) (run : VisibleRun t k e j) where
    pub on_least : i ≤ k → i ≤ j
    on_least a = let b = run.visible_to.behind in omega arith

    pub on_less : k < e → e - j < e - k
    on_less l =
        let b = run.visible_to.behind in
        ⊎_elim (λ (q : j ≤ k). let z : j ≡ k = omega arith in not_both (visible (get_or t k 0)) (sym sees ∙ yes) (rw z at (run.ends (omega arith)))) (λ (q : k < j). omega arith) (le_or_lt j k)

    pub on_visible : walk false t e k ≡ x → walk false t e j ≡ x
    on_visible q = visible_walk false t k e j run.visible_to ∙ q

  module _ (c : ℕ) (v : Bool) (sees : v ≡ visible (get_or t k 0)) (no : v ≡ false) (is : c ≡ long_length (take (length t - k) (drop k t))) where
    char_is : c ≡ char_at false t k
    unfolding char_at pick
    char_is =
        let l : length (drop k t) ≤ length t - k = rw length-drop (omega arith) in
        rw (← sees, no) (rw (take_all (length t - k) (drop k t) l) at is)

    pub on_none : c ≡ 0 → walk false t e k ≡ x → k ≡ x
    on_none z q = sym (walk_off false t e k (inr (sym char_is ∙ z))) ∙ q

    module _ (some : c ≡ 0 → ⊥) where
      pub on_fits : length t < 2 ^ 64 → k + c < 2 ^ 64
      on_fits b = let l = by_length c char_is some in omega arith
        where
          by_length : (c : ℕ) → c ≡ char_at false t k → (c ≡ 0 → ⊥) → k + c ≤ length t
          by_length zero e f = absurd (f refl)
          by_length (suc m) e f = (is_char false t k m (sym e)).within

      pub on_more : k < e → walk false t e k ≡ x → walk false t e (k + c) ≡ x
      on_more l q = by_length c char_is some
        where
          by_length : (c : ℕ) → c ≡ char_at false t k → (c ≡ 0 → ⊥) → walk false t e (k + c) ≡ x
          by_length zero z f = absurd (f refl)
          by_length (suc m) z f = walk_on false t e k m l (sym z) ∙ q

  pub on_end : e ≤ k → walk false t e k ≡ x → k ≡ x
  on_end l q = sym (walk_off false t e k (inl l)) ∙ q

pub ruleset on_loop = (on_room, on_within, on_far, on_least, on_less, on_visible, on_none, on_fits, on_more, on_end)

-- ---- behind the visible bytes
module _ (section : Bool) (t : List ℕ) (k e : ℕ) where
  pub behind_end : e ≤ k → k ≡ walk section t e k
  behind_end l = sym (walk_off section t e k (inl l))

  pub behind_room : (k < e → e ≤ length t) → k < e → k < length t
  behind_room room l = let a = room l in omega arith

  module _ (l : k < e) (ends : k < e → visible (get_or t k 0) ≡ false) where
    pub behind_low : get_or t k 0 < FIRST → k ≡ walk section t e k
    behind_low b = sym (walk_off section t e k (inr (low_no_char section t k (ends l) b)))

    pub behind_section : section ≡ true → k ≡ walk section t e k
    unfolding char_at pick
    behind_section y = sym (walk_off section t e k (inr (rw (ends l, y))))

    pub behind_symbol : (r : ℕ) → section ≡ false → r ≡ walk false t e k → r ≡ walk section t e k
    behind_symbol r y q = rw y q

pub ruleset behind_ways = (behind_end, behind_room, behind_low, behind_section, behind_symbol)

-- ---- from i on
module _ (section : Bool) (t : List ℕ) (i e k r : ℕ) (run : VisibleRun t i e k) where
  pub from_room : (i < e → e ≤ length t) → k < e → e ≤ length t
  from_room room l = let a = run.visible_to.behind in room (omega arith)

  pub from_ends : k < e → visible (get_or t k 0) ≡ false
  from_ends l = run.ends l

  from_start : r ≡ walk section t e k → r ≡ walk section t e i
  from_start q = q ∙ visible_walk section t i e k run.visible_to

  -- w of the n places from i lie within the table
  pub from_place : (n w : ℕ) → e ≡ i + w → w ≡ min n (length t - i) → r ≡ walk section t e k → r ≡ walk section t (i + n) i
  from_place n w z room q =
      ⊎_elim (λ (c : n ≤ length t - i). let y : e ≡ i + n = omega arith in rw y at (from_start q))
      (λ (c : length t - i < n).
      from_start q
      ∙ ⊎_elim (λ (d : length t ≤ i). walk_off section t e i (inr (past_no_char section t i d)) ∙ sym (walk_off section t (i + n) i (inr (past_no_char section t i d))))
      (λ (d : i < length t). walk_past section t e i (omega arith) ∙ sym (walk_past section t (i + n) i (omega arith)))
      (le_or_lt (length t) i))
      (le_or_lt n (length t - i))

  pub from_stop : e ≡ length t → r ≡ walk section t e k → r ≡ stop section t i
  from_stop z q = rw z at (from_start q)

pub place_room : (i n w l : ℕ) → w ≡ min n (l - i) → i < i + w → i + w ≤ l
place_room i n w l q a = omega arith

pub ruleset from_ways = (from_room, from_ends, from_place, from_stop, place_room)

module _ (section : Bool) (t : List ℕ) (i : ℕ) where
  pub stop_past : length t ≤ i → i ≡ stop section t i
  stop_past l = sym (walk_off section t (length t) i (inl l))

  pub stop_symbol : (r : ℕ) → section ≡ false → r ≡ walk false t (length t) i → r ≡ stop section t i
  stop_symbol r y q = rw y q

pub stop_section : (section : Bool) (t : List ℕ) (i k r : ℕ) → VisibleRun t i (length t) k → section ≡ true → r ≡ walk true t (length t) k → r ≡ stop section t i
stop_section section t i k r run y q = rw y (from_stop true t i (length t) k r run refl q)

pub ruleset stop_ways = (from_room, from_ends, stop_past, stop_symbol, stop_section)

-- ---- a name's rule
module _ (s : List ℕ) (n : ℕ) where
  pub good_section : n ≡ stop true s 0 → leb (length s) n ≡ good_section_name s
  good_section e = rw e (sym (section_walk s))

  pub good_symbol : {r : Bool} → r ≡ (not (eqb (length s) 0) && leb (length s) n) → n ≡ stop false s 0 → r ≡ good_symbol_name s
  good_symbol p e = p ∙ rw e (sym (symbol_walk s))
