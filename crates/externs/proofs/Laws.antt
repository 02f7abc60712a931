-- The ways through the readers, and the loops over the list of externs. Assumes nothing.
use Rattle.refusal.specs.declared.Refusal.{Refusal}
use Rattle.std.specs.Prelude.{None, Option, Some, Err, Ok, Result}
use Rattle.std.proofs.Common.{Ordering, Less, Equal, Greater, nat_cmp}
use Rattle.le.specs.Le.{splice, splice_next, splice_above, fill_none, fill_again, fill_end, IsBytes}
use mathlib.Core.Path.{◌≡◌, refl, sym, ap, ◌∙◌}
use mathlib.Core.Bool.{Bool, true, false}
use mathlib.Core.List.{List, [], ◌∷◌, ◌++◌, append_assoc, append-nil}
use mathlib.Core.Logic.{◌⊎◌, ⊎_elim}
use Prim.Native.Nat.{ℕ, zero, suc, ◌+◌, ◌-◌, ◌/◌, ◌%◌, ◌≤◌, ◌<◌, min}
use native.Mathlib.Nat.{not-suc-le-zero, le_of_suc-le-suc}
use native.Mathlib.Numerals.{add-one}
use native.Mathlib.Omega.{arith}
use borrow.Author.Tests.{eq-eqb, ne_eqb, lt-ltb, le-ltb}
use lib.ListN.{length, get_or, take, drop, set, length-append, length-drop, drop_of_length-le, length-set, replicate, length-replicate, length-take, replicate-append-replicate}
use lib.Seq.{drop-cons, take-suc, take-take, take-append-le, length-take-le, length-paste, get_or-take, take-set-lt, set_split, split_at, take_at, drop_at, append_snoc, sets-eq}
use Rattle.std.proofs.lemmas.List.{drop-take}
use Rattle.std.specs.List.{copy_within}
use Rattle.util.specs.Pick.{pick, le_or_lt, three_ways}
use Rattle.util.specs.Prefix.{length_list}
use Rattle.object.specs.declared.Header.{Header}
use Rattle.names.specs.Bytes.{are_same_bytes, compare_bytes}
use Rattle.names.specs.OrderLaws.{less_less, less_not_self}
use Rattle.names.specs.declared.Span.{Span}
use Rattle.names.specs.Name.{symbol_text, symbol_span, span_text}
use Rattle.order.specs.Key.{KEY_BYTES, key}
use Rattle.order.specs.KeyLaws.{key_less, key_greater}
use mir.Val.{Fits}
use mir.Syntax.{w8}
use Rattle.limits.specs.Limits.{MAX_EXTERNS}
use Rattle.externs.specs.Externs.{order_of, insert_name, Holds}
use Rattle.externs.specs.ExternLaws.{count_list}
use Rattle.externs.specs.Held.{held, put_at, lower_at, Placed, Inserted}
use Rattle.externs.specs.Keys.{symbol_key, keys_of, InStep, PutBoth, KeysRise, Skipped, Keyed}
use Rattle.externs.specs.Bisect.{name_order, by_side, halves}
use Rattle.externs.specs.BisectLaws.{bisect_slot}
use Rattle.externs.specs.Inserting.{Rising, min_name, rise, rising_at}
use Rattle.externs.specs.Slot.{slot_of}
use Rattle.externs.specs.Slotted.{found_code, takes_slot, settled, slotted_code, slotted_at, slotted_to}
use Rattle.codes.specs.Code.{NO_SLOT, SPAN, SLOTS}

-- ---- the place of j: the names of xs before i all come before j's
unfoldable pub Passed : List ℕ → Header → ℕ → List ℕ → ℕ → Type 0
Passed f h j xs i = insert_name f h j xs ≡ take i xs ++ insert_name f h j (drop i xs)

pub held_length : (n : ℕ) (l : List ℕ) → n ≤ length l → length (held n l) ≡ n
unfolding held
held_length n l h = length-take-le n l h

module _ (l : List ℕ) (n i : ℕ) (h : i < n) (room : n ≤ length l) where
  at_held : drop i (held n l) ≡ get_or l i 0 ∷ drop (suc i) (held n l)
  unfolding held
  at_held =
      drop-cons (take n l) i 0 (rw (length-take-le n l room) h) ∙ ap (λ (x : ℕ). x ∷ drop (suc i) (take n l)) (get_or-take n l i 0 h)

  take_held : take (suc i) (held n l) ≡ take i (held n l) ++ (get_or l i 0 ∷ [])
  unfolding held
  take_held =
      take-suc (take n l) i 0 (rw (length-take-le n l room) h) ∙ ap (λ (x : ℕ). take i (take n l) ++ (x ∷ [])) (get_or-take n l i 0 h)

  get_held : get_or (held n l) i 0 ≡ get_or l i 0
  unfolding held
  get_held = get_or-take n l i 0 h

module _ (f : List ℕ) (h : Header) (j : ℕ) where
  pub spot_none : (xs : List ℕ) → Passed f h j xs 0
  unfolding Passed
  spot_none xs = refl

  module _ (l : List ℕ) (n i : ℕ) (r : Ordering) (name : Span) (is : name ≡ symbol_span f h j) where
    pub spot_less : i < n → n ≤ length l → r ≡ name_order f h (span_text f name) (get_or l i 0) → r ≡ Less → Passed f h j (held n l) i
        → insert_name f h j (held n l) ≡ put_at i j (held n l)
    unfolding Passed put_at insert_name
    spot_less k room e z q =
        q ∙ ap (λ (ys : List ℕ). take i (held n l) ++ ys) (simp (at_held l n i k room, sym (rw is at e) ∙ z))

    pub spot_same : i < n → n ≤ length l → r ≡ name_order f h (span_text f name) (get_or l i 0) → r ≡ Equal → Passed f h j (held n l) i
        → insert_name f h j (held n l) ≡ lower_at i j (held n l)
    unfolding Passed lower_at insert_name
    spot_same k room e z q =
        let y : insert_name f h j (drop i (held n l)) ≡ min j (get_or l i 0) ∷ drop (suc i) (held n l) =
        simp (at_held l n i k room, sym (rw is at e) ∙ z) in
        q ∙ ap (λ (ys : List ℕ). take i (held n l) ++ ys) (y ∙ ap (λ (x : ℕ). min j x ∷ drop (suc i) (held n l)) (sym (get_held l n i k room)))

    pub spot_equal : i < n → n ≤ length l → r ≡ name_order f h (span_text f name) (get_or l i 0) → r ≡ Equal → order_of f h j (get_or (held n l) i 0) ≡ Equal
    spot_equal k room e z = rw (get_held l n i k room) (sym (rw is at e) ∙ z)

    pub spot_more : i < n → n ≤ length l → r ≡ name_order f h (span_text f name) (get_or l i 0) → r ≡ Greater → Passed f h j (held n l) i
        → Passed f h j (held n l) (i + 1)
    unfolding Passed insert_name
    spot_more k room e z q =
        let y : insert_name f h j (drop i (held n l)) ≡ get_or l i 0 ∷ insert_name f h j (drop (suc i) (held n l)) =
        simp (at_held l n i k room, sym (rw is at e) ∙ z) in
        rw (add-one, take_held l n i k room)
        (q ∙ ap (λ (ys : List ℕ). take i (held n l) ++ ys) y ∙ sym (append_snoc (take i (held n l)) (get_or l i 0) (insert_name f h j (drop (suc i) (held n l)))))

  pub spot_end : (l : List ℕ) (n i : ℕ) → n ≤ i → n ≤ length l → Passed f h j (held n l) i
      → insert_name f h j (held n l) ≡ put_at i j (held n l)
  unfolding Passed put_at insert_name held
  spot_end l n i k room q =
      let g : length (take n l) ≤ i = rw (length-take-le n l room) k in
      simp (drop_of_length-le (take n l) g) (simp (drop_of_length-le (take n l) g) at q)

module _ (f : List ℕ) (h : Header) (j n : ℕ) (xs : List ℕ) (p : ℕ) where
  pub placed_before : p ≤ n → insert_name f h j xs ≡ put_at p j xs → Placed f h j n xs (Err p)
  unfolding Placed
  placed_before k e = (k, e)

  pub placed_present : p < n → insert_name f h j xs ≡ lower_at p j xs → order_of f h j (get_or xs p 0) ≡ Equal → Placed f h j n xs (Ok p)
  unfolding Placed
  placed_present k e o = (k, e, o)

pub ruleset spot_loop = (spot_less, spot_same, spot_equal, spot_end, placed_before, placed_present)

-- and back, as `insert` asks it
module _ (f : List ℕ) (h : Header) (j n : ℕ) (xs : List ℕ) (s : Result ℕ ℕ) (p : ℕ) (q : Placed f h j n xs s) where
  pub before_room : s ≡ Err p → p ≤ n
  unfolding Placed
  before_room e = (rw e at q).0

  pub before_list : s ≡ Err p → insert_name f h j xs ≡ put_at p j xs
  unfolding Placed
  before_list e = (rw e at q).1

  pub present_room : s ≡ Ok p → p < n
  unfolding Placed
  present_room e = (rw e at q).0

  pub present_list : s ≡ Ok p → insert_name f h j xs ≡ lower_at p j xs
  unfolding Placed
  present_list e = (rw e at q).1

  present_order : s ≡ Ok p → order_of f h j (get_or xs p 0) ≡ Equal
  unfolding Placed
  present_order e = (rw e at q).2

module _ (f : List ℕ) (h : Header) (j n : ℕ) (l m : List ℕ) (s : Result ℕ ℕ) (p : ℕ) (q : Placed f h j n (held n l) s) where
  pub insert_before : (k : ℕ) (ks after : List ℕ) → s ≡ Err p → PutBoth l ks n p j k m after → Inserted f h j l n m (n + 1)
  insert_before k ks after e y = record { room = omega arith; list = y.list ∙ sym (before_list f h j n (held n l) s p q e) }

  pub insert_present : s ≡ Ok p → held n m ≡ lower_at p j (held n l) → Inserted f h j l n m n
  insert_present e y = record { room = omega arith; list = y ∙ sym (present_list f h j n (held n l) s p q e) }

-- ---- the keys beside the list
module _ (f : List ℕ) (h : Header) where
  keys_put : (p j : ℕ) (xs : List ℕ) → put_at p (symbol_key f h j) (keys_of f h xs) ≡ keys_of f h (put_at p j xs)
  unfolding put_at keys_of
  keys_put zero j [] = refl
  keys_put zero j (x ∷ xs) = refl
  keys_put (suc p) j [] = refl
  keys_put (suc p) j (x ∷ xs) = ap (λ (ks : List ℕ). symbol_key f h x ∷ ks) (keys_put p j xs)

  -- of two equal names either has the key
  keys_lower : (p j : ℕ) (xs : List ℕ) → p < length xs → order_of f h j (get_or xs p 0) ≡ Equal → keys_of f h xs ≡ keys_of f h (lower_at p j xs)
  unfolding lower_at keys_of
  keys_lower p j [] k e = absurd (not-suc-le-zero k)
  keys_lower zero j (x ∷ xs) k e = ap (λ (s : List ℕ). key KEY_BYTES s ∷ keys_of f h xs) (sym (min_name f h j x e))
  keys_lower (suc p) j (x ∷ xs) k e = ap (λ (ks : List ℕ). symbol_key f h x ∷ ks) (keys_lower p j xs (le_of_suc-le-suc k) e)

  keys_at : (xs : List ℕ) (p : ℕ) → p < length xs → get_or (keys_of f h xs) p 0 ≡ symbol_key f h (get_or xs p 0)
  unfolding keys_of
  keys_at [] p k = absurd (not-suc-le-zero k)
  keys_at (x ∷ xs) zero k = refl
  keys_at (x ∷ xs) (suc p) k = keys_at xs p (le_of_suc-le-suc k)

  keys_length : (xs : List ℕ) → length (keys_of f h xs) ≡ length xs
  unfolding keys_of
  keys_length [] = refl
  keys_length (x ∷ xs) = ap suc (keys_length xs)

  -- there are as many keys as symbols
  step_room : (l ks : List ℕ) (n : ℕ) → n ≤ length l → InStep f h l ks n → n ≤ length ks
  unfolding InStep held
  step_room l ks n room e = omega (arith, ap length e, keys_length (take n l), length-take-le n l room, length-take n ks)

  pub key_of : (j k : ℕ) (s : Span) → k ≡ key KEY_BYTES (span_text f s) → s ≡ symbol_span f h j → k ≡ symbol_key f h j
  key_of j k s e d = rw (← d) e

  key_at : (l ks : List ℕ) (n p : ℕ) → p < n → n ≤ length l → n ≤ length ks → InStep f h l ks n → get_or ks p 0 ≡ symbol_key f h (get_or l p 0)
  unfolding InStep
  key_at l ks n p lt room beside e =
      let here : p < length (held n l) = rw (held_length n l room) lt in
      let its = sym (get_held ks n p lt beside) ∙ ap (λ (m : List ℕ). get_or m p 0) e ∙ keys_at (held n l) p here in
      rw (get_held l n p lt room) at its

  module _ (j n : ℕ) (l m ks : List ℕ) (s : Result ℕ ℕ) (p : ℕ) (q : Placed f h j n (held n l) s) (e : InStep f h l ks n) where
    pub step_before : (after : List ℕ) (k : ℕ) → s ≡ Err p → k ≡ symbol_key f h j → PutBoth l ks n p j k m after → InStep f h m after (n + 1)
    unfolding InStep
    step_before after k is d b =
        b.beside ∙ (ap (λ (x : ℕ). put_at p x (held n ks)) d ∙ ap (put_at p (symbol_key f h j)) e) ∙ keys_put p j (held n l) ∙ ap (keys_of f h) (sym b.list)

    pub step_present : s ≡ Ok p → n < length l → held n m ≡ lower_at p j (held n l) → InStep f h m ks n
    unfolding InStep
    step_present is room y =
        let k : p < length (held n l) = rw (held_length n l (omega arith)) (present_room f h j n (held n l) s p q is) in
        e ∙ keys_lower p j (held n l) k (present_order f h j n (held n l) s p q is) ∙ ap (keys_of f h) (sym y)

  pub step_none : (l ks : List ℕ) → InStep f h l ks 0
  unfolding InStep keys_of held
  step_none l ks = refl

-- ---- by keys: lower ones are passed, and before a higher one j goes
module _ (ks : List ℕ) (n p k : ℕ) where
  pub skip_none : p ≤ n → Skipped ks n p k p
  skip_none h = record { low = omega arith; high = h; lower = λ i a b. omega arith }

  pub skip_more : (q : ℕ) → Skipped ks n p k q → q < n → get_or ks q 0 < k → Skipped ks n p k (q + 1)
  skip_more q s h l =
      let a = s.low in
      record {
        low = omega arith;
        high = omega arith;
        lower = λ i b c. ⊎_elim (λ (e : q ≤ i). let z : i ≡ q = omega arith in rw z l) (λ e. s.lower i b e) (le_or_lt q i);
      }

-- eight more, by the last of them
pub leap_more : (ks : List ℕ) (n p k q : ℕ) → KeysRise ks n → Skipped ks n p k q → 8 ≤ n - q → get_or ks (q + 7) 0 < k → Skipped ks n p k (q + 8)
leap_more ks n p k q rises s h l =
    let a = s.low in
    let below : (i : ℕ) → i < q + 8 → get_or ks i 0 < k =
    λ i c. ⊎_elim (λ (e : q + 7 ≤ i). let z : i ≡ q + 7 = omega arith in rw z l) (λ e. let o = rises.rise i (q + 7) e (omega arith) in omega arith) (le_or_lt (q + 7) i)
    in
    record { low = omega arith; high = omega arith; lower = λ i b c. below i c }

pub leap_room : (ks : List ℕ) (n q : ℕ) → n ≤ length ks → 8 ≤ n - q → q + 7 < length ks
leap_room ks n q h l = omega arith

pub skip_end : (ks : List ℕ) (n p k q : ℕ) → Skipped ks n p k q → n ≤ q → Skipped ks n p k n
skip_end ks n p k q s h = let a = s.high in let e : q ≡ n = omega arith in rw e at s

pub ruleset skip_loop = (skip_none, skip_more, skip_end, leap_more, leap_room)

-- ---- sorted names have keys that rise
module _ (f : List ℕ) (h : Header) (n : ℕ) (l ks : List ℕ) (m : (i : ℕ) → Fits w8 (get_or f i 0)) (room : n ≤ length l) (beside : n ≤ length ks) (e : InStep f h l ks n)
    (r : Rising f h (held n l)) where
  never_falls : (i q : ℕ) → i < q → q < n → get_or ks q 0 < get_or ks i 0 → ⊥
  unfolding held
  never_falls i q a b z =
      let x = symbol_text f h (get_or l i 0) in
      let y = symbol_text f h (get_or l q 0) in
      let falls : symbol_key f h (get_or l q 0) < symbol_key f h (get_or l i 0) =
      rw (key_at f h l ks n i (omega arith) room beside e, key_at f h l ks n q b room beside e) at z
      in
      let down : compare_bytes y x ≡ Less = key_less f (λ i. let b = m i in omega arith) (symbol_span f h (get_or l q 0)) (symbol_span f h (get_or l i 0)) falls in
      let up : compare_bytes x y ≡ Less =
      rw (get_or-take n l i 0 (omega arith), get_or-take n l q 0 b) at (rising_at f h (held n l) i q r a (rw (held_length n l room) b))
      in
      less_not_self y (less_less y x y down up)

  pub keys_rise : KeysRise ks n
  keys_rise = record { rise = λ i q a b. ⊎_elim (λ z. z) (λ z. absurd (never_falls i q a b z)) (le_or_lt (get_or ks i 0) (get_or ks q 0)) }

module _ (f : List ℕ) (h : Header) (j n k : ℕ) (l ks : List ℕ) (m : (i : ℕ) → Fits w8 (get_or f i 0)) (room : n ≤ length l) (beside : n ≤ length ks) (e : InStep f h l ks n)
    (d : k ≡ symbol_key f h j) where
  bytes : IsBytes f
  bytes i = let b = m i in omega arith

  pub spot_key : (i : ℕ) → i < n → k < get_or ks i 0 → Passed f h j (held n l) i → insert_name f h j (held n l) ≡ put_at i j (held n l)
  spot_key i lt c q =
      let y : symbol_key f h j < symbol_key f h (get_or l i 0) = rw (d, key_at f h l ks n i lt room beside e) at c in
      spot_less f h j l n i Less (symbol_span f h j) refl lt room (sym (key_less f bytes (symbol_span f h j) (symbol_span f h (get_or l i 0)) y)) refl q

  passed_key : (i : ℕ) → i < n → get_or ks i 0 < k → Passed f h j (held n l) i → Passed f h j (held n l) (i + 1)
  passed_key i lt c q =
      let y : symbol_key f h (get_or l i 0) < symbol_key f h j = rw (d, key_at f h l ks n i lt room beside e) at c in
      spot_more f h j l n i Greater (symbol_span f h j) refl lt room (sym (key_greater f bytes (symbol_span f h j) (symbol_span f h (get_or l i 0)) y)) refl q

  passed_keys : (p t : ℕ) → p + t ≤ n → ((i : ℕ) → p ≤ i → i < p + t → get_or ks i 0 < k) → Passed f h j (held n l) p → Passed f h j (held n l) (p + t)
  passed_keys p zero fit lower q = let z : p + 0 ≡ p = omega arith in rw z q
  passed_keys p (suc t) fit lower q =
      let z : p + suc t ≡ p + t + 1 = omega arith in
      rw z (passed_key (p + t) (omega arith) (lower (p + t) (omega arith) (omega arith)) (passed_keys p t (omega arith) (λ i a b. lower i a (omega arith)) q))

  passed_skip : (p r : ℕ) → Passed f h j (held n l) p → Skipped ks n p k r → Passed f h j (held n l) r
  passed_skip p r q s =
      let a = s.low in
      let b = s.high in
      let z : p + (r - p) ≡ r = omega arith in
      rw z at (passed_keys p (r - p) (omega arith) (λ i x y. s.lower i x (omega arith)) q)

  pub spot_first : (r : ℕ) → Skipped ks n 0 k r → Passed f h j (held n l) r
  spot_first r s = passed_skip 0 r (spot_none f h j (held n l)) s

  pub spot_on : (i r : ℕ) (o : Ordering) (name : Span) → name ≡ symbol_span f h j → i < n → o ≡ name_order f h (span_text f name) (get_or l i 0) → o ≡ Greater
      → Passed f h j (held n l) i → Skipped ks n (i + 1) k r → Passed f h j (held n l) r
  spot_on i r o name is lt w g q s = passed_skip (i + 1) r (spot_more f h j l n i o name is lt room w g q) s

pub ruleset spot_keys = (spot_key, spot_first, spot_on, keys_rise)

-- ---- the lower number stays
module _ (l : List ℕ) (n p j : ℕ) (room : n < length l) (h : p < n) where
  in_held : p < length (take n l)
  in_held = rw (length-take-le n l (omega arith)) h

  pub lower_new : j < get_or l p 0 → held n (set l p j) ≡ lower_at p j (held n l)
  unfolding held lower_at
  lower_new k =
      let e : j ≡ min j (get_or (take n l) p 0) = rw (get_or-take n l p 0 h) (omega arith) in
      take-set-lt n l p j h ∙ set_split (take n l) p j in_held ∙ ap (λ (x : ℕ). take p (take n l) ++ x ∷ drop (suc p) (take n l)) e

  pub lower_old : get_or l p 0 ≤ j → held n l ≡ lower_at p j (held n l)
  unfolding held lower_at
  lower_old k =
      let e : get_or (take n l) p 0 ≡ min j (get_or (take n l) p 0) = rw (get_or-take n l p 0 h) (omega arith) in
      split_at (take n l) p 0 in_held ∙ ap (λ (x : ℕ). take p (take n l) ++ x ∷ drop (suc p) (take n l)) e

pub ruleset lowers = (lower_new, lower_old)

-- ---- room at p: m is l with what stands from q to n moved up by one; what m has at q is any
pub record Shifted (l : List ℕ) (n : ℕ) (m : List ℕ) (q : ℕ) : Type 0 where
  pub long : length m ≡ length l
  pub front : take q m ≡ take q l
  pub back : drop (suc q) m ≡ drop q (take n l) ++ drop (suc n) l

module _ (l : List ℕ) (n : ℕ) (room : n < length l) where
  here : length (take n l) ≡ n
  here = length-take-le n l (omega arith)

  -- as the library's copy leaves it
  pub shift_copied : (m : List ℕ) (p : ℕ) → p ≤ n → m ≡ copy_within l p n (p + 1) → Shifted l n m p
  shift_copied m p h e =
      let xs = take (p + 1) l in
      let ys = take (n - p) (drop p l) in
      let zs = drop (p + 1 + (n - p)) l in
      let size : length xs ≡ suc p = let z = length-take-le (p + 1) l (omega arith) in omega arith in
      let past : length (drop p l) ≡ length l - p = length-drop p l in
      let up : p + (n - p) ≡ n = omega arith in
      let behind : p + 1 + (n - p) ≡ suc n = omega arith in
      let moved : ys ≡ drop p (take n l) = rw up at (sym (drop-take p (n - p) l)) in
      record {
        long = ap length e ∙ length-paste l (p + 1) (drop p l) (n - p) (omega arith) (omega arith);
        front = ap (λ (k : List ℕ). take p k) e
            ∙ take-append-le p (xs ++ ys) zs (omega (arith, length-append xs ys))
            ∙ take-append-le p xs ys (omega arith)
            ∙ take-take p (p + 1) l (omega arith);
        back = ap (λ (k : List ℕ). drop (suc p) k) e
            ∙ ap (λ (k : List ℕ). drop (suc p) k) (append_assoc xs ys zs)
            ∙ drop_at xs (ys ++ zs) (suc p) size
            ∙ ap (λ (k : List ℕ). k ++ zs) moved
            ∙ ap (λ (i : ℕ). drop p (take n l) ++ drop i l) behind;
      }

  pub shift_end : (m : List ℕ) (j p q : ℕ) → q ≤ p → p ≤ q → p ≤ n → Shifted l n m q → held (n + 1) (set m p j) ≡ put_at p j (held n l)
  unfolding held put_at
  shift_end m j p q a b h s =
      let e : q ≡ p = omega arith in
      let t : Shifted l n m p = rw e at s in
      let in-m : p < length m = omega (arith, s.long) in
      let xs = take n l in
      let size : length (take p xs ++ j ∷ drop p xs) ≡ n + 1 =
      omega (arith, length-append (take p xs) (j ∷ drop p xs), length-take-le p xs (rw here h), length-drop p xs, here) in
      ap (λ (ys : List ℕ). take (n + 1) ys)
      (set_split m p j in-m
      ∙ ap (λ (ys : List ℕ). ys ++ j ∷ drop (suc p) m) (t.front ∙ sym (take-take p n l h))
      ∙ ap (λ (ys : List ℕ). take p xs ++ j ∷ ys) t.back
      ∙ sym (append_assoc (take p xs) (j ∷ drop p xs) (drop (suc n) l)))
      ∙ take_at (take p xs ++ j ∷ drop p xs) (drop (suc n) l) (n + 1) size

pub put_copied : (l m : List ℕ) (n p j : ℕ) → n < length l → p ≤ n → m ≡ copy_within l p n (p + 1) → held (n + 1) (set m p j) ≡ put_at p j (held n l)
put_copied l m n p j room h e = shift_end l n room m j p p (omega arith) (omega arith) h (shift_copied l n room m p h e)

-- ---- what the answer says
module _ (ys l : List ℕ) where
  pub holds_over : MAX_EXTERNS < length ys → Holds ys l None
  unfolding Holds
  holds_over k = k

  pub holds_count : (n : ℕ) → n ≤ MAX_EXTERNS → held n l ≡ ys → Holds ys l (Some n)
  unfolding Holds held
  holds_count n k e = (k, e)

  pub held_list : (r : Option ℕ) (n : ℕ) → Holds ys l r → r ≡ Some n → held n l ≡ ys
  unfolding held
  held_list r n q e = count_list ys l r q n e

-- ---- the search in halves: the n entries from lo have the answer
module _ (f : List ℕ) (h : Header) (name list : List ℕ) where
  halves_none : (turns lo n : ℕ) → n ≤ 0 → halves f h list name turns lo n ≡ None
  unfolding halves pick
  halves_none zero lo n k = refl
  halves_none (suc turns) lo n k = rw (eq-eqb n 0 (omega arith))

  -- more turns than entries change nothing
  halves_enough : (a b lo n : ℕ) → n ≤ a → n ≤ b → halves f h list name a lo n ≡ halves f h list name b lo n
  unfolding halves pick
  halves_enough zero b lo n p q = sym (halves_none b lo n p)
  halves_enough (suc a) zero lo n p q = halves_none (suc a) lo n q
  halves_enough (suc a) (suc b) lo n p q =
      ⊎_elim (λ z. rw (eq-eqb n 0 (omega arith)))
      (λ more.
      let l = halves_enough a b lo (n / 2) (omega arith) (omega arith) in
      let r = halves_enough a b (lo + n / 2 + 1) (n - n / 2 - 1) (omega arith) (omega arith) in
      rw (l, r))
      (le_or_lt n 0)

  -- a turn of the loop
  halves_turn : (lo n : ℕ) (o : Ordering) → 0 < n → o ≡ name_order f h name (get_or list (lo + n / 2) 0)
      → halves f h list name n lo n
      ≡ by_side o (halves f h list name (n / 2) lo (n / 2)) (Some (lo + n / 2)) (halves f h list name (n - n / 2 - 1) (lo + n / 2 + 1) (n - n / 2 - 1))
  unfolding halves pick
  halves_turn lo n o k e =
      let s : halves f h list name n lo n ≡ halves f h list name (suc n) lo n = halves_enough n (suc n) lo n (omega arith) (omega arith) in
      let l = halves_enough n (n / 2) lo (n / 2) (omega arith) (omega arith) in
      let r = halves_enough n (n - n / 2 - 1) (lo + n / 2 + 1) (n - n / 2 - 1) (omega arith) (omega arith) in
      rw (s, ne_eqb n 0 (λ z. omega arith), ← e, l, r)

  module _ (lo n : ℕ) (x : Option ℕ) (o : Ordering) (more : 0 < n) (e : o ≡ name_order f h name (get_or list (lo + n / 2) 0)) where
    pub half_left : o ≡ Less → halves f h list name n lo n ≡ x → halves f h list name (n / 2) lo (n / 2) ≡ x
    half_left t q = rw t at (sym (halves_turn lo n o more e)) ∙ q

    pub half_here : o ≡ Equal → halves f h list name n lo n ≡ x → Some (lo + n / 2) ≡ x
    half_here t q = rw t at (sym (halves_turn lo n o more e)) ∙ q

    pub half_right : o ≡ Greater → halves f h list name n lo n ≡ x → halves f h list name (n - n / 2 - 1) (lo + n / 2 + 1) (n - n / 2 - 1) ≡ x
    half_right t q = rw t at (sym (halves_turn lo n o more e)) ∙ q

  pub half_none : (lo n : ℕ) (x : Option ℕ) → n ≤ 0 → halves f h list name n lo n ≡ x → None ≡ x
  half_none lo n x k q = sym (halves_none n lo n k) ∙ q

-- ---- in a list that rises, with its keys
module _ (f : List ℕ) (h : Header) (list keys : List ℕ) (k : Keyed f h list keys) where
  -- the search finds the slot
  pub half_begin : (s : Span) (j : ℕ) → s ≡ symbol_span f h j → halves f h list (span_text f s) (length list) 0 (length list) ≡ slot_of f h list (symbol_text f h j)
  half_begin s j e = bisect_slot f h list (span_text f s) k.rising ∙ ap (λ (x : Span). slot_of f h list (span_text f x)) e

  -- no entry lacks a key
  beside : length list ≤ length keys
  beside = step_room f h list keys (length list) (omega arith) k.step

  -- the middle one has the key of its name
  module _ (lo n : ℕ) (more : 0 < n) (fit : lo + n ≤ length list) where
    pub half_room : lo + n / 2 < length keys
    half_room = omega (arith, beside)

    pub half_key : get_or keys (lo + n / 2) 0 ≡ symbol_key f h (get_or list (lo + n / 2) 0)
    half_key = key_at f h list keys (length list) (lo + n / 2) (omega arith) (omega arith) beside k.step

pub ruleset half_loop = (half_begin, half_left, half_here, half_right, half_none, half_room, half_key)

-- the order of a name and an entry, by their keys
module _ (f : List ℕ) (h : Header) (name : Span) (a x b : ℕ) (m : (i : ℕ) → Fits w8 (get_or f i 0)) (mine : a ≡ key KEY_BYTES (span_text f name)) (its : b ≡ symbol_key f h x) where
  entry_less : a < b → Less ≡ name_order f h (span_text f name) x
  entry_less c = sym (key_less f (λ i. let b = m i in omega arith) name (symbol_span f h x) (rw (mine, its) at c))

  entry_greater : b < a → Greater ≡ name_order f h (span_text f name) x
  entry_greater c = sym (key_greater f (λ i. let b = m i in omega arith) name (symbol_span f h x) (rw (mine, its) at c))

  pub entry_apart : (r : Ordering) → r ≡ nat_cmp a b → (r ≡ Equal → ⊥) → r ≡ name_order f h (span_text f name) x
  entry_apart r e n =
      ⊎_elim (λ c. rw (e, lt-ltb a b c) (entry_less c))
      (λ s. ⊎_elim (λ q. absurd (n (rw (e, le-ltb a b (omega arith), eq-eqb a b q))))
      (λ c. rw (e, le-ltb a b (omega arith), ne_eqb a b (λ z. omega arith)) (entry_greater c)) s)
      (three_ways a b)

-- ---- the slots into the codes
module _ (found : Option ℕ) where
  pub code_index : (e : ℕ) → found ≡ Some e → e % SPAN + SLOTS ≡ found_code found
  unfolding found_code
  code_index e q = rw q (omega arith)

  pub code_nothing : found ≡ None → NO_SLOT ≡ found_code found
  unfolding found_code
  code_nothing q = rw q

pub ruleset slot_codes = (code_index, code_nothing)

module _ (f : List ℕ) (h : Header) (slots : List ℕ) (j c : ℕ) (b : Bool) (is : b ≡ takes_slot c) where
  pub slot_taken : (x : Option ℕ) (r : ℕ) → b ≡ true → x ≡ slot_of f h slots (symbol_text f h j) → r ≡ found_code x → r ≡ slotted_code c (slot_of f h slots (symbol_text f h j))
  unfolding slotted_code pick
  slot_taken x r t q p = rw (← is, t, ← q) p

  pub slot_left : (r : ℕ) → b ≡ false → r ≡ settled c → r ≡ slotted_code c (slot_of f h slots (symbol_text f h j))
  unfolding slotted_code pick
  slot_left r t p = rw (← is, t) p

pub ruleset slot_ways = (slot_taken, slot_left)

pub slot_put : (f : List ℕ) (h : Header) (slots b b' : List ℕ) (j c x : ℕ) → x ≡ slotted_code c (slot_of f h slots (symbol_text f h j)) → c ≡ get_or b j 0
    → b' ≡ splice b j (x ∷ []) → b' ≡ splice b j (slotted_at f h slots b j ∷ [])
unfolding slotted_at
slot_put f h slots b b' j c x m r d = rw (← r, ← m) d

-- what is read is not written before
slots_same : (f : List ℕ) (h : Header) (slots l b : List ℕ) (j : ℕ) → b ≡ splice l 0 (slotted_to f h slots l j) → slotted_at f h slots b j ≡ slotted_at f h slots l j
unfolding slotted_at
slots_same f h slots l b j e =
    ap (λ (y : ℕ). slotted_code y (slot_of f h slots (symbol_text f h j)))
    (ap (λ (y : List ℕ). get_or y j 0) e ∙ splice_above l 0 (slotted_to f h slots l j) j (let z = length_list (slotted_at f h slots l) j in omega arith))

pub slots_again : (f : List ℕ) (h : Header) (slots l b b' : List ℕ) (j : ℕ) → b ≡ splice l 0 (slotted_to f h slots l j) → b' ≡ splice b j (slotted_at f h slots b j ∷ [])
    → b' ≡ splice l 0 (slotted_to f h slots l (j + 1))
slots_again f h slots l b b' j e d = fill_again (slotted_at f h slots l) l b b' j (slotted_at f h slots b j) e (slots_same f h slots l b j e) d

pub ruleset slots_loop = (fill_none, slots_again, fill_end)

-- ---- names that are known by an equation
pub same_by : (s t name : List ℕ) {r : Bool} → r ≡ are_same_bytes s name → s ≡ t → r ≡ are_same_bytes t name
same_by s t name p q = rw (← q) p

pub order_by : (f : List ℕ) (h : Header) (a s : Span) (x : ℕ) {r : Ordering} → r ≡ compare_bytes (span_text f a) (span_text f s) → s ≡ symbol_span f h x → r ≡ name_order f h (span_text f a) x
order_by f h a s x p q = rw (← q) p

-- ---- zeros behind the list
module _ (l : List ℕ) (from : ℕ) where
  pub clear_none : l ≡ splice l from (replicate (from - from) 0)
  unfolding splice
  clear_none = let e : from - from ≡ 0 = omega arith in rw e

  pub clear_again : (b c : List ℕ) (i : ℕ) → from ≤ i → b ≡ splice l from (replicate (i - from) 0) → c ≡ splice b i (0 ∷ []) → c ≡ splice l from (replicate (i + 1 - from) 0)
  clear_again b c i k e d =
      let n : i + 1 - from ≡ i - from + 1 = omega arith in
      let z : length {A = ℕ} (replicate (i - from) 0) ≡ i - from = length-replicate {A = ℕ} (i - from) 0 in
      let w : i ≡ from + length {A = ℕ} (replicate (i - from) 0) = omega arith in
      d ∙ ap (λ (m : List ℕ). splice m i (0 ∷ [])) e ∙ splice_next l from (replicate (i - from) 0) (0 ∷ []) i w
      ∙ ap (splice l from) (replicate-append-replicate {A = ℕ} (i - from) 1 0 ∙ ap (λ (m : ℕ). replicate {A = ℕ} m 0) (sym n))

  pub clear_end : (b : List ℕ) (i n : ℕ) → from ≤ i → i - from ≤ n - from → n ≤ i → n ≡ length l → b ≡ splice l from (replicate (i - from) 0) → b ≡ splice l from (replicate (length l - from) 0)
  clear_end b i n a k m q e = let z : i - from ≡ length l - from = omega arith in e ∙ ap (λ (j : ℕ). splice l from (replicate {A = ℕ} j 0)) z

pub ruleset clear_loop = (clear_none, clear_again, clear_end)

pub cleared : (l : List ℕ) (n : ℕ) → n ≤ length l → splice l n (replicate (length l - n) 0) ≡ take n l ++ replicate (length l - n) 0
unfolding splice
cleared l n k =
    let z : length {A = ℕ} (replicate (length l - n) 0) ≡ length l - n = length-replicate {A = ℕ} (length l - n) 0 in
    let w : n + length {A = ℕ} (replicate (length l - n) 0) ≡ length l = omega arith in
    sets-eq (replicate (length l - n) 0) l n (omega arith) ∙ rw (w, drop_of_length-le l (let y : length l ≤ length l = omega arith in y), append-nil)
