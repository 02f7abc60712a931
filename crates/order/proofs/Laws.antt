-- Eight bytes at a time, the ways through a comparison, and the key's loop. Assumes nothing.
use Rattle.std.proofs.Common.{Ordering, Less, Equal, Greater, nat_cmp}
use mathlib.Core.Path.{◌≡◌, refl, sym, ap, ◌∙◌}
use mathlib.Core.Bool.{Bool, true, false}
use mathlib.Core.List.{List, [], ◌∷◌}
use mathlib.Core.Logic.{⊎_elim}
use Prim.Native.Nat.{ℕ, zero, suc, ◌+◌, ◌-◌, ◌*◌, ◌/◌, ◌%◌, ◌^◌, ◌≤◌, ◌<◌, min}
use native.Mathlib.Nat.{add-mul, mul_assoc, pow-succ', pow-le-pow_right}
use native.Mathlib.Numerals.{add-one}
use native.Mathlib.Omega.{arith}
use borrow.Author.Tests.{lt-ltb, le-ltb, eq-eqb, ne_eqb, eqb-true, eqb-false}
use mir.Val.{Fits}
use mir.Syntax.{w8}
use lib.Bits.{bit_and, and_shr, and_mod, and_mask}
use lib.Dec.{eqb}
use lib.Seq.{get_or-take}
use lib.ListN.{length, get_or, take, drop, length-take, get_or-eq_default}
use Rattle.util.specs.Pick.{pick, yes_no, le_or_lt, three_ways, not_both}
use Rattle.le.specs.Le.{get, get_same, part, IsBytes}
use Rattle.names.specs.declared.Span.{Span}
use Rattle.names.specs.Bytes.{up_to_zero, compare_bytes}
use Rattle.names.specs.Name.{span_text}
use Rattle.names.specs.NameLaws.{text_next}
use Rattle.names.specs.OrderLaws.{compare_self}
use Rattle.order.specs.Key.{key, KEY_BYTES}
use Rattle.order.specs.Eights.{NoZeros, Clean, Alike, Ahead}

-- ---- no zero among the bytes of a number: the lowest would borrow
abbrev ones : ℕ → ℕ
ones zero = 0
ones (suc n) = 1 + 256 * ones n

abbrev highs : ℕ → ℕ
highs zero = 0
highs (suc n) = 128 + 256 * highs n

-- the highest bit of the lowest byte of y and c, under the mask
high_bit : (y c h : ℕ) → bit_and (bit_and y c) (128 + 256 * h) ≡ 0 → bit_and (y / 128 % 2) (c / 128 % 2) ≡ 0
high_bit y c h z =
    let w = bit_and y c in
    let m : (128 + 256 * h) / 128 % 2 ≡ 1 = omega arith in
    let p : bit_and w (128 + 256 * h) / 128 ≡ bit_and (w / 128) ((128 + 256 * h) / 128) = and_shr w (128 + 256 * h) 7 in
    let q : bit_and (w / 128) ((128 + 256 * h) / 128) % 2 ≡ bit_and (w / 128 % 2) ((128 + 256 * h) / 128 % 2) = and_mod (w / 128) ((128 + 256 * h) / 128) 1 in
    let o : bit_and (w / 128 % 2) 1 ≡ w / 128 % 2 % 2 = and_mask (w / 128 % 2) 1 in
    let t : bit_and (w / 128 % 2) ((128 + 256 * h) / 128 % 2) ≡ bit_and (w / 128 % 2) 1 = ap (bit_and (w / 128 % 2)) m in
    let u : w / 128 ≡ bit_and (y / 128) (c / 128) = and_shr y c 7 in
    let v : bit_and (y / 128) (c / 128) % 2 ≡ bit_and (y / 128 % 2) (c / 128 % 2) = and_mod (y / 128) (c / 128) 1 in
    omega arith

rest_bits : (y c h : ℕ) → bit_and (bit_and y c) (128 + 256 * h) ≡ 0 → bit_and (bit_and (y / 256) (c / 256)) h ≡ 0
rest_bits y c h z =
    let w = bit_and y c in
    let m : (128 + 256 * h) / 256 ≡ h = omega arith in
    let p : bit_and w (128 + 256 * h) / 256 ≡ bit_and (w / 256) ((128 + 256 * h) / 256) = and_shr w (128 + 256 * h) 8 in
    let u : w / 256 ≡ bit_and (y / 256) (c / 256) = and_shr y c 8 in
    let q : 0 / 256 ≡ bit_and (w / 256) ((128 + 256 * h) / 256) = rw z at p in
    sym (rw (u, m) at q)

top_bit : (y d : ℕ) → y ≡ 256 * d + 255 → y / 128 % 2 ≡ 1
top_bit y d e = let q : y / 128 ≡ 2 * d + 1 = omega arith in rw q (omega arith)

-- one byte: it is not zero, and of what stands above it the same holds
record Byte (x p o h : ℕ) : Type 0 where
  low : 0 < x % 256
  fits : x / 256 < p
  room : o ≤ x / 256
  above : bit_and (bit_and (x / 256 - o) (p - 1 - x / 256)) h ≡ 0

module _ (x p o h : ℕ) (a : x < 256 * p) (b : 1 + 256 * o ≤ x) where
  y_above : 0 < x % 256 → (x - (1 + 256 * o)) / 256 ≡ x / 256 - o
  y_above l = omega arith

  c_above : (256 * p - 1 - x) / 256 ≡ p - 1 - x / 256
  c_above = omega arith

  y_top : x % 256 ≤ 0 → (x - (1 + 256 * o)) / 128 % 2 ≡ 1
  y_top l = top_bit (x - (1 + 256 * o)) (x / 256 - o - 1) (omega arith)

  c_top : x % 256 ≤ 0 → (256 * p - 1 - x) / 128 % 2 ≡ 1
  c_top l = top_bit (256 * p - 1 - x) (p - 1 - x / 256) (omega arith)

  module _ (z : bit_and (bit_and (x - (1 + 256 * o)) (256 * p - 1 - x)) (128 + 256 * h) ≡ 0) where
    not_low : x % 256 ≤ 0 → ⊥
    not_low l =
        let bits = high_bit (x - (1 + 256 * o)) (256 * p - 1 - x) h z in
        let one : bit_and 1 1 ≡ 0 = rw (y_top l, c_top l) at bits in
        omega arith

    lowest : Byte x p o h
    lowest =
        let l : 0 < x % 256 = ⊎_elim (λ q. absurd (not_low q)) (λ q. q) (le_or_lt (x % 256) 0) in
        record {
          low = l;
          fits = omega arith;
          room = omega arith;
          above = rw (y_above l, c_above) at (rest_bits (x - (1 + 256 * o)) (256 * p - 1 - x) h z);
        }

no_zeros : (n x : ℕ) → x < 256 ^ n → ones n ≤ x → bit_and (bit_and (x - ones n) (256 ^ n - 1 - x)) (highs n) ≡ 0 → NoZeros n x
unfolding NoZeros
no_zeros zero x a b z = tt
no_zeros (suc n) x a b z =
    let e : 256 ^ suc n ≡ 256 * 256 ^ n = pow-succ' 256 n in
    let s = lowest x (256 ^ n) (ones n) (highs n) (rw e at a) b (rw e at z) in
    (s.low, no_zeros n (x / 256) s.fits s.room s.above)

pub clean_no : (x : ℕ) → Clean x false
clean_no x = record { clean = λ t. not_both false t refl }

pub clean_by : (x : ℕ) → x < 2 ^ 64 → 0x0101010101010101 ≤ x → Clean x (eqb (bit_and (bit_and (x - 0x0101010101010101) (0xFFFFFFFFFFFFFFFF - x)) 0x8080808080808080) 0)
clean_by x a b = record { clean = λ e. no_zeros 8 x a b (eqb-true _ 0 e) }

pub ruleset cleans = (clean_no, clean_by)

-- ---- the next byte of both, a zero where a text ends
module _ (x y : ℕ) (xs ys : List ℕ) where
  next_less : x < y → compare_bytes (pick (eqb x 0) [] (x ∷ xs)) (pick (eqb y 0) [] (y ∷ ys)) ≡ Less
  unfolding compare_bytes pick
  next_less h =
      ⊎_elim (λ (e : eqb x 0 ≡ true). rw (e, ne_eqb y 0 (λ z. omega arith)))
      (λ (e : eqb x 0 ≡ false). rw (e, ne_eqb y 0 (λ z. omega arith), lt-ltb x y h))
      (yes_no (eqb x 0))

  next_greater : y < x → compare_bytes (pick (eqb x 0) [] (x ∷ xs)) (pick (eqb y 0) [] (y ∷ ys)) ≡ Greater
  unfolding compare_bytes pick
  next_greater h =
      ⊎_elim (λ (e : eqb y 0 ≡ true). rw (e, ne_eqb x 0 (λ z. omega arith)))
      (λ (e : eqb y 0 ≡ false). rw (e, ne_eqb x 0 (λ z. omega arith), le-ltb x y (omega arith), lt-ltb y x h))
      (yes_no (eqb y 0))

  next_end : x ≡ 0 → y ≡ 0 → compare_bytes (pick (eqb x 0) [] (x ∷ xs)) (pick (eqb y 0) [] (y ∷ ys)) ≡ Equal
  unfolding compare_bytes pick
  next_end e d = rw (eq-eqb x 0 e, eq-eqb y 0 d)

  next_same : x ≡ y → 0 < x → compare_bytes (pick (eqb x 0) [] (x ∷ xs)) (pick (eqb y 0) [] (y ∷ ys)) ≡ compare_bytes xs ys
  unfolding compare_bytes pick
  next_same e h = rw (ne_eqb x 0 (λ z. omega arith), ne_eqb y 0 (λ z. omega arith), le-ltb x y (omega arith), le-ltb y x (omega arith))

abbrev Left : List ℕ → List ℕ → ℕ → Ordering
Left a b i = compare_bytes (up_to_zero (drop i a)) (up_to_zero (drop i b))

module _ (a b : List ℕ) (i : ℕ) where
  next : Left a b i
      ≡ compare_bytes (pick (eqb (get_or a i 0) 0) [] (get_or a i 0 ∷ up_to_zero (drop (suc i) a))) (pick (eqb (get_or b i 0) 0) [] (get_or b i 0 ∷ up_to_zero (drop (suc i) b)))
  next = ap (λ (s : List ℕ). compare_bytes s (up_to_zero (drop i b))) (text_next a i) ∙ ap (compare_bytes _) (text_next b i)

  left_same : get_or a i 0 ≡ get_or b i 0 → 0 < get_or a i 0 → Left a b (suc i) ≡ Left a b i
  left_same e h = sym (next ∙ next_same _ _ _ _ e h)

-- ---- eight bytes at a time
left_on : (n : ℕ) (a b : List ℕ) (i : ℕ) → IsBytes a → IsBytes b → get n a i ≡ get n b i → NoZeros n (get n a i) → Left a b (i + n) ≡ Left a b i
unfolding get NoZeros
left_on zero a b i p q e c = let z : i + 0 ≡ i = omega arith in rw z
left_on (suc n) a b i p q e c =
    let x = p i in
    let y = q i in
    let low = c.0 in
    let same : get_or a i 0 ≡ get_or b i 0 = omega arith in
    let rest : get n a (suc i) ≡ get n b (suc i) = omega arith in
    let some : 0 < get_or a i 0 = omega arith in
    let d : (get_or a i 0 + 256 * get n a (suc i)) / 256 ≡ get n a (suc i) = omega arith in
    let z : i + suc n ≡ suc i + n = omega arith in
    rw z (left_on n a b (suc i) p q rest (rw d at c.1) ∙ left_same a b i same some)

-- what the code knows of a `&[u8]` by itself
abbrev Known : List ℕ → Type 0
Known s = (i : ℕ) → Fits w8 (get_or s i 0)

known : (s : List ℕ) → Known s → IsBytes s
known s m i = let h = m i in omega arith

module _ (a b : List ℕ) (i : ℕ) where
  pub alike_yes : (x y : ℕ) (r : Bool) → Clean x r → x ≡ get 8 a i → y ≡ get 8 b i → x ≡ y → Alike a b i r
  alike_yes x y r c p q e = record { same = λ t. sym p ∙ e ∙ q; clean = λ t. rw p at (c.clean t) }

  pub alike_no : Alike a b i false
  alike_no = record { same = λ t. not_both false t refl; clean = λ t. not_both false t refl }

pub ruleset alikes = (alike_yes, alike_no)

get_part : (n : ℕ) (l : List ℕ) (i : ℕ) → 7 < n - i → get 8 (take n l) i ≡ get 8 l i
get_part n l i h = get_same 8 (take n l) l i i (λ k p. get_or-take n l (i + k) 0 (omega arith))

module _ (a b : List ℕ) where
  pub count_first : (n : ℕ) → n ≡ min (length a) (length b) → n ≡ length (take n a)
  count_first n e = rw (length-take n a) (omega arith)

  pub count_second : (n : ℕ) → n ≡ min (length a) (length b) → n ≡ length (take n b)
  count_second n e = rw (length-take n b) (omega arith)

  pub ahead_none : Ahead a b 0
  ahead_none = record { on = refl }

  pub ahead_more : (n i : ℕ) (r : Bool) → Alike (take n a) (take n b) i r → r ≡ true → 7 < n - i → Ahead a b i
      → ((i : ℕ) → Fits w8 (get_or a i 0)) → ((i : ℕ) → Fits w8 (get_or b i 0)) → Ahead a b (i + 8)
  ahead_more n i r c t h on m k =
      let u = get_part n a i h in
      record { on = left_on 8 a b i (known a m) (known b k) (sym u ∙ c.same t ∙ get_part n b i h) (rw u at (c.clean t)) ∙ on.on }

pub ruleset ahead_loop = (count_first, count_second, ahead_none, ahead_more)

-- ---- and byte by byte
module _ (a b : List ℕ) (i y : ℕ) (k : Ahead a b i) (is : y ≡ get_or b i 0) where
  text_less : get_or a i 0 < y → Less ≡ compare_bytes (up_to_zero a) (up_to_zero b)
  text_less h = sym (next a b i ∙ next_less _ _ _ _ (rw is at h)) ∙ k.on

  text_greater : y < get_or a i 0 → Greater ≡ compare_bytes (up_to_zero a) (up_to_zero b)
  text_greater h = sym (next a b i ∙ next_greater _ _ _ _ (rw is at h)) ∙ k.on

  pub text_equal : get_or a i 0 ≡ y → get_or a i 0 ≡ 0 → Equal ≡ compare_bytes (up_to_zero a) (up_to_zero b)
  text_equal h e = let z : get_or b i 0 ≡ 0 = omega arith in sym (next a b i ∙ next_end _ _ _ _ e z) ∙ k.on

  pub text_apart : (r : Ordering) → r ≡ nat_cmp (get_or a i 0) y → (get_or a i 0 ≡ y → ⊥) → r ≡ compare_bytes (up_to_zero a) (up_to_zero b)
  text_apart r e n =
      ⊎_elim (λ h. rw (e, lt-ltb (get_or a i 0) y h) (text_less h))
      (λ h.
      ⊎_elim (λ q. absurd (n q))
      (λ g. rw (e, le-ltb (get_or a i 0) y (omega arith), ne_eqb (get_or a i 0) y n) (text_greater g))
      h)
      (three_ways (get_or a i 0) y)

  pub text_more : get_or a i 0 ≡ y → (get_or a i 0 ≡ 0 → ⊥) → Ahead a b (i + 1)
  text_more h n =
      let same : get_or a i 0 ≡ get_or b i 0 = omega arith in
      let some : 0 < get_or a i 0 = omega arith in
      rw add-one (record { on = left_same a b i same some ∙ k.on })

-- where the first text is at its end, the second goes on or is at its end too
pub text_end : (a b : List ℕ) (i y : ℕ) (r : Ordering) → Ahead a b i → y ≡ get_or b (length a) 0 → r ≡ nat_cmp 0 y → length a ≤ i → i ≤ length a → r ≡ compare_bytes (up_to_zero a) (up_to_zero b)
text_end a b i y r k is e h j =
    let n : length a ≡ i = omega arith in
    let q : y ≡ get_or b i 0 = rw n at is in
    let z : get_or a i 0 ≡ 0 = get_or-eq_default a 0 {n = i} h in
    ⊎_elim (λ o. let y0 : y ≡ 0 = eqb-true y 0 o in rw (e, y0) (text_equal a b i y k q (z ∙ sym y0) z))
    (λ o. text_apart a b i y k q r (rw z e) (λ d. eqb-false y 0 o (sym d ∙ z)))
    (yes_no (eqb y 0))

pub ruleset text_loop = (text_equal, text_apart, text_more, text_end)

-- ---- of spans
module _ (f : List ℕ) (a b : Span) where
  pub spans_same : a.at ≡ b.at → a.most ≡ b.most → Equal ≡ compare_bytes (span_text f a) (span_text f b)
  spans_same e d = rw (e, d) (sym (compare_self (span_text f b)))

  pub spans_by : (s t : List ℕ) (r : Ordering) → r ≡ compare_bytes (up_to_zero s) (up_to_zero t) → s ≡ part f a.at a.most → t ≡ part f b.at b.most
      → r ≡ compare_bytes (span_text f a) (span_text f b)
  spans_by s t r p e d = rw (← e, ← d) p

pub key_by : (f : List ℕ) (a : Span) (s : List ℕ) (r : ℕ) → r ≡ key KEY_BYTES (up_to_zero s) → s ≡ part f a.at a.most → r ≡ key KEY_BYTES (span_text f a)
key_by f a s r p e = rw (← e) p

pub ruleset span_ways = (spans_same, spans_by)

-- ---- the key, with i of its bytes read: what they say, and what is left from `at` on
key_none : (k : ℕ) → key k [] ≡ 0
unfolding key
key_none zero = refl
key_none (suc k) = refl

module _ (k at : ℕ) (s : List ℕ) where
  key_end : get_or s at 0 ≡ 0 → key (suc k) (up_to_zero (drop at s)) ≡ key k (up_to_zero (drop at s))
  unfolding pick
  key_end e = let z = eq-eqb (get_or s at 0) 0 e in let d : up_to_zero (drop at s) ≡ [] = rw z at (text_next s at) in rw (d, key_none k, key_none (suc k))

  key_next : (get_or s at 0 ≡ 0 → ⊥) → key (suc k) (up_to_zero (drop at s)) ≡ get_or s at 0 * 256 ^ k + key k (up_to_zero (drop (suc at) s))
  unfolding key pick
  key_next n = rw (text_next s at, ne_eqb _ 0 n)

pub record Read (s : List ℕ) (i at sum : ℕ) : Type 0 where
  pub few : i ≤ 8
  pub short : at ≤ i
  pub small : sum < 256 ^ i
  pub left : sum * 256 ^ (8 - i) + key (8 - i) (up_to_zero (drop at s)) ≡ key 8 (up_to_zero s)

module _ (s : List ℕ) where
  pub read_none : Read s 0 0 0
  read_none = record { few = omega arith; short = omega arith; small = omega arith; left = omega arith }

  module _ (i at sum : ℕ) (r : Read s i at sum) (h : i < 8) where
    pub read_room : sum < 2 ^ 56
    read_room =
        let p : 256 ^ i ≤ 256 ^ 7 = pow-le-pow_right {n = 256} (omega arith) {i = i} {j = 7} (omega arith) in
        let q = r.small in
        omega arith

    module _ (b next : ℕ) (e : b ≡ get_or s at 0) (l : b < 256) (is : next ≡ sum * 256 + b) where
      pub read_more : (b ≡ 0 → ⊥) → Read s (i + 1) (at + 1) next
      read_more n =
          let small = r.small in
          let short = r.short in
          let m : 8 - i ≡ suc (8 - suc i) = omega arith in
          let k = key_next (8 - suc i) at s (λ z. n (e ∙ z)) in
          let q = rw (m, k, ← e, pow-succ', ← mul_assoc) at r.left in
          rw (add-one, add-one, is) (record { few = h; short = omega arith; small = rw pow-succ' (omega arith); left = rw add-mul (omega arith) })

      pub read_zero : b ≡ 0 → Read s (i + 1) at next
      read_zero z =
          let small = r.small in
          let short = r.short in
          let m : 8 - i ≡ suc (8 - suc i) = omega arith in
          let k = key_end (8 - suc i) at s (sym e ∙ z) in
          let q = rw (m, k, pow-succ', ← mul_assoc) at r.left in
          let y : next ≡ sum * 256 = omega arith in
          rw (add-one, y) (record { few = h; short = omega arith; small = rw pow-succ' (omega arith); left = q })

  pub read_end : (i at sum : ℕ) → Read s i at sum → 8 ≤ i → sum ≡ key 8 (up_to_zero s)
  unfolding key
  read_end i at sum r h = let few = r.few in let e : i ≡ 8 = omega arith in let q = rw e at r.left in omega arith

pub ruleset read_loop = (read_none, read_room, read_more, read_zero, read_end)
