-- How the characters of a name follow one another. Assumes nothing.
use Rattle.std.specs.Prelude.{◌≡◌, Bool, ◌||◌, List, [], ◌∷◌, ◌⊎◌, leb, length}
use Rattle.std.proofs.Math.Path.{refl, sym, ap}
use Rattle.std.proofs.Common.{◌∙◌, inl, inr, eq-or-lt_of_le, length-drop, get_or-drop, drop-drop}
use Rattle.std.proofs.Math.Bool.{true, false}
use Rattle.std.proofs.Math.Logic.{⊎_elim}
use Prim.Native.Nat.{ℕ, zero, suc, ◌+◌, ◌-◌, ◌≤◌, ◌<◌}
use native.Mathlib.Omega.{arith}
use borrow.Author.Tests.{leb-true, le-leb, lt-leb, eq-eqb, ne_eqb}
use Rattle.std.proofs.Math.Dec.{eqb}
use Rattle.std.proofs.Math.ListN.{get_or, take, drop, get_or-eq_default}
use Rattle.std.proofs.Math.Seq.{take-nil}
use Rattle.util.specs.Pick.{pick, yes_no, le_or_lt, not_both, and_left, and_right}
use Rattle.le.specs.Le.{part, part_at, part_most}
use Rattle.utf8.specs.Utf8.{holds, TAIL, long_rows, long_length}
use Rattle.utf8.specs.CharLaws.{Tail, LongChar, long_char, length_take as Front-length}
use Rattle.chars.specs.Chars.{visible, char_at, walk_to, walk, stop}

-- ---- a character
pub record Visible (b : ℕ) : Type 0 where
  pub low : 0x21 ≤ b
  pub high : b ≤ 0x7E

pub visible_byte : (b : ℕ) → visible b ≡ true → Visible b
visible_byte b e =
    record {
      low = leb-true 0x21 b (and_left (leb 0x21 b) (leb b 0x7E) e);
      high = leb-true b 0x7E (and_right (leb 0x21 b) (leb b 0x7E) e);
    }

-- the bytes from i to r are visible, and r is not behind e
pub record VisibleTo (t : List ℕ) (i e r : ℕ) : Type 0 where
  pub behind : i ≤ r
  pub before : r ≤ e
  pub seen : (k : ℕ) → i ≤ k → k < r → visible (get_or t k 0) ≡ true

-- and a byte at r that is before e is not
pub record VisibleRun (t : List ℕ) (i e r : ℕ) : Type 0 where
  pub visible_to : VisibleTo t i e r
  pub ends : r < e → visible (get_or t r 0) ≡ false

-- n bytes from i on are one: those behind the first are tails, and the first is none, nor a zero
pub record IsChar (t : List ℕ) (i n : ℕ) : Type 0 where
  pub least : 1 ≤ n
  pub most : n ≤ 4
  pub within : i + n ≤ length t
  pub first : holds TAIL (get_or t i 0) ≡ false
  pub some : 0x21 ≤ get_or t i 0
  pub fine : get_or t i 0 ≡ 0x7F → ⊥
  pub tails : (k : ℕ) → i < k → k < i + n → Tail (get_or t k 0)

no_tail : (b : ℕ) → (b < 0x80) ⊎ (0xBF < b) → holds TAIL b ≡ false
no_tail b h = ⊎_elim (λ (l : b < 0x80). rw (lt-leb 0x80 b l)) (λ (l : 0xBF < b). rw (le-leb 0x80 b (omega arith), lt-leb b 0xBF l)) h

inside : (t : List ℕ) (i : ℕ) → 0 < get_or t i 0 → i < length t
inside t i h = ⊎_elim (λ (p : length t ≤ i). let z = get_or-eq_default t 0 {n = i} p in absurd (omega arith)) (λ (p : i < length t). p) (le_or_lt (length t) i)

module _ (section : Bool) (t : List ℕ) where
  one_char : (i n : ℕ) → visible (get_or t i 0) ≡ true → n ≡ 1 → IsChar t i n
  one_char i n v e =
      let b = visible_byte (get_or t i 0) v in
      let l = b.low in
      let h = b.high in
      let w = inside t i (omega arith) in
      record {
        least = omega arith;
        most = omega arith;
        within = omega arith;
        first = no_tail (get_or t i 0) (inl (omega arith));
        some = l;
        fine = λ z. omega arith;
        tails = λ k a c. absurd (omega arith);
      }

  more_chars : (i n : ℕ) → LongChar (drop i t) n → IsChar t i n
  more_chars i n c =
      let z : i + 0 ≡ i = omega arith in
      let f : 0xC2 ≤ get_or t i 0 = rw (get_or-drop i t 0 0, z) at c.first in
      let w : n ≤ length t - i = rw (length-drop i t) at c.within in
      let l = c.least in
      record {
        least = omega arith;
        most = c.most;
        within = omega arith;
        first = no_tail (get_or t i 0) (inr (omega arith));
        some = omega arith;
        fine = λ z. omega arith;
        tails = λ k a b.
            let e : i + (k - i) ≡ k = omega arith in
            rw (get_or-drop i t (k - i) 0, e) at (c.tails (k - i) (omega arith) (omega arith));
      }

  pub is_char : (i n : ℕ) → char_at section t i ≡ suc n → IsChar t i (suc n)
  unfolding char_at pick
  is_char i n e =
      ⊎_elim (λ (v : visible (get_or t i 0) ≡ true). let q : 1 ≡ suc n = rw v at e in one_char i (suc n) v (sym q))
      (λ (v : visible (get_or t i 0) ≡ false). by_whose section (rw v at e))
      (yes_no (visible (get_or t i 0)))
    where
      by_whose : (b : Bool) → pick b 0 (long_length (drop i t)) ≡ suc n → IsChar t i (suc n)
      by_whose true q = absurd (omega arith)
      by_whose false q = more_chars i (suc n) (long_char (drop i t) n q)

  -- where there is none
  pub no_char : (i : ℕ) → ((n : ℕ) → IsChar t i (suc n) → ⊥) → char_at section t i ≡ 0
  no_char i f = by_length (char_at section t i) refl
    where
      by_length : (c : ℕ) → char_at section t i ≡ c → char_at section t i ≡ 0
      by_length zero e = e
      by_length (suc n) e = absurd (f n (is_char i n e))

  -- a byte that is not visible begins one only from C2 on
  pub low_no_char : (i : ℕ) → visible (get_or t i 0) ≡ false → get_or t i 0 < 0xC2 → char_at section t i ≡ 0
  unfolding char_at pick
  low_no_char i v l = rw v (by_whose section (long_length (drop i t)) refl)
    where
      by_whose : (b : Bool) (n : ℕ) → long_length (drop i t) ≡ n → pick b 0 (long_length (drop i t)) ≡ 0
      by_whose true n e = refl
      by_whose false zero e = e
      by_whose false (suc n) e =
          let z : i + 0 ≡ i = omega arith in
          let f : 0xC2 ≤ get_or t i 0 = rw (get_or-drop i t 0 0, z) at (long_char (drop i t) n e).first in
          absurd (omega arith)

  pub tail_no_char : (i : ℕ) → holds TAIL (get_or t i 0) ≡ true → char_at section t i ≡ 0
  tail_no_char i e = no_char i (λ n c. not_both (holds TAIL (get_or t i 0)) e c.first)

  pub zero_no_char : (i : ℕ) → get_or t i 0 ≡ 0 → char_at section t i ≡ 0
  zero_no_char i e = no_char i (λ n c. let s = c.some in absurd (omega arith))

  pub past_no_char : (i : ℕ) → length t ≤ i → char_at section t i ≡ 0
  past_no_char i h = zero_no_char i (get_or-eq_default t 0 {n = i} h)

  -- ---- one step
  module _ (e i : ℕ) where
    on : (n c : ℕ) → i < e → char_at section t i ≡ suc c → walk_to section t e i (suc n) ≡ walk_to section t e (i + suc c) n
    unfolding walk_to pick
    on n c h q = rw (lt-leb e i h, q, ne_eqb (suc c) 0 (λ z. omega arith))

    off : (n : ℕ) → (e ≤ i) ⊎ (char_at section t i ≡ 0) → walk_to section t e i n ≡ i
    unfolding walk_to pick
    off zero s = refl
    off (suc n) s = ⊎_elim (λ (h : e ≤ i). rw (le-leb e i h)) (λ (q : char_at section t i ≡ 0). by_order_lem (leb e i) (rw (eq-eqb (char_at section t i) 0 q))) s
      where
        by_order_lem : (b : Bool) → eqb (char_at section t i) 0 ≡ true → pick (b || eqb (char_at section t i) 0) i (walk_to section t e (i + char_at section t i) n) ≡ i
        by_order_lem true z = refl
        by_order_lem false z = rw z

    -- which it is
    ways : (P : Type 0) → ((e ≤ i) ⊎ (char_at section t i ≡ 0) → P) → ((c : ℕ) → i < e → char_at section t i ≡ suc c → P) → P
    ways P f g = ⊎_elim (λ (h : e ≤ i). f (inl h)) (λ (h : i < e). by_length h (char_at section t i) refl) (le_or_lt e i)
      where
        by_length : i < e → (c : ℕ) → char_at section t i ≡ c → P
        by_length h zero q = f (inr q)
        by_length h (suc c) q = g c h q

  -- enough is enough
  same_walk : (e n m i : ℕ) → e - i ≤ n → e - i ≤ m → walk_to section t e i n ≡ walk_to section t e i m
  unfolding walk_to
  same_walk e zero m i a b = sym (off e i m (inl (omega arith)))
  same_walk e (suc n) zero i a b = off e i (suc n) (inl (omega arith))
  same_walk e (suc n) (suc m) i a b =
      ways e i _ (λ s. off e i (suc n) s ∙ sym (off e i (suc m) s))
      (λ c h q. on e i n c h q ∙ same_walk e n m (i + suc c) (omega arith) (omega arith) ∙ sym (on e i m c h q))

  pub walk_off : (e i : ℕ) → (e ≤ i) ⊎ (char_at section t i ≡ 0) → walk section t e i ≡ i
  walk_off e i s = off e i (e - i) s

  pub walk_on : (e i c : ℕ) → i < e → char_at section t i ≡ suc c → walk section t e (i + suc c) ≡ walk section t e i
  walk_on e i c h q = same_walk e (e - (i + suc c)) (e - i - 1) (i + suc c) (omega arith) (omega arith) ∙ sym (on e i (e - i - 1) c h q) ∙ same_walk e (suc (e - i - 1)) (e - i) i (omega arith) (omega arith)

  -- along the characters from i on
  pub along : (e : ℕ) (P : ℕ → Type 0) → ((i : ℕ) → (e ≤ i) ⊎ (char_at section t i ≡ 0) → P i) → ((i c : ℕ) → i < e → char_at section t i ≡ suc c → P (i + suc c) → P i) → (i : ℕ) → P i
  along e P f g i = go (e - i) i (omega arith)
    where
      go : (n i : ℕ) → e - i ≤ n → P i
      go zero i a = f i (inl (omega arith))
      go (suc n) i a = ways e i (P i) (λ s. f i s) (λ c h q. g i c h q (go n (i + suc c) (omega arith)))

  -- ---- what a walk is
  module _ (e : ℕ) where
    pub walk_least : (i : ℕ) → i ≤ walk section t e i
    walk_least = along e (λ i. i ≤ walk section t e i) (λ i s. rw (walk_off e i s) (omega arith)) (λ i c h q r. let w = walk_on e i c h q in omega arith)

    -- it ends where no character begins, or not before e
    pub walk_ends : (i : ℕ) → (e ≤ walk section t e i) ⊎ (char_at section t (walk section t e i) ≡ 0)
    walk_ends =
        along e (λ i. (e ≤ walk section t e i) ⊎ (char_at section t (walk section t e i) ≡ 0)) (λ i s. rw (walk_off e i s) s)
        (λ i c h q r. rw (walk_on e i c h q) at r)

    -- within the table
    pub walk_within : (i : ℕ) → i ≤ length t → walk section t e i ≤ length t
    walk_within =
        along e (λ i. i ≤ length t → walk section t e i ≤ length t) (λ i s l. rw (walk_off e i s) l)
        (λ i c h q r l. rw (walk_on e i c h q) at (r (is_char i c q).within))

    -- on its way a byte that is no tail begins a character
    pub walk_same : (i k : ℕ) → i ≤ k → k ≤ walk section t e i → holds TAIL (get_or t k 0) ≡ false → walk section t e k ≡ walk section t e i
    walk_same i k =
        along e (λ i. i ≤ k → k ≤ walk section t e i → holds TAIL (get_or t k 0) ≡ false → walk section t e k ≡ walk section t e i)
        (λ i s a b n. let w = walk_off e i s in let z : k ≡ i = omega arith in rw z)
        (λ i c h q r a b n.
        let w = walk_on e i c h q in
        ⊎_elim (λ (z : i ≡ k). rw z)
        (λ (l : i < k).
        ⊎_elim (λ (p : i + suc c ≤ k). r p (omega arith) n ∙ w)
        (λ (p : k < i + suc c). let x = (is_char i c q).tails k l p in let u = x.low in let v = x.high in not_both (holds TAIL (get_or t k 0)) (rw (le-leb 0x80 (get_or t k 0) u, le-leb (get_or t k 0) 0xBF v)) n)
        (le_or_lt (i + suc c) k))
        (eq-or-lt_of_le a))
        i

  -- what may lie between e and the end of a walk that began before: no more than three bytes, tails all
  pub record Over (e s : ℕ) : Type 0 where
    pub few : s ≤ e + 3
    pub tails : (k : ℕ) → e ≤ k → k < s → holds TAIL (get_or t k 0) ≡ true

  pub walk_over : (e i : ℕ) → i ≤ e → Over e (walk section t e i)
  walk_over e =
      along e (λ i. i ≤ e → Over e (walk section t e i))
      (λ i s a. rw (walk_off e i s) (record { few = omega arith; tails = λ k b c. absurd (omega arith) }))
      (λ i c h q r a.
      ⊎_elim (λ (p : i + suc c ≤ e). rw (walk_on e i c h q) at (r p))
      (λ (p : e < i + suc c).
      let x = is_char i c q in
      let m = x.most in
      rw (← walk_on e i c h q, walk_off e (i + suc c) (inl (omega arith)))
      (record {
        few = omega arith;
        tails = λ k b d. let y = x.tails k (omega arith) d in let u = y.low in let v = y.high in rw (le-leb 0x80 (get_or t k 0) u, le-leb (get_or t k 0) 0xBF v);
      }))
      (le_or_lt (i + suc c) e))

  -- ---- walks one behind the other
  pub walk_far : (e d i : ℕ) → e ≤ d → walk section t d (walk section t e i) ≡ walk section t d i
  walk_far e d i l =
      along e (λ i. walk section t d (walk section t e i) ≡ walk section t d i) (λ i s. ap (walk section t d) (walk_off e i s))
      (λ i c h q r. ap (walk section t d) (sym (walk_on e i c h q)) ∙ r ∙ walk_on d i c (omega arith) q)
      i

  -- at a stop there is no character
  pub stop_ends : (i : ℕ) → char_at section t (stop section t i) ≡ 0
  stop_ends i = ⊎_elim (λ (h : length t ≤ stop section t i). past_no_char (stop section t i) h) (λ q. q) (walk_ends (length t) i)

  -- past the table's end nothing begins
  pub walk_past : (e i : ℕ) → length t ≤ e → walk section t e i ≡ stop section t i
  walk_past e i l = sym (walk_far (length t) e i l) ∙ walk_off e (stop section t i) (inr (stop_ends i))

  -- where a walk up to e ends before e, or elsewhere without a character, it stops
  pub stop_behind_lem : (e i : ℕ) → stop section t (walk section t e i) ≡ stop section t i
  stop_behind_lem e i =
      ⊎_elim (λ (l : e ≤ length t). walk_far e (length t) i l)
      (λ (l : length t < e). rw (walk_past e i (omega arith)) (walk_off (length t) (stop section t i) (inr (stop_ends i))))
      (le_or_lt e (length t))

  pub stop_here : (e i : ℕ) → char_at section t (walk section t e i) ≡ 0 → stop section t i ≡ walk section t e i
  stop_here e i q = sym (stop_behind_lem e i) ∙ walk_off (length t) (walk section t e i) (inr q)

  pub stop_before : (e i : ℕ) → walk section t e i < e → stop section t i ≡ walk section t e i
  stop_before e i l = stop_here e i (⊎_elim (λ (h : e ≤ walk section t e i). absurd (omega arith)) (λ q. q) (walk_ends e i))

  -- one-byte characters, one behind the other
  pub walk_visible : (e d i : ℕ) → i + d ≤ e → ((k : ℕ) → i ≤ k → k < i + d → visible (get_or t k 0) ≡ true) → walk section t e (i + d) ≡ walk section t e i
  unfolding char_at pick
  walk_visible e zero i l v = let z : i + 0 ≡ i = omega arith in rw z
  walk_visible e (suc d) i l v =
      let y : visible (get_or t i 0) ≡ true = v i (omega arith) (omega arith) in
      let q : char_at section t i ≡ 1 = rw y in
      let z : i + suc d ≡ i + 1 + d = omega arith in
      rw z (walk_visible e d (i + 1) (omega arith) (λ k a b. v k (omega arith) (omega arith)) ∙ walk_on e i 0 (omega arith) q)

-- ---- in a part that ends before a zero
pub drop_front : (k n : ℕ) (l : List ℕ) → drop k (take n l) ≡ take (n - k) (drop k l)
drop_front zero n l = let z : n - 0 ≡ n = omega arith in rw z
drop_front (suc k) zero l = let z : 0 - suc k ≡ 0 = omega arith in rw z
drop_front (suc k) (suc n) [] = rw (take-nil {A = ℕ} (suc n - suc k))
drop_front (suc k) (suc n) (x ∷ l) = let z : suc n - suc k ≡ n - k = omega arith in rw z (drop_front k n l)

module _ (section : Bool) (t : List ℕ) (o n : ℕ) where
  -- a character that lies within it is its own
  char_part : (k : ℕ) → char_at section t (o + k) ≤ n - k → char_at section (part t o n) k ≡ char_at section t (o + k)
  unfolding char_at pick part
  char_part k h =
      let d : drop k (take n (drop o t)) ≡ take (n - k) (drop (o + k) t) = drop_front k n (drop o t) ∙ ap (take (n - k)) (drop-drop k o t) in
      ⊎_elim
      (λ (v : visible (get_or t (o + k) 0) ≡ true).
      let l : 1 ≤ n - k = rw v at h in
      let y : visible (get_or (take n (drop o t)) k 0) ≡ true = ap visible (part_at t o n k (omega arith)) ∙ v in
      rw (v, y))
      (λ (v : visible (get_or t (o + k) 0) ≡ false).
      let y : visible (get_or (take n (drop o t)) k 0) ≡ false =
      ⊎_elim (λ (p : n ≤ k). let m = part_most t o n in ap visible (get_or-eq_default (take n (drop o t)) 0 {n = k} (omega arith))) (λ (p : k < n). ap visible (part_at t o n k p) ∙ v) (le_or_lt n k) in
      rw (v, y, d) (by_whose section (rw v at h)))
      (yes_no (visible (get_or t (o + k) 0)))
    where
      by_whose : (b : Bool) → pick b 0 (long_length (drop (o + k) t)) ≤ n - k → pick b 0 (long_length (take (n - k) (drop (o + k) t))) ≡ pick b 0 (long_length (drop (o + k) t))
      by_whose true l = refl
      by_whose false l = Front-length long_rows (drop (o + k) t) (n - k) l

  -- what stops in the table before the zero stops in the part at the same place
  pub record Same (k : ℕ) : Type 0 where
    pub before : stop section t (o + k) ≤ o + n
    pub at_same : o + stop section (part t o n) k ≡ stop section t (o + k)

  pub stop_part : (k : ℕ) → get_or t (o + n) 0 ≡ 0 → k ≤ n → Same k
  stop_part k zero_at l = along section t (length t) (λ i. (k : ℕ) → i ≡ o + k → k ≤ n → Same k) here on_and_on (o + k) k refl l
    where
      here : (i : ℕ) → (length t ≤ i) ⊎ (char_at section t i ≡ 0) → (k : ℕ) → i ≡ o + k → k ≤ n → Same k
      here i s k e l =
          let c : char_at section t (o + k) ≡ 0 = rw e at (⊎_elim (λ (p : length t ≤ i). past_no_char section t i p) (λ q. q) s) in
          let p : char_at section (part t o n) k ≡ 0 = char_part k (omega arith) ∙ c in
          let w = walk_off section t (length t) (o + k) (inr c) in
          let v = walk_off section (part t o n) (length (part t o n)) k (inr p) in
          record { before = omega arith; at_same = omega arith }

      on_and_on : (i c : ℕ) → i < length t → char_at section t i ≡ suc c → ((k : ℕ) → i + suc c ≡ o + k → k ≤ n → Same k) → (k : ℕ) → i ≡ o + k → k ≤ n → Same k
      on_and_on i c h q r k e l =
          let x = is_char section t i c q in
          let fits : i + suc c ≤ o + n =
          ⊎_elim (λ (p : i + suc c ≤ o + n). p)
          (λ (p : o + n < i + suc c).
          ⊎_elim (λ (z : i ≡ o + n). let b = x.some in let y : get_or t i 0 ≡ 0 = rw (← z) at zero_at in absurd (omega arith))
          (λ (z : i < o + n). let b = (x.tails (o + n) z p).low in absurd (omega arith))
          (eq-or-lt_of_le (let m : i ≤ o + n = omega arith in m)))
          (le_or_lt (i + suc c) (o + n))
          in
          let q₂ : char_at section t (o + k) ≡ suc c = rw e at q in
          let p : char_at section (part t o n) k ≡ suc c = char_part k (omega arith) ∙ q₂ in
          let inner = (is_char section (part t o n) k c p).within in
          let u = walk_on section (part t o n) (length (part t o n)) k c (omega arith) p in
          let w = walk_on section t (length t) (o + k) c (omega arith) q₂ in
          let y : i + suc c ≡ o + (k + suc c) = omega arith in
          let z : o + k + suc c ≡ o + (k + suc c) = omega arith in
          let next = r (k + suc c) y (omega arith) in
          let a = next.before in
          let b = next.at_same in
          let w₂ : stop section t (o + (k + suc c)) ≡ stop section t (o + k) = rw z at w in
          record { before = omega arith; at_same = omega arith }
