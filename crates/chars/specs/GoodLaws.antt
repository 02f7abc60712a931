-- A name is good where its characters go to its end. Assumes nothing.
use Rattle.std.specs.Prelude.{◌≡◌, Bool, true, ◌&&◌, not, List, ◌∷◌, leb, eqb}
use Rattle.std.proofs.Common.{sym, ◌∙◌, inl, eq-or-lt_of_le, add-one, drop_of_length-le, drop-cons, drop-drop, get_or-drop}
use Rattle.std.proofs.Math.Path.{ap}
use Rattle.std.proofs.Math.Bool.{false}
use Rattle.std.proofs.Math.Logic.{⊎_elim}
use Prim.Native.Nat.{ℕ, suc, ◌+◌, ◌-◌, ◌≤◌, ◌<◌}
use native.Mathlib.Omega.{arith}
use borrow.Author.Tests.{leb-true, le-leb, lt-leb, eqb-false, eq-eqb, ne_eqb, not-true}
use Rattle.std.proofs.Math.ListN.{length, get_or, drop, length-drop}
use Rattle.util.specs.Pick.{pick, yes_no, le_or_lt, not_both, both_ways, and_left, and_right, and_both}
use Rattle.util.specs.Prefix.{all_at, all_of}
use Rattle.utf8.specs.Utf8.{begins, length_in, char_length, long_length, octets, well_formed}
use Rattle.utf8.specs.CharLaws.{long_char, octets_behind}
use Rattle.chars.specs.Chars.{visible, all_visible, good_section_name, allowed, all_allowed, good_symbol_name, char_at, stop}
use Rattle.chars.specs.WalkLaws.{Visible, visible_byte, is_char, walk_off, walk_on, along, walk_visible}

-- ---- a section's
section_forth : (s : List ℕ) → all_visible s ≡ true → length s ≤ stop true s 0
section_forth s v =
    let w = walk_visible true s (length s) (length s) 0 (omega arith) (λ k a b. all_at (λ i. visible (get_or s i 0)) (length s) k v (omega arith)) in
    let e = walk_off true s (length s) (0 + length s) (inl (omega arith)) in
    omega arith

section_back : (s : List ℕ) (i k : ℕ) → length s ≤ stop true s i → i ≤ k → k < length s → visible (get_or s k 0) ≡ true
unfolding char_at pick
section_back s i k =
    along true s (length s) (λ i. length s ≤ stop true s i → i ≤ k → k < length s → visible (get_or s k 0) ≡ true)
    (λ i x l a b. let w = walk_off true s (length s) i x in absurd (omega arith))
    (λ i c h q r l a b.
    ⊎_elim
    (λ (v : visible (get_or s i 0) ≡ true).
    let one : 1 ≡ suc c = rw v at q in
    ⊎_elim (λ (z : i ≡ k). rw z at v) (λ (z : i < k). let w = walk_on true s (length s) i c h q in r (omega arith) (omega arith) b) (eq-or-lt_of_le a))
    (λ (v : visible (get_or s i 0) ≡ false). let z : 0 ≡ suc c = rw v at q in absurd (omega arith))
    (yes_no (visible (get_or s i 0))))
    i

pub section_walk : (s : List ℕ) → good_section_name s ≡ leb (length s) (stop true s 0)
unfolding good_section_name
section_walk s =
    both_ways (all_visible s) (leb (length s) (stop true s 0)) (λ v. le-leb (length s) (stop true s 0) (section_forth s v))
    (λ e. all_of (λ k. visible (get_or s k 0)) (length s) (λ k h. section_back s 0 k (leb-true (length s) (stop true s 0) e) (omega arith) h))

-- ---- a symbol's
-- a byte that it may have
pub record Allowed (b : ℕ) : Type 0 where
  pub low : 0x21 ≤ b
  pub other : b ≡ 0x7F → ⊥

pub allowed_byte : (b : ℕ) → allowed b ≡ true → Allowed b
allowed_byte b e =
    record {
      low = leb-true 0x21 b (and_left (leb 0x21 b) (not (eqb b 0x7F)) e);
      other = eqb-false b 0x7F (not-true (eqb b 0x7F) (and_right (leb 0x21 b) (not (eqb b 0x7F)) e));
    }

allowed_is : (b : ℕ) → 0x21 ≤ b → (b ≡ 0x7F → ⊥) → allowed b ≡ true
allowed_is b p q = rw (le-leb 0x21 b p, ne_eqb b 0x7F q)

-- the first row is that of one byte
low_char : (a : ℕ) (s : List ℕ) → a ≤ 0x7F → char_length (a ∷ s) ≡ 1
unfolding length_in begins pick
low_char a s h = rw (le-leb 0 a (omega arith), le-leb a 0x7F h)

high_char : (a : ℕ) (s : List ℕ) → 0x7F < a → char_length (a ∷ s) ≡ long_length (a ∷ s)
unfolding length_in begins pick
high_char a s h = rw (le-leb 0 a (omega arith), lt-leb a 0x7F h)

module _ (s : List ℕ) where
  -- what the characters from i on say, and what the grammar and the bytes do
  pub record Fine (i : ℕ) : Type 0 where
    pub octets_from : octets 0 (drop i s) ≡ true
    pub bytes_from : (k : ℕ) → i ≤ k → k < length s → allowed (get_or s k 0) ≡ true

  first_of : (i : ℕ) → i < length s → drop i s ≡ get_or s i 0 ∷ drop (i + 1) s
  first_of i h = rw add-one (drop-cons s i 0 h)

  -- the grammar's character is the name's
  char_length_lem : (i c : ℕ) → i < length s → char_at false s i ≡ suc c → char_length (drop i s) ≡ suc c
  unfolding char_at pick
  char_length_lem i c h q =
      ⊎_elim
      (λ (v : visible (get_or s i 0) ≡ true).
      let one : 1 ≡ suc c = rw v at q in
      let b = (visible_byte (get_or s i 0) v).high in
      rw (first_of i h) (low_char (get_or s i 0) (drop (i + 1) s) (omega arith) ∙ one))
      (λ (v : visible (get_or s i 0) ≡ false).
      let long : long_length (drop i s) ≡ suc c = rw v at q in
      let f = (long_char (drop i s) c long).first in
      let z : i + 0 ≡ i = omega arith in
      let g : 0xC2 ≤ get_or s i 0 = rw (get_or-drop i s 0 0, z) at f in
      let e = first_of i h in
      rw e (high_char (get_or s i 0) (drop (i + 1) s) (omega arith) ∙ (rw e at long)))
      (yes_no (visible (get_or s i 0)))

  next_octets : (i c : ℕ) → i < length s → char_at false s i ≡ suc c → octets 0 (drop i s) ≡ octets 0 (drop (i + suc c) s)
  unfolding octets pick
  next_octets i c h q =
      let n = char_length_lem i c h q in
      let w = (is_char false s i c q).within in
      let l : length (drop (i + 1) s) ≡ length s - (i + 1) = length-drop (i + 1) s in
      let e = first_of i h in
      let m : char_length (get_or s i 0 ∷ drop (i + 1) s) ≡ suc c = rw e at n in
      let z : suc c - 1 ≡ c = omega arith in
      let d : i + 1 + c ≡ i + suc c = omega arith in
      let b : drop c (drop (i + 1) s) ≡ drop (i + suc c) s = rw d at (drop-drop c (i + 1) s) in
      rw (e, m, ne_eqb (suc c) 0 (λ x. omega arith), z) (octets_behind c (drop (i + 1) s) (omega arith) ∙ ap (octets 0) b)

  -- without a character it says no, if the byte is allowed
  no_octets : (i : ℕ) → i < length s → char_at false s i ≡ 0 → allowed (get_or s i 0) ≡ true → octets 0 (drop i s) ≡ false
  unfolding char_at pick octets
  no_octets i h q a =
      let e = first_of i h in
      let p = allowed_byte (get_or s i 0) a in
      let l = p.low in
      ⊎_elim (λ (v : visible (get_or s i 0) ≡ true). let z : 1 ≡ 0 = rw v at q in absurd (omega arith))
      (λ (v : visible (get_or s i 0) ≡ false).
      let long : long_length (drop i s) ≡ 0 = rw v at q in
      ⊎_elim
      (λ (x : get_or s i 0 ≤ 0x7F).
      ⊎_elim (λ (y : get_or s i 0 ≤ 0x7E). not_both (visible (get_or s i 0)) (rw (le-leb 0x21 (get_or s i 0) l, le-leb (get_or s i 0) 0x7E y)) v)
      (λ (y : 0x7E < get_or s i 0). absurd (p.other (omega arith)))
      (le_or_lt (get_or s i 0) 0x7E))
      (λ (x : 0x7F < get_or s i 0).
      let n : char_length (get_or s i 0 ∷ drop (i + 1) s) ≡ 0 = high_char (get_or s i 0) (drop (i + 1) s) x ∙ (rw e at long) in
      rw (e, eq-eqb (char_length (get_or s i 0 ∷ drop (i + 1) s)) 0 n))
      (le_or_lt (get_or s i 0) 0x7F))
      (yes_no (visible (get_or s i 0)))

  forth : (i : ℕ) → i ≤ length s → Fine i → length s ≤ stop false s i
  forth =
      along false s (length s) (λ i. i ≤ length s → Fine i → length s ≤ stop false s i)
      (λ i x l f.
      rw (walk_off false s (length s) i x)
      (⊎_elim (λ (h : length s ≤ i). h)
      (λ (h : i < length s).
      let q : char_at false s i ≡ 0 = ⊎_elim (λ (y : length s ≤ i). absurd (omega arith)) (λ y. y) x in
      not_both (octets 0 (drop i s)) f.octets_from (no_octets i h q (f.bytes_from i (omega arith) h)))
      (le_or_lt (length s) i)))
      (λ i c h q r l f.
      let w = (is_char false s i c q).within in
      rw (walk_on false s (length s) i c h q) at
      (r w (record { octets_from = sym (next_octets i c h q) ∙ f.octets_from; bytes_from = λ k a b. f.bytes_from k (omega arith) b })))

  back : (i : ℕ) → i ≤ length s → length s ≤ stop false s i → Fine i
  unfolding octets
  back =
      along false s (length s) (λ i. i ≤ length s → length s ≤ stop false s i → Fine i)
      (λ i x l e.
      let w = walk_off false s (length s) i x in
      record { octets_from = rw (drop_of_length-le s {i = i} (omega arith)); bytes_from = λ k a b. absurd (omega arith) })
      (λ i c h q r l e.
      let n = is_char false s i c q in
      let w = walk_on false s (length s) i c h q in
      let f = r n.within (omega arith) in
      record {
        octets_from = next_octets i c h q ∙ f.octets_from;
        bytes_from = λ k a b.
            ⊎_elim (λ (z : i ≡ k). rw (← z) (allowed_is (get_or s i 0) n.some n.fine))
            (λ (z : i < k).
            ⊎_elim (λ (p : i + suc c ≤ k). f.bytes_from k p b)
            (λ (p : k < i + suc c). let t = (n.tails k z p).low in allowed_is (get_or s k 0) (omega arith) (λ y. omega arith))
            (le_or_lt (i + suc c) k))
            (eq-or-lt_of_le a);
      })

-- THE LAW: the rule says yes exactly where a walk over the name's bytes comes to their end
symbol_fine : (s : List ℕ) → (well_formed s && all_allowed s) ≡ leb (length s) (stop false s 0)
symbol_fine s =
    both_ways (well_formed s && all_allowed s) (leb (length s) (stop false s 0))
    (λ e.
    le-leb (length s) (stop false s 0)
    (forth s 0 (omega arith)
    (record {
      octets_from = and_left (well_formed s) (all_allowed s) e;
      bytes_from = λ k a b. all_at (λ i. allowed (get_or s i 0)) (length s) k (and_right (well_formed s) (all_allowed s) e) b;
    })))
    (λ e.
    let f = back s 0 (omega arith) (leb-true (length s) (stop false s 0) e) in
    and_both (well_formed s) (all_allowed s) f.octets_from (all_of (λ i. allowed (get_or s i 0)) (length s) (λ k h. f.bytes_from k (omega arith) h)))

pub symbol_walk : (s : List ℕ) → good_symbol_name s ≡ (not (eqb (length s) 0) && leb (length s) (stop false s 0))
unfolding good_symbol_name
symbol_walk s = ap (λ (t : Bool). not (eqb (length s) 0) && t) (symbol_fine s)

-- ---- what a good name is
pub good_visible : (s : List ℕ) → good_section_name s ≡ true → (k : ℕ) → k < length s → Visible (get_or s k 0)
unfolding good_section_name
good_visible s e k h = visible_byte (get_or s k 0) (all_at (λ i. visible (get_or s i 0)) (length s) k e h)

module _ (s : List ℕ) (e : good_symbol_name s ≡ true) where
  rule : (well_formed s && all_allowed s) ≡ true
  unfolding good_symbol_name
  rule = and_right (not (eqb (length s) 0)) (well_formed s && all_allowed s) e

  -- it is not empty
  pub good_some : 0 < length s
  unfolding good_symbol_name
  good_some = let z = eqb-false (length s) 0 (not-true (eqb (length s) 0) (and_left (not (eqb (length s) 0)) (well_formed s && all_allowed s) e)) in omega arith

  pub good_well_formed : well_formed s ≡ true
  good_well_formed = and_left (well_formed s) (all_allowed s) rule

  -- no byte is below 0x21, and none 0x7F
  pub good_allowed : (k : ℕ) → k < length s → Allowed (get_or s k 0)
  good_allowed k h = allowed_byte (get_or s k 0) (all_at (λ i. allowed (get_or s i 0)) (length s) k (and_right (well_formed s) (all_allowed s) rule) h)

-- a name of a section that is not empty may be a symbol's
pub visible_good : (s : List ℕ) → 0 < length s → good_section_name s ≡ true → good_symbol_name s ≡ true
unfolding good_section_name char_at pick
visible_good s h v =
    let w = walk_visible false s (length s) (length s) 0 (omega arith) (λ k a b. all_at (λ i. visible (get_or s i 0)) (length s) k v (omega arith)) in
    let e = walk_off false s (length s) (0 + length s) (inl (omega arith)) in
    symbol_walk s ∙ and_both (not (eqb (length s) 0)) (leb (length s) (stop false s 0)) (rw (ne_eqb (length s) 0 (λ z. omega arith))) (le-leb (length s) (stop false s 0) (omega arith))
