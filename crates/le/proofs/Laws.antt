-- What the library's slices and numbers give, in the words of specs/Le.antt. Assumes nothing.
use Rattle.std.specs.Prelude.{◌≡◌, List, [], ◌∷◌, ◌++◌, ℕ, zero, suc, ◌+◌, ◌-◌, ◌*◌, ◌/◌, ◌%◌, ◌^◌, ◌≤◌, ◌<◌, min, length, get_or, set, take, drop, replicate, refl}
use Rattle.std.proofs.Common.{sym, ap, ◌∙◌, ⊎_elim, arith, zero-add, suc-add, add-zero, add-one, mul_comm, pow-suc, length-drop, length-take, length-set, get_or-drop, drop-cons, subst}
use Rattle.std.proofs.Math.Nat.{pow-zero, div-one, div-div-eq-div-mul}
use Rattle.std.proofs.lemmas.List.{take_min, take_all, take-append-drop, take-replicate, length-take-le, length-replicate, drop_all, get_or_past}
use Rattle.std.proofs.lemmas.List.Edits.{sets, sets-eq}
use Rattle.std.proofs.Math.Seq.{paste}
use Rattle.std.specs.Int.{byte_at, byte_worth, bytes_low_first, sum_through}
use Rattle.std.proofs.lemmas.Slice.{put_mid-paste}
use Rattle.std.specs.Array.{IsFromFnResultFrom}
use Rattle.std.specs.Fn.{Called}
use denote.Param.Members.{Mut}
use borrow.Rule.Slice.PartMut.{put_mid}
use Rattle.util.specs.Pick.{le_or_lt}
use Rattle.le.specs.Le.{get, le, part, splice, splice_past, splice_next, splice_long, length_le, length_splice, get_same, part_front}

-- ---- past the end a list reads as 0, also where the place is no number of 64 bits
pub get_past : (n : ℕ) (l : List ℕ) (at : ℕ) → length l ≤ at → get n l at ≡ 0
unfolding get
get_past zero l at h = refl
get_past (suc n) l at h =
    let a : get_or l at 0 ≡ 0 = get_or_past l at 0 h in
    let r : get n l (suc at) ≡ 0 = get_past n l (suc at) (omega arith) in
    omega arith

pub get_capped : (n : ℕ) (l : List ℕ) (i at r : ℕ) → length l < 2 ^ 64 → at ≡ min i (2 ^ 64 - 1) → r ≡ get n l at → r ≡ get n l i
get_capped n l i at r h e q =
    ⊎_elim
    (λ (k : i ≤ 2 ^ 64 - 1). let z : at ≡ i = omega arith in rw z at q)
    (λ (k : 2 ^ 64 - 1 < i). q ∙ get_past n l at (omega arith) ∙ sym (get_past n l i (omega arith)))
    (le_or_lt i (2 ^ 64 - 1))

-- ---- parts
pub front : (s : List ℕ) (n k : ℕ) → k ≡ min n (length s) → take k s ≡ take n s
front s n k e = rw e (take_min n s)

pub rest : (s : List ℕ) (from m : ℕ) → m ≡ min from (length s) → take (length s - m) (drop m s) ≡ drop from s
rest s from m e =
    let l = length-drop m s in
    take_all (length s - m) (drop m s) (omega arith)
    ∙ ⊎_elim
    (λ (h : from ≤ length s). let z : m ≡ from = omega arith in rw z)
    (λ (h : length s < from). drop_all m s (omega arith) ∙ sym (drop_all from s (omega arith)))
    (le_or_lt from (length s))

pub rest_at : (s : List ℕ) (at m k : ℕ) → m ≡ min at (length s) → get_or (take (length s - m) (drop m s)) k 0 ≡ get_or s (at + k) 0
rest_at s at m k e = rw (rest s at m e, get_or-drop)

pub part_is : (s : List ℕ) (from n m k : ℕ) → m ≡ min from (length s) → k ≡ min n (length (take (length s - m) (drop m s)))
    → take k (take (length s - m) (drop m s)) ≡ part s from n
unfolding part
part_is s from n m k e q = front (take (length s - m) (drop m s)) n k q ∙ ap (take n) (rest s from m e)

pub words_are : (s : List ℕ) (n k : ℕ) → k ≡ min n (length s) → take k s ≡ part s 0 n
words_are s n k e = front s n k e ∙ sym (part_front s n)

-- ---- a run in a slice
-- of the run that begins at `at`, m is where it does, as far as the slice reaches, and k how many of its elements there is room for
module _ (l : List ℕ) (at : ℕ) (vs : List ℕ) (m k : ℕ) (begins : m ≡ min at (length l)) (fits : k ≡ min (length vs) (length l - m)) where
  begins_there : splice l m vs ≡ splice l at vs
  begins_there =
      ⊎_elim
      (λ (h : at ≤ length l). let z : m ≡ at = omega arith in rw z)
      (λ (h : length l < at). splice_past l m vs (omega arith) ∙ sym (splice_past l at vs (omega arith)))
      (le_or_lt at (length l))

  -- what lies past the end is left out
  front_put : splice l m (take k vs) ≡ splice l m vs
  front_put =
      let t : length (take k vs) ≡ k = length-take-le k vs (omega arith) in
      let z = length_splice l m (take k vs) in
      ⊎_elim
      (λ (h : length vs ≤ k). ap (splice l m) (take_all k vs h))
      (λ (h : k < length vs).
      sym (splice_past (splice l m (take k vs)) (m + k) (drop k vs) (omega arith))
      ∙ splice_next l m (take k vs) (drop k vs) (m + k) (omega arith)
      ∙ ap (splice l m) (take-append-drop k vs))
      (le_or_lt (length vs) k)

  pub run_put : (x : List ℕ) → x ≡ take k vs → put_mid m (m + k - m) l x ≡ splice l at vs
  unfolding splice
  run_put x e =
      let t : length (take k vs) ≡ k = length-take-le k vs (omega arith) in
      let d : m + k - m ≡ k = omega arith in
      let w : take k (take k vs) ≡ take k vs = take_all k (take k vs) (omega arith) in
      let p : put_mid m k l x ≡ paste l m (take k vs) k = put_mid-paste m k l x (take k vs) k e refl (sym t) in
      let q : sets l m (take k vs) ≡ take m l ++ take k vs ++ drop (m + length (take k vs)) l = sets-eq (take k vs) l m (omega arith) in
      let r : paste l m (take k vs) k ≡ sets l m (take k vs) = rw (q, t, w) in
      rw d (p ∙ r ∙ front_put ∙ begins_there)

-- ---- a run put element by element: what is left of it goes behind the first i
pub record Putting (l : List ℕ) (at : ℕ) (vs : List ℕ) (i : ℕ) (b : List ℕ) : Type 0 where
  pub long : length b ≡ length l
  pub rest : splice l at vs ≡ splice b (at + i) (drop i vs)

module _ (l : List ℕ) (at : ℕ) (vs : List ℕ) where
  pub put_none : Putting l at vs 0 l
  put_none = record { long = refl; rest = rw add-zero }

  pub put_step : (i x : ℕ) (b : List ℕ) → i < length vs → x ≡ get_or vs i 0 → Putting l at vs i b → Putting l at vs (i + 1) (set b (at + i) x)
  unfolding splice
  put_step i x b h e p =
      let f : at + (i + 1) ≡ suc (at + i) = omega arith in
      record { long = rw length-set p.long; rest = p.rest ∙ rw (f, add-one, drop-cons vs i 0 h, e) }

  -- the loop stops where the run ends, or where the buffer does
  pub put_end : (m : ℕ) (b : List ℕ) → m ≡ min (length vs) (length l - at) → Putting l at vs m b → b ≡ splice l at vs
  unfolding splice
  put_end m b e p =
      ⊎_elim (λ (h : length vs ≤ m). sym (p.rest ∙ rw (drop_all m vs h)))
      (λ (h : m < length vs). sym (p.rest ∙ splice_past b (at + m) (drop m vs) (rw p.long (omega arith))))
      (le_or_lt (length vs) m)

pub ruleset putting = (put_none, put_end)

-- the low bytes of a number, one a turn
pub le_begin : (v : ℕ) → v ≡ v / 256 ^ 0
le_begin v = rw (pow-zero, div-one)

pub le_rest : (v i w : ℕ) → w ≡ v / 256 ^ i → w / 256 ≡ v / 256 ^ (i + 1)
le_rest v i w e = rw (e, add-one, pow-suc) (div-div-eq-div-mul v (256 ^ i) 256)

le_at : (n v i : ℕ) → i < n → v / 256 ^ i % 256 ≡ get_or (le n v) i 0
unfolding le
le_at zero v i h = absurd (omega arith)
le_at (suc n) v zero h = rw (pow-zero, div-one)
le_at (suc n) v (suc i) h =
    let e : v / 256 ^ suc i ≡ v / 256 / 256 ^ i = sym (rw pow-suc (div-div-eq-div-mul v 256 (256 ^ i) ∙ ap (λ (k : ℕ). v / k) (mul_comm 256 (256 ^ i)))) in
    rw e (le_at n (v / 256) i (omega arith))

pub le_step : (l : List ℕ) (at n v i w m : ℕ) (b : List ℕ) → m ≡ min n (length l - at) → i < m → w ≡ v / 256 ^ i → Putting l at (le n v) i b
    → Putting l at (le n v) (i + 1) (set b (at + i) (w % 256))
le_step l at n v i w m b e h q p = put_step l at (le n v) i (w % 256) b (rw length_le (omega arith)) (rw q (le_at n v i (omega arith))) p

pub le_end : (l : List ℕ) (at n v m : ℕ) (b : List ℕ) → m ≡ min n (length l - at) → Putting l at (le n v) m b → b ≡ splice l at (le n v)
le_end l at n v m b e p = put_end l at (le n v) m b (rw length_le e) p

-- the same of a whole array that fits, as a number's bytes, and of zeros
pub array_put : (l : List ℕ) (at : ℕ) (vs : List ℕ) (m n : ℕ) → m ≡ min at (length l) → length vs ≡ n → n ≤ length l - m
    → put_mid m (m + n - m) l vs ≡ splice l at vs
array_put l at vs m n b e h = run_put l at vs m n b (omega arith) vs (sym (take_all n vs (omega arith)))

pub zeros_put : (l : List ℕ) (at n m k : ℕ) (x : List ℕ) → m ≡ min at (length l) → k ≡ min n (length l - m) → x ≡ replicate (length (take (m + k - m) (drop m l))) 0
    → put_mid m (m + k - m) l x ≡ splice l at (replicate n 0)
zeros_put l at n m k x b f e =
    let z : length (replicate {A = ℕ} n 0) ≡ n = length-replicate n 0 in
    let d : length (take (m + k - m) (drop m l)) ≡ k = simp (length-take, length-drop) (omega arith) in
    run_put l at (replicate n 0) m k b (omega arith) x (e ∙ rw d (sym (take-replicate k n 0 (omega arith))))

-- ---- one element
module _ (l : List ℕ) (at v : ℕ) where
  pub byte_in : set l at v ≡ splice l at (v ∷ [])
  unfolding splice
  byte_in = refl

  pub byte_past : length l ≤ at → l ≡ splice l at (v ∷ [])
  byte_past h = sym (splice_past l at (v ∷ []) h)

pub ruleset bytes_put = (byte_in, byte_past)

-- ---- a number's bytes
byte_is : (i v : ℕ) → byte_at i v ≡ v / 256 ^ i % 256
byte_is zero v = rw (pow-zero, div-one)
byte_is (suc i) v = refl

next_byte : (i v : ℕ) → v / 256 ^ i / 256 ≡ v / 256 ^ suc i
next_byte i v = rw pow-suc (div-div-eq-div-mul v (256 ^ i) 256)

bytes_from : (n i v : ℕ) → bytes_low_first i n v ≡ le n (v / 256 ^ i)
unfolding le
bytes_from zero i v = refl
bytes_from (suc n) i v = rw (byte_is i v, next_byte i v) (ap (λ (l : List ℕ). v / 256 ^ i % 256 ∷ l) (bytes_from n (suc i) v))

bytes_are : (n v : ℕ) → bytes_low_first 0 n v ≡ le n v
bytes_are n v = bytes_from n 0 v ∙ rw (pow-zero, div-one)

pub number_bytes : (n v : ℕ) (x : List ℕ) → x ≡ bytes_low_first 0 n v → x ≡ le n v
number_bytes n v x e = e ∙ bytes_are n v

-- such a number's bytes, put
module _ (l : List ℕ) (at n v : ℕ) where
  -- where all of them fit
  pub number_set : (x : List ℕ) → at + n ≤ length l → x ≡ bytes_low_first 0 n v → put_mid at (at + n - at) l x ≡ splice l at (le n v)
  number_set x h e =
      let q : x ≡ le n v = e ∙ bytes_are n v in
      let t : length x ≡ n = rw q (length_le n v) in
      array_put l at x at n (omega arith) t (omega arith) ∙ ap (splice l at) q

-- ---- a number of bytes: its sum is the number that stands there
get_last : (n : ℕ) (l : List ℕ) (i : ℕ) → get (suc n) l i ≡ get n l i + get_or l (i + n) 0 * 256 ^ n
unfolding get
get_last zero l i = let z : i + 0 ≡ i = omega arith in rw (z, pow-zero) (omega arith)
get_last (suc n) l i =
    let r : get (suc n) l (suc i) ≡ get n l (suc i) + get_or l (suc i + n) 0 * 256 ^ n = get_last n l (suc i) in
    let p : i + suc n ≡ suc i + n = omega arith in
    let q : 256 ^ suc n ≡ 256 ^ n * 256 = pow-suc _ _ in
    rw (p, q, r) (grind arith)

worth : (n : ℕ) (l : List ℕ) → sum_through (λ i. byte_worth i (get_or l i 0)) n ≡ get (suc n) l 0
unfolding get
worth zero l = omega arith
worth (suc n) l = rw (worth n l) (sym (rw zero-add at (get_last (suc n) l 0)))

pub number_is : (n : ℕ) (l r : List ℕ) (at v : ℕ) → ((k : ℕ) → k < suc n → get_or r k 0 ≡ get_or l (at + k) 0) → v ≡ sum_through (λ i. byte_worth i (get_or r i 0)) n → v ≡ get (suc n) l at
number_is n l r at v h e = e ∙ worth n r ∙ get_same (suc n) r l 0 at (λ k p. rw zero-add (h k p))

-- ---- an array that a closure gives, element by element, where no call changes it
pub from_fn_gives : {F : Type 0} (g : Mut F (ℕ × Unit {0}) ℕ) (f : F) (P : ℕ → ℕ) (step : (i y : ℕ) (q : F) → Called g f (i, tt) y q → (y ≡ P i) × (q ≡ f))
    (n i : ℕ) (ys : List ℕ) → IsFromFnResultFrom g f ys i n → (k : ℕ) → i ≤ k → k < i + n → get_or ys k 0 ≡ P k
from_fn_gives g f P step zero i ys r k a b = absurd (omega arith)
from_fn_gives {F} g f P step (suc n) i ys (q, y, e, w, r) k a b =
    let s = step i y q w in
    ⊎_elim (λ (h : k ≤ i). let z : k ≡ i = omega arith in rw z (e.1 0 ∙ s.0))
    (λ (h : i < k). from_fn_gives g f P step n (i + 1) ys (subst (λ (x : F). IsFromFnResultFrom g x ys (i + 1) n) s.1 r) k (omega arith) (omega arith))
    (le_or_lt k i)
