-- Numbers in a list of bytes, the lowest byte first, and runs of bytes put into a list. A list reads as 0 past its end, and nothing is put there.
use Rattle.std.specs.Prelude.{◌≡◌, List, [], ◌∷◌, ◌++◌, ℕ, zero, suc, ◌+◌, ◌*◌, ◌/◌, ◌%◌, ◌^◌, ◌≤◌, ◌<◌, length, get_or, set, take, drop, replicate}
use Rattle.std.proofs.Math.Path.{refl}
use Rattle.std.proofs.Common.{sym, ap, ◌∙◌, ⊎_elim, arith, zero-add, add-zero, suc-add, add-suc, pow-suc, mod-lt, add-one, length-set, length-drop, length-take, get_or-set_other, get_or-set_same, get_or-take, get_or-drop, ext_get_or}
use Rattle.std.proofs.Math.Nat.{pow-zero, one-le-pow}
use Rattle.std.proofs.lemmas.List.{length-replicate, set_comm, drop_all, append-nil}
use Rattle.std.proofs.lemmas.List.Edits.{sets, sets-eq}
use Rattle.std.proofs.Math.Seq.{length-sets, set_out}
use Rattle.std.proofs.Math.Arith.{mod-mul}
use Rattle.util.specs.Pick.{le_or_lt}
use Rattle.util.specs.Prefix.{list_to, length_list}

-- the number whose n bytes stand in l from i
unfoldable pub get : ℕ → List ℕ → ℕ → ℕ
get zero l i = 0
get (suc n) l i = get_or l i 0 + 256 * get n l (suc i)

-- the n low bytes of v
unfoldable pub le : ℕ → ℕ → List ℕ
le zero v = []
le (suc n) v = v % 256 ∷ le n (v / 256)

-- l with vs from i on; what would lie past l's end is left out
unfoldable pub splice : List ℕ → ℕ → List ℕ → List ℕ
splice l i vs = sets l i vs

-- the n bytes of l from i, as far as there are any
unfoldable pub part : List ℕ → ℕ → ℕ → List ℕ
part l i n = take n (drop i l)

-- each element is a byte, as in every slice of bytes
abbrev pub IsBytes : List ℕ → Type 0
IsBytes l = (i : ℕ) → get_or l i 0 < 256

-- ---- splice: the length is kept; what stands before and after is as it was; what was put is there
pub length_splice : (l : List ℕ) (i : ℕ) (vs : List ℕ) → length (splice l i vs) ≡ length l
unfolding splice
length_splice l i vs = length-sets l i vs

pub splice_long : (l b : List ℕ) (i : ℕ) (vs : List ℕ) → b ≡ splice l i vs → length b ≡ length l
splice_long l b i vs e = rw e (length_splice l i vs)

pub splice_below : (l : List ℕ) (i : ℕ) (vs : List ℕ) (k : ℕ) → k < i → get_or (splice l i vs) k 0 ≡ get_or l k 0
unfolding splice
splice_below l i [] k h = refl
splice_below l i (a ∷ vs) k h = splice_below (set l i a) (suc i) vs k (omega arith) ∙ get_or-set_other l i k a 0 (λ e. omega arith)

pub splice_above : (l : List ℕ) (i : ℕ) (vs : List ℕ) (k : ℕ) → i + length vs ≤ k → get_or (splice l i vs) k 0 ≡ get_or l k 0
unfolding splice
splice_above l i [] k h = refl
splice_above l i (a ∷ vs) k h = splice_above (set l i a) (suc i) vs k (omega arith) ∙ get_or-set_other l i k a 0 (λ e. omega arith)

pub splice_in : (l : List ℕ) (i : ℕ) (vs : List ℕ) (j : ℕ) → j < length vs → i + j < length l → get_or (splice l i vs) (i + j) 0 ≡ get_or vs j 0
unfolding splice
splice_in l i [] j h k = omega arith
splice_in l i (a ∷ vs) zero h k =
    let e : i + 0 ≡ i = omega arith in
    rw e (splice_below (set l i a) (suc i) vs i (omega arith) ∙ get_or-set_same l i a 0 (omega arith))
splice_in l i (a ∷ vs) (suc j) h k =
    let e : i + suc j ≡ suc i + j = omega arith in
    rw e (splice_in (set l i a) (suc i) vs j (omega arith) (rw length-set (omega arith)))

-- what is put at the front of a list stands there
pub front_at : (l vs : List ℕ) (j : ℕ) → j < length vs → j < length l → get_or (splice l 0 vs) j 0 ≡ get_or vs j 0
front_at l vs j a b =
    let o : 0 + j ≡ j = omega arith in
    let s : get_or (splice l 0 vs) (0 + j) 0 ≡ get_or vs j 0 = splice_in l 0 vs j a (omega arith) in
    rw o at s

-- two runs at the front, of one length, that say the same where there is room leave the same list
pub splice_alike : (l xs ys : List ℕ) → length xs ≡ length ys → ((j : ℕ) → j < length xs → j < length l → get_or xs j 0 ≡ get_or ys j 0) → splice l 0 xs ≡ splice l 0 ys
splice_alike l xs ys e same =
    let a = length_splice l 0 xs in
    let b = length_splice l 0 ys in
    ext_get_or 0 (splice l 0 xs) (splice l 0 ys) (a ∙ sym b)
    (λ j q. ⊎_elim (λ r. splice_above l 0 xs j (omega arith) ∙ sym (splice_above l 0 ys j (omega arith)))
    (λ r. front_at l xs j (omega arith) (omega arith) ∙ same j (omega arith) (omega arith) ∙ sym (front_at l ys j (omega arith) (omega arith)))
    (le_or_lt (length xs) j))

-- and a run that is put over another of its length is what counts
pub splice_over : (l xs ys : List ℕ) → length xs ≡ length ys → splice (splice l 0 xs) 0 ys ≡ splice l 0 ys
splice_over l xs ys e =
    let a = length_splice l 0 xs in
    let b = length_splice l 0 ys in
    let c = length_splice (splice l 0 xs) 0 ys in
    ext_get_or 0 (splice (splice l 0 xs) 0 ys) (splice l 0 ys) (c ∙ a ∙ sym b)
    (λ j q. ⊎_elim
    (λ r. splice_above (splice l 0 xs) 0 ys j (omega arith) ∙ splice_above l 0 xs j (omega arith) ∙ sym (splice_above l 0 ys j (omega arith)))
    (λ r. front_at (splice l 0 xs) ys j (omega arith) (omega arith) ∙ sym (front_at l ys j (omega arith) (omega arith)))
    (le_or_lt (length ys) j))

pub splice_out : (l : List ℕ) (i : ℕ) (vs : List ℕ) (k : ℕ) → (i ≤ k → k < i + length vs → ⊥) → get_or (splice l i vs) k 0 ≡ get_or l k 0
splice_out l i vs k h =
    ⊎_elim
    (λ (z : i ≤ k).
    ⊎_elim (λ (y : i + length vs ≤ k). splice_above l i vs k y) (λ (y : k < i + length vs). absurd (h z y)) (le_or_lt (i + length vs) k))
    (λ (z : k < i). splice_below l i vs k z)
    (le_or_lt i k)

-- past the end nothing is put
pub splice_past : (l : List ℕ) (i : ℕ) (vs : List ℕ) → length l ≤ i → splice l i vs ≡ l
unfolding splice
splice_past l i [] h = refl
splice_past l i (a ∷ vs) h = rw (set_out l i a h) (splice_past l (suc i) vs (omega arith))

-- a run right after another is one run; two runs that are apart may be put in either order
pub splice_next : (l : List ℕ) (i : ℕ) (xs ys : List ℕ) (j : ℕ) → j ≡ i + length xs → splice (splice l i xs) j ys ≡ splice l i (xs ++ ys)
unfolding splice
splice_next l i [] ys j e = let f : j ≡ i = omega arith in rw f
splice_next l i (a ∷ xs) ys j e = splice_next (set l i a) (suc i) xs ys j (omega arith)

set_splice : (l : List ℕ) (i : ℕ) (a : ℕ) (j : ℕ) (ys : List ℕ) → i < j → splice (set l i a) j ys ≡ set (splice l j ys) i a
unfolding splice
set_splice l i a j [] h = refl
set_splice l i a j (y ∷ ys) h = rw (set_comm l i j a y (λ e. omega arith)) (set_splice (set l j y) i a (suc j) ys (omega arith))

pub splice_apart : (l : List ℕ) (i : ℕ) (xs : List ℕ) (j : ℕ) (ys : List ℕ) → i + length xs ≤ j → splice (splice l i xs) j ys ≡ splice (splice l j ys) i xs
unfolding splice
splice_apart l i [] j ys h = refl
splice_apart l i (a ∷ xs) j ys h =
    splice_apart (set l i a) (suc i) xs j ys (omega arith) ∙ ap (λ (m : List ℕ). splice m (suc i) xs) (set_splice l i a j ys (omega arith))

-- a run that fits at the front: the run, and what stood after it
pub splice_front : (l vs : List ℕ) → length vs ≤ length l → splice l 0 vs ≡ vs ++ drop (length vs) l
unfolding splice
splice_front l vs h = sets-eq vs l 0 (omega arith) ∙ rw zero-add

-- a run as long as the list takes its place
pub splice_whole : (l vs b : List ℕ) → length vs ≡ length l → b ≡ splice l 0 vs → b ≡ vs
splice_whole l vs b h e = e ∙ splice_front l vs (omega arith) ∙ rw (drop_all (length vs) l (omega arith)) (append-nil vs)

-- a loop that puts an element a turn, from the front on
module _ (g : ℕ → ℕ) (l : List ℕ) where
  pub fill_none : l ≡ splice l 0 (list_to g 0)
  unfolding splice list_to
  fill_none = refl

  pub fill_again : (b b' : List ℕ) (i x : ℕ) → b ≡ splice l 0 (list_to g i) → x ≡ g i → b' ≡ splice b i (x ∷ []) → b' ≡ splice l 0 (list_to g (i + 1))
  unfolding list_to
  fill_again b b' i x e q d = rw (d, e, splice_next l 0 (list_to g i) (x ∷ []) i (let z = length_list g i in omega arith), q, add-one)

  pub fill_end : (b : List ℕ) (i n m : ℕ) → b ≡ splice l 0 (list_to g i) → i ≤ n → n ≤ i → n ≡ m → b ≡ splice l 0 (list_to g m)
  fill_end b i n m e a c q = let z : i ≡ n = omega arith in cc

pub ruleset fill_loop = (fill_none, fill_again, fill_end)

-- ---- numbers: `get` looks at n places only, and reads back what `le` gives
pub length_le : (n v : ℕ) → length (le n v) ≡ n
unfolding le
length_le zero v = refl
length_le (suc n) v = ap suc (length_le n (v / 256))

pub get_same : (n : ℕ) (l m : List ℕ) (i j : ℕ) → ((k : ℕ) → k < n → get_or l (i + k) 0 ≡ get_or m (j + k) 0) → get n l i ≡ get n m j
unfolding get
get_same zero l m i j h = refl
get_same (suc n) l m i j h =
    let e : get_or l i 0 ≡ get_or m j 0 = rw (add-zero, add-zero) at (h 0 (omega arith)) in
    let r : get n l (suc i) ≡ get n m (suc j) =
    get_same n l m (suc i) (suc j) (λ k p. rw (suc-add, suc-add, ← add-suc, ← add-suc) (h (suc k) (omega arith))) in
    omega arith

pub get_le : (n v : ℕ) → v < 256 ^ n → get n (le n v) 0 ≡ v
unfolding get le
get_le zero v h = omega arith
get_le (suc n) v h =
    let e : 256 ^ suc n ≡ 256 ^ n * 256 = pow-suc _ _ in
    let tail : get n (v % 256 ∷ le n (v / 256)) 1 ≡ get n (le n (v / 256)) 0 =
    get_same n (v % 256 ∷ le n (v / 256)) (le n (v / 256)) 1 0 (λ k p. rw suc-add) in
    let r : get n (le n (v / 256)) 0 ≡ v / 256 = get_le n (v / 256) (omega arith) in
    omega arith

-- the low n bytes do not see what is above them, so they give a number's low part
pub le_low : (n v : ℕ) → le n (v % 256 ^ n) ≡ le n v
unfolding le
le_low zero v = refl
le_low (suc n) v =
    let d : v % 256 ^ suc n ≡ (v / 256 % 256 ^ n) * 256 + v % 256
    = ap (λ (m : ℕ). v % m) (pow-suc 256 n) ∙ mod-mul v {m = 256 ^ n} {c = 256} (one-le-pow n 256 (omega arith)) (omega arith) in
    let a : v % 256 ^ suc n % 256 ≡ v % 256 = omega arith in
    let b : v % 256 ^ suc n / 256 ≡ v / 256 % 256 ^ n = omega arith in
    rw (a, b, le_low n (v / 256))

pub get_low : (n v : ℕ) → get n (le n v) 0 ≡ v % 256 ^ n
get_low n v = rw (← le_low n v) (get_le n (v % 256 ^ n) (mod-lt v (one-le-pow n 256 (omega arith))))

-- a number that was put is read back; one that stands apart from a run is as it was
pub get_splice : (n v : ℕ) (l : List ℕ) (i : ℕ) → i + n ≤ length l → v < 256 ^ n → get n (splice l i (le n v)) i ≡ v
get_splice n v l i f h =
    get_same n (splice l i (le n v)) (le n v) i 0 (λ k p. splice_in l i (le n v) k (rw length_le p) (omega arith) ∙ rw zero-add) ∙ get_le n v h

pub get_before : (n : ℕ) (l : List ℕ) (i : ℕ) (vs : List ℕ) (k : ℕ) → k + n ≤ i → get n (splice l i vs) k ≡ get n l k
get_before n l i vs k h = get_same n (splice l i vs) l k k (λ j p. splice_below l i vs (k + j) (omega arith))

pub get_after : (n : ℕ) (l : List ℕ) (i : ℕ) (vs : List ℕ) (k : ℕ) → i + length vs ≤ k → get n (splice l i vs) k ≡ get n l k
get_after n l i vs k h = get_same n (splice l i vs) l k k (λ j p. splice_above l i vs (k + j) (omega arith))

-- ---- bytes: those that are put among bytes leave bytes, and a number's are bytes
set_bytes : (l : List ℕ) (i a : ℕ) → IsBytes l → a < 256 → IsBytes (set l i a)
set_bytes [] i a b h k = b k
set_bytes (x ∷ l) zero a b h zero = h
set_bytes (x ∷ l) zero a b h (suc k) = b (suc k)
set_bytes (x ∷ l) (suc i) a b h zero = b 0
set_bytes (x ∷ l) (suc i) a b h (suc k) = set_bytes l i a (λ j. b (suc j)) h k

pub splice_bytes : (l : List ℕ) (i : ℕ) (vs : List ℕ) → IsBytes l → IsBytes vs → IsBytes (splice l i vs)
unfolding splice
splice_bytes l i [] b v k = b k
splice_bytes l i (a ∷ vs) b v k = splice_bytes (set l i a) (suc i) vs (set_bytes l i a b (v 0)) (λ j. v (suc j)) k

pub le_bytes : (n v : ℕ) → IsBytes (le n v)
unfolding le
le_bytes zero v i = omega arith
le_bytes (suc n) v zero = omega arith
le_bytes (suc n) v (suc i) = le_bytes n (v / 256) i

-- n bytes are below 256 ^ n
pub get_below : (n : ℕ) (l : List ℕ) (i : ℕ) → IsBytes l → get n l i < 256 ^ n
unfolding get
get_below zero l i b = rw pow-zero (omega arith)
get_below (suc n) l i b =
    let e : 256 ^ suc n ≡ 256 ^ n * 256 = pow-suc _ _ in
    let r = get_below n l (suc i) b in
    let a = b i in
    omega arith

-- ---- parts
pub length_part : (l : List ℕ) (i n : ℕ) → i + n ≤ length l → length (part l i n) ≡ n
unfolding part
length_part l i n h = simp (length-take, length-drop) (omega arith)

pub part_most : (l : List ℕ) (i n : ℕ) → length (part l i n) ≤ n
unfolding part
part_most l i n = rw length-take (omega arith)

pub part_at : (l : List ℕ) (i n k : ℕ) → k < n → get_or (part l i n) k 0 ≡ get_or l (i + k) 0
unfolding part
part_at l i n k h = rw (get_or-take, get_or-drop)

pub part_front : (l : List ℕ) (n : ℕ) → part l 0 n ≡ take n l
unfolding part
part_front l n = refl

pub part_none : (l : List ℕ) (i : ℕ) → part l i 0 ≡ []
unfolding part
part_none l i = refl

-- what was put is the part that stands there
pub part_splice : (l : List ℕ) (i : ℕ) (vs : List ℕ) → i + length vs ≤ length l → part (splice l i vs) i (length vs) ≡ vs
part_splice l i vs h =
    let e : length (part (splice l i vs) i (length vs)) ≡ length vs = length_part (splice l i vs) i (length vs) (rw length_splice h) in
    ext_get_or 0 (part (splice l i vs) i (length vs)) vs e
    (λ k p. let q : k < length vs = rw e at p in part_at (splice l i vs) i (length vs) k q ∙ splice_in l i vs k q (omega arith))

-- a list that a loop has put at the front of a cleared array, taken from it again
pub filled : (g : ℕ → ℕ) (m w : List ℕ) (size n : ℕ) → m ≡ splice (replicate size 0) 0 (list_to g n) → n ≤ size → w ≡ part m 0 n → w ≡ list_to g n
filled g m w size n e k q =
    let r : length {A = ℕ} (replicate size 0) ≡ size = length-replicate {A = ℕ} size 0 in
    let l : length (list_to g n) ≡ n = length_list g n in
    q ∙ ap (λ (x : List ℕ). part x 0 n) e ∙ rw l at (part_splice (replicate size 0) 0 (list_to g n) (omega arith))
