-- The order of the sections is total, so there is one list of theirs in that order, and it has each of them once.
use Rattle.std.proofs.Common.{Ordering, Less, Equal, Greater}
use Rattle.std.specs.Prelude.{◌≡◌, Bool, true, false, ◌⊎◌, eqb, length, get_or, take}
use Rattle.std.proofs.Math.Path.{refl, ap}
use Rattle.std.proofs.Common.{sym, ◌∙◌, not-suc-le-zero, arith, length-take-le}
use mathlib.Core.List.{List, [], ◌∷◌}
use Rattle.std.proofs.Math.Logic.{inl, inr, ⊎_elim}
use Prim.Native.Nat.{ℕ, zero, suc, ◌≤◌, ◌<◌}
use borrow.Author.Tests.{leb-true, ltb-true, lt-ltb, le-leb, eq-eqb, ne_eqb, eqb-true}
use Rattle.limits.specs.Limits.{MAX_SECTIONS}
use Rattle.util.specs.Pick.{pick, yes_no, le_or_lt, not_both}
use Rattle.util.specs.Prefix.{list_to, length_list, list_at}
use Rattle.object.specs.declared.Header.{Header}
use Rattle.names.specs.Bytes.{compare_bytes}
use Rattle.names.specs.Name.{section_text}
use Rattle.names.specs.OrderLaws.{compare_self, equal_same, less_greater, greater_less, less_less}
use Rattle.ranks.specs.Rank.{by_keys, tie_before, precedes, rank_in, ranked, lateness, section_ranks, RankOf, InOrder}

-- ---- ties: by `late`, then by number
module _ (late : ℕ → ℕ) (x y : ℕ) where
  tie_late : tie_before late x y ≡ true → late x ≤ late y
  unfolding tie_before pick
  tie_late e =
      ⊎_elim (λ t. let z : late x ≡ late y = eqb-true (late x) (late y) t in omega arith)
      (λ t. let z : late x < late y = ltb-true (late x) (late y) (rw t at e) in omega arith)
      (yes_no (eqb (late x) (late y)))

  tie_low : tie_before late x y ≡ true → late y ≤ late x → x ≤ y
  unfolding tie_before pick
  tie_low e h =
      ⊎_elim (λ t. leb-true x y (rw t at e))
      (λ t. let z : late x < late y = ltb-true (late x) (late y) (rw t at e) in omega arith)
      (yes_no (eqb (late x) (late y)))

  tie_of : late x ≤ late y → (late y ≤ late x → x ≤ y) → tie_before late x y ≡ true
  unfolding tie_before pick
  tie_of h k =
      ⊎_elim (λ l. rw (eq-eqb (late x) (late y) (omega arith)) (le-leb x y (k l)))
      (λ l. rw (ne_eqb (late x) (late y) (λ e. omega arith)) (lt-ltb (late x) (late y) l))
      (le_or_lt (late y) (late x))

-- of two ties one stands
tie_other : (late : ℕ → ℕ) (x y : ℕ) → tie_before late x y ≡ false → tie_before late y x ≡ true
tie_other late x y e =
    ⊎_elim
    (λ (h : late x ≤ late y).
    ⊎_elim
    (λ (k : late y ≤ late x).
    ⊎_elim (λ (l : x ≤ y). not_both (tie_before late x y) (tie_of late x y h (λ z. l)) e) (λ (l : y < x). tie_of late y x k (λ z. omega arith)) (le_or_lt x y))
    (λ (k : late x < late y). not_both (tie_before late x y) (tie_of late x y h (λ z. omega arith)) e)
    (le_or_lt (late y) (late x)))
    (λ (h : late y < late x). tie_of late y x (omega arith) (λ z. omega arith))
    (le_or_lt (late x) (late y))

tie_trans : (late : ℕ → ℕ) (x y z : ℕ) → tie_before late x y ≡ true → tie_before late y z ≡ true → tie_before late x z ≡ true
tie_trans late x y z e d =
    let a = tie_late late x y e in
    let b = tie_late late y z d in
    tie_of late x z (omega arith) (λ h. let p = tie_low late x y e (omega arith) in let q = tie_low late y z d (omega arith) in omega arith)

-- ---- x does not stand behind y: their keys say so, or are the same and the tie does
abbrev Before : (ℕ → List ℕ) → (ℕ → ℕ) → ℕ → ℕ → Type 0
Before key late x y = (compare_bytes (key x) (key y) ≡ Less) ⊎ ((key x ≡ key y) × (tie_before late x y ≡ true))

by_keys_lem : (o : Ordering) (t : Bool) → by_keys o t ≡ true → (o ≡ Less) ⊎ ((o ≡ Equal) × (t ≡ true))
unfolding by_keys
by_keys_lem Less t e = inl refl
by_keys_lem Equal t e = inr (refl, e)
by_keys_lem Greater t e = not_both false e refl

by_keys_not : (o : Ordering) (t : Bool) → by_keys o t ≡ false → (o ≡ Greater) ⊎ ((o ≡ Equal) × (t ≡ false))
unfolding by_keys
by_keys_not Less t e = not_both true refl e
by_keys_not Equal t e = inr (refl, e)
by_keys_not Greater t e = inl refl

module _ (key : ℕ → List ℕ) (late : ℕ → ℕ) where
  before_of : (x y : ℕ) → precedes key late x y ≡ true → Before key late x y
  unfolding precedes
  before_of x y e =
      ⊎_elim (λ l. inl l) (λ q. inr (equal_same (key x) (key y) q.0, q.1)) (by_keys_lem (compare_bytes (key x) (key y)) (tie_before late x y) e)

  of_before : (x y : ℕ) → Before key late x y → precedes key late x y ≡ true
  unfolding precedes by_keys
  of_before x y (inl l) = rw l
  of_before x y (inr q) = rw (q.0, compare_self (key y)) q.1

  -- of two sections one precedes the other, and both only if they are the same
  pub precedes_other : (x y : ℕ) → precedes key late x y ≡ false → precedes key late y x ≡ true
  unfolding precedes
  precedes_other x y e =
      of_before y x
      (⊎_elim (λ g. inl (greater_less (key x) (key y) g)) (λ q. inr (sym (equal_same (key x) (key y) q.0), tie_other late x y q.1))
      (by_keys_not (compare_bytes (key x) (key y)) (tie_before late x y) e))

  pub precedes_self : (x : ℕ) → precedes key late x x ≡ true
  precedes_self x = ⊎_elim (λ t. t) (λ e. precedes_other x x e) (yes_no (precedes key late x x))

  trans_of : (x y z : ℕ) → Before key late x y → Before key late y z → Before key late x z
  trans_of x y z (inl a) (inl b) = inl (less_less (key x) (key y) (key z) a b)
  trans_of x y z (inl a) (inr b) = inl (rw b.0 at a)
  trans_of x y z (inr a) (inl b) = inl (rw a.0 b)
  trans_of x y z (inr a) (inr b) = inr (a.0 ∙ b.0, tie_trans late x y z a.1 b.1)

  pub precedes_trans : (x y z : ℕ) → precedes key late x y ≡ true → precedes key late y z ≡ true → precedes key late x z ≡ true
  precedes_trans x y z e d = of_before x z (trans_of x y z (before_of x y e) (before_of y z d))

  no_turn : {A : Type 0} (a b : List ℕ) → compare_bytes a b ≡ Less → compare_bytes b a ≡ Less → A
  no_turn a b e d = let g = less_greater a b e in let z : ◌≡◌ {A = ℕ} 0 1 = cc in absurd (omega arith)

  no_self : {A : Type 0} (a b : List ℕ) → a ≡ b → compare_bytes a b ≡ Less → A
  no_self a b e d = let g = compare_self b in let h : compare_bytes b b ≡ Less = rw e at d in let z : ◌≡◌ {A = ℕ} 0 1 = cc in absurd (omega arith)

  same_of : (x y : ℕ) → Before key late x y → Before key late y x → x ≡ y
  same_of x y (inl a) (inl b) = no_turn (key x) (key y) a b
  same_of x y (inl a) (inr b) = no_self (key x) (key y) (sym b.0) a
  same_of x y (inr a) (inl b) = no_self (key y) (key x) (sym a.0) b
  same_of x y (inr a) (inr b) =
      let l = tie_late late x y a.1 in
      let m = tie_late late y x b.1 in
      let p = tie_low late x y a.1 m in
      let q = tie_low late y x b.1 l in
      omega arith

  pub precedes_both : (x y : ℕ) → precedes key late x y ≡ true → precedes key late y x ≡ true → x ≡ y
  precedes_both x y e d = same_of x y (before_of x y e) (before_of y x d)

-- ---- what holds of each in a list, and what a list has
abbrev pub EachOf : (ℕ → Type 0) → List ℕ → Type 0
EachOf P [] = Unit
EachOf P (x ∷ xs) = P x × EachOf P xs

abbrev pub HasOne : ℕ → List ℕ → Type 0
HasOne x [] = ⊥
HasOne x (y ∷ ys) = (x ≡ y) ⊎ HasOne x ys

pub each_at : (P : ℕ → Type 0) (l : List ℕ) (i : ℕ) → EachOf P l → i < length l → P (get_or l i 0)
each_at P [] i e h = absurd (not-suc-le-zero h)
each_at P (x ∷ xs) zero e h = e.0
each_at P (x ∷ xs) (suc i) e h = each_at P xs i e.1 (omega arith)

pub each_by : (P : ℕ → Type 0) (l : List ℕ) → ((i : ℕ) → i < length l → P (get_or l i 0)) → EachOf P l
each_by P [] h = tt
each_by P (x ∷ xs) h = (h 0 (omega arith), each_by P xs (λ i k. h (suc i) (omega arith)))

has_at : (l : List ℕ) (i : ℕ) → i < length l → HasOne (get_or l i 0) l
has_at [] i h = absurd (not-suc-le-zero h)
has_at (x ∷ xs) zero h = inl refl
has_at (x ∷ xs) (suc i) h = inr (has_at xs i (omega arith))

has_stands : (x : ℕ) (l : List ℕ) → HasOne x l → RankOf l (length l) x
has_stands x [] h = absurd h
has_stands x (y ∷ ys) (inl e) = record { index = 0; inside = omega arith; there = sym e }
has_stands x (y ∷ ys) (inr h) =
    let s = has_stands x ys h in
    let k = s.inside in
    record { index = suc s.index; inside = omega arith; there = s.there }

-- ---- a list in order: none stands behind one that it should precede
module _ (key : ℕ → List ℕ) (late : ℕ → ℕ) where
  abbrev pub Leads : ℕ → List ℕ → Type 0
  Leads x l = EachOf (λ y. precedes key late x y ≡ true) l

  abbrev pub Climbs : List ℕ → Type 0
  Climbs [] = Unit
  Climbs (x ∷ xs) = Leads x xs × Climbs xs

  -- one more, by the first of the list
  module _ (x y : ℕ) (ys : List ℕ) where
    pub rank_here : precedes key late x y ≡ true → rank_in key late x (y ∷ ys) ≡ x ∷ y ∷ ys
    unfolding rank_in pick
    rank_here e = rw e

    pub rank_past : precedes key late x y ≡ false → rank_in key late x (y ∷ ys) ≡ y ∷ rank_in key late x ys
    unfolding rank_in pick
    rank_past e = rw e

  -- what holds of it and of each holds then too, so the list stays in order
  pub each_rank_in : (P : ℕ → Type 0) (x : ℕ) (l : List ℕ) → P x → EachOf P l → EachOf P (rank_in key late x l)
  unfolding rank_in
  each_rank_in P x [] p e = (p, tt)
  each_rank_in P x (y ∷ ys) p e =
      ⊎_elim (λ t. rw (rank_here x y ys t) (p, e)) (λ t. rw (rank_past x y ys t) (e.0, each_rank_in P x ys p e.1)) (yes_no (precedes key late x y))

  pub leads_on : (x y : ℕ) (l : List ℕ) → precedes key late x y ≡ true → Leads y l → Leads x l
  leads_on x y [] e h = tt
  leads_on x y (z ∷ zs) e h = (precedes_trans key late x y z e h.0, leads_on x y zs e h.1)

  pub climbs_rank_in : (x : ℕ) (l : List ℕ) → Climbs l → Climbs (rank_in key late x l)
  unfolding rank_in
  climbs_rank_in x [] c = (tt, tt)
  climbs_rank_in x (y ∷ ys) c =
      ⊎_elim (λ t. rw (rank_here x y ys t) ((t, leads_on x y ys t c.0), c))
      (λ t.
      rw (rank_past x y ys t)
      (each_rank_in (λ z. precedes key late y z ≡ true) x ys (precedes_other key late x y t) c.0, climbs_rank_in x ys c.1))
      (yes_no (precedes key late x y))

  has_new : (x : ℕ) (l : List ℕ) → HasOne x (rank_in key late x l)
  unfolding rank_in
  has_new x [] = inl refl
  has_new x (y ∷ ys) = ⊎_elim (λ t. rw (rank_here x y ys t) (inl refl)) (λ t. rw (rank_past x y ys t) (inr (has_new x ys))) (yes_no (precedes key late x y))

  has_old : (x z : ℕ) (l : List ℕ) → HasOne z l → HasOne z (rank_in key late x l)
  unfolding rank_in
  has_old x z [] h = absurd h
  has_old x z (y ∷ ys) h =
      ⊎_elim (λ t. rw (rank_here x y ys t) (inr h))
      (λ t. rw (rank_past x y ys t) (⊎_elim (λ e. inl e) (λ k. inr (has_old x z ys k)) h))
      (yes_no (precedes key late x y))

  pub length_rank_in : (x : ℕ) (l : List ℕ) → length (rank_in key late x l) ≡ suc (length l)
  unfolding rank_in
  length_rank_in x [] = refl
  length_rank_in x (y ∷ ys) =
      ⊎_elim (λ t. rw (rank_here x y ys t)) (λ t. rw (rank_past x y ys t) (ap suc (length_rank_in x ys))) (yes_no (precedes key late x y))

  -- ---- the list in order has what the list has
  pub length_ranked : (l : List ℕ) → length (ranked key late l) ≡ length l
  unfolding ranked
  length_ranked [] = refl
  length_ranked (x ∷ xs) = length_rank_in x (ranked key late xs) ∙ ap suc (length_ranked xs)

  pub each_ranked : (P : ℕ → Type 0) (l : List ℕ) → EachOf P l → EachOf P (ranked key late l)
  unfolding ranked
  each_ranked P [] e = tt
  each_ranked P (x ∷ xs) e = each_rank_in P x (ranked key late xs) e.0 (each_ranked P xs e.1)

  pub has_ranked : (z : ℕ) (l : List ℕ) → HasOne z l → HasOne z (ranked key late l)
  unfolding ranked
  has_ranked z [] h = h
  has_ranked z (x ∷ xs) (inl e) = rw e (has_new x (ranked key late xs))
  has_ranked z (x ∷ xs) (inr h) = has_old x z (ranked key late xs) (has_ranked z xs h)

  pub climbs_ranked : (l : List ℕ) → Climbs (ranked key late l)
  unfolding ranked
  climbs_ranked [] = tt
  climbs_ranked (x ∷ xs) = climbs_rank_in x (ranked key late xs) (climbs_ranked xs)

  pub climbs_at : (l : List ℕ) (p q : ℕ) → Climbs l → p ≤ q → q < length l → precedes key late (get_or l p 0) (get_or l q 0) ≡ true
  climbs_at [] p q c h k = absurd (not-suc-le-zero k)
  climbs_at (x ∷ xs) zero zero c h k = precedes_self key late x
  climbs_at (x ∷ xs) zero (suc q) c h k = each_at (λ y. precedes key late x y ≡ true) xs q c.0 (omega arith)
  climbs_at (x ∷ xs) (suc p) zero c h k = absurd (not-suc-le-zero h)
  climbs_at (x ∷ xs) (suc p) (suc q) c h k = climbs_at xs p q c.1 (omega arith) (omega arith)

-- ---- so the numbers below n in that order are in order, each once
abbrev numbers : ℕ → List ℕ
numbers n = list_to (λ (i : ℕ). i) n

numbers_long : (n : ℕ) → length (numbers n) ≡ n
numbers_long n = length_list (λ (i : ℕ). i) n

numbers_at : (n i : ℕ) → i < n → get_or (numbers n) i 0 ≡ i
numbers_at n i h = list_at (λ (i : ℕ). i) 0 n i h

module _ (key : ℕ → List ℕ) (late : ℕ → ℕ) (n : ℕ) where
  long_ranked : length (ranked key late (numbers n)) ≡ n
  long_ranked = length_ranked key late (numbers n) ∙ numbers_long n

  numbers_below : EachOf (λ i. i < n) (numbers n)
  numbers_below = each_by (λ i. i < n) (numbers n) (λ i h. let k : i < n = rw (numbers_long n) at h in rw (numbers_at n i k) k)

  numbers_have : (x : ℕ) → x < n → HasOne x (numbers n)
  numbers_have x h = rw (numbers_at n x h) at (has_at (numbers n) x (rw (numbers_long n) h))

  pub ranked_in_order : InOrder key late n (ranked key late (list_to (λ (i : ℕ). i) n))
  ranked_in_order =
      record {
        long = long_ranked;
        below = λ p h. each_at (λ i. i < n) (ranked key late (numbers n)) p (each_ranked key late (λ i. i < n) (numbers n) numbers_below) (rw long_ranked h);
        each = λ x h. rw long_ranked at (has_stands x (ranked key late (numbers n)) (has_ranked key late x (numbers n) (numbers_have x h)));
        rises = λ p q h k. climbs_at key late (ranked key late (numbers n)) p q (climbs_ranked key late (numbers n)) h (rw long_ranked k);
      }

-- the first n places of an array that has one for each section
pub ranks_long : (n : ℕ) (l : List ℕ) → n ≤ MAX_SECTIONS → length l ≡ MAX_SECTIONS → length (take n l) ≡ n
ranks_long n l h e = length-take-le n l (omega arith)

pub ranks_room : (n : ℕ) (l : List ℕ) → n ≤ MAX_SECTIONS → length l ≡ MAX_SECTIONS → n ≡ length (take n l)
ranks_room n l h e = sym (ranks_long n l h e)

-- and so are a file's sections
pub sections_in_order : (f : List ℕ) (h : Header) → InOrder (section_text f h) (lateness f h) h.sections (section_ranks f h)
sections_in_order f h = ranked_in_order (section_text f h) (lateness f h) h.sections
