-- Two lists in order make one: what was written, and what is left of both put together. Assumes nothing.
use mathlib.Core.Path.{◌≡◌, refl, sym, ap, ◌∙◌}
use mathlib.Core.Bool.{Bool, true, false}
use mathlib.Core.List.{List, [], ◌∷◌, ◌++◌, append-nil}
use mathlib.Core.Logic.{⊎_elim}
use Prim.Native.Nat.{ℕ, zero, suc, ◌+◌, ◌≤◌, ◌<◌}
use native.Mathlib.Omega.{arith}
use native.Mathlib.Numerals.{add-one}
use lib.ListN.{length, get_or, take, drop, set, length-set, drop_of_length-le}
use lib.Seq.{drop-cons, take_all, take-suc-set, append_snoc}
use Rattle.util.specs.Pick.{yes_no, le_or_lt, not_both}
use Rattle.ranks.specs.Rank.{precedes, rank_in, ranked}
use Rattle.ranks.specs.RankLaws.{EachOf, Leads, Climbs, rank_here, rank_past, each_rank_in, length_rank_in, precedes_other, precedes_trans, precedes_both, leads_on}
use Rattle.ranks.specs.Merge.{rank_all, left_next}

module _ (key : ℕ → List ℕ) (late : ℕ → ℕ) where
  -- ---- two that are put in may change places
  module _ (x y : ℕ) where
    change : (l : List ℕ) → precedes key late x y ≡ true → rank_in key late y l ≡ y ∷ l → rank_in key late x (y ∷ l) ≡ rank_in key late y (x ∷ l)
    change l e d =
        ⊎_elim (λ t. let z : x ≡ y = precedes_both key late x y e t in rw z)
        (λ t. rank_here key late x y l e ∙ sym (rank_past key late y x l t ∙ ap (λ (m : List ℕ). x ∷ m) d))
        (yes_no (precedes key late y x))

    change_far : (z : ℕ) (zs : List ℕ) → precedes key late x z ≡ true → precedes key late y z ≡ false
        → rank_in key late x (rank_in key late y (z ∷ zs)) ≡ rank_in key late y (rank_in key late x (z ∷ zs))
    change_far z zs e d =
        ⊎_elim (λ t. not_both (precedes key late y z) (precedes_trans key late y x z t e) d)
        (λ t.
        rw (
          rank_past key late y z zs d,
          rank_here key late x z zs e,
          rank_here key late x z (rank_in key late y zs) e,
          rank_past key late y x (z ∷ zs) t,
          rank_past key late y z zs d,
        ))
        (yes_no (precedes key late y x))

  change_near : (x y : ℕ) (l : List ℕ) → rank_in key late x l ≡ x ∷ l → rank_in key late y l ≡ y ∷ l → rank_in key late x (y ∷ l) ≡ rank_in key late y (x ∷ l)
  change_near x y l p q =
      ⊎_elim (λ e. change x y l e q) (λ e. sym (change y x l (precedes_other key late x y e) p)) (yes_no (precedes key late x y))

  rank_nil : (x : ℕ) → rank_in key late x [] ≡ x ∷ []
  unfolding rank_in
  rank_nil x = refl

  rank_change : (x y : ℕ) (l : List ℕ) → rank_in key late x (rank_in key late y l) ≡ rank_in key late y (rank_in key late x l)
  rank_change x y [] = rw (rank_nil x, rank_nil y) (change_near x y [] (rank_nil x) (rank_nil y))
  rank_change x y (z ∷ zs) =
      ⊎_elim
      (λ e.
      ⊎_elim
      (λ d. let p = rank_here key late x z zs e in let q = rank_here key late y z zs d in rw (p, q) (change_near x y (z ∷ zs) p q))
      (λ d. change_far x y z zs e d)
      (yes_no (precedes key late y z)))
      (λ e.
      ⊎_elim (λ d. sym (change_far y x z zs d e))
      (λ d.
      rw (rank_past key late x z zs e, rank_past key late y z zs d, rank_past key late x z (rank_in key late y zs) e, rank_past key late y z (rank_in key late x zs) d)
      (ap (λ (m : List ℕ). z ∷ m) (rank_change x y zs)))
      (yes_no (precedes key late y z)))
      (yes_no (precedes key late x z))

  -- ---- so it does not matter in which order they are
  all_rank_in : (x : ℕ) (zs l : List ℕ) → rank_all key late (rank_in key late x zs) l ≡ rank_in key late x (rank_all key late zs l)
  unfolding rank_all rank_in
  all_rank_in x [] l = refl
  all_rank_in x (z ∷ zs) l =
      ⊎_elim (λ e. rw (rank_here key late x z zs e))
      (λ e. rw (rank_past key late x z zs e) (ap (rank_in key late z) (all_rank_in x zs l) ∙ rank_change z x (rank_all key late zs l)))
      (yes_no (precedes key late x z))

  all_ranked : (xs l : List ℕ) → rank_all key late (ranked key late xs) l ≡ rank_all key late xs l
  unfolding rank_all ranked
  all_ranked [] l = refl
  all_ranked (x ∷ xs) l = all_rank_in x (ranked key late xs) l ∙ ap (rank_in key late x) (all_ranked xs l)

  all_append : (xs ys : List ℕ) → ranked key late (xs ++ ys) ≡ rank_all key late xs (ranked key late ys)
  unfolding rank_all ranked
  all_append [] ys = refl
  all_append (x ∷ xs) ys = ap (rank_in key late x) (all_append xs ys)

  pub ranked_append : (xs ys : List ℕ) → ranked key late (xs ++ ys) ≡ rank_all key late (ranked key late xs) (ranked key late ys)
  ranked_append xs ys = all_append xs ys ∙ sym (all_ranked xs (ranked key late ys))

  pub length_rank_all : (xs ys : List ℕ) → length (rank_all key late xs ys) ≡ length xs + length ys
  unfolding rank_all
  length_rank_all [] ys = omega arith
  length_rank_all (x ∷ xs) ys =
      let e = length_rank_in key late x (rank_all key late xs ys) in
      let d = length_rank_all xs ys in
      omega arith

  -- ---- the first of two lists in order is the first of both
  each_rank_all : (P : ℕ → Type 0) (xs ys : List ℕ) → EachOf P xs → EachOf P ys → EachOf P (rank_all key late xs ys)
  unfolding rank_all
  each_rank_all P [] ys e d = d
  each_rank_all P (x ∷ xs) ys e d = each_rank_in key late P x (rank_all key late xs ys) e.0 (each_rank_all P xs ys e.1 d)

  rank_front : (x : ℕ) (l : List ℕ) → Leads key late x l → rank_in key late x l ≡ x ∷ l
  unfolding rank_in
  rank_front x [] h = refl
  rank_front x (y ∷ ys) h = rank_here key late x y ys h.0

  leads_next : (x : ℕ) (xs bs : List ℕ) → Climbs key late bs → left_next key late (x ∷ xs) bs ≡ true → Leads key late x bs
  unfolding left_next
  leads_next x xs [] c e = tt
  leads_next x xs (y ∷ ys) c e = (e, leads_on key late x y ys e c.0)

  from_left : (x : ℕ) (xs bs : List ℕ) → Climbs key late (x ∷ xs) → Climbs key late bs → left_next key late (x ∷ xs) bs ≡ true
      → rank_all key late (x ∷ xs) bs ≡ x ∷ rank_all key late xs bs
  unfolding rank_all
  from_left x xs bs c d e =
      rank_front x (rank_all key late xs bs) (each_rank_all (λ y. precedes key late x y ≡ true) xs bs c.0 (leads_next x xs bs d e))

  -- what stands behind x precedes nothing that x does not
  none_next : (x y z : ℕ) → precedes key late x z ≡ true → precedes key late x y ≡ false → precedes key late z y ≡ false
  none_next x y z e d =
      ⊎_elim (λ t. not_both (precedes key late x y) (precedes_trans key late x z y e t) d) (λ t. t) (yes_no (precedes key late z y))

  from_right : (xs : List ℕ) (y : ℕ) (ys : List ℕ) → Climbs key late xs → left_next key late xs (y ∷ ys) ≡ false
      → rank_all key late xs (y ∷ ys) ≡ y ∷ rank_all key late xs ys
  unfolding rank_all left_next
  from_right [] y ys c e = refl
  from_right (x ∷ []) y ys c e = rank_past key late x y ys e
  from_right (x ∷ z ∷ zs) y ys c e =
      ap (rank_in key late x) (from_right (z ∷ zs) y ys c.1 (none_next x y z c.0.0 e))
      ∙ rank_past key late x y (rank_all key late (z ∷ zs) ys) e

  climbs_drop : (l : List ℕ) (i : ℕ) → Climbs key late l → Climbs key late (drop i l)
  climbs_drop l zero c = c
  climbs_drop [] (suc i) c = c
  climbs_drop (x ∷ xs) (suc i) c = climbs_drop xs i c.1

-- ---- the loop: i of the left list and j of the right one are written
pub record Merging (key : ℕ → List ℕ) (late : ℕ → ℕ) (a b out : List ℕ) (i j : ℕ) : Type 0 where
  pub left : i ≤ length a
  pub right : j ≤ length b
  pub long : length out ≡ length a + length b
  pub done : take (i + j) out ++ rank_all key late (drop i a) (drop j b) ≡ rank_all key late a b

module _ (key : ℕ → List ℕ) (late : ℕ → ℕ) (a b out : List ℕ) where
  pub merge_none : length out ≡ length a + length b → Merging key late a b out 0 0
  merge_none e = record { left = omega arith; right = omega arith; long = e; done = refl }

  module _ (i j : ℕ) (r : Bool) (m : Merging key late a b out i j) (is : r ≡ left_next key late (drop i a) (drop j b)) where
    pub merge_in_left : r ≡ true → i < length a
    unfolding left_next
    merge_in_left t =
        ⊎_elim (λ h. not_both r t (is ∙ rw (drop_of_length-le a {i = i} h))) (λ h. h) (le_or_lt (length a) i)

    pub merge_in_right : (n : ℕ) (o : List ℕ) → r ≡ false → i + j < n → n ≡ length o → length o ≡ length a + length b → j < length b
    unfolding left_next
    merge_in_right n o t h q y =
        let l = m.left in
        ⊎_elim (λ k. omega arith)
        (λ k.
        ⊎_elim (λ g. not_both r (is ∙ rw (drop-cons a i 0 k, drop_of_length-le b {i = j} g)) t) (λ g. g) (le_or_lt (length b) j))
        (le_or_lt (length a) i)

    pub merge_left : Climbs key late a → Climbs key late b → r ≡ true → Merging key late a b (set out (i + j) (get_or a i 0)) (i + 1) j
    merge_left c d t =
        let k = merge_in_left t in
        let g = m.right in
        let o = m.long in
        let v = get_or a i 0 in
        let s : drop i a ≡ v ∷ drop (suc i) a = drop-cons a i 0 k in
        let w : i + 1 + j ≡ suc (i + j) = omega arith in
        let e : rank_all key late (drop i a) (drop j b) ≡ v ∷ rank_all key late (drop (suc i) a) (drop j b)
        = rw s (from_left key late v (drop (suc i) a) (drop j b) (rw s at (climbs_drop key late a i c)) (climbs_drop key late b j d) (rw s at (sym is ∙ t))) in
        let room : i + j < length out = omega arith in
        record {
          left = omega arith;
          right = g;
          long = length-set out (i + j) v ∙ o;
          done = rw (w, add-one i, take-suc-set out (i + j) v room) (append_snoc (take (i + j) out) v (rank_all key late (drop (suc i) a) (drop j b)) ∙ rw e at m.done);
        }

    pub merge_right : (n : ℕ) (o : List ℕ) → Climbs key late a → r ≡ false → i + j < n → n ≡ length o → length o ≡ length a + length b
        → Merging key late a b (set out (i + j) (get_or b j 0)) i (j + 1)
    merge_right n o c t h q y =
        let k = merge_in_right n o t h q y in
        let g = m.left in
        let u = m.long in
        let v = get_or b j 0 in
        let s : drop j b ≡ v ∷ drop (suc j) b = drop-cons b j 0 k in
        let w : i + (j + 1) ≡ suc (i + j) = omega arith in
        let e : rank_all key late (drop i a) (drop j b) ≡ v ∷ rank_all key late (drop i a) (drop (suc j) b)
        = rw s (from_right key late (drop i a) v (drop (suc j) b) (climbs_drop key late a i c) (rw s at (sym is ∙ t))) in
        let room : i + j < length out = omega arith in
        record {
          left = g;
          right = omega arith;
          long = length-set out (i + j) v ∙ u;
          done = rw (w, add-one j, take-suc-set out (i + j) v room) (append_snoc (take (i + j) out) v (rank_all key late (drop i a) (drop (suc j) b)) ∙ rw e at m.done);
        }

  pub merge_end : (i j n : ℕ) (o : List ℕ) → Merging key late a b out i j → n ≤ i + j → n ≡ length o → length o ≡ length a + length b → out ≡ rank_all key late a b
  unfolding rank_all
  merge_end i j n o m h q y =
      let l = m.left in
      let r = m.right in
      let u = m.long in
      let s = drop_of_length-le a {i = i} (omega arith) in
      let t = drop_of_length-le b {i = j} (omega arith) in
      rw (s, t, append-nil, take_all (i + j) out (omega arith)) at m.done

pub ruleset merge_loop = (merge_none, merge_in_left, merge_in_right, merge_left, merge_right, merge_end)
