-- A table that has a record for each number below n that passes a test, in order.
use Rattle.std.specs.Prelude.{◌≡◌, Bool, true, false}
use Rattle.std.proofs.Math.Path.{refl, sym, ap}
use Rattle.std.proofs.Common.{◌∙◌, not-suc-le-zero, le_of_suc-le-suc, eq-or-lt_of_le, add-one}
use mathlib.Core.List.{List, [], ◌∷◌, ◌++◌, append-nil}
use Rattle.std.proofs.Math.Logic.{⊎_elim}
use Prim.Native.Nat.{ℕ, zero, suc, ◌+◌, ◌*◌, ◌≤◌, ◌<◌}
use native.Mathlib.Omega.{arith}
use Rattle.std.proofs.Math.ListN.{length, get_or, length-append, get_or-append}
use Rattle.std.proofs.Math.Seq.{get_or-append_seam}
use Rattle.limits.specs.Records.{WORD}
use Rattle.util.specs.Pick.{pick, yes_no}
use Rattle.util.specs.Prefix.{count_to, count_more, count_same, count_below}
use Rattle.le.specs.Le.{splice, splice_next, splice_long}
use Rattle.words.specs.Words.{word_bytes, length_words}
use Rattle.words.specs.Rows.{row_words, rows_join}

-- the bytes of those records, `words` saying what a number's record holds
unfoldable pub picked : (ℕ → Bool) → (ℕ → List ℕ) → ℕ → List ℕ
picked p words zero = []
picked p words (suc n) = pick (p n) (picked p words n ++ word_bytes (words n)) (picked p words n)

-- ---- the numbers below n that pass, in order
unfoldable pub chosen : (ℕ → Bool) → ℕ → List ℕ
chosen p zero = []
chosen p (suc n) = pick (p n) (chosen p n ++ (n ∷ [])) (chosen p n)

-- x is the one with k before it
pub record Chosen (p : ℕ → Bool) (n k x : ℕ) : Type 0 where
  pub passes : p x ≡ true
  pub below : x < n
  pub place : count_to p x ≡ k

module _ (p : ℕ → Bool) where
  chosen_yes : (n : ℕ) → p n ≡ true → chosen p (suc n) ≡ chosen p n ++ (n ∷ [])
  unfolding chosen pick
  chosen_yes n t = rw t

  chosen_no : (n : ℕ) → p n ≡ false → chosen p (suc n) ≡ chosen p n
  unfolding chosen pick
  chosen_no n t = rw t

  pub length_chosen : (n : ℕ) → length (chosen p n) ≡ count_to p n
  unfolding chosen count_to
  length_chosen zero = refl
  length_chosen (suc n) =
      let e = length_chosen n in
      ⊎_elim (λ t. rw (chosen_yes n t, count_more p n t) (length-append (chosen p n) (n ∷ []) ∙ rw e)) (λ t. rw (chosen_no n t, count_same p n t) e) (yes_no (p n))

  -- a number stands behind as many as pass before it
  pub chosen_at : (n i d : ℕ) → i < n → p i ≡ true → get_or (chosen p n) (count_to p i) d ≡ i
  chosen_at zero i d h t = absurd (not-suc-le-zero h)
  chosen_at (suc n) i d h t =
      let l = length_chosen n in
      ⊎_elim
      (λ q. rw (q, chosen_yes n (rw q at t), ← l) (get_or-append_seam (chosen p n) n [] d))
      (λ lt.
      let r = chosen_at n i d lt t in
      let m = count_below p n i lt t in
      ⊎_elim (λ y. rw (chosen_yes n y) (get_or-append (chosen p n) (n ∷ []) d (count_to p i) (omega arith) ∙ r)) (λ y. rw (chosen_no n y) r) (yes_no (p n)))
      (eq-or-lt_of_le (le_of_suc-le-suc h))

  pub chosen_is : (n k d : ℕ) → k < length (chosen p n) → Chosen p n k (get_or (chosen p n) k d)
  unfolding chosen
  chosen_is zero k d h = absurd (not-suc-le-zero h)
  chosen_is (suc n) k d h =
      let l = length_chosen n in
      let on : k < length (chosen p n) → Chosen p (suc n) k (get_or (chosen p n) k d) =
      λ q. let c = chosen_is n k d q in record { passes = c.passes; below = omega (arith, c.below); place = c.place } in
      ⊎_elim
      (λ y.
      let m = length-append (chosen p n) (n ∷ []) in
      let z : k < length (chosen p n ++ (n ∷ [])) = rw (chosen_yes n y) at h in
      rw (chosen_yes n y)
      (⊎_elim
      (λ q.
      let e : get_or (chosen p n ++ (n ∷ [])) k d ≡ n = ap (λ (x : ℕ). get_or (chosen p n ++ (n ∷ [])) x d) q ∙ get_or-append_seam (chosen p n) n [] d in
      rw e (record { passes = y; below = omega arith; place = sym l ∙ sym q }))
      (λ q. rw (get_or-append (chosen p n) (n ∷ []) d k q) (on q))
      (eq-or-lt_of_le {n = k} {m = length (chosen p n)} (omega arith))))
      (λ y. let z : k < length (chosen p n) = rw (chosen_no n y) at h in rw (chosen_no n y) (on z))
      (yes_no (p n))

-- ---- the table is the rows of those numbers
one_row : {A : Type 0} (words : A → List ℕ) (xs : List A) (x : A) (t : Bool)
    → pick t (word_bytes (row_words words xs) ++ word_bytes (words x)) (word_bytes (row_words words xs)) ≡ word_bytes (row_words words (pick t (xs ++ (x ∷ [])) xs))
unfolding pick row_words
one_row words xs x true = ap (λ (l : List ℕ). word_bytes (row_words words xs) ++ word_bytes l) (sym (append-nil (words x))) ∙ rows_join words xs (x ∷ [])
one_row words xs x false = refl

pub picked_rows : (p : ℕ → Bool) (words : ℕ → List ℕ) (n : ℕ) → picked p words n ≡ word_bytes (row_words words (chosen p n))
unfolding picked chosen row_words word_bytes
picked_rows p words zero = refl
picked_rows p words (suc n) = rw (picked_rows p words n) (one_row words (chosen p n) n (p n))

-- ---- a loop that writes it: after i turns n records, which are T, stand at the front of what was l
pub record Standing (size : ℕ) (T l b : List ℕ) (n i : ℕ) : Type 0 where
  pub few : n ≤ i
  pub bytes : b ≡ splice l 0 T
  pub long : size * n ≡ length T

pub joined : (l b c T R : List ℕ) (k : ℕ) → b ≡ splice l 0 T → k ≡ length T → c ≡ splice b k R → c ≡ splice l 0 (T ++ R)
joined l b c T R k e q d = rw (d, e) (splice_next l 0 T R k (omega arith))

pub standing_long : (size : ℕ) (T l b : List ℕ) (n i : ℕ) → Standing size T l b n i → length b ≡ length l
standing_long size T l b n i o = splice_long l b 0 T o.bytes

-- what goes behind the records
pub standing_behind : (size : ℕ) (T R l b c : List ℕ) (n i : ℕ) → Standing size T l b n i → c ≡ splice b (size * n) R → c ≡ splice l 0 (T ++ R)
standing_behind size T R l b c n i o d = joined l b c T R (size * n) o.bytes o.long d

more : (size n : ℕ) → size * (n + 1) ≡ size * n + size
more size n = omega arith

module _ (p : ℕ → Bool) (words : ℕ → List ℕ) where
  pub picked_none : (size : ℕ) (l : List ℕ) → Standing size (picked p words 0) l l 0 0
  unfolding picked splice
  picked_none size l = record { few = omega arith; bytes = refl; long = omega arith }

  module _ (size i n : ℕ) (l b : List ℕ) (t : Bool) (is : t ≡ p i) (o : Standing size (picked p words i) l b n i) where
    pub picked_more : WORD * length (words i) ≡ size → (c : List ℕ) → t ≡ true → c ≡ splice b (size * n) (word_bytes (words i)) → Standing size (picked p words (i + 1)) l c (n + 1) (i + 1)
    unfolding picked pick
    picked_more k c y d =
        let a = o.few in
        let g : length (picked p words i) + length (word_bytes (words i)) ≡ size * n + size = rw (length_words (words i), k, ← o.long) in
        let z : Standing size (picked p words i ++ word_bytes (words i)) l c (n + 1) (suc i) =
        record {
          few = omega arith;
          bytes = standing_behind size (picked p words i) (word_bytes (words i)) l b c n i o d;
          long = more size n ∙ sym g ∙ sym (length-append (picked p words i) (word_bytes (words i)));
        } in
        rw (add-one i, ← is, y) z

    pub picked_same : t ≡ false → Standing size (picked p words (i + 1)) l b n (i + 1)
    unfolding picked pick
    picked_same y =
        let a = o.few in
        let z : Standing size (picked p words i) l b n (suc i) = record { few = omega arith; bytes = o.bytes; long = o.long } in
        rw (add-one i, ← is, y) z
