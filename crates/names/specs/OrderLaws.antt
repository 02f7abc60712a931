-- The order of names is a total order that agrees with equality: one of the three answers always stands, Equal means the same bytes,
-- and Less goes one way only and on from name to name.
use Rattle.std.proofs.Common.{Ordering, Less, Equal, Greater}
use Rattle.std.specs.Prelude.{◌≡◌, refl, true, List, [], ◌∷◌, ℕ, ◌<◌, eqb}
use Rattle.std.proofs.Common.{sym, ap, ◌∙◌, ⊎_elim, arith}
use borrow.Author.Tests.{lt-ltb, le-ltb, eq-eqb, eqb-true}
use Rattle.util.specs.Pick.{pick, le_or_lt, and_left, and_right}
use Rattle.names.specs.Bytes.{compare_bytes, are_same_bytes}

-- ---- the first bytes decide, where they differ; else what is left does
module _ (x y : ℕ) (xs ys : List ℕ) where
  head_less : x < y → compare_bytes (x ∷ xs) (y ∷ ys) ≡ Less
  unfolding compare_bytes pick
  head_less h = rw (lt-ltb x y h)

  head_greater : y < x → compare_bytes (x ∷ xs) (y ∷ ys) ≡ Greater
  unfolding compare_bytes pick
  head_greater h = rw (le-ltb x y (omega arith), lt-ltb y x h)

  head_equal : x ≡ y → compare_bytes (x ∷ xs) (y ∷ ys) ≡ compare_bytes xs ys
  unfolding compare_bytes pick
  head_equal e = rw (le-ltb x y (omega arith), le-ltb y x (omega arith))

-- by the three ways in which two numbers can stand
three : {P : Type 0} (x y : ℕ) → (x < y → P) → (x ≡ y → P) → (y < x → P) → P
three x y l e g = ⊎_elim (λ h. ⊎_elim (λ k. e (omega arith)) (λ k. l k) (le_or_lt y x)) (λ h. g h) (le_or_lt x y)

-- ---- equality: Equal exactly if the bytes are the same
-- a name equals itself
pub compare_self : (a : List ℕ) → compare_bytes a a ≡ Equal
unfolding compare_bytes
compare_self [] = refl
compare_self (x ∷ xs) = head_equal x x xs xs refl ∙ compare_self xs

-- names that compare as Equal are the same bytes
pub equal_same : (a b : List ℕ) → compare_bytes a b ≡ Equal → a ≡ b
unfolding compare_bytes
equal_same [] [] e = refl
equal_same [] (y ∷ ys) e = cc
equal_same (x ∷ xs) [] e = cc
equal_same (x ∷ xs) (y ∷ ys) e =
    three x y (λ h. cc (head_less x y xs ys h))
    (λ h. let r : xs ≡ ys = equal_same xs ys (sym (head_equal x y xs ys h) ∙ e) in cc)
    (λ h. cc (head_greater x y xs ys h))

-- the same bytes compare as Equal
pub same_equal : (a b : List ℕ) → a ≡ b → compare_bytes a b ≡ Equal
same_equal a b e = rw e (compare_self b)

-- ---- antisymmetry: Less one way is exactly Greater the other
-- the answer for the two names the other way round
abbrev pub turned : Ordering → Ordering
turned Less = Greater
turned Equal = Equal
turned Greater = Less

-- comparing the other way round turns the answer round
pub compare_turned : (a b : List ℕ) → compare_bytes b a ≡ turned (compare_bytes a b)
unfolding compare_bytes
compare_turned [] [] = refl
compare_turned [] (y ∷ ys) = refl
compare_turned (x ∷ xs) [] = refl
compare_turned (x ∷ xs) (y ∷ ys) =
    three x y (λ h. rw (head_less x y xs ys h) (head_greater y x ys xs h))
    (λ h. rw (head_equal x y xs ys h) (head_equal y x ys xs (sym h) ∙ compare_turned xs ys))
    (λ h. rw (head_greater x y xs ys h) (head_less y x ys xs h))

-- what comes before b has b after it
pub less_greater : (a b : List ℕ) → compare_bytes a b ≡ Less → compare_bytes b a ≡ Greater
less_greater a b e = compare_turned a b ∙ ap turned e

-- what comes after b has b before it
pub greater_less : (a b : List ℕ) → compare_bytes a b ≡ Greater → compare_bytes b a ≡ Less
greater_less a b e = compare_turned a b ∙ ap turned e

-- no name comes before itself
pub less_not_self : (a : List ℕ) → compare_bytes a a ≡ Less → ⊥
less_not_self a e = let s = compare_self a in let z : ◌≡◌ {A = ℕ} 0 1 = cc in omega arith

-- ---- transitivity
-- what comes before b comes before all that come after b
pub less_less : (a b c : List ℕ) → compare_bytes a b ≡ Less → compare_bytes b c ≡ Less → compare_bytes a c ≡ Less
unfolding compare_bytes
less_less [] [] [] p q = p
less_less [] [] (z ∷ zs) p q = refl
less_less [] (y ∷ ys) [] p q = cc
less_less [] (y ∷ ys) (z ∷ zs) p q = refl
less_less (x ∷ xs) [] c p q = cc
less_less (x ∷ xs) (y ∷ ys) [] p q = cc
less_less (x ∷ xs) (y ∷ ys) (z ∷ zs) p q =
    three x y
    (λ h. three y z (λ k. head_less x z xs zs (omega arith)) (λ k. head_less x z xs zs (omega arith)) (λ k. cc (head_greater y z ys zs k)))
    (λ h. three y z (λ k. head_less x z xs zs (omega arith))
    (λ k. head_equal x z xs zs (omega arith) ∙ less_less xs ys zs (sym (head_equal x y xs ys h) ∙ p) (sym (head_equal y z ys zs k) ∙ q))
    (λ k. cc (head_greater y z ys zs k)))
    (λ h. cc (head_greater x y xs ys h))

-- ---- sameBytes says true exactly if the bytes are the same
-- where it says true they are
pub same_bytes : (a b : List ℕ) → are_same_bytes a b ≡ true → a ≡ b
unfolding are_same_bytes
same_bytes [] [] e = refl
same_bytes [] (y ∷ ys) e = cc
same_bytes (x ∷ xs) [] e = cc
same_bytes (x ∷ xs) (y ∷ ys) e =
    let h : x ≡ y = eqb-true x y (and_left (eqb x y) (are_same_bytes xs ys) e) in
    let r : xs ≡ ys = same_bytes xs ys (and_right (eqb x y) (are_same_bytes xs ys) e) in
    cc

-- a name is the same as itself
pub same_self : (a : List ℕ) → are_same_bytes a a ≡ true
unfolding are_same_bytes
same_self [] = refl
same_self (x ∷ xs) = rw (eq-eqb x x refl) (same_self xs)

-- where the bytes are the same it says true
pub bytes_same : (a b : List ℕ) → a ≡ b → are_same_bytes a b ≡ true
bytes_same a b e = rw e (same_self b)
