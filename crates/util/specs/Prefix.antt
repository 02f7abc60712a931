-- Recursion over the numbers below n: each of them passes a test; one of them does; a sum over them; how many of them pass; a list over them. Below each the laws of a loop that computes it.
use Rattle.std.specs.Prelude.{◌≡◌, ℕ, zero, suc, ◌+◌, ◌*◌, ◌<◌, ◌≤◌, Bool, true, false, not, ◌&&◌, ◌||◌, List, [], ◌∷◌, ◌++◌, length, slice_index_or}
use Rattle.std.proofs.Math.Path.{refl, ap}
use Rattle.std.proofs.Common.{sym, ◌∙◌, not-suc-le-zero, le_of_suc-le-suc, eq-or-lt_of_le, add-one, length-append}
use Rattle.std.proofs.Math.Bool.{and-false, or-true}
use Rattle.std.proofs.Math.Logic.{⊎_elim}
use native.Mathlib.Omega.{arith}
use Rattle.std.proofs.Math.ListN.{get_or-append, get_or-eq_default}
use Rattle.std.proofs.Math.Seq.{get_or-append_seam}
use Rattle.std.proofs.lemmas.Bool.{not-true, not-false}
use Rattle.util.specs.Pick.{pick, yes_no, and_left, and_right, and_both}

-- each number below n passes; with n = 0 it holds
unfoldable pub all_to : (ℕ → Bool) → ℕ → Bool
all_to p zero = true
all_to p (suc n) = all_to p n && p n

-- some number below n passes
unfoldable pub any_to : (ℕ → Bool) → ℕ → Bool
any_to p zero = false
any_to p (suc n) = any_to p n || p n

-- f 0 + ... + f (n - 1)
unfoldable pub sum_to : (ℕ → ℕ) → ℕ → ℕ
sum_to f zero = 0
sum_to f (suc n) = sum_to f n + f n

-- how many pass
unfoldable pub count_to : (ℕ → Bool) → ℕ → ℕ
count_to p zero = 0
count_to p (suc n) = count_to p n + pick (p n) 1 0

-- the list over them
unfoldable pub list_to : {A : Type 0} → (ℕ → A) → ℕ → List A
list_to g zero = []
list_to g (suc n) = list_to g n ++ (g n ∷ [])

-- ---- all of them
module _ (p : ℕ → Bool) where
  pub all_none : all_to p 0 ≡ true
  unfolding all_to
  all_none = refl

  pub all_more : (i : ℕ) → all_to p i ≡ true → p i ≡ true → all_to p (i + 1) ≡ true
  unfolding all_to
  all_more i a b = simp (add-one, a, b)

  pub all_stop : (i n : ℕ) → i < n → p i ≡ false → all_to p n ≡ false
  unfolding all_to
  all_stop i zero h e = absurd (not-suc-le-zero h)
  all_stop i (suc n) h e =
      ⊎_elim (λ q. ap (λ (b : Bool). all_to p n && b) (ap p (sym q) ∙ e) ∙ and-false (all_to p n))
      (λ lt. ap (λ (b : Bool). b && p n) (all_stop i n lt e))
      (eq-or-lt_of_le (le_of_suc-le-suc h))

  -- it says that each of them passes, and what says so of each gives it
  pub all_at : (n i : ℕ) → all_to p n ≡ true → i < n → p i ≡ true
  unfolding all_to
  all_at zero i e h = absurd (not-suc-le-zero h)
  all_at (suc n) i e h =
      ⊎_elim (λ q. ap p q ∙ and_right (all_to p n) (p n) e) (λ lt. all_at n i (and_left (all_to p n) (p n) e) lt) (eq-or-lt_of_le (le_of_suc-le-suc h))

  pub all_of : (n : ℕ) → ((i : ℕ) → i < n → p i ≡ true) → all_to p n ≡ true
  unfolding all_to
  all_of zero h = refl
  all_of (suc n) h = and_both (all_to p n) (p n) (all_of n (λ i k. h i (omega arith))) (h n (omega arith))

  -- as a loop asks them: a turn that leaves, a turn that goes on, and the end
  pub all_out : (i n m : ℕ) (r : Bool) → i < n → n ≡ m → r ≡ p i → not r ≡ true → false ≡ all_to p m
  all_out i n m r h q e t = let z : p i ≡ false = cc (not-true r t) in cc (all_stop i n h z)

  pub all_again : (i : ℕ) (r : Bool) → all_to p i ≡ true → r ≡ p i → not r ≡ false → all_to p (i + 1) ≡ true
  all_again i r a e t = all_more i a (cc (not-false r t))

  pub all_end : (i n m : ℕ) → all_to p i ≡ true → i ≤ n → n ≤ i → n ≡ m → true ≡ all_to p m
  all_end i n m a h k q = let z : i ≡ n = omega arith in cc

pub ruleset all_loop = (all_none, all_out, all_again, all_end)

-- ---- one of them
module _ (p : ℕ → Bool) where
  pub any_none : any_to p 0 ≡ false
  unfolding any_to
  any_none = refl

  any_here : (i n : ℕ) → i < n → p i ≡ true → any_to p n ≡ true
  unfolding any_to
  any_here i zero h e = absurd (not-suc-le-zero h)
  any_here i (suc n) h e =
      ⊎_elim (λ q. ap (λ (b : Bool). any_to p n || b) (ap p (sym q) ∙ e) ∙ or-true (any_to p n))
      (λ lt. ap (λ (b : Bool). b || p n) (any_here i n lt e))
      (eq-or-lt_of_le (le_of_suc-le-suc h))

  pub any_out : (i n m : ℕ) (r : Bool) → i < n → n ≡ m → r ≡ p i → r ≡ true → true ≡ any_to p m
  any_out i n m r h q e t = let z : p i ≡ true = cc in cc (any_here i n h z)

  pub any_again : (i : ℕ) (r : Bool) → any_to p i ≡ false → r ≡ p i → r ≡ false → any_to p (i + 1) ≡ false
  unfolding any_to
  any_again i r a e t = rw (add-one, a, ← e) t

  pub any_end : (i n m : ℕ) → any_to p i ≡ false → i ≤ n → n ≤ i → n ≡ m → false ≡ any_to p m
  any_end i n m a h k q = let z : i ≡ n = omega arith in cc

pub ruleset any_loop = (any_none, any_out, any_again, any_end)

-- ---- a sum
module _ (f : ℕ → ℕ) where
  pub sum_none : 0 ≡ sum_to f 0
  unfolding sum_to
  sum_none = refl

  pub sum_again : (i s r : ℕ) → s ≡ sum_to f i → r ≡ f i → s + r ≡ sum_to f (i + 1)
  unfolding sum_to
  sum_again i s r p q = rw (add-one, p, q)

  pub sum_end : (i n m s : ℕ) → s ≡ sum_to f i → i ≤ n → n ≤ i → n ≡ m → s ≡ sum_to f m
  sum_end i n m s p h k q = let z : i ≡ n = omega arith in cc

  -- the first apart from the rest; two stretches; terms that are equal
  pub sum_front : (n : ℕ) → sum_to f (suc n) ≡ f 0 + sum_to (λ i. f (suc i)) n
  unfolding sum_to
  sum_front zero = omega arith
  sum_front (suc n) = let e = sum_front n in omega arith

  pub sum_plus : (n m : ℕ) → sum_to f (n + m) ≡ sum_to f n + sum_to (λ i. f (n + i)) m
  unfolding sum_to
  sum_plus n zero = let e : n + 0 ≡ n = omega arith in rw e (omega arith)
  sum_plus n (suc m) =
      let e : n + suc m ≡ suc (n + m) = omega arith in
      let r = sum_plus n m in
      rw e (omega arith)

pub ruleset sum_loop = (sum_none, sum_again, sum_end)

pub sum_same : (f g : ℕ → ℕ) (n : ℕ) → ((i : ℕ) → i < n → f i ≡ g i) → sum_to f n ≡ sum_to g n
unfolding sum_to
sum_same f g zero h = refl
sum_same f g (suc n) h =
    let e : f n ≡ g n = h n (omega arith) in
    let r : sum_to f n ≡ sum_to g n = sum_same f g n (λ i k. h i (omega arith)) in
    omega arith

pub sum_zero : (f : ℕ → ℕ) (n : ℕ) → ((i : ℕ) → i < n → f i ≡ 0) → sum_to f n ≡ 0
unfolding sum_to
sum_zero f zero h = refl
sum_zero f (suc n) h =
    let e : f n ≡ 0 = h n (omega arith) in
    let r : sum_to f n ≡ 0 = sum_zero f n (λ i k. h i (omega arith)) in
    omega arith

-- a sum over words of a sum over each word's k places is one sum over all places
pub sum_rows : (f : ℕ → ℕ) (k n : ℕ) → sum_to (λ w. sum_to (λ j. f (k * w + j)) k) n ≡ sum_to f (k * n)
unfolding sum_to
sum_rows f k zero = let e : k * 0 ≡ 0 = omega arith in rw e
sum_rows f k (suc n) =
    let e : k * suc n ≡ k * n + k = omega arith in
    let r = sum_rows f k n in
    rw e (ap (λ (x : ℕ). x + sum_to (λ j. f (k * n + j)) k) r ∙ sym (sum_plus f (k * n) k))

pub count_is_sum : (p : ℕ → Bool) (n : ℕ) → count_to p n ≡ sum_to (λ i. pick (p i) 1 0) n
unfolding count_to sum_to
count_is_sum p zero = refl
count_is_sum p (suc n) = let r = count_is_sum p n in omega arith

-- ---- how many pass
module _ (p : ℕ → Bool) where
  pub count_none : 0 ≡ count_to p 0
  unfolding count_to
  count_none = refl

  pub count_yes : (i c : ℕ) (r : Bool) → c ≡ count_to p i → r ≡ p i → r ≡ true → c + 1 ≡ count_to p (i + 1)
  unfolding count_to pick
  count_yes i c r e q d = rw (add-one i, ← e, ← q, d)

  pub count_no : (i c : ℕ) (r : Bool) → c ≡ count_to p i → r ≡ p i → r ≡ false → c ≡ count_to p (i + 1)
  unfolding count_to pick
  count_no i c r e q d = rw (add-one i, ← e, ← q, d) (omega arith)

  pub count_end : (i n m c : ℕ) → c ≡ count_to p i → i ≤ n → n ≤ i → n ≡ m → c ≡ count_to p m
  count_end i n m c e a b q = let z : i ≡ m = omega arith in cc

pub ruleset count_loop = (count_none, count_yes, count_no, count_end)

module _ (p : ℕ → Bool) where
  pub count_more : (n : ℕ) → p n ≡ true → count_to p (suc n) ≡ count_to p n + 1
  unfolding count_to pick
  count_more n t = rw t

  pub count_same : (n : ℕ) → p n ≡ false → count_to p (suc n) ≡ count_to p n
  unfolding count_to pick
  count_same n t = rw t (omega arith)

  -- n numbers hold no more than n that pass
  pub count_most : (n : ℕ) → count_to p n ≤ n
  unfolding count_to
  count_most zero = omega arith
  count_most (suc n) = let r = count_most n in ⊎_elim (λ t. rw (count_more n t) (omega arith)) (λ t. rw (count_same n t) (omega arith)) (yes_no (p n))

  -- the place of a number among those that pass is the count of those before it
  pub count_below : (n i : ℕ) → i < n → p i ≡ true → count_to p i < count_to p n
  count_below zero i h t = absurd (not-suc-le-zero h)
  count_below (suc n) i h t =
      ⊎_elim (λ q. rw (q, count_more n (rw q at t)) (omega arith))
      (λ lt. let r = count_below n i lt t in ⊎_elim (λ y. rw (count_more n y) (omega arith)) (λ y. rw (count_same n y) r) (yes_no (p n)))
      (eq-or-lt_of_le (le_of_suc-le-suc h))

-- ---- a list: it has an element for each number, in their order, and reads as the default behind them
module _ {A : Type 0} (g : ℕ → A) where
  pub length_list : (n : ℕ) → length (list_to g n) ≡ n
  unfolding list_to
  length_list zero = refl
  length_list (suc n) = simp (length-append, length_list n) (omega arith)

  pub list_at : (d : A) (n i : ℕ) → i < n → slice_index_or (list_to g n) i d ≡ g i
  unfolding list_to
  list_at d zero i h = absurd (not-suc-le-zero h)
  list_at d (suc n) i h =
      ⊎_elim (λ e. rw e (rw (length_list n) at (get_or-append_seam (list_to g n) (g n) [] d)))
      (λ lt. get_or-append (list_to g n) (g n ∷ []) d i (rw (length_list n) lt) ∙ list_at d n i lt)
      (eq-or-lt_of_le (le_of_suc-le-suc h))

  pub list_past : (d : A) (n i : ℕ) → n ≤ i → slice_index_or (list_to g n) i d ≡ d
  list_past d n i h = get_or-eq_default (list_to g n) d {n = i} (rw (length_list n) h)
