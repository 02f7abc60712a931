-- One of two by a test: the `if` of every definition. Below it the laws of tests, in the forms that the code's branches leave.
use Rattle.std.specs.Prelude.{◌≡◌, ℕ, ◌+◌, ◌-◌, ◌<◌, ◌≤◌, Bool, true, false, not, ◌&&◌, ◌||◌, ◌⊎◌, ◌==◌, ◌≢◌, nat_le, nat_lt, refl}
use mir.Val.{bool_byte}
use Rattle.std.proofs.Common.{sym, inl, inr, ⊎_elim, arith, leb-true, leb-false, ltb-true, lt-ltb, le-ltb, le-leb, eq-eqb, ne_eqb}
use Rattle.std.proofs.Math.Bool.{and-false, or-true}
use Rattle.std.proofs.lemmas.Bool.{lt-leb, not-true, not-false}

-- the first where the test holds, else the second
unfoldable pub pick : {A : Type 0} → Bool → A → A → A
pick true a b = a
pick false a b = b

-- a flag as the number that the library makes of it
pub flag_is : (b : Bool) → bool_byte b ≡ pick b 1 0
unfolding pick
flag_is true = refl
flag_is false = refl

-- ---- by cases
pub yes_no : (b : Bool) → (b ≡ true) ⊎ (b ≡ false)
yes_no true = inl refl
yes_no false = inr refl

pub le_or_lt : (a b : ℕ) → (a ≤ b) ⊎ (b < a)
le_or_lt a b = ⊎_elim (λ e. inl (leb-true a b e)) (λ e. inr (leb-false a b e)) (yes_no (nat_le a b))

pub three_ways : (a b : ℕ) → (a < b) ⊎ ((a ≡ b) ⊎ (b < a))
three_ways a b = ⊎_elim (λ h. ⊎_elim (λ k. inr (inl (omega arith))) (λ k. inl k) (le_or_lt b a)) (λ k. inr (inr k)) (le_or_lt a b)

-- no test says both
pub not_both : {A : Type 0} (b : Bool) → b ≡ true → b ≡ false → A
not_both b t e = let z : ◌≡◌ {A = ℕ} 0 1 = cc in absurd (omega arith)

-- what holds of both holds of the one that is picked
pub pick_either : {A : Type 0} (P : A → Type 0) (b : Bool) (s t : A) → (b ≡ true → P s) → P t → P (pick b s t)
unfolding pick
pick_either P true s t x y = x refl
pick_either P false s t x y = y

-- two tests are one where each gives the other
pub both_ways : (a b : Bool) → (a ≡ true → b ≡ true) → (b ≡ true → a ≡ true) → a ≡ b
both_ways true b f g = sym (f refl)
both_ways false true f g = g refl
both_ways false false f g = refl

pub and_left : (a b : Bool) → a && b ≡ true → a ≡ true
and_left true b e = refl
and_left false b e = e

pub and_right : (a b : Bool) → a && b ≡ true → b ≡ true
and_right true b e = e
and_right false b e = cc

pub and_both : (a b : Bool) → a ≡ true → b ≡ true → a && b ≡ true
and_both a b e d = rw (e, d)

-- a chain of checks that passes, by saying z, passes the check at its head, and the rest of it says z
pub head_passes : {A : Type 0} {z : A} (t : Bool) (a b : A) → pick t a b ≡ z → (b ≢ z) → t ≡ true
unfolding pick
head_passes true a b e n = refl
head_passes false a b e n = absurd (n e)

pub rest_passes : {A : Type 0} {z : A} (t : Bool) (a b : A) → pick t a b ≡ z → (b ≢ z) → a ≡ z
unfolding pick
rest_passes true a b e n = e
rest_passes false a b e n = absurd (n e)

-- two orders are one test where each gives the other
pub leb_same : (a b c d : ℕ) → (a ≤ b → c ≤ d) → (c ≤ d → a ≤ b) → nat_le a b ≡ nat_le c d
leb_same a b c d f g = both_ways (nat_le a b) (nat_le c d) (λ e. le-leb c d (f (leb-true a b e))) (λ e. le-leb a b (g (leb-true c d e)))

pub ltb_same : (a b c d : ℕ) → (a < b → c < d) → (c < d → a < b) → nat_lt a b ≡ nat_lt c d
ltb_same a b c d f g = both_ways (nat_lt a b) (nat_lt c d) (λ e. lt-ltb c d (f (ltb-true a b e))) (λ e. lt-ltb a b (g (ltb-true c d e)))

-- len places from `at` lie within m, without the sum
pub within_no : (at len m : ℕ) → m < len → false ≡ nat_le (at + len) m
within_no at len m h = sym (lt-leb (at + len) m (omega arith))

pub within_is : (at len m : ℕ) → len ≤ m → nat_le at (m - len) ≡ nat_le (at + len) m
within_is at len m h = leb_same at (m - len) (at + len) m (λ k. omega arith) (λ k. omega arith)

-- ---- which of the two, from what a branch says of values that a call returned
module _ {A : Type 0} (t : Bool) (a b x : A) where
  pub pick_yes : t ≡ true → x ≡ a → x ≡ pick t a b
  unfolding pick
  pick_yes e q = rw (e, q)

  pub pick_no : t ≡ false → x ≡ b → x ≡ pick t a b
  unfolding pick
  pick_no e q = rw (e, q)

module _ (a b c d : ℕ) where
  pub lt_yes : a < b → a ≡ c → b ≡ d → nat_lt c d ≡ true
  lt_yes h p q = cc (lt-ltb a b h)

  pub lt_no : b ≤ a → a ≡ c → b ≡ d → nat_lt c d ≡ false
  lt_no h p q = cc (le-ltb a b h)

  pub le_yes : a ≤ b → a ≡ c → b ≡ d → nat_le c d ≡ true
  le_yes h p q = cc (le-leb a b h)

  pub le_no : b < a → a ≡ c → b ≡ d → nat_le c d ≡ false
  le_no h p q = cc (lt-leb a b h)

  pub eq_yes : a ≡ b → a ≡ c → b ≡ d → (c == d) ≡ true
  eq_yes h p q = cc (eq-eqb a b h)

pub eq_no : (a c d : ℕ) → a ≡ c → (a ≢ d) → (c == d) ≡ false
eq_no a c d p h = cc (ne_eqb a d h)

module _ (r t : Bool) where
  pub flag_yes : r ≡ t → r ≡ true → t ≡ true
  flag_yes e h = cc

  pub flag_no : r ≡ t → r ≡ false → t ≡ false
  flag_no e h = cc

  pub not_yes : r ≡ t → not r ≡ false → t ≡ true
  not_yes e h = cc (not-false r h)

  pub not_no : r ≡ t → not r ≡ true → t ≡ false
  not_no e h = cc (not-true r h)

pub ruleset picks = (pick_yes, pick_no, lt_yes, lt_no, le_yes, le_no, eq_yes, eq_no, flag_yes, flag_no, not_yes, not_no)

-- ---- `&&`, `||` and `not` from what is known of their parts
module _ (a b : Bool) where
  pub and_no_left : a ≡ false → a && b ≡ false
  and_no_left e = rw e

  pub and_no_right : b ≡ false → a && b ≡ false
  and_no_right e = rw e (and-false a)

  pub or_left : a ≡ true → a || b ≡ true
  or_left e = rw e

  pub or_right : b ≡ true → a || b ≡ true
  or_right e = rw e (or-true a)

  pub or_none : a ≡ false → b ≡ false → a || b ≡ false
  or_none e d = rw (e, d)

pub not_of_true : (a : Bool) → a ≡ true → not a ≡ false
not_of_true a e = rw e

pub not_of_false : (a : Bool) → a ≡ false → not a ≡ true
not_of_false a e = rw e

pub ruleset bools = (and_both, and_no_left, and_no_right, or_left, or_right, or_none, not_of_true, not_of_false)

pub ruleset within_ways = (within_no, within_is)
