-- The library's words for bytes as text, and the sum of decimal digits. Assumes nothing.
use Rattle.std.specs.Prelude.{◌≡◌, refl, List, [], ◌∷◌, ℕ, zero, suc, ◌+◌, ◌-◌, ◌*◌, ◌^◌, ◌≤◌, ◌<◌, Bool, true, false, not, ◌&&◌, length, min, get_or, drop, None, Option, Some}
use Rattle.std.specs.List.{list_all, position, position_or_len}
use Rattle.std.specs.Option.{unwrap_or}
use Rattle.std.specs.Cmp.Lexicographic.{slice_cmp, pointwise}
use Rattle.std.specs.Ordering.{nat_cmp}
use Rattle.std.proofs.Common.{sym, ap, ◌∙◌, ⊎_elim, arith, add-one, pow-suc, length-take, drop_of_length-le, drop-cons, eqb, ltb, cond, ltb-false, lt-ltb, le-ltb, eq-eqb, ne_eqb}
use Rattle.std.proofs.lemmas.List.Folds.{length-prefix_len}
use Rattle.std.proofs.Math.Bool.{and-true, and_assoc}
use Rattle.std.proofs.Math.ListN.{get_or-eq_default}
use Rattle.std.proofs.Math.Nat.{pow-le-pow_right}
use Rattle.util.specs.Pick.{pick, yes_no, le_or_lt, three_ways}
use Rattle.util.specs.Prefix.{all_to}
use Rattle.le.specs.Le.{part}
use Rattle.names.specs.declared.Span.{Span}
use Rattle.names.specs.Bytes.{run, is_digit, all_digits, decimal_to, compare_bytes, are_same_bytes, UNDEF}
use Rattle.names.specs.Name.{span_text}
use Rattle.names.specs.NameLaws.{undef_front}

-- ---- up to the first zero: the library's search, in the part of the file that is there
run_past : (f : List ℕ) (i n : ℕ) → length f ≤ i → run f i n ≡ 0
unfolding run pick
run_past f i zero h = refl
run_past f i (suc n) h = let e : get_or f i 0 ≡ 0 = get_or-eq_default f 0 {n = i} h in rw e

pub run_is : (f : List ℕ) (i n : ℕ) → position_or_len (λ b. eqb b 0) (part f i n) ≡ run f i n
unfolding run part pick
run_is f i zero = refl
run_is f i (suc n) =
    ⊎_elim (λ past. let d : drop i f ≡ [] = drop_of_length-le f past in rw d (sym (run_past f i (suc n) past)))
    (λ h.
    let d : drop i f ≡ get_or f i 0 ∷ drop (i + 1) f = rw add-one (drop-cons f i 0 h) in
    ⊎_elim (λ (e : eqb (get_or f i 0) 0 ≡ true). rw (d, e))
    (λ (e : eqb (get_or f i 0) 0 ≡ false). let r = run_is f (i + 1) n in rw (d, e) (omega arith))
    (yes_no (eqb (get_or f i 0) 0)))
    (le_or_lt (length f) i)

-- what the search says: the place of a zero, or the whole length
first_zero : (s : List ℕ) (t : Bool) → ltb (position_or_len (λ b. eqb b 0) s) (length s) ≡ t
    → unwrap_or (cond t (Some (position_or_len (λ b. eqb b 0) s)) None) (length s) ≡ position_or_len (λ b. eqb b 0) s
first_zero s true e = refl
first_zero s false e =
    let l : min (position_or_len (λ b. eqb b 0) s) (length s) ≡ position_or_len (λ b. eqb b 0) s = rw length-take at (length-prefix_len (λ b. not (eqb b 0)) s) in
    let m = ltb-false (position_or_len (λ b. eqb b 0) s) (length s) e in
    omega arith

pub run_found : (f : List ℕ) (i n : ℕ) (s : List ℕ) (o : Option ℕ) → s ≡ part f i n → o ≡ position (λ b. eqb b 0) s → unwrap_or o (length s) ≡ run f i n
run_found f i n s o is found = rw found (first_zero s (ltb (position_or_len (λ b. eqb b 0) s) (length s)) refl ∙ rw is (run_is f i n))

-- ---- decimal digits
all_front : (p : ℕ → Bool) (n : ℕ) → p 0 && all_to (λ k. p (suc k)) n ≡ all_to p (suc n)
unfolding all_to
all_front p zero = and-true (p 0)
all_front p (suc n) = sym (and_assoc (p 0) (all_to (λ k. p (suc k)) n) (p (suc n))) ∙ ap (λ (t : Bool). t && p (suc n)) (all_front p n)

pub digits_all : (s : List ℕ) → list_all is_digit s ≡ all_digits s
unfolding all_to
digits_all [] = refl
digits_all (x ∷ xs) = ap (λ (t : Bool). is_digit x && t) (digits_all xs) ∙ all_front (λ k. is_digit (get_or (x ∷ xs) k 0)) (length xs)

-- no digits, and one more
pub decimal_none : (s : List ℕ) → 0 ≡ decimal_to s 0
unfolding decimal_to
decimal_none s = refl

pub decimal_again : (s : List ℕ) (k sum d : ℕ) → sum ≡ decimal_to s k → d ≡ get_or s k 0 - 0x30 → 10 * sum + d ≡ decimal_to s (k + 1)
unfolding decimal_to
decimal_again s k sum d e q = rw (add-one, e, q)

-- at most eight bytes keep the sum small
pub record Small (sum k : ℕ) : Type 0 where
  pub below : sum + 29 ≤ 29 * 10 ^ k

pub small_none : Small 0 0
small_none = record { below = omega arith }

pub small_again : (sum d k : ℕ) → Small sum k → d < 256 → Small (10 * sum + d) (k + 1)
small_again sum d k s h = let e : 10 ^ (k + 1) ≡ 10 ^ k * 10 = rw add-one (pow-suc 10 k) in let b = s.below in record { below = omega arith }

pub small_fits : (sum k : ℕ) → Small sum k → k < 8 → sum < 29 * 10 ^ 8
small_fits sum k s h =
    let p : 10 ^ k ≤ 10 ^ 8 = pow-le-pow_right {n = 10} (omega arith) {i = k} {j = 8} (omega arith) in
    let b = s.below in
    omega arith

pub ruleset decimal_loop = (small_none, small_again, decimal_none, decimal_again)

-- ---- the order and equality are the library's, of lists of bytes
pub order_is : (a b : List ℕ) → slice_cmp nat_cmp a b ≡ compare_bytes a b
unfolding compare_bytes pick
order_is [] [] = refl
order_is [] (y ∷ ys) = refl
order_is (x ∷ xs) [] = refl
order_is (x ∷ xs) (y ∷ ys) =
    ⊎_elim (λ l. rw (lt-ltb x y l))
    (λ r.
    ⊎_elim (λ e. rw (le-ltb x y (omega arith), le-ltb y x (omega arith), eq-eqb x y e) (order_is xs ys))
    (λ g. rw (le-ltb x y (omega arith), lt-ltb y x g, ne_eqb x y (λ e. omega arith)))
    r)
    (three_ways x y)

pub same_is : (a b : List ℕ) → pointwise eqb a b ≡ are_same_bytes a b
unfolding are_same_bytes
same_is [] [] = refl
same_is [] (y ∷ ys) = refl
same_is (x ∷ xs) [] = refl
same_is (x ∷ xs) (y ∷ ys) = ap (λ (t : Bool). eqb x y && t) (same_is xs ys)

-- ---- spans
pub undef_is : (f : List ℕ) (s : Span) (m n : ℕ) (t : List ℕ) {r : Bool} → m ≡ min s.most 6 → n ≡ run f s.at m → t ≡ part f s.at n → r ≡ are_same_bytes t UNDEF → r ≡ are_same_bytes (span_text f s) UNDEF
undef_is f s m n t a b c d = rw (c, b, a) at d ∙ undef_front f s.at s.most
