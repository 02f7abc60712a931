-- Key order is name order: two names without a zero byte are in the order of their keys, and where these are equal of what follows.
use Rattle.std.proofs.Common.{Ordering, Less, Greater}
use Rattle.std.specs.Prelude.{◌≡◌, refl, List, [], ◌∷◌, ℕ, zero, suc, ◌+◌, ◌*◌, ◌^◌, ◌≤◌, ◌<◌, length, get_or, drop}
use Rattle.std.proofs.Common.{sym, ◌∙◌, ⊎_elim, suc-mul, mul-le-mul_right, mul-pos, arith}
use Rattle.std.proofs.Math.Nat.{pow-succ'}
use borrow.Author.Tests.{lt-ltb, le-ltb}
use Rattle.std.proofs.Math.ListN.{get_or-eq_default}
use Rattle.util.specs.Pick.{pick, le_or_lt, three_ways}
use Rattle.le.specs.Le.{IsBytes, part, part_most, part_at}
use Rattle.names.specs.declared.Span.{Span}
use Rattle.names.specs.Bytes.{compare_bytes, up_to_zero}
use Rattle.names.specs.Name.{span_text}
use Rattle.names.specs.NameLaws.{text_no_zero, text_bytes_lem}
use Rattle.order.specs.Key.{key, order_by, KEY_BYTES}

-- no byte is zero
abbrev pub NoZero : List ℕ → Type 0
NoZero s = (i : ℕ) → i < length s → 0 < get_or s i 0

-- ---- by number
module _ (x y : ℕ) (o : Ordering) where
  by_less : x < y → order_by x y o ≡ Less
  unfolding pick
  by_less h = rw (lt-ltb x y h)

  by_greater : y < x → order_by x y o ≡ Greater
  unfolding pick
  by_greater h = rw (le-ltb x y (omega arith), lt-ltb y x h)

  by_equal : x ≡ y → order_by x y o ≡ o
  unfolding pick
  by_equal e = rw (le-ltb x y (omega arith), le-ltb y x (omega arith))

-- by the three ways in which two numbers can stand
three : {P : Type 0} (x y : ℕ) → (x < y → P) → (x ≡ y → P) → (y < x → P) → P
three x y l e g = ⊎_elim l (⊎_elim e g) (three_ways x y)

-- the same added to both changes nothing
by_more : (n x y : ℕ) (o : Ordering) → order_by (n + x) (n + y) o ≡ order_by x y o
by_more n x y o =
    three x y (λ h. rw (by_less x y o h) (by_less (n + x) (n + y) o (omega arith)))
    (λ h. rw (by_equal x y o h) (by_equal (n + x) (n + y) o (omega arith)))
    (λ h. rw (by_greater x y o h) (by_greater (n + x) (n + y) o (omega arith)))

-- ---- one byte more
-- the higher digit decides, whatever stands below it
higher : (x y p k l : ℕ) → x < y → k < p → x * p + k < y * p + l
higher x y p k l h j = let m : suc x * p ≤ y * p = mul-le-mul_right p h in let n = rw suc-mul at m in omega arith

rest : (x : ℕ) (xs : List ℕ) → NoZero (x ∷ xs) → NoZero xs
rest x xs n i h = n (suc i) (omega arith)

pow_pos : (k : ℕ) → 0 < 256 ^ k
pow_pos zero = omega arith
pow_pos (suc k) = let h = pow_pos k in rw pow-succ' (omega arith)

-- k bytes are a number of k digits
key_below : (k : ℕ) (s : List ℕ) → IsBytes s → key k s < 256 ^ k
unfolding key
key_below zero s b = omega arith
key_below (suc k) [] b = let h = key_below k [] b in rw pow-succ' (omega arith)
key_below (suc k) (x ∷ xs) b = let h = higher x 256 (256 ^ k) (key k xs) 0 (b 0) (key_below k xs (λ i. b (suc i))) in rw pow-succ' (omega arith)

-- a name that is not empty has a key above zero
key_some : (k x : ℕ) (xs : List ℕ) → 0 < x → 0 < key (suc k) (x ∷ xs)
unfolding key
key_some k x xs h = let p : 0 < x * 256 ^ k = mul-pos h (pow_pos k) in omega arith

-- ---- the law: the keys decide, and where they are equal what follows the first k bytes
pub keys_decide : (k : ℕ) (a b : List ℕ) → IsBytes a → NoZero a → IsBytes b → NoZero b
    → order_by (key k a) (key k b) (compare_bytes (drop k a) (drop k b)) ≡ compare_bytes a b
unfolding key compare_bytes
keys_decide zero a b m t n u = by_equal 0 0 _ refl
keys_decide (suc k) [] [] m t n u = by_equal 0 0 _ refl
keys_decide (suc k) [] (y ∷ ys) m t n u = by_less _ _ _ (key_some k y ys (u 0 (omega arith)))
keys_decide (suc k) (x ∷ xs) [] m t n u = by_greater _ _ _ (key_some k x xs (t 0 (omega arith)))
keys_decide (suc k) (x ∷ xs) (y ∷ ys) m t n u =
    three x y (λ h. rw (by_less x y _ h) (by_less _ _ _ (higher x y _ _ _ h (key_below k xs (λ i. m (suc i))))))
    (λ e. rw (e, by_equal y y _ refl, by_more (y * 256 ^ k) (key k xs) (key k ys) _)
    (keys_decide k xs ys (λ i. m (suc i)) (rest x xs t) (λ i. n (suc i)) (rest y ys u)))
    (λ h. rw (by_greater x y _ h) (by_greater _ _ _ (higher y x _ _ _ h (key_below k ys (λ i. n (suc i))))))

-- so it is of two symbols' names, wherever they stand in a file
part_bytes : (f : List ℕ) (i n : ℕ) → IsBytes f → IsBytes (part f i n)
part_bytes f i n b k =
    ⊎_elim (λ h. let m = part_most f i n in let z : get_or (part f i n) k 0 ≡ 0 = get_or-eq_default (part f i n) 0 {n = k} (omega arith) in omega arith)
    (λ h. rw (part_at f i n k h) (b (i + k)))
    (le_or_lt n k)

module _ (f : List ℕ) (bytes : IsBytes f) (a b : Span) where
  spans_decide : order_by (key KEY_BYTES (span_text f a)) (key KEY_BYTES (span_text f b)) (compare_bytes (drop KEY_BYTES (span_text f a)) (drop KEY_BYTES (span_text f b)))
      ≡ compare_bytes (span_text f a) (span_text f b)
  spans_decide =
      let s = part f a.at a.most in
      let t = part f b.at b.most in
      keys_decide KEY_BYTES (up_to_zero s) (up_to_zero t) (text_bytes_lem s (part_bytes f a.at a.most bytes)) (λ i h. text_no_zero s i h)
      (text_bytes_lem t (part_bytes f b.at b.most bytes))
      (λ i h. text_no_zero t i h)

  pub key_less : key KEY_BYTES (span_text f a) < key KEY_BYTES (span_text f b) → compare_bytes (span_text f a) (span_text f b) ≡ Less
  key_less h = sym spans_decide ∙ by_less _ _ _ h

  pub key_greater : key KEY_BYTES (span_text f b) < key KEY_BYTES (span_text f a) → compare_bytes (span_text f a) (span_text f b) ≡ Greater
  key_greater h = sym spans_decide ∙ by_greater _ _ _ h
