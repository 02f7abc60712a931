-- Laws of writers, and how long a number is.
use Rattle.std.specs.Prelude.{◌≡◌, List, [], ◌∷◌, ◌++◌, ◌⊎◌, ℕ, zero, suc, ◌+◌, ◌-◌, ◌/◌, ◌%◌, ◌^◌, ◌≤◌, ◌<◌, length, set}
use Rattle.std.proofs.Common.{sym, ◌∙◌, inl, inr, ⊎_elim, arith, one-mul, div-lt_iff_lt-mul, pow-suc, lt-ltb, le-ltb, length-set, length-append}
use Rattle.std.proofs.Math.Nat.{pow-zero}
use Rattle.util.specs.Pick.{pick, le_or_lt}
use Rattle.le.specs.Le.{splice, part, length_splice, splice_next, splice_past, part_splice}
use Rattle.text.specs.Text.{glyph, digits, number, decimal_text, hex_text, signed_text, Puts}

-- what does not fit is as good as not there
splice_full : (l : List ℕ) (i : ℕ) (xs ys : List ℕ) → length l ≤ i + length xs → splice l i (xs ++ ys) ≡ splice l i xs
unfolding splice
splice_full l i [] ys h = splice_past l i ys (omega arith)
splice_full l i (a ∷ xs) ys h = splice_full (set l i a) (suc i) xs ys (rw length-set (omega arith))

-- ---- one writer behind another
module _ (b : List ℕ) (at : ℕ) where
  pub same : (a : List ℕ) (vs : List ℕ) (p : ℕ) → Puts b at vs a p → length a ≡ length b
  same a vs p h = rw h.bytes (length_splice b at vs)

  pub then : (a : List ℕ) (p : ℕ) (xs ys : List ℕ) (e : List ℕ) (q : ℕ) → Puts b at xs a p → Puts a p ys e q → Puts b at (xs ++ ys) e q
  then a p xs ys e q f g = record {
    bytes =
        g.bytes ∙ rw f.bytes
        (⊎_elim
        (λ (k : length b ≤ at + length xs).
        splice_past (splice b at xs) p ys (rw (length_splice b at xs) (omega (arith, f.next))) ∙ sym (splice_full b at xs ys k))
        (λ (k : at + length xs < length b). splice_next b at xs ys p (omega (arith, f.next)))
        (le_or_lt (length b) (at + length xs)));
    next = rw (length-append xs ys) (omega (arith, f.next, g.next, same a xs p f));
  }

module _ (l a b c : List ℕ) (at h i j : ℕ) where
  pub then_three : (v w x : List ℕ) → Puts l at v a h → Puts a h w b i → Puts b i x c j → Puts l at (v ++ w ++ x) c j
  then_three v w x p q r = then l at b i (v ++ w) x c j (then l at a h v w b i p q) r

module _ (l a b c d : List ℕ) (at h i j k : ℕ) where
  pub then_four : (v w x y : List ℕ) → Puts l at v a h → Puts a h w b i → Puts b i x c j → Puts c j y d k → Puts l at (v ++ w ++ x ++ y) d k
  then_four v w x y p q r s = then l at c j (v ++ w ++ x) y d k (then_three l a b c at h i j v w x p q r) s

-- ---- a line that has room stands at the front whole
pub puts_whole : (line l a : List ℕ) (n : ℕ) → Puts l 0 line a n → length line ≤ length l → part a 0 n ≡ line
puts_whole line l a n h r =
    let e : n ≡ length line = omega (arith, h.next) in
    rw (e, h.bytes) (part_splice l 0 line (omega arith))

-- ---- how long a number is
few_digits : (b : ℕ) → 2 ≤ b → (fuel k n : ℕ) → n < b ^ suc k → length (digits b fuel n) ≤ suc k
unfolding digits pick
few_digits b h zero k n p = omega arith
few_digits b h (suc fuel) zero n p =
    let g : n < b = rw (pow-suc, pow-zero, one-mul) at p in
    rw (lt-ltb n b g) (omega arith)
few_digits b h (suc fuel) (suc k) n p = step (few_digits b h fuel k (n / b) ((div-lt_iff_lt-mul (omega arith)).1 (rw pow-suc at p))) (le_or_lt b n)
  where
    step : length (digits b fuel (n / b)) ≤ suc k → (b ≤ n) ⊎ (n < b) → length (digits b (suc fuel) n) ≤ suc (suc k)
    step r (inl g) = rw (le-ltb n b g, length-append (digits b fuel (n / b)) (glyph (n % b) ∷ [])) (omega arith)
    step r (inr g) = rw (lt-ltb n b g) (omega arith)

pub hex_long : (n : ℕ) → n < 2 ^ 64 → length (hex_text n) ≤ 16
unfolding number
hex_long n h = few_digits 16 (omega arith) n 15 n h

pub decimal_long : (n : ℕ) → n < 2 ^ 64 → length (decimal_text n) ≤ 20
unfolding number
decimal_long n h = few_digits 10 (omega arith) n 19 n (omega arith)

pub signed_long : (v : ℕ) → v < 2 ^ 64 → length (signed_text v) ≤ 21
unfolding signed_text pick
signed_long v h =
    ⊎_elim (λ (k : 2 ^ 63 ≤ v). rw (le-ltb v (2 ^ 63) k) (omega (arith, decimal_long (2 ^ 64 - v) (omega arith))))
    (λ (k : v < 2 ^ 63). rw (lt-ltb v (2 ^ 63) k) (omega (arith, decimal_long v h)))
    (le_or_lt (2 ^ 63) v)
