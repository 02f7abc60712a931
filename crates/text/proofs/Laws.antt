-- Laws of writers, as the code asks them. Assumes nothing.
use mathlib.Core.Path.{◌≡◌, refl, sym}
use mathlib.Core.List.{List, [], ◌∷◌, ◌++◌}
use mathlib.Core.Logic.{◌⊎◌, inl, inr}
use Prim.Native.Nat.{ℕ, zero, suc, ◌+◌, ◌-◌, ◌/◌, ◌%◌, ◌^◌, ◌≤◌, ◌<◌}
use native.Mathlib.Omega.{arith}
use native.Mathlib.Nat.{mod-eq_of_lt, div-lt_self}
use borrow.Author.Tests.{lt-ltb, le-ltb, eq-eqb, ne_eqb}
use lib.ListN.{length, set}
use Rattle.util.specs.Pick.{pick, le_or_lt}
use Rattle.le.specs.Le.{splice, splice_past}
use Rattle.text.specs.Text.{glyph, digits, number, decimal_text, signed_text, letter_or, permissions_text, Puts}
use Rattle.text.specs.TextLaws.{same, then}

-- ---- a byte
module _ (b : List ℕ) (at : ℕ) where
  pub puts_byte_lem : (x : ℕ) → at < length b → Puts b at (x ∷ []) (set b at x) (at + 1)
  unfolding splice
  puts_byte_lem x h = record { bytes = refl; next = omega arith }

  pub puts_past : (x : ℕ) → length b ≤ at → Puts b at (x ∷ []) b at
  puts_past x h = record { bytes = sym (splice_past b at (x ∷ []) h); next = omega arith }

pub ruleset byte_ways = (puts_byte_lem, puts_past)

-- ---- numbers
pub fewer : (b n : ℕ) → 2 ≤ b → b ≤ n → n / b < n
fewer b n h g = div-lt_self (omega arith) (omega arith)

-- the fuel does not matter where it is enough
enough : (b : ℕ) → 2 ≤ b → (j k n : ℕ) → n ≤ j → n ≤ k → digits b j n ≡ digits b k n
unfolding digits pick
enough b h zero zero n p q = refl
enough b h zero (suc k) n p q = rw (lt-ltb n b (omega arith))
enough b h (suc j) zero n p q = rw (lt-ltb n b (omega arith))
enough b h (suc j) (suc k) n p q =
    step (λ g. let f = fewer b n h g in enough b h j k (n / b) (omega arith) (omega arith)) (le_or_lt b n)
  where
    step : (b ≤ n → digits b j (n / b) ≡ digits b k (n / b)) → (b ≤ n) ⊎ (n < b) → digits b (suc j) n ≡ digits b (suc k) n
    step r (inl g) = rw (le-ltb n b g, r g)
    step r (inr g) = rw (lt-ltb n b g)

number_last : (b n : ℕ) → n < b → number b n ≡ glyph (n % b) ∷ []
unfolding number digits pick
number_last b zero h = rw (mod-eq_of_lt h)
number_last b (suc n) h = rw (lt-ltb (suc n) b h, mod-eq_of_lt h)

number_next : (b n : ℕ) → 2 ≤ b → b ≤ n → number b n ≡ number b (n / b) ++ (glyph (n % b) ∷ [])
unfolding number digits pick
number_next b zero h g = absurd (omega arith)
number_next b (suc n) h g =
    let f = fewer b (suc n) h g in
    rw (le-ltb (suc n) b g, enough b h n (suc n / b) (suc n / b) (omega arith) (omega arith))

-- ---- the ways through `digit`
pub digit_low : (d : ℕ) → d < 10 → 48 + d ≡ glyph d
unfolding glyph pick
digit_low d h = rw (lt-ltb d 10 h)

pub digit_high : (d : ℕ) → 10 ≤ d → 87 + d ≡ glyph d
unfolding glyph pick
digit_high d h = rw (le-ltb d 10 h)

-- ---- the ways through `number`
module _ (l : List ℕ) (at b n d : ℕ) (e : List ℕ) (q : ℕ) where
  pub put_last : n < b → d ≡ glyph (n % b) → Puts l at (d ∷ []) e q → Puts l at (number b n) e q
  put_last h g p = rw (number_last b n h, ← g) p

  pub put_next : (a : List ℕ) (to : ℕ) → 2 ≤ b → b ≤ n → d ≡ glyph (n % b) → Puts l at (number b (n / b)) a to → Puts a to (d ∷ []) e q → Puts l at (number b n) e q
  put_next a to h k g f p = rw (number_next b n h k, ← g) (then l at a to (number b (n / b)) (d ∷ []) e q f p)

pub ruleset number_ways = (put_last, put_next, same)

-- ---- the ways through `signed`
module _ (l : List ℕ) (at v : ℕ) (e : List ℕ) (q : ℕ) where
  pub signed_plus : v < 2 ^ 63 → Puts l at (decimal_text v) e q → Puts l at (signed_text v) e q
  unfolding signed_text pick
  signed_plus h p = rw (lt-ltb v (2 ^ 63) h) p

  pub signed_minus : (a : List ℕ) (to w : ℕ) → 2 ^ 63 ≤ v → v < 2 ^ 64 → w < 2 ^ 64 → (w + v) % 2 ^ 64 ≡ 0 → Puts l at (45 ∷ []) a to → Puts a to (decimal_text w) e q
      → Puts l at (signed_text v) e q
  unfolding signed_text pick
  signed_minus a to w h k b z f p =
      let g : w ≡ 2 ^ 64 - v = omega arith in
      rw (le-ltb v (2 ^ 63) h, ← g) (then l at a to (45 ∷ []) (decimal_text w) e q f p)

pub ruleset signed_ways = (signed_plus, signed_minus, same)

-- ---- permissions
pub mark_no : (bit letter : ℕ) → bit ≡ 0 → 45 ≡ letter_or bit letter
unfolding letter_or pick
mark_no bit letter h = rw (eq-eqb bit 0 h)

pub mark_yes : (bit letter : ℕ) → (bit ≡ 0 → ⊥) → letter ≡ letter_or bit letter
unfolding letter_or pick
mark_yes bit letter h = rw (ne_eqb bit 0 h)

pub permissions_put : (l : List ℕ) (at p r w x i j k : ℕ) (a b c : List ℕ) → r ≡ letter_or (p % 2) 82 → Puts l at (r ∷ []) a i → w ≡ letter_or (p / 2 % 2) 87
    → Puts a i (w ∷ []) b j → x ≡ letter_or (p / 4 % 2) 88 → Puts b j (x ∷ []) c k → Puts l at (permissions_text p) c k
unfolding permissions_text
permissions_put l at p r w x i j k a b c e f e' g e'' h =
    rw (← e, ← e', ← e'') (then l at a i (r ∷ []) (w ∷ x ∷ []) c k f (then a i b j (w ∷ []) (x ∷ []) c k g h))
