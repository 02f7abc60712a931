-- Well-formed are the texts of characters as section 3 encodes them, and nothing else. Assumes nothing.
use Rattle.std.specs.Prelude.{◌≡◌, refl, Bool, true, false, ◌&&◌, List, [], ◌∷◌, ◌++◌, ◌⊎◌, ℕ, zero, suc, ◌+◌, ◌-◌, ◌*◌, ◌/◌, ◌%◌, ◌≤◌, ◌<◌, ltb, leb, eqb, length, get_or, drop}
use Rattle.std.proofs.Common.{sym, ap, ◌∙◌, inl, inr, length-drop}
use Rattle.std.proofs.Math.Logic.{⊎_elim}
use native.Mathlib.Omega.{arith}
use borrow.Author.Tests.{leb-true, ltb-true, le-leb, lt-leb, lt-ltb, le-ltb, eq-eqb, ne_eqb}
use Rattle.util.specs.Pick.{pick, yes_no, le_or_lt, three_ways, not_both, and_left, and_right, and_both, or_right}
use Rattle.utf8.specs.Utf8.{holds, TAIL, begins, length_in, char_length, long_length, octets, well_formed}
use Rattle.utf8.specs.First.{second_low, second_high, SECOND, two_by, three_by, four_by, long_by}
use Rattle.utf8.specs.FirstLaws.{long_told}
use Rattle.utf8.specs.CharLaws.{Tail, tail_byte, long_char}
use Rattle.utf8.specs.TableLaws.{char_off, char_on}
use Rattle.utf8.specs.Encoding.{is_character, encode, encode_all, all_characters}

tail_is : (b : ℕ) → 0x80 ≤ b → b ≤ 0xBF → holds TAIL b ≡ true
tail_is b p q = rw (le-leb 0x80 b p, le-leb b 0xBF q)

same : (a b : ℕ) → (a ≡ b) ⊎ (a ≡ b → ⊥)
same a b = ⊎_elim (λ (h : a < b). inr (λ e. absurd (omega arith))) (⊎_elim (λ (e : a ≡ b). inl e) (λ (h : b < a). inr (λ e. absurd (omega arith)))) (three_ways a b)

-- ---- the second byte
second_low_lem : (a b : ℕ) → 0x80 ≤ b → (a ≡ 0xE0 → 0xA0 ≤ b) → (a ≡ 0xF0 → 0x90 ≤ b) → second_low a ≤ b
unfolding second_low pick
second_low_lem a b p e0 f0 =
    ⊎_elim (λ (e : a ≡ 0xE0). rw (eq-eqb a 0xE0 e) (e0 e))
    (λ (e : a ≡ 0xE0 → ⊥). ⊎_elim (λ (g : a ≡ 0xF0). rw (ne_eqb a 0xE0 e, eq-eqb a 0xF0 g) (f0 g)) (λ (g : a ≡ 0xF0 → ⊥). rw (ne_eqb a 0xE0 e, ne_eqb a 0xF0 g) p) (same a 0xF0))
    (same a 0xE0)

second_high_lem : (a b : ℕ) → b ≤ 0xBF → (a ≡ 0xED → b ≤ 0x9F) → (a ≡ 0xF4 → b ≤ 0x8F) → b ≤ second_high a
unfolding second_high pick
second_high_lem a b q ed f4 =
    ⊎_elim (λ (e : a ≡ 0xED). rw (eq-eqb a 0xED e) (ed e))
    (λ (e : a ≡ 0xED → ⊥). ⊎_elim (λ (g : a ≡ 0xF4). rw (ne_eqb a 0xED e, eq-eqb a 0xF4 g) (f4 g)) (λ (g : a ≡ 0xF4 → ⊥). rw (ne_eqb a 0xED e, ne_eqb a 0xF4 g) q) (same a 0xF4))
    (same a 0xED)

second_is : (a b : ℕ) → second_low a ≤ b → b ≤ second_high a → holds (SECOND a) b ≡ true
second_is a b p q = and_both (leb (second_low a) b) (leb b (second_high a)) (le-leb (second_low a) b p) (le-leb b (second_high a) q)

-- what it says of the byte
record Second (a b : ℕ) : Type 0 where
  pub low : 0x80 ≤ b
  pub high : b ≤ 0xBF
  pub e0 : a ≡ 0xE0 → 0xA0 ≤ b
  pub f0 : a ≡ 0xF0 → 0x90 ≤ b
  pub ed : a ≡ 0xED → b ≤ 0x9F
  pub f4 : a ≡ 0xF4 → b ≤ 0x8F

second_byte : (a b : ℕ) → holds (SECOND a) b ≡ true → Second a b
unfolding second_low second_high pick
second_byte a b e =
    let l : second_low a ≤ b = leb-true (second_low a) b (and_left (leb (second_low a) b) (leb b (second_high a)) e) in
    let h : b ≤ second_high a = leb-true b (second_high a) (and_right (leb (second_low a) b) (leb b (second_high a)) e) in
    record {
      low =
          ⊎_elim (λ (q : a ≡ 0xE0). let x : 0xA0 ≤ b = rw (eq-eqb a 0xE0 q) at l in omega arith)
          (λ (q : a ≡ 0xE0 → ⊥).
          ⊎_elim (λ (g : a ≡ 0xF0). let x : 0x90 ≤ b = rw (ne_eqb a 0xE0 q, eq-eqb a 0xF0 g) at l in omega arith) (λ (g : a ≡ 0xF0 → ⊥). rw (ne_eqb a 0xE0 q, ne_eqb a 0xF0 g) at l) (same a 0xF0))
          (same a 0xE0);
      high =
          ⊎_elim (λ (q : a ≡ 0xED). let x : b ≤ 0x9F = rw (eq-eqb a 0xED q) at h in omega arith)
          (λ (q : a ≡ 0xED → ⊥).
          ⊎_elim (λ (g : a ≡ 0xF4). let x : b ≤ 0x8F = rw (ne_eqb a 0xED q, eq-eqb a 0xF4 g) at h in omega arith) (λ (g : a ≡ 0xF4 → ⊥). rw (ne_eqb a 0xED q, ne_eqb a 0xF4 g) at h) (same a 0xF4))
          (same a 0xED);
      e0 = λ q. rw (eq-eqb a 0xE0 q) at l;
      f0 = λ q. let n : eqb a 0xE0 ≡ false = ne_eqb a 0xE0 (λ z. absurd (omega arith)) in rw (n, eq-eqb a 0xF0 q) at l;
      ed = λ q. rw (eq-eqb a 0xED q) at h;
      f4 = λ q. let n : eqb a 0xED ≡ false = ne_eqb a 0xED (λ z. absurd (omega arith)) in rw (n, eq-eqb a 0xF4 q) at h;
    }

-- ---- by the first byte
module _ (a : ℕ) (s : List ℕ) where
  one_length : a ≤ 0x7F → char_length (a ∷ s) ≡ 1
  unfolding length_in begins pick
  one_length h = rw (le-leb 0 a (omega arith), le-leb a 0x7F h)

  more_length : 0x7F < a → char_length (a ∷ s) ≡ long_length (a ∷ s)
  unfolding length_in begins pick
  more_length h = rw (le-leb 0 a (omega arith), lt-leb a 0x7F h)

module _ (a b : ℕ) (s : List ℕ) where
  two_length : 0xC2 ≤ a → a < 0xE0 → char_length (a ∷ b ∷ s) ≡ two_by b
  unfolding long_by pick
  two_length p q = more_length a (b ∷ s) (omega arith) ∙ long_told (a ∷ b ∷ s) (omega arith) ∙ rw (le-ltb a 0xC2 p, lt-ltb a 0xE0 q)

  three_length : (c : ℕ) → 0xE0 ≤ a → a < 0xF0 → char_length (a ∷ b ∷ c ∷ s) ≡ three_by a b c
  unfolding long_by pick
  three_length c p q = more_length a (b ∷ c ∷ s) (omega arith) ∙ long_told (a ∷ b ∷ c ∷ s) (omega arith) ∙ rw (le-ltb a 0xC2 (omega arith), le-ltb a 0xE0 p, lt-ltb a 0xF0 q)

  four_length : (c d : ℕ) → 0xF0 ≤ a → a < 256 → char_length (a ∷ b ∷ c ∷ d ∷ s) ≡ four_by a b c d
  unfolding long_by pick
  four_length c d p q = more_length a (b ∷ c ∷ d ∷ s) (omega arith) ∙ long_told (a ∷ b ∷ c ∷ d ∷ s) q ∙ rw (le-ltb a 0xC2 (omega arith), le-ltb a 0xE0 (omega arith), le-ltb a 0xF0 p)

-- ---- a character's bytes are taken
record Character (n : ℕ) : Type 0 where
  pub most : n ≤ 0x10FFFF
  pub apart : (n < 0xD800) ⊎ (0xE000 ≤ n)

character : (n : ℕ) → is_character n ≡ true → Character n
character n e =
    ⊎_elim (λ (t : ltb n 0xD800 ≡ true). let l = ltb-true n 0xD800 t in record { most = omega arith; apart = inl l })
    (λ (t : ltb n 0xD800 ≡ false).
    let q : (leb 0xE000 n && leb n 0x10FFFF) ≡ true = rw t at e in
    record { most = leb-true n 0x10FFFF (and_right (leb 0xE000 n) (leb n 0x10FFFF) q); apart = inr (leb-true 0xE000 n (and_left (leb 0xE000 n) (leb n 0x10FFFF) q)) })
    (yes_no (ltb n 0xD800))

module _ (n : ℕ) (s : List ℕ) where
  two_taken : 0x80 ≤ n → n < 0x800 → char_length ((0xC0 + n / 64) ∷ (0x80 + n % 64) ∷ s) ≡ 2
  unfolding two_by pick
  two_taken p q = two_length (0xC0 + n / 64) (0x80 + n % 64) s (omega arith) (omega arith) ∙ rw (tail_is (0x80 + n % 64) (omega arith) (omega arith))

  three_taken : 0x800 ≤ n → n < 0x10000 → (n < 0xD800) ⊎ (0xE000 ≤ n) → char_length ((0xE0 + n / 4096) ∷ (0x80 + n / 64 % 64) ∷ (0x80 + n % 64) ∷ s) ≡ 3
  unfolding three_by pick
  three_taken p q r =
      three_length (0xE0 + n / 4096) (0x80 + n / 64 % 64) s (0x80 + n % 64) (omega arith) (omega arith)
      ∙ rw (
        second_is (0xE0 + n / 4096) (0x80 + n / 64 % 64) (second_low_lem (0xE0 + n / 4096) (0x80 + n / 64 % 64) (omega arith) (λ e. omega arith) (λ e. omega arith))
            (second_high_lem (0xE0 + n / 4096) (0x80 + n / 64 % 64) (omega arith) (λ e. ⊎_elim (λ (l : n < 0xD800). omega arith) (λ (l : 0xE000 ≤ n). omega arith) r) (λ e. omega arith)),
        tail_is (0x80 + n % 64) (omega arith) (omega arith),
      )

  four_taken : 0x10000 ≤ n → n ≤ 0x10FFFF → char_length ((0xF0 + n / 262144) ∷ (0x80 + n / 4096 % 64) ∷ (0x80 + n / 64 % 64) ∷ (0x80 + n % 64) ∷ s) ≡ 4
  unfolding four_by pick
  four_taken p q =
      four_length (0xF0 + n / 262144) (0x80 + n / 4096 % 64) s (0x80 + n / 64 % 64) (0x80 + n % 64) (omega arith) (omega arith)
      ∙ rw (
        lt-ltb (0xF0 + n / 262144) 0xF5 (omega arith),
        second_is (0xF0 + n / 262144) (0x80 + n / 4096 % 64) (second_low_lem (0xF0 + n / 262144) (0x80 + n / 4096 % 64) (omega arith) (λ e. omega arith) (λ e. omega arith))
            (second_high_lem (0xF0 + n / 262144) (0x80 + n / 4096 % 64) (omega arith) (λ e. omega arith) (λ e. omega arith)),
        tail_is (0x80 + n / 64 % 64) (omega arith) (omega arith),
        tail_is (0x80 + n % 64) (omega arith) (omega arith),
      )

  pub encode_taken : is_character n ≡ true → well_formed (encode n ++ s) ≡ well_formed s
  unfolding encode pick
  encode_taken e =
      let c = character n e in
      ⊎_elim
      (λ (h : 0x80 ≤ n).
      ⊎_elim
      (λ (k : 0x800 ≤ n).
      ⊎_elim
      (λ (l : 0x10000 ≤ n).
      rw (le-ltb n 0x80 h, le-ltb n 0x800 k, le-ltb n 0x10000 l)
      (char_on (0xF0 + n / 262144) ((0x80 + n / 4096 % 64) ∷ (0x80 + n / 64 % 64) ∷ (0x80 + n % 64) ∷ s) 3 (four_taken l c.most) (omega arith)))
      (λ (l : n < 0x10000).
      rw (le-ltb n 0x80 h, le-ltb n 0x800 k, lt-ltb n 0x10000 l)
      (char_on (0xE0 + n / 4096) ((0x80 + n / 64 % 64) ∷ (0x80 + n % 64) ∷ s) 2 (three_taken k l c.apart) (omega arith)))
      (le_or_lt 0x10000 n))
      (λ (k : n < 0x800).
      rw (le-ltb n 0x80 h, lt-ltb n 0x800 k) (char_on (0xC0 + n / 64) ((0x80 + n % 64) ∷ s) 1 (two_taken h k) (omega arith)))
      (le_or_lt 0x800 n))
      (λ (h : n < 0x80). rw (lt-ltb n 0x80 h) (char_on n s 0 (one_length n s (omega arith)) (omega arith)))
      (le_or_lt 0x80 n)

-- ---- and what is taken is a character's bytes
pub record Encoded (s : List ℕ) (k : ℕ) : Type 0 where
  pub number : ℕ
  pub is_character_lem : is_character number ≡ true
  pub bytes : s ≡ encode number ++ drop k s

low_character : (n : ℕ) → n < 0xD800 → is_character n ≡ true
low_character n h = rw (lt-ltb n 0xD800 h)

high_character : (n : ℕ) → 0xE000 ≤ n → n ≤ 0x10FFFF → is_character n ≡ true
high_character n h k = or_right (ltb n 0xD800) (leb 0xE000 n && leb n 0x10FFFF) (and_both (leb 0xE000 n) (leb n 0x10FFFF) (le-leb 0xE000 n h) (le-leb n 0x10FFFF k))

one_encoded : (a : ℕ) (s : List ℕ) → a ≤ 0x7F → Encoded (a ∷ s) 1
unfolding encode pick
one_encoded a s h = record { number = a; is_character_lem = low_character a (omega arith); bytes = rw (lt-ltb a 0x80 (omega arith)) }

module _ (a b : ℕ) (s : List ℕ) where
  two_encoded : 0xC2 ≤ a → a < 0xE0 → Tail b → Encoded (a ∷ b ∷ s) 2
  unfolding encode pick
  two_encoded p q t =
      let l = t.low in
      let h = t.high in
      let n = (a - 0xC0) * 64 + (b - 0x80) in
      let x : 0xC0 + n / 64 ≡ a = omega arith in
      let y : 0x80 + n % 64 ≡ b = omega arith in
      record { number = n; is_character_lem = low_character n (omega arith); bytes = rw (le-ltb n 0x80 (omega arith), lt-ltb n 0x800 (omega arith), x, y) }

  three_encoded : (c : ℕ) → 0xE0 ≤ a → a < 0xF0 → Second a b → Tail c → Encoded (a ∷ b ∷ c ∷ s) 3
  unfolding encode pick
  three_encoded c p q z t =
      let l = t.low in
      let h = t.high in
      let u = z.low in
      let v = z.high in
      let n = (a - 0xE0) * 4096 + (b - 0x80) * 64 + (c - 0x80) in
      let x : 0xE0 + n / 4096 ≡ a = omega arith in
      let m : n / 64 ≡ (a - 0xE0) * 64 + (b - 0x80) = omega arith in
      let y : 0x80 + n / 64 % 64 ≡ b = rw m (omega arith) in
      let w : 0x80 + n % 64 ≡ c = omega arith in
      let least : 0x800 ≤ n = ⊎_elim (λ (e : a ≡ 0xE0). let k = z.e0 e in omega arith) (λ (e : a ≡ 0xE0 → ⊥). by_lead e) (same a 0xE0) in
      record {
        number = n;
        is_character_lem = ⊎_elim (λ (k : 0xEE ≤ a). high_character n (omega arith) (omega arith)) (λ (k : a < 0xEE). low_character n (before k)) (le_or_lt 0xEE a);
        bytes = rw (le-ltb n 0x80 (omega arith), le-ltb n 0x800 least, lt-ltb n 0x10000 (omega arith), x, y, w);
      }
    where
      by_lead : (a ≡ 0xE0 → ⊥) → 0x800 ≤ (a - 0xE0) * 4096 + (b - 0x80) * 64 + (c - 0x80)
      by_lead e = ⊎_elim (λ (k : 0xE1 ≤ a). omega arith) (λ (k : a < 0xE1). absurd (e (omega arith))) (le_or_lt 0xE1 a)

      before : a < 0xEE → (a - 0xE0) * 4096 + (b - 0x80) * 64 + (c - 0x80) < 0xD800
      before k =
          let l = t.low in
          let h = t.high in
          let u = z.low in
          let v = z.high in
          ⊎_elim (λ (g : 0xED ≤ a). let m = z.ed (omega arith) in omega arith) (λ (g : a < 0xED). omega arith) (le_or_lt 0xED a)

  four_encoded : (c d : ℕ) → 0xF0 ≤ a → a < 0xF5 → Second a b → Tail c → Tail d → Encoded (a ∷ b ∷ c ∷ d ∷ s) 4
  unfolding encode pick
  four_encoded c d p q z t r =
      let l = t.low in
      let h = t.high in
      let i = r.low in
      let j = r.high in
      let u = z.low in
      let v = z.high in
      let n = (a - 0xF0) * 262144 + (b - 0x80) * 4096 + (c - 0x80) * 64 + (d - 0x80) in
      let x : 0xF0 + n / 262144 ≡ a = omega arith in
      let f : n / 4096 ≡ (a - 0xF0) * 64 + (b - 0x80) = omega arith in
      let y : 0x80 + n / 4096 % 64 ≡ b = rw f (omega arith) in
      let g : n / 64 ≡ (a - 0xF0) * 4096 + (b - 0x80) * 64 + (c - 0x80) = omega arith in
      let w : 0x80 + n / 64 % 64 ≡ c = rw g (omega arith) in
      let o : 0x80 + n % 64 ≡ d = omega arith in
      let least : 0x10000 ≤ n = ⊎_elim (λ (k : 0xF1 ≤ a). omega arith) (λ (k : a < 0xF1). let m = z.f0 (omega arith) in omega arith) (le_or_lt 0xF1 a) in
      let most : n ≤ 0x10FFFF = ⊎_elim (λ (k : 0xF4 ≤ a). let m = z.f4 (omega arith) in omega arith) (λ (k : a < 0xF4). omega arith) (le_or_lt 0xF4 a) in
      record {
        number = n;
        is_character_lem = high_character n (omega arith) most;
        bytes = rw (le-ltb n 0x80 (omega arith), le-ltb n 0x800 (omega arith), le-ltb n 0x10000 least, x, y, w, o);
      }

lt_or_le : (a b : ℕ) → (a < b) ⊎ (b ≤ a)
lt_or_le a b = ⊎_elim (λ (h : b ≤ a). inr h) (λ (h : a < b). inl h) (le_or_lt b a)

-- the bytes that a length tells of
picked : (t : Bool) (m k : ℕ) → pick t m 0 ≡ suc k → t ≡ true
unfolding pick
picked true m k e = refl
picked false m k e = absurd (omega arith)

picked_is : (t : Bool) (m k : ℕ) → pick t m 0 ≡ suc k → m ≡ suc k
unfolding pick
picked_is true m k e = e
picked_is false m k e = absurd (omega arith)

no_tail_0 : {A : Type 0} → holds TAIL 0 ≡ true → A
no_tail_0 e = not_both (holds TAIL 0) e refl

two_found : (a : ℕ) (s : List ℕ) (k : ℕ) → 0xC2 ≤ a → a < 0xE0 → two_by (get_or s 0 0) ≡ suc k → Encoded (a ∷ s) (suc k)
unfolding two_by
two_found a [] k p q e = no_tail_0 (picked (holds TAIL 0) 2 k e)
two_found a (b ∷ s) k p q e = let z = picked_is (holds TAIL b) 2 k e in rw (← z) (two_encoded a b s p q (tail_byte b (picked (holds TAIL b) 2 k e)))

three_found : (a : ℕ) (s : List ℕ) (k : ℕ) → 0xE0 ≤ a → a < 0xF0 → three_by a (get_or s 0 0) (get_or s 1 0) ≡ suc k → Encoded (a ∷ s) (suc k)
unfolding three_by
three_found a [] k p q e = no_tail_0 (and_right (holds (SECOND a) 0) (holds TAIL 0) (picked (holds (SECOND a) 0 && holds TAIL 0) 3 k e))
three_found a (b ∷ []) k p q e = no_tail_0 (and_right (holds (SECOND a) b) (holds TAIL 0) (picked (holds (SECOND a) b && holds TAIL 0) 3 k e))
three_found a (b ∷ c ∷ s) k p q e =
    let t = picked (holds (SECOND a) b && holds TAIL c) 3 k e in
    let z = picked_is (holds (SECOND a) b && holds TAIL c) 3 k e in
    rw (← z) (three_encoded a b s c p q (second_byte a b (and_left (holds (SECOND a) b) (holds TAIL c) t)) (tail_byte c (and_right (holds (SECOND a) b) (holds TAIL c) t)))

module _ (a b c d : ℕ) (t : (ltb a 0xF5 && (holds (SECOND a) b && (holds TAIL c && holds TAIL d))) ≡ true) where
  abbrev bytes_test : Bool
  bytes_test = holds (SECOND a) b && (holds TAIL c && holds TAIL d)

  four_first : a < 0xF5
  four_first = ltb-true a 0xF5 (and_left (ltb a 0xF5) bytes_test t)

  four_second : holds (SECOND a) b ≡ true
  four_second = and_left (holds (SECOND a) b) (holds TAIL c && holds TAIL d) (and_right (ltb a 0xF5) bytes_test t)

  four_tails : (holds TAIL c && holds TAIL d) ≡ true
  four_tails = and_right (holds (SECOND a) b) (holds TAIL c && holds TAIL d) (and_right (ltb a 0xF5) bytes_test t)

  four_third : holds TAIL c ≡ true
  four_third = and_left (holds TAIL c) (holds TAIL d) four_tails

  four_fourth : holds TAIL d ≡ true
  four_fourth = and_right (holds TAIL c) (holds TAIL d) four_tails

four_found : (a : ℕ) (s : List ℕ) (k : ℕ) → 0xF0 ≤ a → four_by a (get_or s 0 0) (get_or s 1 0) (get_or s 2 0) ≡ suc k → Encoded (a ∷ s) (suc k)
unfolding four_by
four_found a [] k p e = no_tail_0 (four_fourth a 0 0 0 (picked (ltb a 0xF5 && (holds (SECOND a) 0 && (holds TAIL 0 && holds TAIL 0))) 4 k e))
four_found a (b ∷ []) k p e = no_tail_0 (four_fourth a b 0 0 (picked (ltb a 0xF5 && (holds (SECOND a) b && (holds TAIL 0 && holds TAIL 0))) 4 k e))
four_found a (b ∷ c ∷ []) k p e = no_tail_0 (four_fourth a b c 0 (picked (ltb a 0xF5 && (holds (SECOND a) b && (holds TAIL c && holds TAIL 0))) 4 k e))
four_found a (b ∷ c ∷ d ∷ s) k p e =
    let t = picked (ltb a 0xF5 && (holds (SECOND a) b && (holds TAIL c && holds TAIL d))) 4 k e in
    let z = picked_is (ltb a 0xF5 && (holds (SECOND a) b && (holds TAIL c && holds TAIL d))) 4 k e in
    rw (← z) (four_encoded a b s c d p (four_first a b c d t) (second_byte a b (four_second a b c d t)) (tail_byte c (four_third a b c d t)) (tail_byte d (four_fourth a b c d t)))

pub taken_encoded : (a : ℕ) (s : List ℕ) (k : ℕ) → char_length (a ∷ s) ≡ suc k → Encoded (a ∷ s) (suc k)
unfolding long_by pick
taken_encoded a s k e =
    ⊎_elim (λ (h : a ≤ 0x7F). let z : suc k ≡ 1 = sym e ∙ one_length a s h in rw z (one_encoded a s h))
    (λ (h : 0x7F < a).
    let long : long_length (a ∷ s) ≡ suc k = sym (more_length a s h) ∙ e in
    let c = long_char (a ∷ s) k long in
    let f = c.first in
    let l = c.last in
    let told : long_by a (get_or s 0 0) (get_or s 1 0) (get_or s 2 0) ≡ suc k = sym (long_told (a ∷ s) (omega arith)) ∙ long in
    ⊎_elim (λ (p : a < 0xE0). two_found a s k f p (rw (le-ltb a 0xC2 f, lt-ltb a 0xE0 p) at told))
    (λ (p : 0xE0 ≤ a).
    ⊎_elim (λ (q : a < 0xF0). three_found a s k p q (rw (le-ltb a 0xC2 f, le-ltb a 0xE0 p, lt-ltb a 0xF0 q) at told))
    (λ (q : 0xF0 ≤ a). four_found a s k q (rw (le-ltb a 0xC2 f, le-ltb a 0xE0 p, le-ltb a 0xF0 q) at told))
    (lt_or_le a 0xF0))
    (lt_or_le a 0xE0))
    (le_or_lt a 0x7F)

char_within : (a : ℕ) (s : List ℕ) (k : ℕ) → char_length (a ∷ s) ≡ suc k → k ≤ length s
char_within a s k e =
    ⊎_elim (λ (h : a ≤ 0x7F). let z : suc k ≡ 1 = sym e ∙ one_length a s h in omega arith)
    (λ (h : 0x7F < a). let l = (long_char (a ∷ s) k (sym (more_length a s h) ∙ e)).within in omega arith)
    (le_or_lt a 0x7F)

-- ---- THE LAWS: of whole texts
pub text_taken : (ns : List ℕ) → all_characters ns ≡ true → well_formed (encode_all ns) ≡ true
unfolding encode_all all_characters octets
text_taken [] e = refl
text_taken (n ∷ ns) e = encode_taken n (encode_all ns) (and_left (is_character n) (all_characters ns) e) ∙ text_taken ns (and_right (is_character n) (all_characters ns) e)

pub record Text (s : List ℕ) : Type 0 where
  pub numbers : List ℕ
  pub characters : all_characters numbers ≡ true
  pub bytes : s ≡ encode_all numbers

no_text : Text []
unfolding encode_all all_characters
no_text = record { numbers = []; characters = refl; bytes = refl }

-- one character more, if what stands behind it is such a text
more_text : (a : ℕ) (s : List ℕ) → well_formed (a ∷ s) ≡ true → ((k : ℕ) → well_formed (drop k s) ≡ true → Text (drop k s)) → Text (a ∷ s)
unfolding encode_all all_characters
more_text a s w rest = by_length (char_length (a ∷ s)) refl
  where
    by_length : (k : ℕ) → char_length (a ∷ s) ≡ k → Text (a ∷ s)
    by_length zero e = not_both (well_formed (a ∷ s)) w (char_off a s e)
    by_length (suc k) e =
        let c = taken_encoded a s k e in
        let r = rest k (sym (char_on a s k e (char_within a s k e)) ∙ w) in
        record {
          numbers = c.number ∷ r.numbers;
          characters = and_both (is_character c.number) (all_characters r.numbers) c.is_character_lem r.characters;
          bytes = c.bytes ∙ ap (λ (l : List ℕ). encode c.number ++ l) r.bytes;
        }

text_of : (s : List ℕ) → ((t : List ℕ) → length t < length s → well_formed t ≡ true → Text t) → well_formed s ≡ true → Text s
text_of [] f w = no_text
text_of (a ∷ s) f w = more_text a s w (λ k r. let d : length (drop k s) ≡ length s - k = length-drop k s in f (drop k s) (omega arith) r)

text_within : (m : ℕ) (s : List ℕ) → length s < m → well_formed s ≡ true → Text s
text_within zero s h w = absurd (omega arith)
text_within (suc m) s h w = text_of s (λ t l r. text_within m t (omega arith) r) w

pub taken_text : (s : List ℕ) → well_formed s ≡ true → Text s
taken_text s w = text_within (suc (length s)) s (omega arith) w
