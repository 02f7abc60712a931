-- The loop that puts words. Assumes nothing.
use mathlib.Core.Path.{◌≡◌, refl, sym, ap, ◌∙◌}
use mathlib.Core.List.{List, [], ◌∷◌, ◌++◌, append-nil}
use mathlib.Core.Logic.{⊎_elim}
use Prim.Native.Nat.{ℕ, suc, ◌+◌, ◌-◌, ◌*◌, ◌/◌, ◌^◌, ◌≤◌, ◌<◌, min}
use native.Mathlib.Omega.{arith}
use native.Mathlib.Numerals.{add-one}
use lib.ListN.{get_or, length, take, drop, take-append-drop}
use lib.Seq.{take-suc, take_all, length-take-le}
use Rattle.std.specs.Int.{bytes_low_first}
use borrow.Rule.Slice.PartMut.{put_mid}
use Rattle.limits.specs.Records.{WORD}
use Rattle.util.specs.Pick.{le_or_lt}
use Rattle.le.specs.Le.{get, le, splice, splice_next, splice_past, splice_long, length_splice}
use Rattle.le.proofs.Laws.{number_set, get_capped}
use Rattle.words.specs.Words.{word_of, word_bytes, words_append, length_words}

module _ (ws : List ℕ) where
  one_more : (i : ℕ) → i < length ws → word_bytes (take (suc i) ws) ≡ word_bytes (take i ws) ++ le WORD (get_or ws i 0)
  unfolding word_bytes
  one_more i h =
      ap word_bytes (take-suc ws i 0 h) ∙ words_append (take i ws) (get_or ws i 0 ∷ []) ∙ ap (λ (l : List ℕ). word_bytes (take i ws) ++ l) (append-nil (le WORD (get_or ws i 0)))

  length_front : (i : ℕ) → i < length ws → length (word_bytes (take i ws)) ≡ WORD * i
  length_front i h = length_words (take i ws) ∙ ap (λ (n : ℕ). WORD * n) (length-take-le i ws (omega arith))

  pub words_none : (l : List ℕ) (at : ℕ) → l ≡ splice l at (word_bytes (take 0 ws))
  unfolding word_bytes splice
  words_none l at = refl

  word_again : (l b c : List ℕ) (at i : ℕ) → i < length ws → b ≡ splice l at (word_bytes (take i ws))
      → c ≡ splice b (at + WORD * i) (le WORD (get_or ws i 0)) → c ≡ splice l at (word_bytes (take (i + 1) ws))
  word_again l b c at i h e d =
      rw (d, e, add-one i, one_more i h) (splice_next l at (word_bytes (take i ws)) (le WORD (get_or ws i 0)) (at + WORD * i) (let z = length_front i h in omega arith))

  pub words_again : (l b c : List ℕ) (at i n : ℕ) → n ≡ min (length ws) ((length l - at + (WORD - 1)) / WORD) → i < n → b ≡ splice l at (word_bytes (take i ws))
      → c ≡ splice b (at + WORD * i) (le WORD (get_or ws i 0)) → c ≡ splice l at (word_bytes (take (i + 1) ws))
  words_again l b c at i n q k e d = word_again l b c at i (omega arith) e d

  -- those that are left begin past the end
  words_past : (l : List ℕ) (at i : ℕ) → i < length ws → length l ≤ at + WORD * i → splice l at (word_bytes (take i ws)) ≡ splice l at (word_bytes ws)
  words_past l at i h k =
      let z = length_front i h in
      let f = length_splice l at (word_bytes (take i ws)) in
      sym (splice_past (splice l at (word_bytes (take i ws))) (at + WORD * i) (word_bytes (drop i ws)) (omega arith))
      ∙ splice_next l at (word_bytes (take i ws)) (word_bytes (drop i ws)) (at + WORD * i) (omega arith)
      ∙ ap (splice l at) (sym (words_append (take i ws) (drop i ws)) ∙ ap word_bytes (take-append-drop i ws))

  pub words_end : (l b : List ℕ) (at i n : ℕ) → n ≡ min (length ws) ((length l - at + (WORD - 1)) / WORD)
      → b ≡ splice l at (word_bytes (take i ws)) → n ≤ i → b ≡ splice l at (word_bytes ws)
  words_end l b at i n q e c =
      e
      ∙ ⊎_elim (λ k. ap (λ (x : List ℕ). splice l at (word_bytes x)) (take_all i ws k)) (λ k. words_past l at i k (omega arith)) (le_or_lt (length ws) i)

  -- where all of them are inside
  pub inside_again : (l b x : List ℕ) (at i : ℕ) → i < length ws → at + WORD * length ws ≤ length l → b ≡ splice l at (word_bytes (take i ws))
      → x ≡ bytes_low_first 0 WORD (get_or ws i 0) → put_mid (at + WORD * i) (at + WORD * i + WORD - (at + WORD * i)) b x ≡ splice l at (word_bytes (take (i + 1) ws))
  inside_again l b x at i k h e q =
      let z = splice_long l b at (word_bytes (take i ws)) e in
      word_again l b (put_mid (at + WORD * i) (at + WORD * i + WORD - (at + WORD * i)) b x) at i k e
      (number_set b (at + WORD * i) WORD (get_or ws i 0) x (omega arith) q)

  pub inside_end : (l b : List ℕ) (at i : ℕ) → b ≡ splice l at (word_bytes (take i ws)) → length ws ≤ i → b ≡ splice l at (word_bytes ws)
  inside_end l b at i e a = e ∙ ap (λ (x : List ℕ). splice l at (word_bytes x)) (take_all i ws a)

pub ruleset words_loop = (words_none, words_again)

pub ruleset inside_loop = (words_none, inside_again, inside_end)

-- ---- a word of a record, whose place may be no number of 64 bits
capped : (p q a w at : ℕ) → q ≡ min p (2 ^ 64 - 1) → a ≡ min (q + w) (2 ^ 64 - 1) → at ≡ min (WORD * a) (2 ^ 64 - 1) → at ≡ min (WORD * (p + w)) (2 ^ 64 - 1)
capped p q a w at x y z = omega arith

pub word_is : (s : List ℕ) (W r w q a at x : ℕ) → length s < 2 ^ 64 → q ≡ min (W * r) (2 ^ 64 - 1) → a ≡ min (q + w) (2 ^ 64 - 1) → at ≡ min (WORD * a) (2 ^ 64 - 1) → x ≡ get WORD s at
    → x ≡ word_of W s r w
unfolding word_of
word_is s W r w q a at x h e f g k = get_capped WORD s (WORD * (W * r + w)) at x h (capped (W * r) q a w at e f g) k
