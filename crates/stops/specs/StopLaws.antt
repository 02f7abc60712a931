-- That the words say where the characters stop. Assumes nothing.
use Rattle.std.specs.Prelude.{◌≡◌, Bool, true, List, ltb, get_or}
use Rattle.std.proofs.Common.{sym, ap, ◌∙◌, inr, eq-or-lt_of_le}
use Rattle.std.proofs.Math.Bool.{false}
use Rattle.std.proofs.Math.Logic.{⊎_elim}
use Prim.Native.Nat.{ℕ, zero, suc, ◌+◌, ◌-◌, ◌*◌, ◌/◌, ◌%◌, ◌≤◌, ◌<◌}
use native.Mathlib.Omega.{arith}
use borrow.Author.Tests.{lt-ltb, le-ltb}
use Rattle.std.proofs.Math.ListN.{length, get_or-eq_default}
use Rattle.util.specs.Pick.{pick, yes_no, le_or_lt, not_both}
use Rattle.util.specs.Prefix.{list_at, length_list}
use Rattle.utf8.specs.Utf8.{holds, TAIL}
use Rattle.chars.specs.Chars.{walk, stop}
use Rattle.chars.specs.WalkLaws.{tail_no_char, walk_off, walk_least, walk_within, walk_same, walk_over, stop_behind_lem, stop_before}
use Rattle.stops.specs.Stops.{skip_to, skip, TAILS, BLOCK, block_stop, stop_words, stop_behind, stop_by}

-- ---- behind the tails
module _ (t : List ℕ) where
  pub skip_least : (n i : ℕ) → i ≤ skip_to t i n
  unfolding skip_to pick
  skip_least zero i = omega arith
  skip_least (suc n) i = ⊎_elim (λ e. rw e (let r = skip_least n (i + 1) in omega arith)) (λ e. rw e (omega arith)) (yes_no (holds TAIL (get_or t i 0)))

  pub skip_most : (n i : ℕ) → skip_to t i n ≤ i + n
  unfolding skip_to pick
  skip_most zero i = omega arith
  skip_most (suc n) i = ⊎_elim (λ e. rw e (let r = skip_most n (i + 1) in omega arith)) (λ e. rw e (omega arith)) (yes_no (holds TAIL (get_or t i 0)))

  -- past the table's end there are none
  pub past_tail : (i : ℕ) → length t ≤ i → holds TAIL (get_or t i 0) ≡ false
  past_tail i h = ap (holds TAIL) (get_or-eq_default t 0 {n = i} h)

  pub skip_within : (n i : ℕ) → i ≤ length t → skip_to t i n ≤ length t
  unfolding skip_to pick
  skip_within zero i h = h
  skip_within (suc n) i h =
      ⊎_elim
      (λ (e : holds TAIL (get_or t i 0) ≡ true).
      ⊎_elim (λ (p : length t ≤ i). not_both (holds TAIL (get_or t i 0)) e (past_tail i p)) (λ (p : i < length t). rw e (skip_within n (i + 1) (omega arith))) (le_or_lt (length t) i))
      (λ e. rw e h)
      (yes_no (holds TAIL (get_or t i 0)))

  -- the first that is none, if there are no more
  skip_is : (n i s : ℕ) → i ≤ s → s ≤ i + n → ((k : ℕ) → i ≤ k → k < s → holds TAIL (get_or t k 0) ≡ true) → holds TAIL (get_or t s 0) ≡ false → skip_to t i n ≡ s
  unfolding skip_to pick
  skip_is zero i s a b v e = omega arith
  skip_is (suc n) i s a b v e =
      ⊎_elim (λ (q : i ≡ s). let z : holds TAIL (get_or t i 0) ≡ false = rw q e in rw (z, q))
      (λ (q : i < s). rw (v i (omega arith) q) (skip_is n (i + 1) s (omega arith) (omega arith) (λ k c d. v k (omega arith) d) e))
      (eq-or-lt_of_le a)

module _ (section : Bool) (t : List ℕ) where
  -- ---- from block to block
  -- s is the stop from every place of `start` on that it is not before, if a character may begin there
  pub record Serves (start s : ℕ) : Type 0 where
    pub serves : (o : ℕ) → start ≤ o → o ≤ s → holds TAIL (get_or t o 0) ≡ false → s ≡ stop section t o

  pub serves_none : (start : ℕ) → 0 < start → Serves start 0
  serves_none start h = record { serves = λ o a b n. absurd (omega arith) }

  pub serves_next : (b s : ℕ) → s ≡ block_stop section t b → Serves ((b + 1 + 1) * BLOCK) s
  serves_next b s e =
      let m = skip_most t TAILS ((b + 1) * BLOCK) in
      record { serves = λ o a l n. e ∙ sym (walk_same section t (length t) (skip t ((b + 1) * BLOCK)) o (omega arith) (rw e at l) n) }

  pub stop_low : (b : ℕ) → (b + 1) * BLOCK ≤ length t → block_stop section t b ≤ length t
  stop_low b h = walk_within section t (length t) (skip t ((b + 1) * BLOCK)) (skip_within t TAILS ((b + 1) * BLOCK) h)

  -- ---- by the words
  noted : (n b s : ℕ) → s ≡ skip t ((b + 1) * BLOCK) → pick (ltb b (length (stop_words section t n))) (get_or (stop_words section t n) b 0) (stop section t s) ≡ stop section t s
  unfolding pick
  noted n b s q =
      let l = length_list (block_stop section t) n in
      ⊎_elim (λ (a : n ≤ b). rw (l, le-ltb b n a))
      (λ (a : b < n). rw (l, lt-ltb b n a, list_at (block_stop section t) 0 n b a, q))
      (le_or_lt n b)

  behind_noted : (n b e o : ℕ) → e ≡ (b + 1) * BLOCK → o ≤ e → e ≤ walk section t e o → stop_behind section t (stop_words section t n) b (walk section t e o) ≡ stop section t (walk section t e o)
  unfolding stop_behind pick
  behind_noted n b e o z a l =
      let s = walk section t e o in
      let w = walk_over section t e o a in
      ⊎_elim (λ (x : holds TAIL (get_or t s 0) ≡ true). rw x (sym (walk_off section t (length t) s (inr (tail_no_char section t s x)))))
      (λ (x : holds TAIL (get_or t s 0) ≡ false). rw x (noted n b s (sym (ap (λ (i : ℕ). skip t i) (sym z) ∙ skip_is t TAILS e s l w.few w.tails x))))
      (yes_no (holds TAIL (get_or t s 0)))

  pub stop_noted : (stops : List ℕ) (n o : ℕ) → stops ≡ stop_words section t n → stop_by section t stops o ≡ stop section t o
  unfolding stop_by pick
  stop_noted stops n o q =
      let d = BLOCK - o % BLOCK in
      let e = o + d in
      let s = walk section t e o in
      let a = walk_least section t e o in
      ⊎_elim
      (λ (l : d ≤ s - o).
      rw (q, le-ltb (s - o) d l) (behind_noted n (o / BLOCK) e o (omega arith) (omega arith) (omega arith) ∙ stop_behind_lem section t e o))
      (λ (l : s - o < d). rw (lt-ltb (s - o) d l) (sym (stop_before section t e o (omega arith))))
      (le_or_lt d (s - o))
