-- Rows: the records of a list, each of W words, and what is read of a buffer that they were put at the front of.
use Rattle.std.specs.Prelude.{◌≡◌, refl, get_or}
use Rattle.std.proofs.Common.{sym, ◌∙◌, mul-le-mul_left, not-suc-le-zero, le_of_suc-le-suc, get_or-append-add}
use Rattle.std.proofs.Math.Path.{ap}
use mathlib.Core.List.{List, [], ◌∷◌, ◌++◌, append_assoc}
use Prim.Native.Nat.{ℕ, zero, suc, ◌+◌, ◌*◌, ◌%◌, ◌^◌, ◌≤◌, ◌<◌}
use native.Mathlib.Omega.{arith}
use Rattle.std.proofs.Math.ListN.{length, length-append, get_or-append}
use Rattle.limits.specs.Records.{WORD}
use Rattle.le.specs.Le.{splice}
use Rattle.words.specs.Words.{word_bytes, word_of, words_append, word_back}

-- the words of every record, one behind another
unfoldable pub row_words : {A : Type 0} → (A → List ℕ) → List A → List ℕ
row_words words [] = []
row_words words (x ∷ xs) = words x ++ row_words words xs

pub rows_append : {A : Type 0} (words : A → List ℕ) (xs ys : List A) → row_words words (xs ++ ys) ≡ row_words words xs ++ row_words words ys
unfolding row_words
rows_append words [] ys = refl
rows_append words (x ∷ xs) ys =
    ap (λ (l : List ℕ). words x ++ l) (rows_append words xs ys) ∙ sym (append_assoc (words x) (row_words words xs) (row_words words ys))

module _ {A : Type 0} (words : A → List ℕ) where
  pub rows_join : (xs ys : List A) → word_bytes (row_words words xs) ++ word_bytes (row_words words ys) ≡ word_bytes (row_words words (xs ++ ys))
  rows_join xs ys = sym (words_append (row_words words xs) (row_words words ys)) ∙ ap word_bytes (sym (rows_append words xs ys))

module _ {A : Type 0} (words : A → List ℕ) (W : ℕ) (long : (x : A) → length (words x) ≡ W) where
  pub length_rows : (xs : List A) → length (row_words words xs) ≡ W * length xs
  unfolding row_words
  length_rows [] = omega arith
  length_rows (x ∷ xs) =
      length-append (words x) (row_words words xs) ∙ (let a = long x in let b = length_rows xs in omega arith)

  pub row_at : (xs : List A) (k w : ℕ) (d : A) → k < length xs → w < W → get_or (row_words words xs) (W * k + w) 0 ≡ get_or (words (get_or xs k d)) w 0
  unfolding row_words
  row_at [] k w d h q = absurd (not-suc-le-zero h)
  row_at (x ∷ xs) zero w d h q =
      let e : W * 0 + w ≡ w = omega arith in
      rw e (get_or-append (words x) (row_words words xs) 0 w (rw long q))
  row_at (x ∷ xs) (suc k) w d h q =
      let l = long x in
      let e : W * suc k + w ≡ length (words x) + (W * k + w) = omega arith in
      rw e (get_or-append-add (words x) (row_words words xs) (W * k + w) 0) ∙ row_at xs k w d (le_of_suc-le-suc h) q

  in_rows : (n k w : ℕ) → k < n → w < W → W * k + w < W * n
  in_rows n k w h q = let z : W * suc k ≤ W * n = mul-le-mul_left W h in omega arith

  -- word w of row k, also where other words stand behind the rows
  pub row_before : (xs : List A) (more b : List ℕ) (k w : ℕ) (d : A) → WORD * (W * length xs + length more) ≤ length b → k < length xs → w < W
      → word_of W (splice b 0 (word_bytes (row_words words xs ++ more))) k w ≡ get_or (words (get_or xs k d)) w 0 % 2 ^ 64
  unfolding word_of
  row_before xs more b k w d f h q =
      let l = length_rows xs in
      let m = length-append (row_words words xs) more in
      let i = in_rows (length xs) k w h q in
      word_back (row_words words xs ++ more) b (W * k + w) (omega arith) (omega arith)
      ∙ ap (λ (v : ℕ). v % 2 ^ 64) (get_or-append (row_words words xs) more 0 (W * k + w) (omega arith) ∙ row_at xs k w d h q)

  pub row_back : (xs : List A) (b : List ℕ) (k w : ℕ) (d : A) → WORD * (W * length xs) ≤ length b → k < length xs → w < W
      → word_of W (splice b 0 (word_bytes (row_words words xs))) k w ≡ get_or (words (get_or xs k d)) w 0 % 2 ^ 64
  unfolding word_of
  row_back xs b k w d f h q =
      let l = length_rows xs in
      let i = in_rows (length xs) k w h q in
      word_back (row_words words xs) b (W * k + w) (omega arith) (omega arith) ∙ ap (λ (v : ℕ). v % 2 ^ 64) (row_at xs k w d h q)

  -- and word w behind them
  pub row_behind : (xs : List A) (more b : List ℕ) (w : ℕ) → WORD * (W * length xs + length more) ≤ length b → w < length more
      → word_of W (splice b 0 (word_bytes (row_words words xs ++ more))) (length xs) w ≡ get_or more w 0 % 2 ^ 64
  unfolding word_of
  row_behind xs more b w f q =
      let l = length_rows xs in
      let m = length-append (row_words words xs) more in
      let e : W * length xs + w ≡ length (row_words words xs) + w = omega arith in
      word_back (row_words words xs ++ more) b (W * length xs + w) (omega arith) (omega arith)
      ∙ ap (λ (v : ℕ). v % 2 ^ 64) (rw e (get_or-append-add (row_words words xs) more w 0))
