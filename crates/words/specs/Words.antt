-- A table is records of whole words; a word is eight bytes, low byte first (docs/HOST.md).
use Rattle.std.specs.Prelude.{◌≡◌, refl, List, [], ◌∷◌, ◌++◌, ℕ, zero, suc, ◌+◌, ◌*◌, ◌%◌, ◌^◌, ◌≤◌, ◌<◌, length, get_or}
use Rattle.std.proofs.Common.{sym, ap, ◌∙◌, append_assoc, arith, zero-add, not-suc-le-zero, le_of_suc-le-suc, length-append, get_or-append-add}
use Rattle.std.proofs.Math.ListN.{get_or-append}
use Rattle.limits.specs.Records.{WORD}
use Rattle.le.specs.Le.{get, le, splice, get_same, get_low, le_low, length_le, splice_in}

-- words one behind another
unfoldable pub word_bytes : List ℕ → List ℕ
word_bytes [] = []
word_bytes (w ∷ ws) = le WORD w ++ word_bytes ws

-- word w of record r, where a record has W words
unfoldable pub word_of : ℕ → List ℕ → ℕ → ℕ → ℕ
word_of W table r w = get WORD table (WORD * (W * r + w))

-- ---- laws
-- of a word its low 64 bits are put
pub word_low : (v : ℕ) (ws : List ℕ) → word_bytes (v % 2 ^ 64 ∷ ws) ≡ word_bytes (v ∷ ws)
unfolding word_bytes
word_low v ws = ap (λ (l : List ℕ). l ++ word_bytes ws) (le_low WORD v)

pub word_next : (u v : ℕ) (ws : List ℕ) → word_bytes (u ∷ v % 2 ^ 64 ∷ ws) ≡ word_bytes (u ∷ v ∷ ws)
unfolding word_bytes
word_next u v ws = ap (λ (l : List ℕ). le WORD u ++ (l ++ word_bytes ws)) (le_low WORD v)

pub words_append : (xs ys : List ℕ) → word_bytes (xs ++ ys) ≡ word_bytes xs ++ word_bytes ys
unfolding word_bytes
words_append [] ys = refl
words_append (x ∷ xs) ys = ap (λ (l : List ℕ). le WORD x ++ l) (words_append xs ys) ∙ sym (append_assoc (le WORD x) (word_bytes xs) (word_bytes ys))

pub length_words : (ws : List ℕ) → length (word_bytes ws) ≡ WORD * length ws
unfolding word_bytes
length_words [] = refl
length_words (w ∷ ws) = simp (length-append, length_le, length_words ws) (omega arith)

get_word : (ws : List ℕ) (j : ℕ) → j < length ws → get WORD (word_bytes ws) (WORD * j) ≡ get_or ws j 0 % 2 ^ 64
unfolding word_bytes
get_word [] j h = absurd (not-suc-le-zero h)
get_word (w ∷ ws) zero h =
    get_same WORD (le WORD w ++ word_bytes ws) (le WORD w) 0 0
    (λ k p. rw zero-add (get_or-append (le WORD w) (word_bytes ws) 0 k (rw length_le p)))
    ∙ get_low WORD w
get_word (w ∷ ws) (suc j) h =
    get_same WORD (le WORD w ++ word_bytes ws) (word_bytes ws) (WORD * suc j) (WORD * j)
    (λ k p.
    let l : length (le WORD w) ≡ WORD = length_le WORD w in
    let e : WORD * suc j + k ≡ length (le WORD w) + (WORD * j + k) = omega arith in
    rw e (get_or-append-add (le WORD w) (word_bytes ws) (WORD * j + k) 0))
    ∙ get_word ws j (le_of_suc-le-suc h)

-- a word of a list that was put at the front of b
pub word_back : (ws b : List ℕ) (j : ℕ) → WORD * length ws ≤ length b → j < length ws → get WORD (splice b 0 (word_bytes ws)) (WORD * j) ≡ get_or ws j 0 % 2 ^ 64
word_back ws b j f h =
    let l : length (word_bytes ws) ≡ WORD * length ws = length_words ws in
    get_same WORD (splice b 0 (word_bytes ws)) (word_bytes ws) (WORD * j) (WORD * j)
    (λ k p. rw zero-add at (splice_in b 0 (word_bytes ws) (WORD * j + k) (omega arith) (omega arith)))
    ∙ get_word ws j h
