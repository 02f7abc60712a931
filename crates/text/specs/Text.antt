-- Numbers, permissions and words as the program prints them, in bytes (01, "A small object": addresses are lower-case hexadecimal, the rest signed decimal, neither padded).
use Rattle.std.specs.Prelude.{◌≡◌, List, [], ◌∷◌, ◌++◌, ℕ, zero, suc, ◌+◌, ◌-◌, ◌/◌, ◌%◌, ◌^◌, min, ltb, eqb, length}
use Rattle.util.specs.Pick.{pick}
use Rattle.le.specs.Le.{splice}
use Rattle.text.specs.declared.Writer.{Writer}

-- ---- numbers
-- a digit: `0` to `9`, then `a` to `f`
unfoldable pub glyph : ℕ → ℕ
glyph d = pick (ltb d 10) (48 + d) (87 + d)

-- n in base b with no leading zero; a number has no more digits than its `fuel`, which is n itself
unfoldable pub digits : ℕ → ℕ → ℕ → List ℕ
digits b zero n = glyph n ∷ []
digits b (suc fuel) n = pick (ltb n b) (glyph n ∷ []) (digits b fuel (n / b) ++ (glyph (n % b) ∷ []))

-- n in base b, all its digits
unfoldable pub number : ℕ → ℕ → List ℕ
number b n = digits b n n

-- as counts and file offsets are printed
abbrev pub decimal_text : ℕ → List ℕ
decimal_text n = number 10 n

-- as addresses are printed
abbrev pub hex_text : ℕ → List ℕ
hex_text n = number 16 n

-- v in two's complement of 64 bits, with its sign
unfoldable pub signed_text : ℕ → List ℕ
signed_text v = pick (ltb v (2 ^ 63)) (decimal_text v) (45 ∷ decimal_text (2 ^ 64 - v))

-- ---- permissions
-- a permission's letter, or `-` where its bit is 0
unfoldable pub letter_or : ℕ → ℕ → ℕ
letter_or bit letter = pick (eqb bit 0) 45 letter

-- read 1, write 2, execute 4, as `R`, `W` and `X`
unfoldable pub permissions_text : ℕ → List ℕ
permissions_text p = letter_or (p % 2) 82 ∷ letter_or (p / 2 % 2) 87 ∷ letter_or (p / 4 % 2) 88 ∷ []

-- ---- words
-- a word that another follows
abbrev pub word : List ℕ → List ℕ
word w = w ++ (32 ∷ [])

-- the end of every line
abbrev pub newline : List ℕ
newline = 10 ∷ []

-- ---- what a writer does: vs is put at `at`, and `to` is the place behind it; where there is no room for all of vs, what has room is put, and `to` is the buffer's end
pub record Puts (before : List ℕ) (at : ℕ) (vs after : List ℕ) (to : ℕ) : Type 0 where
  pub bytes : after ≡ splice before at vs
  pub next : to ≡ at + min (length vs) (length before - at)

-- the same of a writer, which keeps its buffer
pub record Wrote (before : Writer) (vs : List ℕ) (after : Writer) : Type 0 where
  pub same : after.out.ghost_name ≡ before.out.ghost_name
  pub puts : Puts before.out.now before.at vs after.out.now after.at
