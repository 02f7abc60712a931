-- The ways through the readers. Assumes nothing.
use mathlib.Core.Path.{◌≡◌, sym, ◌∙◌}
use mathlib.Core.Bool.{true, not}
use mathlib.Core.List.{List}
use Prim.Native.Nat.{ℕ, zero, suc, ◌+◌, ◌*◌, ◌-◌, ◌/◌, ◌%◌, ◌^◌, ◌≤◌, ◌<◌}
use native.Mathlib.Omega.{arith}
use native.Mathlib.Nat.{add-zero}
use Rattle.std.specs.Prelude.{bit_and}
use Rattle.std.proofs.Math.Nat.{pow-suc, one-le-pow}
use Rattle.std.proofs.lemmas.Nat.Bits.{and_high}
use mathlib.Core.Logic.{⊎_elim}
use lib.Dec.{eqb}
use lib.ListN.{take, drop}
use borrow.Author.Tests.{ne_eqb}
use Rattle.util.specs.Pick.{le_or_lt}
use Rattle.util.specs.Align.{round_up, align_exact, up_one, up_near}
use Rattle.le.specs.Le.{get, part, part_at, get_same}
use Rattle.kinds.specs.Flags.{has_flag, CNT_UNINITIALIZED, LNK_NRELOC_OVFL, align_of}
use Rattle.object.specs.declared.Header.{Header}
use Rattle.object.specs.declared.Records.{Records}
use Rattle.object.specs.declared.Relocation.{Relocation}
use Rattle.object.specs.declared.Symbol.{Symbol}
use Rattle.object.specs.Format.{symbol_size, RELOCATION_SIZE, RELOCATION_SYMBOL_AT, RELOCATION_TYPE_AT, VALUE_AT, NUMBER_AT, TYPE_AT, CLASS_AT, AUXILIARIES_AT, symbol_record_at, raw_size, flags}
use Rattle.object.specs.Section.{range_length}
use Rattle.object.specs.Relocation.{relocation_in, record_at, record_bytes}
use Rattle.object.specs.Symbol.{symbol_in, symbol_of}

-- ---- flags
-- a binary digit under its mask
digit : (m b p : ℕ) → m < 2 → b ≡ m * p → 1 ≤ p → not (eqb b 0) ≡ eqb m 1
digit zero b p l e h = let z : b ≡ 0 = omega arith in rw z
digit (suc zero) b p l e h = rw (ne_eqb b 0 (λ q. omega arith))
digit (suc (suc m)) b p l e h = absurd (omega arith)

masked : (x k : ℕ) → not (eqb (bit_and x (2 ^ k)) 0) ≡ eqb (x / 2 ^ k % 2) 1
masked x k =
    let n : 1 + k ≡ suc k = omega arith in
    let two : 2 ^ (1 + k) - 2 ^ k ≡ 2 ^ k = rw (n, pow-suc 2 k) (omega arith) in
    digit (x / 2 ^ k % 2) (bit_and x (2 ^ k)) (2 ^ k) (omega arith) (rw two at (and_high x 1 k)) (one-le-pow k 2 (omega arith))

pub uninitialized_is : (x : ℕ) → not (eqb (bit_and x CNT_UNINITIALIZED) 0) ≡ has_flag CNT_UNINITIALIZED x
uninitialized_is x = masked x 7

pub overflow_is : (x : ℕ) → not (eqb (bit_and x LNK_NRELOC_OVFL) 0) ≡ has_flag LNK_NRELOC_OVFL x
overflow_is x = masked x 24

pub overflow_set : (x : ℕ) → (bit_and x LNK_NRELOC_OVFL ≡ 0 → ⊥) → has_flag LNK_NRELOC_OVFL x ≡ true
overflow_set x n = sym (overflow_is x) ∙ rw (ne_eqb (bit_and x LNK_NRELOC_OVFL) 0 n)

pub ruleset overflow_ways = (overflow_is, overflow_set)

-- ---- a record from its part of the file
pub get_part : (f : List ℕ) (a n m k : ℕ) → k + m ≤ n → get m (part f a n) k ≡ get m f (a + k)
get_part f a n m k l =
    get_same m (part f a n) f k (a + k) (λ i q. let e : a + (k + i) ≡ a + k + i = omega arith in rw e at (part_at f a n (k + i) (omega arith)))

pub whole_part : (f : List ℕ) (at n : ℕ) → take (at + n - at) (drop at f) ≡ part f at n
unfolding part
whole_part f at n = let e : at + n - at ≡ n = omega arith in rw e

-- a symbol record
module _ (f : List ℕ) (h : Header) (at : ℕ) (s : Symbol) where
  symbol_in_lem : s ≡ symbol_in (part f at (symbol_size h)) 0 → s ≡ symbol_in f at
  symbol_in_lem e =
      rw (
        e,
        get_part f at (symbol_size h) 4 VALUE_AT (omega arith),
        get_part f at (symbol_size h) 2 NUMBER_AT (omega arith),
        get_part f at (symbol_size h) 2 TYPE_AT (omega arith),
        part_at f at (symbol_size h) CLASS_AT (omega arith),
        part_at f at (symbol_size h) AUXILIARIES_AT (omega arith),
      )

  pub symbol_part : (j : ℕ) (r : List ℕ) → s ≡ symbol_in r 0 → r ≡ part f at (symbol_size h) → at ≡ symbol_record_at h j → s ≡ symbol_of f h j
  symbol_part j r e p a = rw (← a) (symbol_in_lem (rw p at e))

-- the size in the image is small
pub range_small : (size n r : ℕ) → size < 2 ^ 32 → n < 2 ^ 32 → r ≡ round_up size n % 2 ^ 64 → r < 2 ^ 33
range_small size n r d e q =
    rw (q, align_exact size n (omega arith) (omega arith))
    (⊎_elim (λ k. rw (up_one size n k) (omega arith)) (λ k. let u = up_near size n k in omega arith) (le_or_lt n 1))

-- ---- of section i
module _ (f : List ℕ) (h : Header) (i : ℕ) where
  -- the size in the image never wraps
  pub range_fits : (x size n r : ℕ) → x ≡ flags f h i → n ≡ align_of (x / 0x100000 % 16) → size ≡ raw_size f h i → size < 2 ^ 32 → n < 2 ^ 32
      → r ≡ round_up size n % 2 ^ 64 → r ≡ range_length f h i
  unfolding range_length
  range_fits x size n r a b c d e q = rw (← a, ← b, ← c) (q ∙ align_exact size n (omega arith) (omega arith))

-- ---- relocations
-- from its part of the file
pub relocation_read : (f l : List ℕ) (r : Records) (k : ℕ) (x : Relocation) → x ≡ relocation_in l 0 → l ≡ part f (r.pointer + RELOCATION_SIZE * (r.first + k)) RELOCATION_SIZE → x ≡ relocation_in f (record_at r k)
unfolding record_at relocation_in
relocation_read f l r k x e q =
    let at : ℕ = r.pointer + RELOCATION_SIZE * (r.first + k) in
    rw (
      e,
      q,
      get_part f at RELOCATION_SIZE 4 0 (omega arith),
      get_part f at RELOCATION_SIZE 4 RELOCATION_SYMBOL_AT (omega arith),
      get_part f at RELOCATION_SIZE 2 RELOCATION_TYPE_AT (omega arith),
      add-zero at,
    )

-- the bytes of all records start with those of record 0
pub bytes_are : (f : List ℕ) (r : Records) (l : List ℕ) → l ≡ part f (r.pointer + RELOCATION_SIZE * r.first) (RELOCATION_SIZE * r.count) → l ≡ record_bytes f r
unfolding record_bytes record_at
bytes_are f r l e = rw (add-zero r.first) e
