-- Records of one size, one behind another.
use Rattle.std.specs.Prelude.{◌≡◌, List, [], ◌++◌}
use Rattle.std.proofs.Common.{sym, ◌∙◌, not-suc-le-zero, le_of_suc-le-suc, eq-or-lt_of_le}
use Rattle.std.proofs.Math.Path.{ap}
use Rattle.std.proofs.Math.Logic.{⊎_elim}
use Prim.Native.Nat.{ℕ, zero, suc, ◌+◌, ◌*◌, ◌≤◌, ◌<◌}
use native.Mathlib.Omega.{arith}
use Rattle.std.proofs.Math.Nat.{mul-le-mul_left}
use Rattle.std.proofs.Math.ListN.{length, get_or, length-append, get_or-append}
use Rattle.std.proofs.Math.Seq.{get_or-append-add}
use Rattle.le.specs.Le.{get, get_same}

-- the records of the numbers below n
unfoldable pub records_to : (ℕ → List ℕ) → ℕ → List ℕ
records_to r zero = []
records_to r (suc n) = records_to r n ++ r n

-- ---- each has W bytes
module _ (r : ℕ → List ℕ) (W : ℕ) (long : (k : ℕ) → length (r k) ≡ W) where
  pub length_records : (n : ℕ) → length (records_to r n) ≡ W * n
  unfolding records_to
  length_records zero = omega arith
  length_records (suc n) = length-append (records_to r n) (r n) ∙ (let a = long n in let b = length_records n in omega arith)

  -- byte i of record k
  pub record_at_lem : (n k i : ℕ) → k < n → i < W → get_or (records_to r n) (W * k + i) 0 ≡ get_or (r k) i 0
  unfolding records_to
  record_at_lem zero k i h q = absurd (not-suc-le-zero h)
  record_at_lem (suc n) k i h q =
      let l = length_records n in
      ⊎_elim
      (λ e.
      let z : W * k + i ≡ length (records_to r n) + i = rw e (omega arith) in
      ap (λ (t : ℕ). get_or (records_to r (suc n)) t 0) z ∙ get_or-append-add (records_to r n) (r n) i 0 ∙ ap (λ (t : ℕ). get_or (r t) i 0) (sym e))
      (λ lt.
      let z : W * suc k ≤ W * n = mul-le-mul_left W lt in
      get_or-append (records_to r n) (r n) 0 (W * k + i) (omega arith) ∙ record_at_lem n k i lt q)
      (eq-or-lt_of_le (le_of_suc-le-suc h))

-- a byte behind the n bytes of a
pub byte_behind : (a b : List ℕ) (n i : ℕ) → length a ≡ n → get_or (a ++ b) (n + i) 0 ≡ get_or b i 0
byte_behind a b n i e = rw (← e) (get_or-append-add a b i 0)

-- where the bytes of l from `at` are those of r, so are the numbers
pub same_number : (w : ℕ) (l r : List ℕ) (at i : ℕ) → ((j : ℕ) → j < length r → get_or l (at + j) 0 ≡ get_or r j 0) → i + w ≤ length r
    → get w l (at + i) ≡ get w r i
same_number w l r at i same q =
    get_same w l r (at + i) i (λ j p. let e : at + i + j ≡ at + (i + j) = omega arith in ap (λ (t : ℕ). get_or l t 0) e ∙ same (i + j) (omega arith))
