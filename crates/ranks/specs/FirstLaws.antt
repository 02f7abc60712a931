-- What a search among the records of the section table finds, whatever its test is.
use Rattle.std.specs.Prelude.{◌≡◌, Bool}
use Rattle.std.proofs.Math.Path.{refl}
use Rattle.std.proofs.Common.{sym, ap, ◌∙◌, ⊎_elim, eq-or-lt_of_le}
use Rattle.std.proofs.Math.Bool.{true, false}
use Prim.Native.Nat.{ℕ, zero, suc, ◌+◌, ◌≤◌, ◌<◌}
use native.Mathlib.Omega.{arith}
use Rattle.util.specs.Pick.{pick, le_or_lt, not_both}
use Rattle.ranks.specs.Named.{TableRecord, Loaded, Undef, Nowhere, first_in}

-- no section from j to below k passes
abbrev NonePasses : (ℕ → Bool) → ℕ → ℕ → Type 0
NonePasses p j k = (m : ℕ) → j ≤ m → m < k → p m ≡ false

-- what is known where a search among the n sections from j ends
abbrev Ends : (ℕ → Bool) → Bool → ℕ → ℕ → TableRecord → Type 0
Ends p u j n (Loaded k) = (j ≤ k) × (k < j + n) × (p k ≡ true) × NonePasses p j k
Ends p u j n Undef = (u ≡ true) × NonePasses p j (j + n)
Ends p u j n Nowhere = (u ≡ false) × NonePasses p j (j + n)

ends_none : (p : ℕ → Bool) (j : ℕ) (b : Bool) → Ends p b j 0 (pick b Undef Nowhere)
unfolding pick
ends_none p j true = (refl, λ m a b. absurd (omega arith))
ends_none p j false = (refl, λ m a b. absurd (omega arith))

none_more : (p : ℕ → Bool) (j k : ℕ) → p j ≡ false → NonePasses p (j + 1) k → NonePasses p j k
none_more p j k t r m a b = ⊎_elim (λ e. ap p (sym e) ∙ t) (λ lt. r m (omega arith) b) (eq-or-lt_of_le a)

module _ (p : ℕ → Bool) (u : Bool) where
  ends_later : (j n : ℕ) (x : TableRecord) → p j ≡ false → Ends p u (j + 1) n x → Ends p u j (suc n) x
  ends_later j n (Loaded k) t r = (omega arith, omega arith, r.2, none_more p j k t r.3)
  ends_later j n Undef t r = (r.0, none_more p j (j + suc n) t (λ m a b. r.1 m a (omega arith)))
  ends_later j n Nowhere t r = (r.0, none_more p j (j + suc n) t (λ m a b. r.1 m a (omega arith)))

  ends_step : (j n : ℕ) (x : TableRecord) (b : Bool) → p j ≡ b → Ends p u (j + 1) n x → Ends p u j (suc n) (pick b (Loaded j) x)
  unfolding pick
  ends_step j n x true t r = (omega arith, omega arith, t, λ m a b. absurd (omega arith))
  ends_step j n x false t r = ends_later j n x t r

  ends : (n j : ℕ) → Ends p u j n (first_in p u j n)
  unfolding first_in
  ends zero j = ends_none p j u
  ends (suc n) j = ends_step j n (first_in p u (j + 1) n) (p j) refl (ends n (j + 1))

-- ---- among the n sections from 0
-- a search that ends at section k: k passes, and no section below it
pub record FoundAt (p : ℕ → Bool) (n k : ℕ) : Type 0 where
  pub inside : k < n
  pub passes : p k ≡ true
  pub first : (m : ℕ) → m < k → p m ≡ false

-- a search that ends at no section: none passes, and UNDEF's test says b
pub record FoundNone (p : ℕ → Bool) (u : Bool) (n : ℕ) (b : Bool) : Type 0 where
  pub undef : u ≡ b
  pub none : (m : ℕ) → m < n → p m ≡ false

module _ (p : ℕ → Bool) (u : Bool) (n : ℕ) where
  -- what is found is the first section that passes
  pub found_at : (k : ℕ) → first_in p u 0 n ≡ Loaded k → FoundAt p n k
  found_at k e =
      let r : Ends p u 0 n (Loaded k) = rw e at (ends p u n 0) in
      record { inside = omega arith; passes = r.2; first = λ m q. r.3 m (omega arith) q }

  -- UNDEF is found if no section passes and UNDEF does
  pub found_undef : first_in p u 0 n ≡ Undef → FoundNone p u n true
  found_undef e =
      let r : Ends p u 0 n Undef = rw e at (ends p u n 0) in
      record { undef = r.0; none = λ m q. r.1 m (omega arith) (omega arith) }

  -- nothing is found if none of them passes
  pub found_nowhere : first_in p u 0 n ≡ Nowhere → FoundNone p u n false
  found_nowhere e =
      let r : Ends p u 0 n Nowhere = rw e at (ends p u n 0) in
      record { undef = r.0; none = λ m q. r.1 m (omega arith) (omega arith) }

-- a search that ends at section i or at one before it
pub record FoundBy (p : ℕ → Bool) (u : Bool) (n i : ℕ) : Type 0 where
  pub section : ℕ
  pub is : first_in p u 0 n ≡ Loaded section
  pub not_behind : section ≤ i

module _ (p : ℕ → Bool) (u : Bool) (n i : ℕ) (inside : i < n) (passes : p i ≡ true) where
  found_case : (x : TableRecord) → first_in p u 0 n ≡ x → FoundBy p u n i
  found_case (Loaded k) e =
      record {
        section = k;
        is = e;
        not_behind = ⊎_elim (λ l. l) (λ g. not_both (p i) passes ((found_at p u n k e).first i g)) (le_or_lt k i);
      }
  found_case Undef e = not_both (p i) passes ((found_undef p u n e).none i inside)
  found_case Nowhere e = not_both (p i) passes ((found_nowhere p u n e).none i inside)

  -- a section that passes is found, or one before it is
  pub found_by : FoundBy p u n i
  found_by = found_case (first_in p u 0 n) refl
