-- The fold over the relocations of a file, in section and record order: `step x i k` is what record k of section i makes of x, and section i has
-- `count i` records. Lists, counts, extern names and rows are its uses. Below it the laws that each of them would prove by two inductions.
use Rattle.std.specs.Prelude.{◌≡◌, ℕ, zero, suc, ◌<◌, ◌≤◌, refl}
use Rattle.std.proofs.Common.{ap, ◌∙◌, le_refl, le_trans, le_of_suc-le-suc, eq-or-lt_of_le}
use Rattle.std.proofs.Math.Logic.{⊎_elim}
use native.Mathlib.Omega.{arith}

-- the first k records of section i
unfoldable pub fold_records : {A : Type 0} → (A → ℕ → ℕ → A) → ℕ → A → ℕ → A
fold_records step i x zero = x
fold_records step i x (suc k) = step (fold_records step i x k) i k

-- all records of the first n sections
unfoldable pub fold_sections : {A : Type 0} → (A → ℕ → ℕ → A) → (ℕ → ℕ) → A → ℕ → A
fold_sections step count x zero = x
fold_sections step count x (suc i) = fold_records step i (fold_sections step count x i) (count i)

-- what it is before record k of section i
abbrev pub fold_at : {A : Type 0} → (A → ℕ → ℕ → A) → (ℕ → ℕ) → A → ℕ → ℕ → A
fold_at step count x i k = fold_records step i (fold_sections step count x i) k

-- ---- from record to record, and from section to section: M i k is what holds before record k of section i
records_walk : (M : ℕ → Type 0) (n : ℕ) → M 0 → ((k : ℕ) → k < n → M k → M (suc k)) → M n
records_walk M zero start more = start
records_walk M (suc n) start more = more n (omega arith) (records_walk M n start (λ k l. more k (omega arith)))

pub sections_walk : (count : ℕ → ℕ) (M : ℕ → ℕ → Type 0) (n : ℕ) → M 0 0 → ((i k : ℕ) → i < n → k < count i → M i k → M i (suc k))
    → ((i : ℕ) → M i (count i) → M (suc i) 0) → M n 0
sections_walk count M n start more turn = records_walk (λ i. M i 0) n start (λ i l m. turn i (records_walk (M i) (count i) m (λ k h. more i k l h)))

-- ---- of two folds: what holds of their starts, and after a record if before it, holds of both
module _ {A B : Type 0} (step : A → ℕ → ℕ → A) (other : B → ℕ → ℕ → B) (R : A → B → Type 0) where
  pub records_both : (i : ℕ) (x : A) (y : B) (n : ℕ) → ((k : ℕ) (a : A) (b : B) → k < n → R a b → R (step a i k) (other b i k)) → R x y
      → R (fold_records step i x n) (fold_records other i y n)
  unfolding fold_records
  records_both i x y n each r = records_walk (λ k. R (fold_records step i x k) (fold_records other i y k)) n r (λ k l. each k _ _ l)

  pub sections_both : (count : ℕ → ℕ) (x : A) (y : B) (n : ℕ) → ((i k : ℕ) (a : A) (b : B) → i < n → k < count i → R a b → R (step a i k) (other b i k)) → R x y
      → R (fold_sections step count x n) (fold_sections other count y n)
  unfolding fold_records fold_sections
  sections_both count x y n each r =
      sections_walk count (λ i k. R (fold_at step count x i k) (fold_at other count y i k)) n r (λ i k l h. each i k _ _ l h) (λ i m. m)

-- ---- of one fold
module _ {A : Type 0} (step : A → ℕ → ℕ → A) (P : A → Type 0) where
  pub sections_each : (count : ℕ → ℕ) (x : A) (n : ℕ) → ((i k : ℕ) (a : A) → i < n → k < count i → P a → P (step a i k)) → P x → P (fold_sections step count x n)
  sections_each count x n each = sections_both step step (λ a b. P a) count x x n (λ i k a b. each i k a)

  -- what every step keeps stays
  module _ (keep : (a : A) (i k : ℕ) → P a → P (step a i k)) where
    records_later : (i : ℕ) (x : A) (k n : ℕ) → k ≤ n → P (fold_records step i x k) → P (fold_records step i x n)
    unfolding fold_records
    records_later i x k zero h p = let e : k ≡ 0 = omega arith in rw e at p
    records_later i x k (suc n) h p =
        ⊎_elim (λ e. rw e at p) (λ l. keep (fold_records step i x n) i n (records_later i x k n (le_of_suc-le-suc l) p)) (eq-or-lt_of_le h)

    sections_later : (count : ℕ → ℕ) (x : A) (m n : ℕ) → m ≤ n → P (fold_sections step count x m) → P (fold_sections step count x n)
    unfolding fold_records fold_sections
    sections_later count x m zero h p = let e : m ≡ 0 = omega arith in rw e at p
    sections_later count x m (suc n) h p =
        ⊎_elim (λ e. rw e at p)
        (λ l. records_later n (fold_sections step count x n) 0 (count n) (omega arith) (sections_later count x m n (le_of_suc-le-suc l) p))
        (eq-or-lt_of_le h)

    -- so it holds if one record makes it hold
    pub sections_made : (count : ℕ → ℕ) (x : A) (n i k : ℕ) → i < n → k < count i → ((a : A) → P (step a i k)) → P (fold_sections step count x n)
    unfolding fold_records fold_sections
    sections_made count x n i k l h make =
        sections_later count x (suc i) n l (records_later i (fold_sections step count x i) (suc k) (count i) h (make (fold_at step count x i k)))

-- what one record makes hold, and a later one of its section then makes of it, holds at the end
pub sections_second : {A : Type 0} (step : A → ℕ → ℕ → A) (P Q : A → Type 0) → ((a : A) (i k : ℕ) → P a → P (step a i k)) → ((a : A) (i k : ℕ) → Q a → Q (step a i k))
    → (count : ℕ → ℕ) (x : A) (n i j k : ℕ) → i < n → j < k → k < count i → ((a : A) → P (step a i j)) → ((a : A) → P a → Q (step a i k)) → Q (fold_sections step count x n)
unfolding fold_records fold_sections
sections_second step P Q keep hold count x n i j k l h m make then =
    let at : P (fold_at step count x i k) = records_later step P keep i (fold_sections step count x i) (suc j) k h (make (fold_at step count x i j)) in
    sections_later step Q hold count x (suc i) n l (records_later step Q hold i (fold_sections step count x i) (suc k) (count i) m (then (fold_at step count x i k) at))

-- ---- a size that no step lets fall
module _ {A : Type 0} (step : A → ℕ → ℕ → A) (size : A → ℕ) (up : (a : A) (i k : ℕ) → size a ≤ size (step a i k)) where
  pub records_grow : (i : ℕ) (x : A) (k n : ℕ) → k ≤ n → size (fold_records step i x k) ≤ size (fold_records step i x n)
  records_grow i x k n h =
      let s = size (fold_records step i x k) in
      records_later step (λ a. s ≤ size a) (λ a j m l. le_trans l (up a j m)) i x k n h (le_refl s)

  pub sections_grow : (count : ℕ → ℕ) (x : A) (m n : ℕ) → m ≤ n → size (fold_sections step count x m) ≤ size (fold_sections step count x n)
  sections_grow count x m n h =
      let s = size (fold_sections step count x m) in
      sections_later step (λ a. s ≤ size a) (λ a j k l. le_trans l (up a j k)) count x m n h (le_refl s)

-- ---- equal steps
pub records_same : {A : Type 0} (step other : A → ℕ → ℕ → A) (i : ℕ) → ((k : ℕ) (a : A) → step a i k ≡ other a i k) → (x : A) (n : ℕ)
    → fold_records step i x n ≡ fold_records other i x n
records_same step other i same x n = records_both step other (λ a b. a ≡ b) i x x n (λ k a b l e. ap (λ z. step z i k) e ∙ same k b) refl
