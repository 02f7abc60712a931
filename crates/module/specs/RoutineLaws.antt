-- What the question for an address's routine promises.
use Rattle.std.specs.Prelude.{◌≡◌, ℕ, zero, suc, ◌/◌, ◌<◌, min, true, false, ◌⊎◌, List, [], ◌∷◌, length}
use Rattle.std.proofs.Common.{sym, ◌∙◌, inl, inr, ⊎_elim, arith, not-suc-le-zero, le_of_suc-le-suc, ext_get_or}
use Rattle.util.specs.Pick.{yes_no}
use Rattle.util.specs.Prefix.{length_list, list_at}
use Rattle.arch.specs.declared.VA.{VA}
use Rattle.limits.specs.Records.{SECTION_BYTES}
use Rattle.section.specs.declared.Section.{Section}
use Rattle.section.specs.Section.{holds}
use Rattle.nearest.specs.NearestLaws.{IsNearest, NoneQualifies}
use Rattle.module.specs.Questions.{section_at, table_filled, blank, nth}
use Rattle.module.specs.QuestionLaws.{filled_record, length_fill_to}
use Rattle.module.specs.Routine.{table_sections}

-- ---- the record that holds an address: the first whose range does
pub record Holder (t : List Section) (x : VA) (i : ℕ) : Type 0 where
  pub below : i < length t
  pub inside : holds x (nth t i) ≡ true
  pub first : (j : ℕ) → j < i → holds x (nth t j) ≡ false

-- no record holds it
abbrev pub Unheld : List Section → VA → Type 0
Unheld t x = (j : ℕ) → j < length t → holds x (nth t j) ≡ false

pub record HasHolder (t : List Section) (x : VA) : Type 0 where
  pub section : ℕ
  pub holder : Holder t x section

none_more : (s : Section) (t : List Section) (x : VA) → holds x s ≡ false → Unheld t x → Unheld (s ∷ t) x
none_more s t x m n zero l = m
none_more s t x m n (suc j) l = n j (le_of_suc-le-suc l)

first_more : (s : Section) (t : List Section) (x : VA) (i : ℕ) → holds x s ≡ false → Holder t x i → (j : ℕ) → j < suc i → holds x (nth (s ∷ t) j) ≡ false
first_more s t x i m h zero l = m
first_more s t x i m h (suc j) l = h.first j (le_of_suc-le-suc l)

pub held_or_none : (t : List Section) (x : VA) → HasHolder t x ⊎ Unheld t x
held_or_none [] x = inr (λ j l. absurd (not-suc-le-zero l))
held_or_none (s ∷ t) x =
    ⊎_elim
    (λ h. inl (record { section = 0; holder = record { below = omega arith; inside = h; first = λ j l. absurd (not-suc-le-zero l) } }))
    (λ m. ⊎_elim
    (λ h. let b = h.holder.below in inl (record { section = suc h.section; holder = record { below = omega arith; inside = h.holder.inside; first = first_more s t x h.section m h.holder } }))
    (λ n. inr (none_more s t x m n))
    (held_or_none t x))
    (yes_no (holds x s))

-- ---- what the answers mean
module _ (t : List Section) (symbols : List ℕ) (x : VA) where
  -- the record that holds it has no symbol at it or below
  pub record WithoutSymbol : Type 0 where
    pub section : ℕ
    pub holder : Holder t x section
    pub none : NoneQualifies symbols section x

  -- a symbol is answered exactly where it is the nearest of the record that holds the address
  pub record InRoutine (k d : ℕ) : Type 0 where
    pub section : ℕ
    pub holder : Holder t x section
    pub nearest_one : IsNearest symbols section x k d

-- ---- a table that `fill_sections` filled with all records is the one that the C function asks
pub filled_whole : (table : List ℕ) (t : List Section) → length t ≡ length table / SECTION_BYTES → table_filled table t ≡ table_sections table
filled_whole table t e =
    let long : length (table_filled table t) ≡ length t = length_fill_to table (min (length table / SECTION_BYTES) (length t)) t in
    let listed : length (table_sections table) ≡ length table / SECTION_BYTES = length_list (section_at table) (length table / SECTION_BYTES) in
    ext_get_or blank (table_filled table t) (table_sections table) (long ∙ e ∙ sym listed)
    (λ k l.
    let m : k < length table / SECTION_BYTES = rw (long, e) at l in
    filled_record table t k m (rw e m) ∙ sym (list_at (section_at table) blank (length table / SECTION_BYTES) k m))
