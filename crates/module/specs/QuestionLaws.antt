-- What the questions to the section table promise.
use Rattle.std.specs.Prelude.{◌≡◌, ℕ, zero, suc, ◌/◌, ◌<◌, ◌≤◌, min, List, length}
use Rattle.std.proofs.Math.Path.{refl}
use Rattle.std.proofs.Common.{◌∙◌, ⊎_elim, not-suc-le-zero, le_of_suc-le-suc, eq-or-lt_of_le, length-set, get_or-set_same, get_or-set_other}
use native.Mathlib.Omega.{arith}
use Rattle.limits.specs.Records.{SECTION_BYTES}
use Rattle.section.specs.declared.Section.{Section}
use Rattle.module.specs.Questions.{section_at, fill_to, fill_count, table_filled, blank, nth}

-- ---- filling: record r is the table's, as far as both reach, and behind that as it was
pub length_fill_to : (table : List ℕ) (n : ℕ) (t : List Section) → length (fill_to table n t) ≡ length t
unfolding fill_to
length_fill_to table zero t = refl
length_fill_to table (suc n) t = simp length-set (length_fill_to table n t)

fill_is : (table : List ℕ) (n : ℕ) (t : List Section) (r : ℕ) → r < n → r < length t → nth (fill_to table n t) r ≡ section_at table r
unfolding fill_to
fill_is table zero t r h l = absurd (not-suc-le-zero h)
fill_is table (suc n) t r h l =
    ⊎_elim
    (λ e. let long : length (fill_to table n t) ≡ length t = length_fill_to table n t in rw e (get_or-set_same (fill_to table n t) n (section_at table n) blank (omega arith)))
    (λ q. get_or-set_other (fill_to table n t) n r (section_at table n) blank (λ e. omega arith) ∙ fill_is table n t r q l)
    (eq-or-lt_of_le (le_of_suc-le-suc h))

fill_past : (table : List ℕ) (n : ℕ) (t : List Section) (r : ℕ) → n ≤ r → nth (fill_to table n t) r ≡ nth t r
unfolding fill_to
fill_past table zero t r h = refl
fill_past table (suc n) t r h = get_or-set_other (fill_to table n t) n r (section_at table n) blank (λ e. omega arith) ∙ fill_past table n t r (omega arith)

module _ (table : List ℕ) (t : List Section) where
  -- the answer is the number of the table's records where there is room for them, and less where there is not
  pub filled_all : length table / SECTION_BYTES ≤ length t → fill_count table t ≡ length table / SECTION_BYTES
  filled_all h = omega arith

  pub filled_short : length t < length table / SECTION_BYTES → fill_count table t < length table / SECTION_BYTES
  filled_short h = omega arith

module _ (table : List ℕ) (t : List Section) (r : ℕ) where
  pub filled_record : r < length table / SECTION_BYTES → r < length t → nth (table_filled table t) r ≡ section_at table r
  filled_record h l = fill_is table (min (length table / SECTION_BYTES) (length t)) t r (omega arith) l

  pub filled_past : length table / SECTION_BYTES ≤ r → nth (table_filled table t) r ≡ nth t r
  filled_past h = fill_past table (min (length table / SECTION_BYTES) (length t)) t r (omega arith)
