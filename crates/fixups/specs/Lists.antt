-- The list of fixups and the list of skips, in section and record order (01, "Layout, slots and fixups"): `o i k` is the outcome of record k
-- of section i, which has `count i` records.
use Rattle.std.specs.Prelude.{ℕ, ◌+◌, List, [], ◌∷◌, ◌++◌}
use Rattle.util.specs.Fold.{fold_records, fold_sections}
use Rattle.targets.specs.declared.Skip.{Skip}
use Rattle.fixups.specs.declared.Fix.{Fix}
use Rattle.fixups.specs.declared.Outcome.{Outcome}
use Rattle.fixups.specs.declared.Outcome.TheVariants.{Passed, Skipped, Refused, Fixup}

-- ---- what every record gives, one after another
-- behind xs what record k of section i gives
unfoldable pub append_step : {A : Type 0} → (ℕ → ℕ → List A) → List A → ℕ → ℕ → List A
append_step out xs i k = xs ++ out i k

-- of section i's first k
abbrev pub over_records : {A : Type 0} → (ℕ → ℕ → List A) → ℕ → ℕ → List A
over_records out i k = fold_records (append_step out) i [] k

-- of the first n sections
abbrev pub over_sections : {A : Type 0} → (ℕ → ℕ → List A) → (ℕ → ℕ) → ℕ → List A
over_sections out count n = fold_sections (append_step out) count [] n

-- ---- fixups
-- an outcome adds one to the list, or none
abbrev pub fixes_of : Outcome → List Fix
fixes_of Passed = []
fixes_of (Skipped s) = []
fixes_of Refused = []
fixes_of (Fixup x) = x ∷ []

-- what record k of section i adds
unfoldable pub fix_at_record : (ℕ → ℕ → Outcome) → ℕ → ℕ → List Fix
fix_at_record o i k = fixes_of (o i k)

-- the list of the first n sections
abbrev pub fix_list : (ℕ → ℕ → Outcome) → (ℕ → ℕ) → ℕ → List Fix
fix_list o count n = over_sections (fix_at_record o) count n

-- ---- skips
-- the section from 1, the record from 0, the reason
pub record SkipAt : Type 0 where
  pub section : ℕ
  pub index : ℕ
  pub reason : Skip

-- an outcome of record k of section i adds one to the list, or none
abbrev pub skips_of : ℕ → ℕ → Outcome → List SkipAt
skips_of i k Passed = []
skips_of i k (Skipped s) = record { section = i + 1; index = k; reason = s } ∷ []
skips_of i k Refused = []
skips_of i k (Fixup x) = []

-- by what becomes of that record
unfoldable pub skip_at_record : (ℕ → ℕ → Outcome) → ℕ → ℕ → List SkipAt
skip_at_record o i k = skips_of i k (o i k)

-- the list of the first n sections
abbrev pub skip_list : (ℕ → ℕ → Outcome) → (ℕ → ℕ) → ℕ → List SkipAt
skip_list o count n = over_sections (skip_at_record o) count n
