-- How many relocations come to each outcome (01, "Layout, slots and fixups", refusals 10 and 11), over all sections and their records.
use Rattle.std.specs.Prelude.{ℕ, ◌+◌, ◌*◌, ◌/◌, Bool, true, false, not, is_ok, nat_le}
use Rattle.util.specs.Pick.{pick}
use Rattle.util.specs.Fold.{fold_sections}
use Rattle.arch.specs.Page.{PAGE_SIZE}
use Rattle.fixups.specs.declared.Fix.{Fix}
use Rattle.fixups.specs.declared.Outcome.{Outcome}
use Rattle.fixups.specs.declared.Outcome.TheVariants.{Passed, Skipped, Refused, Fixup}
use Rattle.fixups.specs.declared.Tally.{Tally}
use Rattle.fixups.specs.Outcome.{outcome_refusal}

-- its section has no home
abbrev pub is_passed : Outcome → Bool
is_passed Passed = true
is_passed (Skipped k) = false
is_passed Refused = false
is_passed (Fixup x) = false

-- K1 to K4
abbrev pub is_skipped : Outcome → Bool
is_skipped Passed = false
is_skipped (Skipped k) = true
is_skipped Refused = false
is_skipped (Fixup x) = false

-- refusal 10
abbrev pub is_refused : Outcome → Bool
is_refused o = not (is_ok (outcome_refusal o))

-- it is a fixup
abbrev pub is_fixup : Outcome → Bool
is_fixup Passed = false
is_fixup (Skipped k) = false
is_fixup Refused = false
is_fixup (Fixup x) = true

-- a fixup covers bits / 8 bytes from its place; they lie in the first `pages` pages
abbrev pub is_mapped : ℕ → Fix → Bool
is_mapped pages x = nat_le (x.place.0 + x.bits / 8) (PAGE_SIZE * pages)

-- refusal 11: a fixup with a byte outside the mapped pages
abbrev pub is_outside : ℕ → Outcome → Bool
is_outside pages Passed = false
is_outside pages (Skipped k) = false
is_outside pages Refused = false
is_outside pages (Fixup x) = not (is_mapped pages x)

-- ---- over all relocations: `o i k` is the outcome of record k of section i, which has `count i` records
-- one more where record k of section i passes the test
unfoldable pub count_step : (Outcome → Bool) → (ℕ → ℕ → Outcome) → ℕ → ℕ → ℕ → ℕ
count_step p o m i k = m + pick (p (o i k)) 1 0

-- how many of the first n sections' pass it
abbrev pub how_many : (Outcome → Bool) → (ℕ → ℕ → Outcome) → (ℕ → ℕ) → ℕ → ℕ
how_many p o count n = fold_sections (count_step p o) count 0 n

-- what survey counts, and what it refuses by
unfoldable pub tally_of : ℕ → (ℕ → ℕ → Outcome) → (ℕ → ℕ) → ℕ → Tally
tally_of pages o count n =
    record {
      passed = how_many is_passed o count n;
      skips = how_many is_skipped o count n;
      refused = how_many is_refused o count n;
      fixups = how_many is_fixup o count n;
      outside = how_many (is_outside pages) o count n;
    }
