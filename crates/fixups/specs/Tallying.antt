-- What the parts of the pass promise: a tally after one outcome more, after the first k records of a section, and after the first n sections.
use Rattle.std.specs.Prelude.{◌≡◌, ℕ, ◌+◌, ◌*◌, ◌^◌, ◌≤◌}
use Rattle.util.specs.Pick.{pick}
use Rattle.util.specs.Fold.{fold_records, fold_sections}
use Rattle.fixups.specs.declared.Outcome.{Outcome}
use Rattle.fixups.specs.declared.Tally.{Tally}
use Rattle.fixups.specs.Tally.{is_passed, is_skipped, is_refused, is_fixup, is_outside}

-- before the first relocation
abbrev pub nothing : Tally
nothing = record { passed = 0; skips = 0; refused = 0; fixups = 0; outside = 0 }

-- after one outcome more
unfoldable pub tallied : ℕ → Tally → Outcome → Tally
tallied pages t o =
    record {
      passed = pick (is_passed o) (t.passed + 1) t.passed;
      skips = pick (is_skipped o) (t.skips + 1) t.skips;
      refused = pick (is_refused o) (t.refused + 1) t.refused;
      fixups = pick (is_fixup o) (t.fixups + 1) t.fixups;
      outside = pick (is_outside pages o) (t.outside + 1) t.outside;
    }

-- after n that are passed
abbrev pub passed_by : Tally → ℕ → Tally
passed_by t n = record { passed = t.passed + n; skips = t.skips; refused = t.refused; fixups = t.fixups; outside = t.outside }

-- with what record k of section i comes to
unfoldable pub tally_step : ℕ → (ℕ → ℕ → Outcome) → Tally → ℕ → ℕ → Tally
tally_step pages o t i k = tallied pages t (o i k)

-- after the first k records of section i, with t before them
abbrev pub row_to : ℕ → (ℕ → ℕ → Outcome) → ℕ → Tally → ℕ → Tally
row_to pages o i t k = fold_records (tally_step pages o) i t k

-- of the first n sections
abbrev pub rows_to : ℕ → (ℕ → ℕ → Outcome) → (ℕ → ℕ) → ℕ → Tally
rows_to pages o count n = fold_sections (tally_step pages o) count nothing n

-- no count is above n
pub record AtMost (t : Tally) (n : ℕ) : Type 0 where
  pub passed : t.passed ≤ n
  pub skips : t.skips ≤ n
  pub refused : t.refused ≤ n
  pub fixups : t.fixups ≤ n
  pub outside : t.outside ≤ n

-- section i's records counted, with the bound of one section more
pub record Counted (is : Tally) (i : ℕ) (r : Tally) : Type 0 where
  pub same : r ≡ is
  pub near : AtMost r (2 ^ 32 * (i + 1))
