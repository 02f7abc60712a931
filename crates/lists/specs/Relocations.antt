-- The tables of fixups and of skips (01, "Layout, slots and fixups"), in section and record order.
use Rattle.std.specs.Prelude.{◌≡◌, ℕ, ◌+◌, ◌*◌, ◌≤◌, List, [], ◌∷◌, length}
use Rattle.le.specs.Le.{splice}
use Rattle.lists.specs.declared.Rows.{Rows}
use Rattle.limits.specs.Records.{FIXUP_BYTES, SKIP_BYTES}
use Rattle.targets.specs.declared.Skip.{Skip}
use Rattle.fixups.specs.declared.Fix.{Fix}
use Rattle.fixups.specs.declared.Outcome.{Outcome}
use Rattle.fixups.specs.declared.Outcome.TheVariants.{Passed, Skipped, Refused, Fixup}
use Rattle.targets.specs.Target.{skip_number}
use Rattle.fixups.specs.Value.{value_of}
use Rattle.fixups.specs.Lists.{over_sections}
use Rattle.words.specs.Words.{word_bytes}

-- a record is three words: place, bits, value in two's complement
unfoldable pub fix_words : ℕ → Fix → List ℕ
fix_words base x = (base + x.place.0) ∷ x.bits ∷ value_of base x ∷ []

-- three words: section from 1, record from 0, reason 1 to 4
unfoldable pub skip_words : ℕ → ℕ → Skip → List ℕ
skip_words i k s = (i + 1) ∷ k ∷ skip_number s ∷ []

-- what an outcome adds to the table of fixups
abbrev pub fix_bytes : ℕ → Outcome → List ℕ
fix_bytes base Passed = []
fix_bytes base (Skipped s) = []
fix_bytes base Refused = []
fix_bytes base (Fixup x) = word_bytes (fix_words base x)

-- what an outcome of record k of section i adds to the table of skips
abbrev pub skip_bytes : ℕ → ℕ → Outcome → List ℕ
skip_bytes i k Passed = []
skip_bytes i k (Skipped s) = word_bytes (skip_words i k s)
skip_bytes i k Refused = []
skip_bytes i k (Fixup x) = []

-- by what becomes of record k of section i: to the fixups
unfoldable pub fix_bytes_at : ℕ → (ℕ → ℕ → Outcome) → ℕ → ℕ → List ℕ
fix_bytes_at base o i k = fix_bytes base (o i k)

-- to the skips
unfoldable pub skip_bytes_at : (ℕ → ℕ → Outcome) → ℕ → ℕ → List ℕ
skip_bytes_at o i k = skip_bytes i k (o i k)

-- the fixups of the first n sections
abbrev pub fix_table : ℕ → (ℕ → ℕ → Outcome) → (ℕ → ℕ) → ℕ → List ℕ
fix_table base o count n = over_sections (fix_bytes_at base o) count n

-- their skips
abbrev pub skip_table : (ℕ → ℕ → Outcome) → (ℕ → ℕ) → ℕ → List ℕ
skip_table o count n = over_sections (skip_bytes_at o) count n

-- ---- what the parts of the pass promise: F and S written behind p's records, and counted
pub record Written (p : Rows) (F S b b' c c' : List ℕ) (q : Rows) : Type 0 where
  pub fixes : b' ≡ splice b (FIXUP_BYTES * p.fixups) F
  pub skips : c' ≡ splice c (SKIP_BYTES * p.skips) S
  pub fix_count : FIXUP_BYTES * q.fixups ≡ FIXUP_BYTES * p.fixups + length F
  pub skip_count : SKIP_BYTES * q.skips ≡ SKIP_BYTES * p.skips + length S

-- no more than n records more
pub record Near (p q : Rows) (n : ℕ) : Type 0 where
  pub fixes : q.fixups ≤ p.fixups + n
  pub skips : q.skips ≤ p.skips + n

-- both, where n records were gone through
pub record Step (p : Rows) (F S b b' c c' : List ℕ) (q : Rows) (n : ℕ) : Type 0 where
  pub written : Written p F S b b' c c' q
  pub near : Near p q n

-- both tables, from their start
pub record BothWritten (F S b b' c c' : List ℕ) : Type 0 where
  pub fixes : b' ≡ splice b 0 F
  pub skips : c' ≡ splice c 0 S
