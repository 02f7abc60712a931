-- Numbers and runs of bytes at any place: `reached` says whether all of n bytes from there are reached, and o is their offset where they are.
-- Then what this is at an offset, at an address and from a slice's start.
use Rattle.refusal.specs.declared.Refusal.{Refusal}
use Rattle.std.specs.Prelude.{◌≡◌, refl, Bool, true, ◌&&◌, List, ℕ, ◌+◌, ◌-◌, ◌^◌, ◌<◌, length, leb, ltb, Result}
use Rattle.std.proofs.Common.{⊎_elim, arith, lt-ltb, le-ltb}
use Rattle.util.specs.Pick.{pick, le_or_lt}
use Rattle.le.specs.Le.{get}
use Rattle.refusal.specs.Refusal.{Code, PASSES, STORAGE, NOT_MAPPED, answer_of}
use Rattle.pagemap.specs.Pages.{storage_ok, span_mapped, read_code}
use Rattle.aspace.specs.Space.{read_number, bytes_code, reached, span_mapped_at, read_code_at, read_number_at, bytes_code_at}
use Rattle.aspace.specs.SpaceLaws.{last_unmapped}

-- the n bytes are reached, and mapped
unfoldable pub span_there : Bool → ℕ → List ℕ → ℕ → ℕ → Bool
span_there reached size marks o n = reached && span_mapped size marks o n

-- reading them: 13, 15
unfoldable pub read_code_there : Bool → ℕ → List ℕ → ℕ → ℕ → Code
read_code_there reached size marks o n = pick (storage_ok size (length marks)) (pick (span_there reached size marks o n) PASSES NOT_MAPPED) STORAGE

-- the number of n bytes there
unfoldable pub read_number_there : ℕ → Bool → List ℕ → List ℕ → ℕ → Result ℕ Refusal
read_number_there n reached image marks o = answer_of (read_code_there reached (length image) marks o n) (get n image o)

-- into a buffer of `room` bytes: a short buffer is 13, before all else
unfoldable pub bytes_code_there : Bool → ℕ → List ℕ → ℕ → ℕ → ℕ → Code
bytes_code_there reached size marks o n room = pick (leb n room) (read_code_there reached size marks o n) STORAGE

-- ---- at an offset from the base, which is always reached
module _ (marks : List ℕ) (o n : ℕ) where
  pub span_relative : (size : ℕ) → span_there true size marks o n ≡ span_mapped size marks o n
  unfolding span_there
  span_relative size = refl

  pub read_relative : (size : ℕ) → read_code_there true size marks o n ≡ read_code size marks o n
  unfolding read_code_there span_there read_code
  read_relative size = refl

  pub number_relative : (image : List ℕ) → read_number_there n true image marks o ≡ read_number n image marks o
  unfolding read_number_there read_number
  number_relative image = rw (read_relative (length image))

  pub bytes_relative : (size room : ℕ) → bytes_code_there true size marks o n room ≡ bytes_code size marks o n room
  unfolding bytes_code_there bytes_code
  bytes_relative size room = rw (read_relative size)

-- ---- at an address, with the base
module _ (marks : List ℕ) (base a n : ℕ) where
  pub span_absolute : (size : ℕ) → span_there (reached base a n) size marks (a - base) n ≡ span_mapped_at size marks base a n
  unfolding span_there span_mapped_at
  span_absolute size = refl

  pub read_absolute : (size : ℕ) → read_code_there (reached base a n) size marks (a - base) n ≡ read_code_at size marks base a n
  unfolding read_code_there read_code_at
  read_absolute size = rw (span_absolute size)

  pub number_absolute : (image : List ℕ) → read_number_there n (reached base a n) image marks (a - base) ≡ read_number_at n image marks base a
  unfolding read_number_there read_number_at
  number_absolute image = rw (read_absolute (length image))

  pub bytes_absolute : (size room : ℕ) → bytes_code_there (reached base a n) size marks (a - base) n room ≡ bytes_code_at size marks base a n room
  unfolding bytes_code_there bytes_code_at
  bytes_absolute size room = rw (read_absolute size)

-- ---- from a slice's start it is the sum, also past 64 bits: no image reaches there
module _ (marks : List ℕ) (start offset n : ℕ) where
  pub span_sliced : (size : ℕ) → size < 2 ^ 64 → span_there (ltb (start + offset) (2 ^ 64)) size marks (start + offset) n ≡ span_mapped size marks (start + offset) n
  unfolding span_there
  span_sliced size h =
      ⊎_elim (λ p. rw (le-ltb (start + offset) (2 ^ 64) p, last_unmapped size marks (start + offset) n h (omega arith)))
      (λ p. rw (lt-ltb (start + offset) (2 ^ 64) p))
      (le_or_lt (2 ^ 64) (start + offset))

  pub read_sliced : (size : ℕ) → size < 2 ^ 64 → read_code_there (ltb (start + offset) (2 ^ 64)) size marks (start + offset) n ≡ read_code size marks (start + offset) n
  unfolding read_code_there read_code
  read_sliced size h = rw (span_sliced size h)

  pub number_sliced : (image : List ℕ) → length image < 2 ^ 64
      → read_number_there n (ltb (start + offset) (2 ^ 64)) image marks (start + offset) ≡ read_number n image marks (start + offset)
  unfolding read_number_there read_number
  number_sliced image h = rw (read_sliced (length image) h)

  pub bytes_sliced : (size room : ℕ) → size < 2 ^ 64
      → bytes_code_there (ltb (start + offset) (2 ^ 64)) size marks (start + offset) n room ≡ bytes_code size marks (start + offset) n room
  unfolding bytes_code_there bytes_code
  bytes_sliced size room h = rw (read_sliced size h)
