-- What holds of a write, as later layers ask it.
use Rattle.std.specs.Prelude.{◌≡◌, true, List, ◌⊎◌, ℕ, ◌+◌, ◌-◌, ◌≤◌, ◌<◌, ◌^◌, max, length, get_or, leb, ltb, Ok}
use Rattle.std.proofs.Common.{⊎_elim, arith}
use Rattle.util.specs.Pick.{pick, head_passes, rest_passes}
use Rattle.le.specs.Le.{le, part, splice, length_splice, splice_below, splice_above, part_splice, get_splice}
use Rattle.refusal.specs.Refusal.{PASSES, STORAGE, NOT_MAPPED, TOO_LONG, answer_of}
use Rattle.pagemap.specs.Pages.{storage_ok, span_mapped, read_code}
use Rattle.pagemap.specs.PageLaws.{span_in_lem}
use Rattle.aspace.specs.SpaceLaws.{span_by_address}
use Rattle.aspace.specs.Space.{read_number, reached}
use Rattle.aspace.specs.Places.{span_relative, span_absolute, span_sliced}
use Rattle.write.specs.Write.{MAX_WRITE, write_code, write_code_at, write_code_there}

-- ---- a write that is not refused
module _ (size : ℕ) (marks : List ℕ) (o n : ℕ) (e : write_code size marks o n ≡ PASSES) where
  write_storage : storage_ok size (length marks) ≡ true
  unfolding write_code
  write_storage = head_passes (storage_ok size (length marks)) (pick (leb n MAX_WRITE) (pick (span_mapped size marks o n) PASSES NOT_MAPPED) TOO_LONG) STORAGE e (λ z. cc)

  -- has all its pages mapped
  pub write_span : span_mapped size marks o n ≡ true
  unfolding write_code
  write_span =
      head_passes (span_mapped size marks o n) PASSES NOT_MAPPED
      (rest_passes (leb n MAX_WRITE) (pick (span_mapped size marks o n) PASSES NOT_MAPPED) TOO_LONG
      (rest_passes (storage_ok size (length marks)) (pick (leb n MAX_WRITE) (pick (span_mapped size marks o n) PASSES NOT_MAPPED) TOO_LONG) STORAGE e (λ z. cc))
      (λ z. cc))
      (λ z. cc)

  -- lies within the image
  pub write_in : o + n ≤ size
  write_in = let h = span_in_lem size marks o n write_span in omega arith

  -- can be read back
  pub write_read : read_code size marks o n ≡ PASSES
  unfolding read_code pick
  write_read = rw (write_storage, write_span)

-- its bytes then stand there
pub written_part : (image marks v : List ℕ) (o : ℕ) → write_code (length image) marks o (length v) ≡ PASSES → part (splice image o v) o (length v) ≡ v
written_part image marks v o e = part_splice image o v (write_in (length image) marks o (length v) e)

-- and every byte outside them is as it was
pub written_outside : (image v : List ℕ) (o k : ℕ) → (k < o) ⊎ (o + length v ≤ k) → get_or (splice image o v) k 0 ≡ get_or image k 0
written_outside image v o k h = ⊎_elim (λ p. splice_below image o v k p) (λ p. splice_above image o v k p) h

-- a number of n bytes that was written is read back
pub written_number : (n v : ℕ) (image marks : List ℕ) (o : ℕ) → write_code (length image) marks o n ≡ PASSES → v < 256 ^ n
    → read_number n (splice image o (le n v)) marks o ≡ Ok v
unfolding read_number answer_of
written_number n v image marks o e h =
    rw (length_splice, write_read (length image) marks o n e, get_splice n v image o (write_in (length image) marks o n e) h)

-- ---- by address is by offset, where the bytes do not pass 64 bits
pub write_by_address : (size : ℕ) (marks : List ℕ) (base o n : ℕ) → base + o + max n 1 ≤ 2 ^ 64 → write_code_at size marks base (base + o) n ≡ write_code size marks o n
unfolding write_code_at write_code
write_by_address size marks base o n h = rw (span_by_address marks base o n h size)

-- ---- at any place is at an offset, at an address, and from a slice's start
module _ (size : ℕ) (marks : List ℕ) (n : ℕ) where
  pub write_relative : (o : ℕ) → write_code_there true size marks o n ≡ write_code size marks o n
  unfolding write_code_there write_code
  write_relative o = rw (span_relative marks o n size)

  pub write_absolute : (base a : ℕ) → write_code_there (reached base a n) size marks (a - base) n ≡ write_code_at size marks base a n
  unfolding write_code_there write_code_at
  write_absolute base a = rw (span_absolute marks base a n size)

  pub write_sliced : (start offset : ℕ) → size < 2 ^ 64 → write_code_there (ltb (start + offset) (2 ^ 64)) size marks (start + offset) n ≡ write_code size marks (start + offset) n
  unfolding write_code_there write_code
  write_sliced start offset h = rw (span_sliced marks start offset n size h)
