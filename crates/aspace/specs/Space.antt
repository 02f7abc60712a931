-- Numbers and runs of bytes in the two spaces: by offset from the base, and by address (01, "aspace.rs" and the refusals of read).
use Rattle.refusal.specs.declared.Refusal.{Refusal}
use Rattle.std.specs.Prelude.{Bool, ◌&&◌, List, ℕ, ◌+◌, ◌-◌, ◌^◌, max, length, leb, Result}
use Rattle.util.specs.Pick.{pick}
use Rattle.le.specs.Le.{get}
use Rattle.refusal.specs.Refusal.{Code, PASSES, STORAGE, NOT_MAPPED, answer_of}
use Rattle.pagemap.specs.Pages.{storage_ok, span_mapped, read_code}

-- ---- by offset
-- the number of n bytes at o
unfoldable pub read_number : ℕ → List ℕ → List ℕ → ℕ → Result ℕ Refusal
read_number n image marks o = answer_of (read_code (length image) marks o n) (get n image o)

-- n bytes at o into a buffer of `room` bytes: a short buffer is 13 too
unfoldable pub bytes_code : ℕ → List ℕ → ℕ → ℕ → ℕ → Code
bytes_code size marks o n room = pick (leb n room) (read_code size marks o n) STORAGE

-- ---- by address
-- n bytes from the address a: none lies below the base, and none past 64 bits
unfoldable pub reached : ℕ → ℕ → ℕ → Bool
reached base a n = leb base a && leb (a + max n 1) (2 ^ 64)

-- their offset; where they are not reached it is the last of all, which no image has
unfoldable pub offset_at : ℕ → ℕ → ℕ → ℕ
offset_at base a n = pick (reached base a n) (a - base) (2 ^ 64 - 1)

-- those bytes are mapped, at the base
unfoldable pub span_mapped_at : ℕ → List ℕ → ℕ → ℕ → ℕ → Bool
span_mapped_at size marks base a n = reached base a n && span_mapped size marks (a - base) n

-- reading n bytes from the address a: 13, 15
unfoldable pub read_code_at : ℕ → List ℕ → ℕ → ℕ → ℕ → Code
read_code_at size marks base a n = pick (storage_ok size (length marks)) (pick (span_mapped_at size marks base a n) PASSES NOT_MAPPED) STORAGE

-- the number of n bytes at the address a
unfoldable pub read_number_at : ℕ → List ℕ → List ℕ → ℕ → ℕ → Result ℕ Refusal
read_number_at n image marks base a = answer_of (read_code_at (length image) marks base a n) (get n image (a - base))

-- into a buffer of `room` bytes: a short buffer is 13, before all else
unfoldable pub bytes_code_at : ℕ → List ℕ → ℕ → ℕ → ℕ → ℕ → Code
bytes_code_at size marks base a n room = pick (leb n room) (read_code_at size marks base a n) STORAGE
