-- What a write refuses, by offset from the base and by address (01, "aspace.rs" and the refusals of write).
use Rattle.std.specs.Prelude.{Bool, List, ℕ, length, leb}
use Rattle.util.specs.Pick.{pick}
use Rattle.refusal.specs.Refusal.{Code, PASSES, STORAGE, NOT_MAPPED, TOO_LONG}
use Rattle.pagemap.specs.Pages.{storage_ok, span_mapped}
use Rattle.aspace.specs.Space.{span_mapped_at}
use Rattle.aspace.specs.Places.{span_there}

-- the most that one write takes
abbrev pub MAX_WRITE : ℕ
MAX_WRITE = 4096

-- writing n bytes at o: 13, 18, 15
unfoldable pub write_code : ℕ → List ℕ → ℕ → ℕ → Code
write_code size marks o n = pick (storage_ok size (length marks)) (pick (leb n MAX_WRITE) (pick (span_mapped size marks o n) PASSES NOT_MAPPED) TOO_LONG) STORAGE

-- the same at the address a
unfoldable pub write_code_at : ℕ → List ℕ → ℕ → ℕ → ℕ → Code
write_code_at size marks base a n =
    pick (storage_ok size (length marks)) (pick (leb n MAX_WRITE) (pick (span_mapped_at size marks base a n) PASSES NOT_MAPPED) TOO_LONG) STORAGE

-- the same at any place, where `reached` says whether all of the bytes are reached and o is their offset where they are
unfoldable pub write_code_there : Bool → ℕ → List ℕ → ℕ → ℕ → Code
write_code_there reached size marks o n =
    pick (storage_ok size (length marks)) (pick (leb n MAX_WRITE) (pick (span_there reached size marks o n) PASSES NOT_MAPPED) TOO_LONG) STORAGE
