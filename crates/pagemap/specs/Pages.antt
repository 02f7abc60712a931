-- Pages in lent storage: the image's bytes, page after page, and the marks (01, "pagemap.rs" and the refusals of read).
use Rattle.std.specs.Prelude.{Bool, ◌&&◌, List, ℕ, ◌+◌, ◌-◌, ◌*◌, ◌/◌, max, length, ltb, leb}
use Rattle.util.specs.Pick.{pick}
use Rattle.util.specs.Prefix.{all_to}
use Rattle.arch.specs.Page.{PAGE_SIZE, page_of, on_page}
use Rattle.refusal.specs.Refusal.{Code, PASSES, STORAGE, NOT_MAPPED}
use Rattle.marks.specs.Marks.{WORD_BYTES, marked, words_for}

-- how many pages an image of `size` bytes lends
abbrev pub lent_pages : ℕ → ℕ
lent_pages size = size / PAGE_SIZE

-- 13 is not given: the image is whole pages, and there are marks for all of them
unfoldable pub storage_ok : ℕ → ℕ → Bool
storage_ok size marks = on_page size && leb (WORD_BYTES * words_for (lent_pages size)) marks

-- an offset is mapped: its page is one of the lent ones, and marked
unfoldable pub mapped : ℕ → List ℕ → ℕ → Bool
mapped size marks o = ltb (page_of o) (lent_pages size) && marked marks (page_of o)

-- n bytes from o are: each of them; if there are none, o itself
unfoldable pub span_mapped : ℕ → List ℕ → ℕ → ℕ → Bool
span_mapped size marks o n = all_to (λ k. mapped size marks (o + k)) (max n 1)

-- `probe` says yes where a byte could be read
unfoldable pub probed : ℕ → List ℕ → ℕ → Bool
probed size marks o = storage_ok size (length marks) && mapped size marks o

-- reading n bytes from o: 13, 15
unfoldable pub read_code : ℕ → List ℕ → ℕ → ℕ → Code
read_code size marks o n = pick (storage_ok size (length marks)) (pick (span_mapped size marks o n) PASSES NOT_MAPPED) STORAGE

-- reading from start up to end into a buffer of `room` bytes: a short buffer is 13 too, a start past the end 15
unfoldable pub slice_code : ℕ → List ℕ → ℕ → ℕ → ℕ → Code
slice_code size marks start end room =
    pick (storage_ok size (length marks) && leb (end - start) room)
    (pick (leb start end && span_mapped size marks start (end - start)) PASSES NOT_MAPPED)
    STORAGE
