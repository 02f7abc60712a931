-- The marks with those of mapped pages set (01, "pagemap.rs").
use Rattle.std.specs.Prelude.{List, ℕ, zero, suc, ◌+◌, ◌*◌, ◌/◌, ◌%◌, ◌^◌}
use Rattle.std.specs.Int.Bits.{bit_or}
use Rattle.le.specs.Le.{le, splice}
use Rattle.marks.specs.Marks.{WORD_PAGES, WORD_BYTES, word_at}

-- the marks with page p's set
unfoldable pub mark_page : List ℕ → ℕ → List ℕ
mark_page marks p =
    splice marks (WORD_BYTES * (p / WORD_PAGES))
    (le WORD_BYTES (bit_or (word_at marks (p / WORD_PAGES)) (2 ^ (p % WORD_PAGES))))

-- with those of the n pages from p set
unfoldable pub mark_pages : List ℕ → ℕ → ℕ → List ℕ
mark_pages marks p zero = marks
mark_pages marks p (suc n) = mark_page (mark_pages marks p n) (p + n)
