-- Mapped pages are marked by one bit each in 64-bit words, and their count is the sum of the words' ones (01, "pagemap.rs"). A load marks the
-- first pages; bits past their count in the last word are clear (01, "Load").
use Rattle.std.specs.Prelude.{ℕ, zero, suc, ◌+◌, ◌-◌, ◌*◌, ◌/◌, ◌%◌, ◌^◌, min, Bool, List, [], ◌++◌, length, ◌==◌, count_ones}
use Rattle.util.specs.Prefix.{all_to, sum_to}
use Rattle.le.specs.Le.{get, le, splice}

-- how many pages a word marks
abbrev pub WORD_PAGES : ℕ
WORD_PAGES = 64

-- how many bytes it has
abbrev pub WORD_BYTES : ℕ
WORD_BYTES = 8

-- the words that the marks of n pages take
abbrev pub words_for : ℕ → ℕ
words_for n = (n + (WORD_PAGES - 1)) / WORD_PAGES

-- word w of the marks
abbrev pub word_at : List ℕ → ℕ → ℕ
word_at marks w = get WORD_BYTES marks (WORD_BYTES * w)

-- page p's mark: bit p % 64 of word p / 64
unfoldable pub marked : List ℕ → ℕ → Bool
marked marks p = word_at marks (p / WORD_PAGES) / 2 ^ (p % WORD_PAGES) % 2 == 1

-- each page from `from` up to `to` is marked
unfoldable pub all_marked : List ℕ → ℕ → ℕ → Bool
all_marked marks from to = all_to (λ k. marked marks (from + k)) (to - from)

-- the reported page count: the ones of each word, summed
unfoldable pub page_count : List ℕ → ℕ
page_count marks = sum_to (λ w. count_ones (word_at marks w)) (length marks / WORD_BYTES)

-- ---- the marks of the first pages
-- how many of them word w marks
abbrev pub pages_in : ℕ → ℕ → ℕ
pages_in pages w = min WORD_PAGES (pages - WORD_PAGES * w)

-- word w: that many ones, from the lowest bit
unfoldable pub mark_word : ℕ → ℕ → ℕ
mark_word pages w = 2 ^ pages_in pages w - 1

-- the bytes of the first n words
unfoldable pub mark_bytes : ℕ → ℕ → List ℕ
mark_bytes pages zero = []
mark_bytes pages (suc w) = mark_bytes pages w ++ le WORD_BYTES (mark_word pages w)

-- all their words at the front of a buffer
abbrev pub marks_put : ℕ → List ℕ → List ℕ
marks_put pages marks = splice marks 0 (mark_bytes pages (words_for pages))
