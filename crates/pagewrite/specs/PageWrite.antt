-- Writing whole pages in lent storage (01, "pagemap.rs" and the refusals of page write, empty map and padded write).
use Rattle.std.specs.Prelude.{Bool, true, List, ◌++◌, ℕ, ◌+◌, ◌-◌, ◌*◌, ◌/◌, length, replicate, leb, eqb}
use Rattle.util.specs.Pick.{pick}
use Rattle.arch.specs.Page.{PAGE_SIZE, page_of, on_page}
use Rattle.refusal.specs.Refusal.{Code, PASSES, STORAGE, NOT_MAPPED, NOT_ON_A_PAGE, NOT_WHOLE_PAGES}
use Rattle.pagemap.specs.Pages.{lent_pages, storage_ok}

-- n pages from o are lent; none are anywhere
unfoldable pub pages_lent : ℕ → ℕ → ℕ → Bool
pages_lent size o n = pick (eqb n 0) true (leb (o + n * PAGE_SIZE) size)

-- how many pages n bytes are, of a page write or an empty map
abbrev pub whole_pages : ℕ → ℕ
whole_pages n = n / PAGE_SIZE

-- of a padded write: rounded down and one more, so that whole pages get a page of zeros behind them
abbrev pub padded_pages : ℕ → ℕ
padded_pages n = n / PAGE_SIZE + 1

-- page write and empty map of n bytes at o: 13, 16, 17, 15
unfoldable pub page_write_code : ℕ → ℕ → ℕ → ℕ → Code
page_write_code size marks o n =
    pick (storage_ok size marks)
    (pick (on_page o) (pick (on_page n) (pick (pages_lent size o (whole_pages n)) PASSES NOT_MAPPED) NOT_WHOLE_PAGES) NOT_ON_A_PAGE)
    STORAGE

-- padded write: 13, 16, 15
unfoldable pub padded_write_code : ℕ → ℕ → ℕ → ℕ → Code
padded_write_code size marks o n =
    pick (storage_ok size marks) (pick (on_page o) (pick (pages_lent size o (padded_pages n)) PASSES NOT_MAPPED) NOT_ON_A_PAGE) STORAGE

-- the bytes of a padded write: the items, then zeros to the end of the last page
unfoldable pub padded : List ℕ → List ℕ
padded items = items ++ replicate (padded_pages (length items) * PAGE_SIZE - length items) 0

-- an empty map for offsets up to `capacity`, which is lent one page more: 13
unfoldable pub capacity_code : ℕ → ℕ → ℕ → Code
capacity_code size marks capacity = pick (storage_ok size marks) (pick (leb (page_of capacity + 1) (lent_pages size)) PASSES STORAGE) STORAGE
