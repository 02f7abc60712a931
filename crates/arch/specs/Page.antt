-- Pages of 4,096 bytes.
use Rattle.std.specs.Prelude.{Bool, ℕ, ◌*◌, ◌/◌, ◌%◌, eqb}

-- the bytes of a page: the unit of layout, marks and page writes
abbrev pub PAGE_SIZE : ℕ
PAGE_SIZE = 4096

-- the number of the page that an offset lies in, from 0
abbrev pub page_of : ℕ → ℕ
page_of o = o / PAGE_SIZE

-- how far an offset lies into its page
abbrev pub in_page : ℕ → ℕ
in_page o = o % PAGE_SIZE

-- where that page starts
abbrev pub page_start : ℕ → ℕ
page_start o = page_of o * PAGE_SIZE

-- a number that is a multiple of the page size
abbrev pub on_page : ℕ → Bool
on_page o = eqb (in_page o) 0
