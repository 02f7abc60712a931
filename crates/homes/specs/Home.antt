-- The home of a file section: the table record made from it (02, N3). A loaded section has one, an unloaded one has none, and UNDEF's record, which carries
-- no section's number, is nobody's. A target or a place in a section counts from its home's start (01, "Layout, slots and fixups").
use Rattle.arch.specs.declared.RVA.{RVA}
use Rattle.std.specs.Prelude.{Bool, ◌&&◌, List, ℕ, zero, suc, ◌+◌, ◌-◌, ◌*◌, ◌/◌, ◌%◌, ◌^◌, ◌<◌, eqb, ltb, get_or, None, Option, Some}
use Rattle.util.specs.Pick.{pick}
use Rattle.util.specs.Prefix.{list_to}
use Rattle.arch.specs.Page.{PAGE_SIZE, page_of}
use Rattle.arch.specs.Address.{rva}
use Rattle.object.specs.declared.Header.{Header}
use Rattle.object.specs.Section.{loaded}
use Rattle.layout.specs.Layout.{start_at, undef_start, record_of}
use Rattle.ranks.specs.Named.{TableRecord, Loaded, Undef, Nowhere}

module _ (f : List ℕ) (h : Header) where
  -- a record is made from section i, counted from 0: the file has it, and it is loaded
  abbrev pub has_home : ℕ → Bool
  has_home i = ltb i h.sections && loaded f h i

  -- where section i's home starts: where its own range does
  unfoldable pub section_home : ℕ → Option RVA
  section_home i = pick (has_home i) (Some (rva (start_at f h i))) None

  -- which record of the section table it is; 0 where there is none
  unfoldable pub home_record : ℕ → ℕ
  home_record i = pick (has_home i) (record_of f h i) 0

  -- where a record of the table starts, UNDEF's too
  unfoldable pub record_start : TableRecord → Option RVA
  record_start (Loaded j) = Some (rva (start_at f h j))
  record_start Undef = Some (rva (undef_start f h))
  record_start Nowhere = None

-- by a section's number, from 1: what is found for its place from 0
unfoldable pub by_number : {A : Type 0} → (ℕ → A) → A → ℕ → A
by_number of none zero = none
by_number of none (suc i) = of i

-- a home's start as a number; 0 where there is none
unfoldable pub start_of : Option RVA → ℕ
start_of (Some o) = o.0
start_of None = 0

-- ---- what is kept of a home, in one word of 32 bits: its page in the low half, one more than its record in the high half; 0 where there is none. Where refusal 8
-- does not apply nothing is lost (`homes_kept`, `records_kept`)
-- how many numbers half a word has
abbrev pub HALF : ℕ
HALF = 2 ^ 16

-- of a record of that number that starts there
unfoldable pub kept_word : ℕ → ℕ → ℕ
kept_word r start = HALF * (r + 1) + page_of start % HALF

-- of section i's home
unfoldable pub home_word : List ℕ → Header → ℕ → ℕ
home_word f h i = pick (loaded f h i) (kept_word (record_of f h i) (start_at f h i)) 0

-- the start that a word keeps
abbrev pub word_start : ℕ → ℕ
word_start w = PAGE_SIZE * (w % HALF)

-- the home that it keeps
unfoldable pub word_home : ℕ → Option RVA
word_home w = pick (eqb w 0) None (Some (rva (word_start w)))

-- its record
abbrev pub word_record : ℕ → ℕ
word_record w = w / HALF - 1

-- the words of the sections below n
abbrev pub homes_to : List ℕ → Header → ℕ → List ℕ
homes_to f h n = list_to (home_word f h) n

-- by a list of words: where section i's home starts; past their end there is none
abbrev pub home_in : List ℕ → ℕ → Option RVA
home_in homes i = word_home (get_or homes i 0)

-- and which record it is
abbrev pub record_in : List ℕ → ℕ → ℕ
record_in homes i = word_record (get_or homes i 0)

-- an offset that 32 bits hold, or none: what is read from those words
unfoldable pub Low : Option RVA → Type 0
Low (Some o) = o.0 < 2 ^ 32
Low None = Unit {0}
