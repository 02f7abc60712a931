-- Where the characters from a place of the string table stop, and what is noted of it block by block; `section` says by whose rule.
use Rattle.std.specs.Prelude.{Bool, List, ℕ, zero, suc, ◌+◌, ◌-◌, ◌*◌, ◌/◌, ◌%◌, min, ltb, length, get_or}
use Rattle.util.specs.Pick.{pick}
use Rattle.util.specs.Prefix.{list_to}
use Rattle.le.specs.Le.{part}
use Rattle.utf8.specs.Utf8.{holds, TAIL}
use Rattle.chars.specs.Chars.{walk, stop}
use Rattle.object.specs.declared.Header.{Header}
use Rattle.object.specs.Format.{string_table, string_length}

-- the string table's bytes
abbrev pub strings : List ℕ → Header → List ℕ
strings f h = part f (string_table h) (string_length f h)

-- behind the tails from i on, n at most
unfoldable pub skip_to : List ℕ → ℕ → ℕ → ℕ
skip_to t i zero = i
skip_to t i (suc n) = pick (holds TAIL (get_or t i 0)) (skip_to t (i + 1) n) i

-- how many tails the character may have that a block's start cuts in two
abbrev pub TAILS : ℕ
TAILS = 3

-- where the first character of its own may begin behind place i
abbrev pub skip : List ℕ → ℕ → ℕ
skip t i = skip_to t i TAILS

-- ---- what is noted
-- the bytes of a block
abbrev pub BLOCK : ℕ
BLOCK = 16384

-- the blocks whose stop is noted: those of a table of 4 MiB. Of a longer one the answer is the same, and found more slowly
abbrev pub BLOCKS : ℕ
BLOCKS = 256

-- how many blocks are noted of a table of n bytes: those behind the first, as no name comes into that from another
abbrev pub blocks_of : ℕ → ℕ
blocks_of n = min BLOCKS (n / BLOCK)

-- of the block behind block b: where the characters from its first one on stop
abbrev pub block_stop : Bool → List ℕ → ℕ → ℕ
block_stop section t b = stop section t (skip t ((b + 1) * BLOCK))

-- of n blocks behind the first
abbrev pub stop_words : Bool → List ℕ → ℕ → List ℕ
stop_words section t n = list_to (block_stop section t) n

-- how many blocks are noted of the file's own string table
abbrev pub stop_count : List ℕ → Header → ℕ
stop_count f h = blocks_of (length (strings f h))

-- and their stops
abbrev pub stops_of : Bool → List ℕ → Header → List ℕ
stops_of section f h = stop_words section (strings f h) (stop_count f h)

-- ---- the stop from o by those words
-- from s on, where a walk left block b: a tail there is a stray one, and stops it; else what is noted, or found by walking on
unfoldable pub stop_behind : Bool → List ℕ → List ℕ → ℕ → ℕ → ℕ
stop_behind section t stops b s = pick (holds TAIL (get_or t s 0)) s (pick (ltb b (length stops)) (get_or stops b 0) (stop section t s))

-- in the rest of o's block, or else from the next one on
unfoldable pub stop_by : Bool → List ℕ → List ℕ → ℕ → ℕ
stop_by section t stops o =
    pick (ltb (walk section t (o + (BLOCK - o % BLOCK)) o - o) (BLOCK - o % BLOCK)) (walk section t (o + (BLOCK - o % BLOCK)) o)
    (stop_behind section t stops (o / BLOCK) (walk section t (o + (BLOCK - o % BLOCK)) o))
