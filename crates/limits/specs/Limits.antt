-- The limits, each named once (01, "The operations and what they turn down").
use Rattle.std.specs.Prelude.{ℕ, ◌+◌}

-- refusal 1: the bytes of a file
abbrev pub MAX_FILE : ℕ
MAX_FILE = 4194304

-- refusal 3: the file's section records, loaded or not
abbrev pub MAX_SECTIONS : ℕ
MAX_SECTIONS = 1024

-- refusal 4: symbol records, auxiliary ones too
abbrev pub MAX_SYMBOLS : ℕ
MAX_SYMBOLS = 16384

-- up to so many sections and symbols small arrays keep what they come to
abbrev pub FEW_SECTIONS : ℕ
FEW_SECTIONS = 64

abbrev pub FEW_SYMBOLS : ℕ
FEW_SYMBOLS = 512

-- refusal 5: relocations of all sections together, passed ones too
abbrev pub MAX_RELOCATIONS : ℕ
MAX_RELOCATIONS = 32768

-- refusal 8: mapped pages, with UNDEF's and the zero page behind it
abbrev pub MAX_PAGES : ℕ
MAX_PAGES = 4096

-- refusal 9: extern names; the slots of so many fill UNDEF's page
abbrev pub MAX_EXTERNS : ℕ
MAX_EXTERNS = 1024

-- room for one name more than there may be
abbrev pub EXTERN_ROOM : ℕ
EXTERN_ROOM = MAX_EXTERNS + 1

-- refusal 12: the highest base; an image of the most pages then ends by 0x80000000, and the 4 signed bytes of a slot hold its address
abbrev pub MAX_BASE : ℕ
MAX_BASE = 0x7F000000

-- the bytes of an extern slot
abbrev pub SLOT_SIZE : ℕ
SLOT_SIZE = 4
