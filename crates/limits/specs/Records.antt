-- The records of the tables that load writes: how many words a record has, and where each stands, from 0 (docs/HOST.md).
use Rattle.std.specs.Prelude.{ℕ, ◌*◌}

-- the bytes of a word
abbrev pub WORD : ℕ
WORD = 8

-- ---- the section table
-- how many words a record has
abbrev pub SECTION_WORDS : ℕ
SECTION_WORDS = 8

-- and bytes
abbrev pub SECTION_BYTES : ℕ
SECTION_BYTES = WORD * SECTION_WORDS

-- the range in the image: its first address
abbrev pub SECTION_START : ℕ
SECTION_START = 0

-- and the address behind it
abbrev pub SECTION_END : ℕ
SECTION_END = 1

-- the range in the file: its first offset
abbrev pub SECTION_FILE_START : ℕ
SECTION_FILE_START = 2

-- and the offset behind it
abbrev pub SECTION_FILE_END : ℕ
SECTION_FILE_END = 3

-- the permissions
abbrev pub SECTION_PERMISSIONS : ℕ
SECTION_PERMISSIONS = 4

-- where its name starts in the file
abbrev pub SECTION_NAME_START : ℕ
SECTION_NAME_START = 5

-- how many bytes that has
abbrev pub SECTION_NAME_LENGTH : ℕ
SECTION_NAME_LENGTH = 6

-- the section's number in the file, from 1; UNDEF's is 0
abbrev pub SECTION_FILE_NUMBER : ℕ
SECTION_FILE_NUMBER = 7

-- ---- the symbol table and that of extern names; address and name stand alike in both
-- how many words the record of a symbol has
abbrev pub SYMBOL_WORDS : ℕ
SYMBOL_WORDS = 6

-- and bytes
abbrev pub SYMBOL_BYTES : ℕ
SYMBOL_BYTES = WORD * SYMBOL_WORDS

-- how many words the record of an extern name has
abbrev pub EXTERN_WORDS : ℕ
EXTERN_WORDS = 4

-- and bytes
abbrev pub EXTERN_BYTES : ℕ
EXTERN_BYTES = WORD * EXTERN_WORDS

-- the symbol's address, or the slot's
abbrev pub ADDRESS : ℕ
ADDRESS = 0

-- where the name starts in the file
abbrev pub NAME_START : ℕ
NAME_START = 2

-- how many bytes it has
abbrev pub NAME_LENGTH : ℕ
NAME_LENGTH = 3

-- of a symbol: the number of its kind
abbrev pub SYMBOL_KIND : ℕ
SYMBOL_KIND = 1

-- the number of its record in the file
abbrev pub SYMBOL_NUMBER : ℕ
SYMBOL_NUMBER = 4

-- the number of its home's record in the section table
abbrev pub SYMBOL_HOME : ℕ
SYMBOL_HOME = 5

-- of an extern name: the lowest number of a symbol that put it there
abbrev pub EXTERN_NUMBER : ℕ
EXTERN_NUMBER = 1

-- ---- the fix list
-- how many words a record has
abbrev pub FIXUP_WORDS : ℕ
FIXUP_WORDS = 3

-- and bytes
abbrev pub FIXUP_BYTES : ℕ
FIXUP_BYTES = WORD * FIXUP_WORDS

-- the address to be written at
abbrev pub FIXUP_PLACE : ℕ
FIXUP_PLACE = 0

-- how many bits are written
abbrev pub FIXUP_BITS : ℕ
FIXUP_BITS = 1

-- the value, in two's complement of 64 bits
abbrev pub FIXUP_VALUE : ℕ
FIXUP_VALUE = 2

-- ---- the skips
-- how many words a record has
abbrev pub SKIP_WORDS : ℕ
SKIP_WORDS = 3

-- and bytes
abbrev pub SKIP_BYTES : ℕ
SKIP_BYTES = WORD * SKIP_WORDS

-- the section, from 1
abbrev pub SKIP_SECTION : ℕ
SKIP_SECTION = 0

-- the relocation record, from 0
abbrev pub SKIP_RECORD : ℕ
SKIP_RECORD = 1

-- the reason: K1 to K4 by their number
abbrev pub SKIP_REASON : ℕ
SKIP_REASON = 2
