-- What the flags of a section say (01, "Layout, slots and fixups"; PE/COFF, "Section Flags").
use Rattle.std.specs.Prelude.{Bool, ◌&&◌, not, ℕ, ◌+◌, ◌-◌, ◌/◌, ◌%◌, ◌^◌, leb, eqb}
use Rattle.util.specs.Pick.{pick}

-- a flag is a power of two, and x has it if that binary digit is set
abbrev pub has_flag : ℕ → ℕ → Bool
has_flag flag x = eqb (x / flag % 2) 1

-- the section is not to become part of the image
abbrev pub LNK_REMOVE : ℕ
LNK_REMOVE = 0x800

-- the image can do without the section
abbrev pub MEM_DISCARDABLE : ℕ
MEM_DISCARDABLE = 0x2000000

-- the section has no bytes in the file
abbrev pub CNT_UNINITIALIZED : ℕ
CNT_UNINITIALIZED = 0x80

-- the count of relocations stands in the first of them
abbrev pub LNK_NRELOC_OVFL : ℕ
LNK_NRELOC_OVFL = 0x1000000

-- the section may be run as code
abbrev pub MEM_EXECUTE : ℕ
MEM_EXECUTE = 0x20000000

-- it may be read
abbrev pub MEM_READ : ℕ
MEM_READ = 0x40000000

-- it may be written
abbrev pub MEM_WRITE : ℕ
MEM_WRITE = 0x80000000

-- loaded: neither removed nor discardable
unfoldable pub loaded_by : ℕ → Bool
loaded_by x = not (has_flag LNK_REMOVE x) && not (has_flag MEM_DISCARDABLE x)

-- the file range is then 0 to 0
abbrev pub uninitialized_by : ℕ → Bool
uninitialized_by x = has_flag CNT_UNINITIALIZED x

-- bits 20 to 23 hold the alignment's code
abbrev pub align_code : ℕ → ℕ
align_code x = x / 0x100000 % 16

-- of a code, in bytes: 1 to 14 mean 2 ^ (n - 1), the others 16
unfoldable pub align_of : ℕ → ℕ
align_of n = pick (leb 1 n && leb n 14) (2 ^ (n - 1)) 16

-- read 1, write 2, execute 4
unfoldable pub permissions_by : ℕ → ℕ
permissions_by x = pick (has_flag MEM_READ x) 1 0 + pick (has_flag MEM_WRITE x) 2 0 + pick (has_flag MEM_EXECUTE x) 4 0
