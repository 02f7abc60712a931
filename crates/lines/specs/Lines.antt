-- The lines of document 01's program, each by what it tells, as bytes (01, "A small object").
use Rattle.std.specs.Prelude.{List, [], ◌∷◌, ◌++◌, ℕ}
use Rattle.kinds.specs.declared.SymbolKind.{SymbolKind}
use Rattle.kinds.specs.Words.{SECTION, kind_word}
use Rattle.text.specs.Text.{decimal_text, hex_text, signed_text, permissions_text, word, newline}

-- ---- the words
-- image
abbrev pub IMAGE_WORD : List ℕ
IMAGE_WORD = 0x69 ∷ 0x6D ∷ 0x61 ∷ 0x67 ∷ 0x65 ∷ []

-- pages
abbrev pub PAGES_WORD : List ℕ
PAGES_WORD = 0x70 ∷ 0x61 ∷ 0x67 ∷ 0x65 ∷ 0x73 ∷ []

-- symbol
abbrev pub SYMBOL_WORD : List ℕ
SYMBOL_WORD = 0x73 ∷ 0x79 ∷ 0x6D ∷ 0x62 ∷ 0x6F ∷ 0x6C ∷ []

-- extern
abbrev pub EXTERN_WORD : List ℕ
EXTERN_WORD = 0x65 ∷ 0x78 ∷ 0x74 ∷ 0x65 ∷ 0x72 ∷ 0x6E ∷ []

-- fix
abbrev pub FIX_WORD : List ℕ
FIX_WORD = 0x66 ∷ 0x69 ∷ 0x78 ∷ []

-- skip
abbrev pub SKIP_WORD : List ℕ
SKIP_WORD = 0x73 ∷ 0x6B ∷ 0x69 ∷ 0x70 ∷ []

-- K
abbrev pub K_WORD : List ℕ
K_WORD = 0x4B ∷ []

-- skipped
abbrev pub SKIPPED_WORD : List ℕ
SKIPPED_WORD = 0x73 ∷ 0x6B ∷ 0x69 ∷ 0x70 ∷ 0x70 ∷ 0x65 ∷ 0x64 ∷ []

-- passed
abbrev pub PASSED_WORD : List ℕ
PASSED_WORD = 0x70 ∷ 0x61 ∷ 0x73 ∷ 0x73 ∷ 0x65 ∷ 0x64 ∷ []

-- refused
abbrev pub REFUSED_WORD : List ℕ
REFUSED_WORD = 0x72 ∷ 0x65 ∷ 0x66 ∷ 0x75 ∷ 0x73 ∷ 0x65 ∷ 0x64 ∷ []

-- too large
abbrev pub TOO_LARGE_WORDS : List ℕ
TOO_LARGE_WORDS = 0x74 ∷ 0x6F ∷ 0x6F ∷ 0x20 ∷ 0x6C ∷ 0x61 ∷ 0x72 ∷ 0x67 ∷ 0x65 ∷ []

-- ---- the lines
-- `image 20000000 pages 3`
unfoldable pub image_line : ℕ → ℕ → List ℕ
image_line base pages = word IMAGE_WORD ++ word (hex_text base) ++ word PAGES_WORD ++ decimal_text pages ++ newline

-- `section 20000000 20000010 60 66 `: range and file range
unfoldable pub section_places : ℕ → ℕ → ℕ → ℕ → List ℕ
section_places start end from to = word SECTION ++ word (hex_text start) ++ word (hex_text end) ++ word (decimal_text from) ++ word (decimal_text to)

-- `(section 20000000 20000010 60 66 R-X).text`: those, permissions, name
unfoldable pub section_line : ℕ → ℕ → ℕ → ℕ → ℕ → List ℕ → List ℕ
section_line start end from to allowed name = section_places start end from to ++ word (permissions_text allowed) ++ name ++ newline

-- `symbol 20000000 text _topup`
unfoldable pub symbol_line : ℕ → SymbolKind → List ℕ → List ℕ
symbol_line address kind name = word SYMBOL_WORD ++ word (hex_text address) ++ word (kind_word kind) ++ name ++ newline

-- `extern 20001000 _purse`
unfoldable pub extern_line : ℕ → List ℕ → List ℕ
extern_line slot name = word EXTERN_WORD ++ word (hex_text slot) ++ name ++ newline

-- `fix 20000001 32 4091`: place, bits, value
unfoldable pub fix_line : ℕ → ℕ → ℕ → List ℕ
fix_line place bits value = word FIX_WORD ++ word (hex_text place) ++ word (decimal_text bits) ++ signed_text value ++ newline

-- `skip 2 0 K3`: the section from 1, the record from 0, the reason
unfoldable pub skip_line : ℕ → ℕ → ℕ → List ℕ
skip_line section relocation reason = word SKIP_WORD ++ word (decimal_text section) ++ word (decimal_text relocation) ++ (K_WORD ++ decimal_text reason) ++ newline

-- `skipped 0 passed 0`
unfoldable pub skipped_line : ℕ → ℕ → List ℕ
skipped_line skips passed = word SKIPPED_WORD ++ word (decimal_text skips) ++ word PASSED_WORD ++ decimal_text passed ++ newline

-- `refused 1`
unfoldable pub refused_line : ℕ → List ℕ
refused_line n = word REFUSED_WORD ++ decimal_text n ++ newline

-- `too large`
abbrev pub too_large_line : List ℕ
too_large_line = TOO_LARGE_WORDS ++ newline
