-- The lines of a loaded object, from load's answer and tables (01, "A small object"; the words of a record stand in the order of docs/HOST.md).
use Rattle.std.specs.Prelude.{ℕ, ◌+◌, List, [], ◌∷◌, ◌++◌, ◌==◌}
use Rattle.limits.specs.Records.{SECTION_WORDS, SECTION_START, SECTION_END, SECTION_FILE_START, SECTION_FILE_END, SECTION_PERMISSIONS, SECTION_NAME_START, SECTION_NAME_LENGTH, SECTION_FILE_NUMBER, SYMBOL_WORDS, EXTERN_WORDS, ADDRESS, NAME_START, NAME_LENGTH, SYMBOL_KIND, FIXUP_WORDS, FIXUP_PLACE, FIXUP_BITS, FIXUP_VALUE, SKIP_WORDS, SKIP_SECTION, SKIP_RECORD, SKIP_REASON}
use Rattle.util.specs.Pick.{pick}
use Rattle.util.specs.Prefix.{list_to}
use Rattle.le.specs.Le.{part}
use Rattle.kinds.specs.Symbol.{kind_numbered}
use Rattle.names.specs.Bytes.{UNDEF}
use Rattle.words.specs.Words.{word_of}
use Rattle.survey.specs.declared.answer.Counts.{Counts}
use Rattle.lines.specs.Lines.{image_line, section_line, symbol_line, extern_line, fix_line, skip_line, skipped_line}

-- ---- the line of record i of a table; a name is that part of the file
-- the record with no section's number is UNDEF's, which has no name in the file
unfoldable pub section_title : List ℕ → List ℕ → ℕ → List ℕ
section_title f t i = pick (word_of SECTION_WORDS t i SECTION_FILE_NUMBER == 0) UNDEF (part f (word_of SECTION_WORDS t i SECTION_NAME_START) (word_of SECTION_WORDS t i SECTION_NAME_LENGTH))

-- of the section table: range, file range, permissions, name
unfoldable pub section_line_at : List ℕ → List ℕ → ℕ → List ℕ
section_line_at f t i = section_line (word_of SECTION_WORDS t i SECTION_START) (word_of SECTION_WORDS t i SECTION_END) (word_of SECTION_WORDS t i SECTION_FILE_START) (word_of SECTION_WORDS t i SECTION_FILE_END) (word_of SECTION_WORDS t i SECTION_PERMISSIONS) (section_title f t i)

-- of the symbols: address, kind, name
unfoldable pub symbol_line_at : List ℕ → List ℕ → ℕ → List ℕ
symbol_line_at f t i = symbol_line (word_of SYMBOL_WORDS t i ADDRESS) (kind_numbered (word_of SYMBOL_WORDS t i SYMBOL_KIND)) (part f (word_of SYMBOL_WORDS t i NAME_START) (word_of SYMBOL_WORDS t i NAME_LENGTH))

-- of the extern names: slot, name
unfoldable pub extern_line_at : List ℕ → List ℕ → ℕ → List ℕ
extern_line_at f t i = extern_line (word_of EXTERN_WORDS t i ADDRESS) (part f (word_of EXTERN_WORDS t i NAME_START) (word_of EXTERN_WORDS t i NAME_LENGTH))

-- of the fixups: place, bits, value
unfoldable pub fix_line_at : List ℕ → ℕ → List ℕ
fix_line_at t i = fix_line (word_of FIXUP_WORDS t i FIXUP_PLACE) (word_of FIXUP_WORDS t i FIXUP_BITS) (word_of FIXUP_WORDS t i FIXUP_VALUE)

-- of the skips: section, record, reason
unfoldable pub skip_line_at : List ℕ → ℕ → List ℕ
skip_line_at t i = skip_line (word_of SKIP_WORDS t i SKIP_SECTION) (word_of SKIP_WORDS t i SKIP_RECORD) (word_of SKIP_WORDS t i SKIP_REASON)

-- ---- the lines, from the last back to the first
-- the skips, and `skipped` behind them
abbrev pub from_skips : Counts → List ℕ → List (List ℕ)
from_skips c skips = list_to (skip_line_at skips) c.skips ++ (skipped_line c.skips c.passed ∷ [])

-- the fixups before those
abbrev pub from_fixups : Counts → List ℕ → List ℕ → List (List ℕ)
from_fixups c fixups skips = list_to (fix_line_at fixups) c.fixups ++ from_skips c skips

-- the extern names before those
abbrev pub from_externs : List ℕ → Counts → List ℕ → List ℕ → List ℕ → List (List ℕ)
from_externs f c externs fixups skips = list_to (extern_line_at f externs) c.externs ++ from_fixups c fixups skips

-- the symbols before those
abbrev pub from_symbols : List ℕ → Counts → List ℕ → List ℕ → List ℕ → List ℕ → List (List ℕ)
from_symbols f c symbols externs fixups skips = list_to (symbol_line_at f symbols) c.symbols ++ from_externs f c externs fixups skips

-- the sections before those, UNDEF's last of them
abbrev pub from_sections : List ℕ → Counts → List ℕ → List ℕ → List ℕ → List ℕ → List ℕ → List (List ℕ)
from_sections f c sections symbols externs fixups skips = list_to (section_line_at f sections) c.sections ++ from_symbols f c symbols externs fixups skips

-- all of them: `image` first
abbrev pub listing : List ℕ → ℕ → Counts → List ℕ → List ℕ → List ℕ → List ℕ → List ℕ → List (List ℕ)
listing f base c sections symbols externs fixups skips = image_line base c.pages ∷ from_sections f c sections symbols externs fixups skips

-- how many there are
unfoldable pub line_count : Counts → ℕ
line_count c = c.sections + c.symbols + c.externs + c.fixups + c.skips + 2
