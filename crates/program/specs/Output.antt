-- What the program prints for a file, line by line, and the image that it holds then (01, "A small object").
use Rattle.std.specs.Prelude.{List, [], ◌∷◌, ℕ, length, get_or}
use Rattle.refusal.specs.Refusal.{refusal_number}
use Rattle.object.specs.Format.{header_of}
use Rattle.object.specs.Section.{relocation_count}
use Rattle.lists.specs.Relocations.{skip_table}
use Rattle.survey.specs.Survey.{outcomes}
use Rattle.patch.specs.Fixes.{fix_count, fixed_from}
use Rattle.demands.specs.Counted.{image_of, sections_of, symbols_of, externs_of, fix_table_of}
use Rattle.lines.specs.Lines.{refused_line, too_large_line}
use Rattle.listing.specs.Listing.{listing}
use Rattle.verdict.specs.declared.answer.Verdict.{Verdict}
use Rattle.verdict.specs.declared.answer.Verdict.TheVariants.{TooLarge, Refused, Lines}
use Rattle.verdict.specs.Verdict.{verdict_of}

-- where it loads
abbrev pub PROGRAM_BASE : ℕ
PROGRAM_BASE = 0x20000000

-- the table of skips that load writes there; the others are of `demands`
abbrev pub skip_table_of : List ℕ → List ℕ
skip_table_of f = skip_table (outcomes f (header_of f)) (relocation_count f (header_of f)) (header_of f).sections

-- `too large`, `refused N`, or the lines of the load
abbrev pub lines_by : List ℕ → Verdict → List (List ℕ)
lines_by f TooLarge = too_large_line ∷ []
lines_by f (Refused r) = refused_line (refusal_number r) ∷ []
lines_by f (Lines c) = listing f PROGRAM_BASE c (sections_of f PROGRAM_BASE) (symbols_of f PROGRAM_BASE) (externs_of f PROGRAM_BASE) (fix_table_of f PROGRAM_BASE) (skip_table_of f)

-- line k, from 0
unfoldable pub line_of : List ℕ → ℕ → List ℕ
line_of f k = get_or (lines_by f (verdict_of f)) k []

-- how many there are
unfoldable pub line_total : List ℕ → ℕ
line_total f = length (lines_by f (verdict_of f))

-- the image of the load with every fixup of the list applied, in list order
abbrev pub patched_image : List ℕ → List ℕ
patched_image f = fixed_from PROGRAM_BASE (fix_table_of f PROGRAM_BASE) (image_of f PROGRAM_BASE) 0 (fix_count (fix_table_of f PROGRAM_BASE))
