-- Which of its three outputs the program prints for a file (01, "A small object"): over 16,384 bytes `too large`, whatever they are; else the refusal;
-- else, over one of the four other limits, `too large`; else the lines.
use Rattle.refusal.specs.declared.Refusal.{Refusal}
use Rattle.std.specs.Prelude.{Bool, ◌&&◌, List, ℕ, leb, length, Result, Ok, Err}
use Rattle.util.specs.Pick.{pick}
use Rattle.survey.specs.declared.answer.Counts.{Counts}
use Rattle.survey.specs.Survey.{survey_of}
use Rattle.verdict.specs.declared.answer.Verdict.{Verdict}
use Rattle.verdict.specs.declared.answer.Verdict.TheVariants.{TooLarge, Refused, Lines}

-- ---- the most that the program takes; records are the file's own, listed or not
-- file bytes
abbrev pub MOST_BYTES : ℕ
MOST_BYTES = 16384

-- mapped pages, with UNDEF's and the zero page
abbrev pub MOST_PAGES : ℕ
MOST_PAGES = 8

-- section records
abbrev pub MOST_SECTIONS : ℕ
MOST_SECTIONS = 16

-- symbol records, auxiliary ones too
abbrev pub MOST_SYMBOLS : ℕ
MOST_SYMBOLS = 128

-- relocations in all sections, passed ones too
abbrev pub MOST_RELOCATIONS : ℕ
MOST_RELOCATIONS = 128

-- the four limits behind the size
unfoldable pub fits : Counts → Bool
fits c =
    leb c.pages MOST_PAGES
    && (leb c.file_sections MOST_SECTIONS
    && (leb c.symbol_records MOST_SYMBOLS
    && leb c.relocations MOST_RELOCATIONS))

-- by survey's answer
unfoldable pub verdict_by : Result Counts Refusal → Verdict
verdict_by (Err r) = Refused r
verdict_by (Ok c) = pick (fits c) (Lines c) TooLarge

-- by the file: its size comes before everything
unfoldable pub verdict_of : List ℕ → Verdict
verdict_of f = pick (leb (length f) MOST_BYTES) (verdict_by (survey_of f)) TooLarge
