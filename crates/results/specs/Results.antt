-- What survey, load, patch and the routine question hand back, as words at the front of a lent buffer (docs/HOST.md).
use Rattle.std.specs.Prelude.{Bool, List, [], ◌∷◌, ℕ}
use Rattle.util.specs.Pick.{pick}
use Rattle.survey.specs.declared.answer.Counts.{Counts}

-- the ten counts, a word each
abbrev pub COUNTS_BYTES : ℕ
COUNTS_BYTES = 80

-- the counts in their order in the buffer
abbrev pub counts_words : Counts → List ℕ
counts_words c =
    c.pages
    ∷ c.sections
    ∷ c.symbols
    ∷ c.externs
    ∷ c.fixups
    ∷ c.skips
    ∷ c.passed
    ∷ c.file_sections
    ∷ c.symbol_records
    ∷ c.relocations
    ∷ []

-- the two words that patch tells
abbrev pub PROGRESS_BYTES : ℕ
PROGRESS_BYTES = 16

-- where a portion of fixups ended, and 1 if the list ends there, else 0
abbrev pub progress_words : ℕ → Bool → List ℕ
progress_words position done = position ∷ pick done 1 0 ∷ []

-- the two words of the routine that an address is in
abbrev pub ROUTINE_BYTES : ℕ
ROUTINE_BYTES = 16

-- the symbol's number in the list, and how far behind it the address lies
abbrev pub routine_words : ℕ → ℕ → List ℕ
routine_words symbol distance = symbol ∷ distance ∷ []
