-- Which routine an address is in (02, N1): the nearest symbol of the section that holds it.
use Rattle.nearest.specs.declared.Routine.{Routine}
use Rattle.refusal.specs.declared.Refusal.{Refusal}
use Rattle.std.specs.Prelude.{ℕ, ◌/◌, List, length, Result, Ok, Err}
use Rattle.util.specs.Prefix.{list_to}
use Rattle.arch.specs.declared.VA.{VA}
use Rattle.limits.specs.Records.{SECTION_BYTES}
use Rattle.section.specs.declared.Section.{Section}
use Rattle.nearest.specs.Nearest.{nearest}
use Rattle.module.specs.Questions.{section_of, section_at}

-- the nearest symbol of the record that holds the address; where none holds it, that refusal
unfoldable pub of_holder : List ℕ → VA → Result ℕ Refusal → Result Routine Refusal
of_holder symbols x (Ok r) = nearest symbols r x
of_holder symbols x (Err n) = Err n

-- the answer: 19 first, then 21
abbrev pub routine : List Section → List ℕ → VA → Result Routine Refusal
routine t symbols x = of_holder symbols x (section_of t x)

-- the whole records of the section table that load wrote; what is left behind them is none
abbrev pub table_sections : List ℕ → List Section
table_sections table = list_to (section_at table) (length table / SECTION_BYTES)
