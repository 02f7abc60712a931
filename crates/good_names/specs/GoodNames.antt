-- Refusal 6 is not given: every section's name is good, and every symbol's (01, "Survey"). Past the file a record reads as zeros.
use Rattle.std.specs.Prelude.{Bool, ◌&&◌, List, ℕ}
use Rattle.util.specs.Prefix.{all_to}
use Rattle.object.specs.declared.Header.{Header}
use Rattle.object.specs.Symbol.{all_symbols}
use Rattle.names.specs.Name.{section_name, symbol_name, is_good}

-- of section i
abbrev pub section_name_ok : List ℕ → Header → ℕ → Bool
section_name_ok f h i = is_good (section_name f h i)

-- of symbol j
abbrev pub name_ok : List ℕ → Header → ℕ → Bool
name_ok f h j = is_good (symbol_name f h j)

-- of all; auxiliary records have none
unfoldable pub names_ok : List ℕ → Header → Bool
names_ok f h = all_to (section_name_ok f h) h.sections && all_symbols name_ok f h
