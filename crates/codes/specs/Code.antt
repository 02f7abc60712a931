-- What is kept of each symbol record, in 16 bits: what a relocation that names it comes to, as far as it is known before the extern names are.
-- The names that are put among the externs are read off these codes (`puts_kept`), and the targets (crate `targets`).
use Rattle.std.specs.Prelude.{Bool, ◌||◌, List, ℕ, ◌+◌, ◌%◌, eqb, get_or}
use Rattle.util.specs.Pick.{pick}
use Rattle.util.specs.Prefix.{list_to}
use Rattle.object.specs.declared.Header.{Header}
use Rattle.object.specs.Symbol.{kind, symbol_place, primary}
use Rattle.rules.specs.declared.Rule.{Rule}
use Rattle.rules.specs.declared.Rule.TheVariants.{Section, Extern, Slot, Name, Refused}
use Rattle.rules.specs.Rule.{rule_of}
use Rattle.names.specs.Name.{symbol_text}
use Rattle.ranks.specs.Named.{TableRecord, Loaded, Undef, Nowhere, some_section_named, named_record}

-- ---- the codes that stand for one thing: 0 is no record
-- an auxiliary record
abbrev pub AUXILIARY : ℕ
AUXILIARY = 1

-- refusal 10
abbrev pub REFUSED : ℕ
REFUSED = 2

-- the slot of its name, without putting it among the externs
abbrev pub SLOT : ℕ
SLOT = 3

-- the same, putting it there
abbrev pub EXTERN : ℕ
EXTERN = 4

-- UNDEF by its name, which an unloaded section has too
abbrev pub UNDEF_RECORD : ℕ
UNDEF_RECORD = 5

-- UNDEF by its name, putting it among the externs
abbrev pub UNDEF_EXTERN : ℕ
UNDEF_EXTERN = 6

-- a slot that is not there
abbrev pub NO_SLOT : ℕ
NO_SLOT = 7

-- ---- those with a number below SPAN added to them
-- how many numbers each has
abbrev pub SPAN : ℕ
SPAN = 0x4000

-- the home of the section of that number, from 1
abbrev pub HOMES : ℕ
HOMES = 0x4000

-- the start of the loaded section at that place of the file, from 0, found by its name
abbrev pub RECORDS : ℕ
RECORDS = 0x8000

-- the slot of that number
abbrev pub SLOTS : ℕ
SLOTS = 0xC000

-- what is looked for with symbol j
abbrev pub symbol_rule : List ℕ → Header → ℕ → Rule
symbol_rule f h j = rule_of (kind f h j) (symbol_place f h j)

-- a section by its name: its record, UNDEF's, or the slot; `taken`: some file section has the name
unfoldable pub named_code : TableRecord → Bool → ℕ
named_code (Loaded i) taken = RECORDS + i % SPAN
named_code Undef taken = pick taken UNDEF_RECORD UNDEF_EXTERN
named_code Nowhere taken = pick taken SLOT EXTERN

-- by the rule; `named` is the code by name
unfoldable pub rule_code : Rule → ℕ → ℕ
rule_code (Section n) named = HOMES + n % SPAN
rule_code Extern named = EXTERN
rule_code Slot named = SLOT
rule_code Name named = named
rule_code Refused named = REFUSED

module _ (f : List ℕ) (h : Header) where
  -- of a section looked for by a name
  abbrev pub code_by_name : List ℕ → ℕ
  code_by_name name = named_code (named_record f h name) (some_section_named f h name)

  -- of symbol j, by its kind and place, and by its name where the rule asks for it
  abbrev pub symbol_code : ℕ → ℕ
  symbol_code j = rule_code (symbol_rule f h j) (code_by_name (symbol_text f h j))

  -- of record j
  abbrev pub code_of : ℕ → ℕ
  code_of j = pick (primary f h j) (symbol_code j) AUXILIARY

  -- of the records below n
  abbrev pub codes_to : ℕ → List ℕ
  codes_to n = list_to code_of n

-- a relocation to it puts its name
abbrev pub is_extern : ℕ → Bool
is_extern c = eqb c EXTERN || eqb c UNDEF_EXTERN

-- so does one to symbol j, by the codes
abbrev pub puts_in : List ℕ → ℕ → Bool
puts_in codes j = is_extern (get_or codes j 0)
