-- What is looked for when a relocation names a symbol, by the symbol's kind and place (01, "Layout, slots and fixups" and refusal 10). Which
-- names are put among the externs and what a target is are both read off this grid.
use Rattle.std.specs.Prelude.{ℕ}
use Rattle.refusal.specs.Refusal.{Code, PASSES, TARGET}
use Rattle.kinds.specs.declared.SymbolKind.{SymbolKind}
use Rattle.kinds.specs.declared.SymbolKind.TheVariants as kinds
use Rattle.kinds.specs.declared.Place.{Place}
use Rattle.kinds.specs.declared.Place.TheVariants.{In, Undefined, Common, Absolute, Nowhere, Other}
use Rattle.rules.specs.declared.Rule.{Rule}
use Rattle.rules.specs.declared.Rule.TheVariants.{Section, Extern, Slot, Name, Refused}

-- the refusal of each case (01, "Survey"); it passes where there is none
abbrev pub rule_refusal : Rule → Code
rule_refusal (Section n) = PASSES
rule_refusal Extern = PASSES
rule_refusal Slot = PASSES
rule_refusal Name = PASSES
rule_refusal Refused = TARGET

-- data and text: in a section, its home; undefined, common or of unknown place, a slot for the name; absolute is refused. Nowhere is a place
-- of class 103 alone, which is a file's
abbrev pub data_rule : Place → Rule
data_rule (In n) = Section n
data_rule Undefined = Extern
data_rule Common = Extern
data_rule Other = Extern
data_rule Absolute = Refused
data_rule Nowhere = Refused

-- a section's symbol: in a section, its home; common or undefined, the section of that name; anything else is refused
abbrev pub section_rule : Place → Rule
section_rule (In n) = Section n
section_rule Undefined = Name
section_rule Common = Name
section_rule Other = Refused
section_rule Absolute = Refused
section_rule Nowhere = Refused

-- a label outside a section is refused
abbrev pub label_rule : Place → Rule
label_rule (In n) = Section n
label_rule Undefined = Refused
label_rule Common = Refused
label_rule Other = Refused
label_rule Absolute = Refused
label_rule Nowhere = Refused

-- of unknown kind: the slot, wherever it is; only a common one puts its name there
abbrev pub unknown_rule : Place → Rule
unknown_rule (In n) = Slot
unknown_rule Undefined = Slot
unknown_rule Common = Extern
unknown_rule Other = Slot
unknown_rule Absolute = Slot
unknown_rule Nowhere = Slot

-- a file's name is refused
abbrev pub rule_of : SymbolKind → Place → Rule
rule_of kinds.Data p = data_rule p
rule_of kinds.Text p = data_rule p
rule_of kinds.Section p = section_rule p
rule_of kinds.Label p = label_rule p
rule_of kinds.Unknown p = unknown_rule p
rule_of kinds.File p = Refused
