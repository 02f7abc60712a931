-- What a relocation's symbol comes to, as an offset from the base (01, "Layout, slots and fixups" and refusal 10).
use Rattle.arch.specs.declared.RVA.{RVA}
use Rattle.std.specs.Prelude.{◌≡◌, refl, List, ℕ, ◌+◌, ◌*◌, leb, None, Option, Some}
use Rattle.util.specs.Pick.{pick}
use Rattle.limits.specs.Limits.{SLOT_SIZE}
use Rattle.refusal.specs.Refusal.{Code, PASSES, TARGET}
use Rattle.arch.specs.Address.{rva}
use Rattle.object.specs.declared.Header.{Header}
use Rattle.object.specs.Symbol.{primary}
use Rattle.names.specs.Name.{symbol_text}
use Rattle.rules.specs.declared.Rule.{Rule}
use Rattle.rules.specs.declared.Rule.TheVariants as rules
use Rattle.rules.specs.Rule.{rule_refusal}
use Rattle.codes.specs.Code.{symbol_rule}
use Rattle.layout.specs.Layout.{undef_start}
use Rattle.ranks.specs.Named.{named_record}
use Rattle.homes.specs.Home.{section_home, record_start, by_number}
use Rattle.externs.specs.Externs.{externs}
use Rattle.externs.specs.Slot.{slot_of}
use Rattle.targets.specs.declared.Skip.{Skip}
use Rattle.targets.specs.declared.Skip.TheVariants.{NoSymbol, NoHome, NoSlot, NoType}
use Rattle.targets.specs.declared.Target.{Target}
use Rattle.targets.specs.declared.Target.TheVariants.{Home, Named, Slot, Missing, Refused}

-- the reasons to skip have the numbers of K1 to K4, in the order in which they are tested: no record of that number, no home, no slot, an
-- unknown type
abbrev pub skip_number : Skip → ℕ
skip_number NoSymbol = 1
skip_number NoHome = 2
skip_number NoSlot = 3
skip_number NoType = 4

-- the refusal of each case (01, "Survey"); it passes where there is none
abbrev pub target_refusal : Target → Code
target_refusal (Home o) = PASSES
target_refusal (Named o) = PASSES
target_refusal (Slot o) = PASSES
target_refusal (Missing k) = PASSES
target_refusal Refused = TARGET

-- a symbol in a section: where that section's home starts
unfoldable pub home_target : Option RVA → Target
home_target (Some o) = Home o
home_target None = Missing NoHome

-- the slot of a name: slot e is 4 bytes at UNDEF + 4 e
unfoldable pub slot_target : ℕ → Option ℕ → Target
slot_target undef (Some e) = Slot (rva (undef + SLOT_SIZE * e))
slot_target undef None = Missing NoSlot

-- a section by its name: where the first table record of that name starts, else the slot
unfoldable pub named_target : Option RVA → Target → Target
named_target (Some o) other = Named o
named_target None other = other

-- ---- `home` says where a section's home starts, `slot` finds a name's slot
module _ (f : List ℕ) (h : Header) (home : ℕ → Option RVA) (undef : ℕ) (slot : List ℕ → Option ℕ) where
  -- the slot of symbol j's name, or K3
  abbrev pub slot_for : ℕ → Target
  slot_for j = slot_target undef (slot (symbol_text f h j))

  -- the section of symbol j's name, else its slot
  abbrev pub named_for : ℕ → Target
  named_for j = named_target (record_start f h (named_record f h (symbol_text f h j))) (slot_for j)

  -- symbol j, by what is looked for
  unfoldable pub rule_target : Rule → ℕ → Target
  rule_target (rules.Section n) j = home_target (by_number home None n)
  rule_target rules.Extern j = slot_for j
  rule_target rules.Slot j = slot_for j
  rule_target rules.Name j = named_for j
  rule_target rules.Refused j = Refused

  -- number j: no record of that number is K1, an auxiliary record is refused, and a symbol's own goes by its kind and place
  unfoldable pub target_of : ℕ → Target
  target_of j = pick (leb h.symbols j) (Missing NoSymbol) (pick (primary f h j) (rule_target (symbol_rule f h j) j) Refused)

-- in a file
abbrev pub targets : List ℕ → Header → ℕ → Target
targets f h = target_of f h (section_home f h) (undef_start f h) (slot_of f h (externs f h))

-- ---- a target is refused where its rule is, by the same number
home_not_refused : (x : Option RVA) → target_refusal (home_target x) ≡ PASSES
unfolding home_target
home_not_refused (Some o) = refl
home_not_refused None = refl

slot_not_refused : (undef : ℕ) (x : Option ℕ) → target_refusal (slot_target undef x) ≡ PASSES
unfolding slot_target
slot_not_refused undef (Some e) = refl
slot_not_refused undef None = refl

named_not_refused : (x : Option RVA) (other : Target) → target_refusal other ≡ PASSES → target_refusal (named_target x other) ≡ PASSES
unfolding named_target
named_not_refused (Some o) other e = refl
named_not_refused None other e = e

pub rule_refused : (f : List ℕ) (h : Header) (home : ℕ → Option RVA) (undef : ℕ) (slot : List ℕ → Option ℕ) (r : Rule) (j : ℕ)
    → target_refusal (rule_target f h home undef slot r j) ≡ rule_refusal r
unfolding rule_target
rule_refused f h home undef slot (rules.Section n) j = home_not_refused (by_number home None n)
rule_refused f h home undef slot rules.Extern j = slot_not_refused undef (slot (symbol_text f h j))
rule_refused f h home undef slot rules.Slot j = slot_not_refused undef (slot (symbol_text f h j))
rule_refused f h home undef slot rules.Name j =
    named_not_refused (record_start f h (named_record f h (symbol_text f h j))) (slot_for f h home undef slot j) (slot_not_refused undef (slot (symbol_text f h j)))
rule_refused f h home undef slot rules.Refused j = refl
