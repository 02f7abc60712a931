-- Of the request's second demand: where our modules stay, the value is PE/COFF's too. (Layout, homes, slots, symbols, fixups and skips as the Rust has them are the definitions themselves;
-- docs/CLAIMS.md lists them.) What the standard adds and takes away is read off the file: nothing of it is the loader's own answer.
use Rattle.refusal.specs.declared.Refusal.{Refusal}
use Rattle.std.specs.Prelude.{◌≡◌, refl, true, List, ◌⊎◌, eqb, leb, length, None, Option, Some, Result, Ok, Err}
use Rattle.std.proofs.Math.Path.{sym}
use Rattle.std.proofs.Common.{ap, ◌∙◌, inl, inr, leb-true}
use Rattle.std.proofs.Math.Logic.{⊎_elim}
use Prim.Native.Nat.{ℕ, zero, suc, ◌+◌, ◌-◌, ◌*◌, ◌/◌, ◌%◌, ◌^◌, ◌≤◌, ◌<◌}
use native.Mathlib.Omega.{arith}
use Rattle.util.specs.Pick.{pick, and_right, yes_no}
use Rattle.arch.specs.Page.{PAGE_SIZE}
use Rattle.arch.specs.declared.RVA.{RVA}
use Rattle.arch.specs.Address.{rva, at_same, none_not_at}
use Rattle.arch.specs.Machine.{arch_of, arch_by}
use Rattle.le.specs.Le.{get, part}
use Rattle.object.specs.declared.Header.{Header}
use Rattle.object.specs.Format.{header_of, symbol_value}
use Rattle.object.specs.Section.{file_start, file_end, relocation_count}
use Rattle.object.specs.Symbol.{symbol_place, kind, primary}
use Rattle.object.specs.Relocation.{relocation_address, relocation_symbol, relocation_type}
use Rattle.kinds.specs.declared.SymbolKind.{SymbolKind}
use Rattle.kinds.specs.declared.SymbolKind.TheVariants as kinds
use Rattle.kinds.specs.declared.Place.{Place}
use Rattle.kinds.specs.declared.Place.TheVariants as places
use Rattle.kinds.specs.declared.RelocationKind.{RelocationKind}
use Rattle.kinds.specs.declared.RelocationKind.TheVariants.{Absolute, ImageOffset, SectionOffset, Relative, NotCarried, Unknown}
use Rattle.kinds.specs.declared.RelocationType.{RelocationType}
use Rattle.kinds.specs.Types.{type_of}
use Rattle.names.specs.Name.{symbol_text}
use Rattle.layout.specs.Layout.{start_at, undef_start}
use Rattle.homes.specs.Home.{section_home, by_number}
use Rattle.homes.specs.HomeLaws.{home_own}
use Rattle.rules.specs.declared.Rule.{Rule}
use Rattle.rules.specs.declared.Rule.TheVariants as rules
use Rattle.rules.specs.Rule.{data_rule, section_rule, label_rule, unknown_rule, rule_of}
use Rattle.codes.specs.Code.{symbol_rule}
use Rattle.externs.specs.Externs.{externs}
use Rattle.externs.specs.Slot.{slot_of}
use Rattle.targets.specs.declared.Target.{Target}
use Rattle.targets.specs.declared.Target.TheVariants.{Home, Named, Slot, Missing, Refused}
use Rattle.targets.specs.Target.{home_target, slot_target, rule_target, target_of, targets}
use Rattle.fixups.specs.declared.Fix.{Fix}
use Rattle.fixups.specs.Value.{value_of}
use Rattle.fixups.specs.declared.Outcome.TheVariants.{Fixup}
use Rattle.fixups.specs.ValueLaws.{Exact}
use Rattle.fixups.specs.ListLaws.{every_fixup}
use Rattle.fixups.specs.OutcomeLaws.{Reaches, fix_from}
use Rattle.survey.specs.declared.answer.Counts.{Counts}
use Rattle.survey.specs.Survey.{outcomes, survey_of}
use Rattle.survey.specs.Acceptance.{fixups_exact}
use Rattle.limits.specs.Limits.{MAX_BASE, SLOT_SIZE}
use Rattle.checks.specs.Checks.{base_ok}
use Rattle.demands.specs.Origin.{fixups_of, fixup_at, no_fixup, fixup_value}

-- what the standard takes away: the place's address, the image's start, or the address where the symbol's section starts
abbrev pub taken_away : RelocationKind → ℕ → ℕ → ℕ → ℕ
taken_away Absolute base place start = 0
taken_away ImageOffset base place start = base
taken_away SectionOffset base place start = start
taken_away Relative base place start = place
taken_away NotCarried base place start = 0
taken_away Unknown base place start = 0

-- the symbol's address, the bytes already in the field and the addend, less that; in two's complement of 64 bits
unfoldable pub standard_value : RelocationKind → ℕ → ℕ → ℕ → ℕ → ℕ → ℕ → ℕ
standard_value kind addend base symbol place field start = (symbol + field + addend + (2 ^ 64 - taken_away kind base place start)) % 2 ^ 64

-- ---- of a file: where the section starts that a symbol's own number names; a symbol of no section stands at its name's slot
-- a slot's offset; 0 where there is none
abbrev pub slot_start : List ℕ → Option ℕ → ℕ
slot_start f (Some e) = undef_start f (header_of f) + SLOT_SIZE * e
slot_start f None = 0

-- the offset of the slot of symbol j's name
abbrev pub slot_named : List ℕ → ℕ → ℕ
slot_named f j = slot_start f (slot_of f (header_of f) (externs f (header_of f)) (symbol_text f (header_of f) j))

-- what symbol j's value is counted from, by its place
abbrev pub start_by : List ℕ → ℕ → Place → ℕ
start_by f j (places.In n) = start_at f (header_of f) (n - 1)
start_by f j places.Undefined = slot_named f j
start_by f j places.Common = slot_named f j
start_by f j places.Absolute = slot_named f j
start_by f j places.Nowhere = slot_named f j
start_by f j places.Other = slot_named f j

-- the same, by its record
abbrev pub symbol_start : List ℕ → ℕ → ℕ
symbol_start f j = start_by f j (symbol_place f (header_of f) j)

-- ---- relocation k of section i, both from 0
module _ (f : List ℕ) (i k : ℕ) where
  -- the number of the symbol that it names
  abbrev pub named : ℕ
  named = relocation_symbol f (header_of f) i k

  -- its type, on the file's machine
  abbrev pub type_named : RelocationType
  type_named = type_of (arch_by (arch_of (header_of f).machine)) (relocation_type f (header_of f) i k)

  -- S: the symbol's value behind the start of its own section
  abbrev pub symbol_address : ℕ → ℕ
  symbol_address base = base + symbol_start f named + symbol_value f (header_of f) named

  -- P: the address field behind the start of the relocation's own section
  abbrev pub place_address : ℕ → ℕ
  place_address base = base + start_at f (header_of f) i + relocation_address f (header_of f) i k

  -- the bytes already in its field: of the section's raw data, at the address field; zero where it has none
  abbrev pub field_of : ℕ
  field_of =
      get (type_named.bits / 8) (part f (file_start f (header_of f) i) (file_end f (header_of f) i - file_start f (header_of f) i))
      (relocation_address f (header_of f) i k)

  -- its value by the standard, at a base
  abbrev pub standard_at : ℕ → ℕ
  standard_at base =
      standard_value type_named.kind type_named.addend base (symbol_address base) (place_address base) field_of (base + symbol_start f named)

-- ---- where our modules stay: one symbol a section, at its start, and zero fields
-- a symbol is looked for by its section's number or put among the externs; left out are sections looked for by name, and unknown kinds
abbrev pub Direct : Rule → Type 0
Direct (rules.Section n) = Unit {0}
Direct rules.Extern = Unit {0}
Direct rules.Slot = ⊥
Direct rules.Name = ⊥
Direct rules.Refused = ⊥

-- a relocation as our modules have them: an absolute or relative type, symbol value and field 0
pub record Stays (f : List ℕ) (i k : ℕ) : Type 0 where
  pub direct : Direct (symbol_rule f (header_of f) (named f i k))
  pub carried : ((type_named f i k).kind ≡ Absolute) ⊎ ((type_named f i k).kind ≡ Relative)
  pub value : symbol_value f (header_of f) (named f i k) ≡ 0
  pub field : field_of f i k ≡ 0

-- ---- what a target reaches starts there
abbrev reached : Target → Option RVA
reached (Home o) = Some o
reached (Named o) = Some o
reached (Slot o) = Some o
reached (Missing k) = None
reached Refused = None

reached_is : (g : Target) (o : RVA) → Reaches g o → reached g ≡ Some o
reached_is g o r = ⊎_elim (λ e. ap reached e) (⊎_elim (λ e. ap reached e) (λ e. ap reached e)) r.way

home_reached : (x : Option RVA) → reached (home_target x) ≡ x
unfolding home_target
home_reached (Some o) = refl
home_reached None = refl

module _ (f : List ℕ) where
  abbrev h : Header
  h = header_of f

  in_section_lem : (n : ℕ) (o : RVA) → reached (home_target (by_number (section_home f h) None n)) ≡ Some o → o.0 ≡ start_at f h (n - 1)
  unfolding by_number home_target
  in_section_lem zero o e = absurd (none_not_at o e)
  in_section_lem (suc m) o e =
      let z : suc m - 1 ≡ m = omega arith in
      rw z (home_own f h m o (sym (home_reached (section_home f h m)) ∙ e)).start

  in_slot : (s : Option ℕ) (o : RVA) → reached (slot_target (undef_start f h) s) ≡ Some o → o.0 ≡ slot_start f s
  unfolding slot_target
  in_slot (Some e) o q = sym (at_same (rva (undef_start f h + SLOT_SIZE * e)) o q)
  in_slot None o q = absurd (none_not_at o q)

  module _ (j : ℕ) where
    abbrev by_rule : Rule → Target
    by_rule r = rule_target f h (section_home f h) (undef_start f h) (slot_of f h (externs f h)) r j

    abbrev Starts : Place → Rule → Type 0
    Starts p r = Direct r → (o : RVA) → reached (by_rule r) ≡ Some o → o.0 ≡ start_by f j p

    by_number_lem : (n : ℕ) → Starts (places.In n) (rules.Section n)
    unfolding rule_target
    by_number_lem n d o e = in_section_lem n o e

    by_name : (o : RVA) → reached (by_rule rules.Extern) ≡ Some o → o.0 ≡ slot_named f j
    unfolding rule_target
    by_name o e = in_slot (slot_of f h (externs f h) (symbol_text f h j)) o e

    data_starts : (p : Place) → Starts p (data_rule p)
    data_starts (places.In n) d = by_number_lem n d
    data_starts places.Undefined d = by_name
    data_starts places.Common d = by_name
    data_starts places.Other d = by_name
    data_starts places.Absolute d = absurd d
    data_starts places.Nowhere d = absurd d

    section_starts : (p : Place) → Starts p (section_rule p)
    section_starts (places.In n) d = by_number_lem n d
    section_starts places.Undefined d = absurd d
    section_starts places.Common d = absurd d
    section_starts places.Other d = absurd d
    section_starts places.Absolute d = absurd d
    section_starts places.Nowhere d = absurd d

    label_starts : (p : Place) → Starts p (label_rule p)
    label_starts (places.In n) d = by_number_lem n d
    label_starts places.Undefined d = absurd d
    label_starts places.Common d = absurd d
    label_starts places.Other d = absurd d
    label_starts places.Absolute d = absurd d
    label_starts places.Nowhere d = absurd d

    unknown_starts : (p : Place) → Starts p (unknown_rule p)
    unknown_starts (places.In n) d = absurd d
    unknown_starts places.Undefined d = absurd d
    unknown_starts places.Common d = by_name
    unknown_starts places.Other d = absurd d
    unknown_starts places.Absolute d = absurd d
    unknown_starts places.Nowhere d = absurd d

    rule_starts : (k : SymbolKind) (p : Place) → Starts p (rule_of k p)
    rule_starts kinds.Data p d = data_starts p d
    rule_starts kinds.Text p d = data_starts p d
    rule_starts kinds.Section p d = section_starts p d
    rule_starts kinds.Label p d = label_starts p d
    rule_starts kinds.Unknown p d = unknown_starts p d
    rule_starts kinds.File p d = absurd d

    by_record : (o : RVA) → reached (targets f h j) ≡ Some o → reached (by_rule (symbol_rule f h j)) ≡ Some o
    unfolding target_of pick
    by_record o e =
        ⊎_elim (λ t. let z : None ≡ Some o = rw t at e in absurd (none_not_at o z))
        (λ t.
        let y : reached (pick (primary f h j) (by_rule (symbol_rule f h j)) Refused) ≡ Some o = rw t at e in
        ⊎_elim (λ u. let z : reached (by_rule (symbol_rule f h j)) ≡ Some o = rw u at y in z)
        (λ u. let z : None ≡ Some o = rw u at y in absurd (none_not_at o z)) (yes_no (primary f h j)))
        (yes_no (leb h.symbols j))

    -- S less the symbol's value: a target by a section's number starts where that section does
    pub symbol_own : Direct (symbol_rule f h j) → (o : RVA) → Reaches (targets f h j) o → o.0 ≡ symbol_start f j
    symbol_own d o r = rule_starts (kind f h j) (symbol_place f h j) d o (by_record o (reached_is (targets f h j) o r))

-- ---- absolute and relative fixups over zero fields have the standard's value, with the symbol at the target
pub standard_met : (base : ℕ) (x : Fix) (start : ℕ) → base ≤ MAX_BASE → Exact x → (x.kind ≡ Absolute) ⊎ (x.kind ≡ Relative)
    → standard_value x.kind x.addend base (base + x.target.0) (base + x.place.0) 0 start ≡ value_of base x
unfolding standard_value value_of pick
standard_met base x start low ok k =
    let p = ok.place in
    ⊎_elim (λ e. rw e (omega arith)) (λ e. rw e (omega arith)) k

-- ---- of a file: x is what relocation `index` of section `section`, both from 0, comes to
pub record From (f : List ℕ) (x : Fix) : Type 0 where
  pub section : ℕ
  pub index : ℕ
  pub inside : section < (header_of f).sections
  pub counted : index < relocation_count f (header_of f) section
  pub is : outcomes f (header_of f) section index ≡ Fixup x

-- every fixup of the fix list comes from a relocation
pub fixups_from : (f : List ℕ) (k : ℕ) → k < length (fixups_of f) → From f (fixup_at f k)
fixups_from f k =
    every_fixup (From f) (outcomes f (header_of f)) (relocation_count f (header_of f)) (header_of f).sections
    (λ i j x a b e. record { section = i; index = j; inside = a; counted = b; is = e }) k no_fixup

-- P: every fixup lies as far behind the start of its relocation's own section as the address field says
pub place_own : (f : List ℕ) (x : Fix) (r : From f x) → x.place.0 ≡ start_at f (header_of f) r.section + relocation_address f (header_of f) r.section r.index
place_own f x r =
    let w = fix_from (arch_by (arch_of (header_of f).machine)) f (header_of f) (section_home f (header_of f)) (targets f (header_of f)) r.section r.index x r.is in
    let at : x.place.0 ≡ w.start.0 + relocation_address f (header_of f) r.section r.index = ap (λ (y : Fix). y.place.0) w.resolved.is in
    let begin = (home_own f (header_of f) r.section w.start w.homed).start in
    omega arith

-- the standard's value is that with the fixup's own parts for those of the file
same_value : (k k' : RelocationKind) (a a' base s s' p p' z start : ℕ) → k ≡ k' → a ≡ a' → s ≡ s' → p ≡ p' → z ≡ 0
    → standard_value k a base s p z start ≡ standard_value k' a' base s' p' 0 start
same_value k k' a a' base s s' p p' z start e₁ e₂ e₃ e₄ e₅ = rw (e₁, e₂, e₃, e₄, e₅)

-- the standard's value of a fixup of an accepted file is ours, at every allowed base, if its relocation and its symbol stay where our modules do
pub standard_of_file : (f : List ℕ) (c : Counts) → survey_of f ≡ Ok c → (base : ℕ) → base_ok base ≡ true
    → (k : ℕ) → k < length (fixups_of f) → (r : From f (fixup_at f k)) → Stays f r.section r.index
    → standard_at f r.section r.index base ≡ fixup_value f base k
unfolding base_ok
standard_of_file f c accepted base ok k l r s =
    let low : base ≤ MAX_BASE = leb-true base MAX_BASE (and_right (eqb (base % PAGE_SIZE) 0) (leb base MAX_BASE) ok) in
    let w = fix_from (arch_by (arch_of (header_of f).machine)) f (header_of f) (section_home f (header_of f)) (targets f (header_of f)) r.section r.index (fixup_at f k) r.is in
    let same : (fixup_at f k).kind ≡ (type_named f r.section r.index).kind = ap (λ (y : Fix). y.kind) w.resolved.is in
    let adds : (fixup_at f k).addend ≡ (type_named f r.section r.index).addend = ap (λ (y : Fix). y.addend) w.resolved.is in
    let at = place_own f (fixup_at f k) r in
    let reach : (fixup_at f k).target.0 ≡ symbol_start f (named f r.section r.index) =
    symbol_own f (named f r.section r.index) s.direct (fixup_at f k).target w.resolved.reaches in
    let zeroed = s.value in
    same_value _ _ _ _ base _ _ _ _ _ _ (sym same) (sym adds) (omega arith) (omega arith) s.field
    ∙ standard_met base (fixup_at f k) (base + symbol_start f (named f r.section r.index)) low (fixups_exact f c accepted k no_fixup l)
    (⊎_elim (λ e. inl (same ∙ e)) (λ e. inr (same ∙ e)) s.carried)
