-- How far a target can lie: not behind UNDEF's page, which holds the slots. For every file, with any homes that do not start behind UNDEF.
use Rattle.std.specs.Prelude.{◌≡◌, ℕ, zero, suc, ◌+◌, ◌<◌, ◌≤◌, List, nat_le, None, Option, Some}
use Rattle.std.proofs.Math.Path.{refl}
use Rattle.std.proofs.Common.{ap, ⊎_elim}
use native.Mathlib.Omega.{arith}
use Rattle.util.specs.Pick.{pick_either}
use Rattle.limits.specs.Limits.{MAX_EXTERNS}
use Rattle.arch.specs.Page.{PAGE_SIZE}
use Rattle.arch.specs.declared.RVA.{RVA}
use Rattle.object.specs.declared.Header.{Header}
use Rattle.object.specs.Symbol.{primary}
use Rattle.names.specs.Bytes.{are_same_bytes, UNDEF}
use Rattle.names.specs.Name.{symbol_text}
use Rattle.layout.specs.Layout.{undef_start}
use Rattle.ranks.specs.Named.{loaded_named, named_record}
use Rattle.homes.specs.Home.{record_start, by_number}
use Rattle.homes.specs.HomeLaws.{start_most}
use Rattle.rules.specs.declared.Rule.{Rule}
use Rattle.rules.specs.declared.Rule.TheVariants as rules
use Rattle.codes.specs.Code.{symbol_rule}
use Rattle.targets.specs.declared.Skip.TheVariants.{NoSymbol, NoHome, NoSlot}
use Rattle.targets.specs.declared.Target.{Target}
use Rattle.targets.specs.declared.Target.TheVariants.{Home, Named, Slot, Missing, Refused}
use Rattle.targets.specs.Target.{home_target, slot_target, named_target, slot_for, named_for, rule_target, target_of}
use Rattle.fixups.specs.OutcomeLaws.{Reaches}

-- the offset of a target, 0 where it has none
abbrev target_offset : Target → ℕ
target_offset (Home o) = o.0
target_offset (Named o) = o.0
target_offset (Slot o) = o.0
target_offset (Missing k) = 0
target_offset Refused = 0

offset_is : (g : Target) (o : RVA) → Reaches g o → target_offset g ≡ o.0
offset_is g o r = ⊎_elim (λ e. ap target_offset e) (⊎_elim (λ e. ap target_offset e) (λ e. ap target_offset e)) r.way

-- ---- each way to a target, with UNDEF at u
module _ (u : ℕ) where
  record Near (g : Target) : Type 0 where
    near : target_offset g < u + PAGE_SIZE

  near_none : (g : Target) → target_offset g ≡ 0 → Near g
  near_none g e = record { near = omega arith }

  near_home : (x : Option RVA) → ((o : RVA) → x ≡ Some o → o.0 ≤ u) → Near (home_target x)
  unfolding home_target
  near_home (Some o) most = let c = most o refl in record { near = omega arith }
  near_home None most = near_none (Missing NoHome) refl

  -- a section's number has the home of a section, or none
  near_number : (home : ℕ → Option RVA) → ((i : ℕ) (o : RVA) → home i ≡ Some o → o.0 ≤ u) → (n : ℕ) → Near (home_target (by_number home None n))
  unfolding by_number home_target
  near_number home most zero = near_none (Missing NoHome) refl
  near_number home most (suc i) = near_home (home i) (most i)

  near_slot : (s : Option ℕ) → ((e : ℕ) → s ≡ Some e → e < MAX_EXTERNS) → Near (slot_target u s)
  unfolding slot_target
  near_slot (Some e) few = let l = few e refl in record { near = omega arith }
  near_slot None few = near_none (Missing NoSlot) refl

  near_named : (x : Option RVA) (other : Target) → ((o : RVA) → x ≡ Some o → o.0 ≤ u) → Near other → Near (named_target x other)
  unfolding named_target
  near_named (Some o) other most n = let c = most o refl in record { near = omega arith }
  near_named None other most n = n

-- ---- a symbol's target, where no slot is past UNDEF's page
module _ (f : List ℕ) (h : Header) (home : ℕ → Option RVA) (slot : List ℕ → Option ℕ) (most : (i : ℕ) (o : RVA) → home i ≡ Some o → o.0 ≤ undef_start f h)
    (few : (name : List ℕ) (e : ℕ) → slot name ≡ Some e → e < MAX_EXTERNS) (j : ℕ) where
  abbrev u : ℕ
  u = undef_start f h

  slot_for_lem : Near u (slot_for f h home u slot j)
  slot_for_lem = near_slot u (slot (symbol_text f h j)) (few (symbol_text f h j))

  named_for_lem : Near u (named_for f h home u slot j)
  named_for_lem =
      near_named u (record_start f h (named_record f h (symbol_text f h j))) (slot_for f h home u slot j)
      (start_most f h (loaded_named f h (symbol_text f h j)) (are_same_bytes (symbol_text f h j) UNDEF)) slot_for_lem

  none : Near u Refused
  none = near_none u Refused refl

  by_rule_lem : (r : Rule) → Near u (rule_target f h home u slot r j)
  unfolding rule_target
  by_rule_lem (rules.Section n) = near_number u home most n
  by_rule_lem rules.Extern = slot_for_lem
  by_rule_lem rules.Slot = slot_for_lem
  by_rule_lem rules.Name = named_for_lem
  by_rule_lem rules.Refused = none

  by_record : Near u (target_of f h home u slot j)
  unfolding target_of
  by_record =
      pick_either (Near u) (nat_le h.symbols j) (Missing NoSymbol) _ (λ e. near_none u (Missing NoSymbol) refl)
      (pick_either (Near u) (primary f h j) _ Refused (λ e. by_rule_lem (symbol_rule f h j)) none)

  pub target_near : (o : RVA) → Reaches (target_of f h home (undef_start f h) slot j) o → o.0 < undef_start f h + PAGE_SIZE
  target_near o r =
      let e = offset_is (target_of f h home u slot j) o r in
      let n = by_record.near in
      rw e at n
