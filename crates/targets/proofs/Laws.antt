-- The ways through the code. Assumes nothing.
use Rattle.std.specs.Prelude.{None, Option, Some}
use mathlib.Core.Path.{◌≡◌}
use mathlib.Core.Bool.{true, false}
use mathlib.Core.List.{List}
use Prim.Native.Nat.{ℕ, ◌+◌, ◌-◌, ◌*◌}
use lib.Dec.{eqb, leb, ltb}
use lib.ListN.{get_or}
use Rattle.util.specs.Pick.{pick}
use Rattle.limits.specs.Limits.{SLOT_SIZE}
use Rattle.arch.specs.declared.RVA.{RVA}
use Rattle.arch.specs.Address.{rva}
use Rattle.homes.specs.Home.{by_number, start_of}
use Rattle.codes.specs.Code.{REFUSED, UNDEF_RECORD, HOMES, RECORDS, SLOTS}
use Rattle.targets.specs.declared.Skip.TheVariants.{NoSymbol, NoHome, NoSlot}
use Rattle.targets.specs.declared.Target.{Target}
use Rattle.targets.specs.declared.Target.TheVariants.{Home, Named, Slot, Missing, Refused}
use Rattle.targets.specs.Target.{home_target}
use Rattle.targets.specs.Table.{plain_target, code_target}

module _ (x y : Option RVA) (is : x ≡ y) where
  pub home_at : (o : RVA) → x ≡ Some o → Home o ≡ home_target y
  unfolding home_target
  home_at o e = rw (← is, e)

  pub home_none : x ≡ None → Missing NoHome ≡ home_target y
  unfolding home_target
  home_none e = rw (← is, e)

pub ruleset homes = (home_at, home_none)

module _ (undef c : ℕ) where
  pub plain_none : eqb c 0 ≡ true → Missing NoSymbol ≡ plain_target undef c
  unfolding plain_target pick
  plain_none e = rw e

  module _ (some : eqb c 0 ≡ false) where
    pub plain_refused : leb c REFUSED ≡ true → Refused ≡ plain_target undef c
    unfolding plain_target pick
    plain_refused e = rw (some, e)

    module _ (more : leb c REFUSED ≡ false) where
      pub plain_undef : eqb c UNDEF_RECORD ≡ true → Named (rva undef) ≡ plain_target undef c
      unfolding plain_target pick
      plain_undef t = rw (some, more, t)

      pub plain_slot : eqb c UNDEF_RECORD ≡ false → Missing NoSlot ≡ plain_target undef c
      unfolding plain_target pick
      plain_slot t = rw (some, more, t)

pub ruleset plain_ways = (plain_none, plain_refused, plain_undef, plain_slot)

module _ (home : ℕ → Option RVA) (undef c : ℕ) where
  pub code_plain : (r : Target) → ltb c HOMES ≡ true → r ≡ plain_target undef c → r ≡ code_target home undef c
  unfolding code_target pick
  code_plain r e q = rw e q

  module _ (high : ltb c HOMES ≡ false) where
    pub code_home : (r : Target) → ltb c RECORDS ≡ true → r ≡ home_target (by_number home None (c - HOMES)) → r ≡ code_target home undef c
    unfolding code_target pick
    code_home r e q = rw (high, e) q

    module _ (higher : ltb c RECORDS ≡ false) where
      pub code_record : (s : RVA) → ltb c SLOTS ≡ true → s ≡ rva (start_of (home (c - RECORDS))) → Named s ≡ code_target home undef c
      unfolding code_target pick
      code_record s e q = rw (high, higher, e, q)

      pub code_slot : ltb c SLOTS ≡ false → Slot (rva (undef + SLOT_SIZE * (c - SLOTS))) ≡ code_target home undef c
      unfolding code_target pick
      code_slot e = rw (high, higher, e)

pub ruleset code_ways = (code_plain, code_home, code_record, code_slot)

pub target_by : (home : ℕ → Option RVA) (codes : List ℕ) (undef c j : ℕ) {r : Target} → r ≡ code_target home undef c → c ≡ get_or codes j 0
    → r ≡ code_target home undef (get_or codes j 0)
target_by home codes undef c j p q = rw (← q) p
