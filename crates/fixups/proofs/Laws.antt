-- The ways through the code. Assumes nothing.
use Rattle.std.proofs.Common.{◌≡◌, ℕ, ◌+◌, ◌-◌, ◌%◌, ◌^◌, ◌<◌, Bool, true, false, ◌⊎◌, ⊎_elim, arith, ne_eqb}
use Rattle.util.specs.Pick.{pick}
use Rattle.arch.specs.declared.RVA.{RVA}
use Rattle.arch.specs.Address.{rva}
use Rattle.kinds.specs.declared.RelocationKind.{RelocationKind}
use Rattle.kinds.specs.declared.RelocationKind.TheVariants as reloc
use Rattle.kinds.specs.declared.RelocationType.{RelocationType}
use Rattle.homes.specs.Home.{word_start, word_home}
use Rattle.fixups.specs.declared.Fix.{Fix}
use Rattle.fixups.specs.declared.Outcome.{Outcome}
use Rattle.fixups.specs.declared.Outcome.TheVariants.{Passed, Skipped, Refused, Fixup}
use Rattle.fixups.specs.Outcome.{by_kind, fix_at, resolved, outcome_at}
use Rattle.fixups.specs.Value.{is_relative, value_of}
use Rattle.targets.specs.declared.Skip.{Skip}
use Rattle.targets.specs.declared.Skip.TheVariants.{NoType}
use Rattle.targets.specs.declared.Target.{Target}
use Rattle.targets.specs.declared.Target.TheVariants as target
use Rattle.targets.specs.declared.Target.TheVariants.{Home, Named, Slot, Missing}

-- ---- outcomes
pub fix_unpacked : (t u : RelocationType) (place o : RVA) (r : Outcome) → t ≡ u → r ≡ fix_at t place o → r ≡ fix_at u place o
fix_unpacked t u place o r e q = rw (← e) q

module _ (g : Target) (t : RelocationType) (place : RVA) where
  pub resolved_offset : (o : RVA) (r : Outcome) → (g ≡ Home o) ⊎ ((g ≡ Named o) ⊎ (g ≡ Slot o)) → r ≡ fix_at t place o → r ≡ resolved g t place
  unfolding resolved
  resolved_offset o r e q = ⊎_elim (λ x. rw x q) (λ y. ⊎_elim (λ x. rw x q) (λ x. rw x q) y) e

  pub resolved_missing : (k : Skip) → g ≡ Missing k → Skipped k ≡ resolved g t place
  unfolding resolved
  resolved_missing k e = rw e

  pub resolved_refused : g ≡ target.Refused → Refused ≡ resolved g t place
  unfolding resolved
  resolved_refused e = rw e

pub ruleset resolving = (resolved_offset, resolved_missing, resolved_refused)

module _ (w address : ℕ) (t : RelocationType) (g : Target) where
  pub home_none : w ≡ 0 → Passed ≡ outcome_at (word_home w) address t g
  unfolding outcome_at word_home pick
  home_none e = rw e

  pub home_some : (x : Outcome) (s : RVA) (n : ℕ) → (w ≡ 0 → ⊥) → s ≡ rva (word_start w) → x ≡ resolved g t (rva (s.0 + n)) → n ≡ address → x ≡ outcome_at (word_home w) address t g
  unfolding outcome_at word_home pick
  home_some x s n z e q a = rw (ne_eqb w 0 z) (rw (e, a) at q)

pub ruleset outcome_ways = (home_none, home_some)

-- ---- values
module _ (base : ℕ) (x : Fix) (b : Bool) where
  pub value_relative : b ≡ is_relative x.kind → b ≡ true → x.place.0 < 2 ^ 64 → ((x.target.0 + x.addend) % 2 ^ 64 + (2 ^ 64 - x.place.0)) % 2 ^ 64 ≡ value_of base x
  unfolding value_of pick
  value_relative q d p = rw (← q, d) (omega arith)

  pub value_based : b ≡ is_relative x.kind → b ≡ false → ((x.target.0 + x.addend) % 2 ^ 64 + base) % 2 ^ 64 ≡ value_of base x
  unfolding value_of pick
  value_based q d = rw (← q, d) (omega arith)

pub ruleset values = (value_relative, value_based)
