-- What a fixup tells of its relocation; a home's relocations are not passed, and are refused where their targets are; for every file, all homes and all slots.
use Rattle.std.specs.Prelude.{◌≡◌, ℕ, suc, ◌+◌, false, ◌⊎◌, List, None, Option, Some, Err}
use Rattle.refusal.specs.declared.Refusal.{Refusal}
use Rattle.std.proofs.Math.Path.{refl}
use Rattle.std.proofs.Common.{sym, ap, ◌∙◌, inl, inr, ⊎_elim, arith}
use Rattle.util.specs.Pick.{pick_either}
use Rattle.arch.specs.declared.Arch.{Arch}
use Rattle.arch.specs.declared.RVA.{RVA}
use Rattle.arch.specs.Address.{rva}
use Rattle.arch.specs.declared.Arch.TheVariants.{X32, X64}
use Rattle.object.specs.declared.Header.{Header}
use Rattle.kinds.specs.declared.RelocationKind.{RelocationKind}
use Rattle.kinds.specs.declared.RelocationKind.TheVariants.{Absolute, ImageOffset, SectionOffset, Relative, NotCarried, Unknown}
use Rattle.kinds.specs.declared.RelocationType.{RelocationType}
use Rattle.object.specs.Relocation.{relocation_in, relocation, relocation_address, relocation_symbol, relocation_type}
use Rattle.kinds.specs.Types.{type32, type64, type_of}
use Rattle.targets.specs.declared.Skip.TheVariants.{NoType}
use Rattle.targets.specs.declared.Target.{Target}
use Rattle.targets.specs.declared.Target.TheVariants as target
use Rattle.targets.specs.declared.Target.TheVariants.{Home, Named, Slot, Missing}
use Rattle.targets.specs.Target.{target_refusal}
use Rattle.fixups.specs.declared.Fix.{Fix}
use Rattle.fixups.specs.declared.Outcome.TheVariants.{Passed, Skipped, Refused, Fixup}
use Rattle.fixups.specs.Outcome.{by_kind, fix_of, fix_at, resolved, outcome_at, by_home, outcome, outcome_refusal}
use Rattle.fixups.specs.Tally.{is_passed}

-- ---- the types that are carried have 32 or 64 bits
pub record HasBits (t : RelocationType) : Type 0 where
  pub carried : (t.kind ≡ NotCarried) ⊎ ((t.kind ≡ Unknown) ⊎ ((t.bits ≡ 32) ⊎ (t.bits ≡ 64)))

bits_32 : (t : RelocationType) → t.bits ≡ 32 → HasBits t
bits_32 t e = record { carried = inr (inr (inl e)) }

bits_64 : (t : RelocationType) → t.bits ≡ 64 → HasBits t
bits_64 t e = record { carried = inr (inr (inr e)) }

bits_none : (t : RelocationType) → t.kind ≡ NotCarried → HasBits t
bits_none t e = record { carried = inl e }

bits_unknown : (t : RelocationType) → t.kind ≡ Unknown → HasBits t
bits_unknown t e = record { carried = inr (inl e) }

has_bits_32 : (t : ℕ) → HasBits (type32 t)
unfolding type32
has_bits_32 t =
    pick_either HasBits _ _ _ (λ e. bits_32 _ refl) (pick_either HasBits _ _ _ (λ e. bits_32 _ refl) (pick_either HasBits _ _ _ (λ e. bits_32 _ refl) (pick_either HasBits _ _ _ (λ e. bits_32 _ refl) (pick_either HasBits _ _ _ (λ e. bits_none _ refl) (bits_unknown _ refl)))))

has_bits_64 : (t : ℕ) → HasBits (type64 t)
unfolding type64
has_bits_64 t =
    pick_either HasBits _ _ _ (λ e. bits_32 _ refl)
    (pick_either HasBits _ _ _ (λ e. bits_64 _ refl)
    (pick_either HasBits _ _ _ (λ e. bits_32 _ refl)
    (pick_either HasBits _ _ _ (λ e. bits_32 _ refl)
    (pick_either HasBits _ _ _ (λ e. bits_32 _ refl)
    (pick_either HasBits _ _ _ (λ e. bits_none _ refl)
    (bits_unknown _ refl))))))

pub has_bits : (a : Arch) (t : ℕ) → HasBits (type_of a t)
unfolding type_of
has_bits X32 t = has_bits_32 t
has_bits X64 t = has_bits_64 t

-- ---- a fixup is its relocation's type at its place, with the target that the symbol comes to
pub record Reaches (g : Target) (o : RVA) : Type 0 where
  pub way : (g ≡ Home o) ⊎ ((g ≡ Named o) ⊎ (g ≡ Slot o))

by_fix : (k : RelocationKind) (x y : Fix) → by_kind k x ≡ Fixup y → x ≡ y
unfolding by_kind
by_fix Absolute x y e = cc
by_fix ImageOffset x y e = cc
by_fix SectionOffset x y e = cc
by_fix Relative x y e = cc
by_fix NotCarried x y e = cc
by_fix Unknown x y e = cc

by_bits : (t : RelocationType) (x y : Fix) → HasBits t → by_kind t.kind x ≡ Fixup y → (t.bits ≡ 32) ⊎ (t.bits ≡ 64)
unfolding by_kind
by_bits t x y b e =
    ⊎_elim (λ n. absurd (let z : Refused ≡ Fixup y = rw n at e in let w : ◌≡◌ {A = ℕ} 0 1 = cc in omega arith))
    (⊎_elim (λ n. absurd (let z : Skipped NoType ≡ Fixup y = rw n at e in let w : ◌≡◌ {A = ℕ} 0 1 = cc in omega arith)) (λ r. r))
    b.carried

-- fixup x of type t at a place, by what its symbol comes to
pub record Resolved (g : Target) (t : RelocationType) (place : RVA) (x : Fix) : Type 0 where
  pub reaches : Reaches g x.target
  pub is : x ≡ fix_of t place x.target
  pub bits : (x.bits ≡ 32) ⊎ (x.bits ≡ 64)

fix_of_lem : (g : Target) (t : RelocationType) (place o : RVA) (x : Fix) → HasBits t → Reaches g o → fix_at t place o ≡ Fixup x → Resolved g t place x
fix_of_lem g t place o x b r e =
    let q : fix_of t place o ≡ x = by_fix t.kind (fix_of t place o) x e in
    let z : o ≡ x.target = ap (λ (y : Fix). y.target) q in
    let w : t.bits ≡ x.bits = ap (λ (y : Fix). y.bits) q in
    record {
      reaches = rw (← z) r;
      is = sym q ∙ ap (fix_of t place) z;
      bits = ⊎_elim (λ n. inl (sym w ∙ n)) (λ n. inr (sym w ∙ n)) (by_bits t (fix_of t place o) x b e);
    }

resolved_fix : (g : Target) (t : RelocationType) (place : RVA) (x : Fix) → HasBits t → resolved g t place ≡ Fixup x → Resolved g t place x
unfolding resolved
resolved_fix (Home o) t place x b e = fix_of_lem (Home o) t place o x b (record { way = inl refl }) e
resolved_fix (Named o) t place x b e = fix_of_lem (Named o) t place o x b (record { way = inr (inl refl) }) e
resolved_fix (Slot o) t place x b e = fix_of_lem (Slot o) t place o x b (record { way = inr (inr refl) }) e
resolved_fix (Missing k) t place x b e = absurd (let w : ◌≡◌ {A = ℕ} 0 1 = cc in omega arith)
resolved_fix target.Refused t place x b e = absurd (let w : ◌≡◌ {A = ℕ} 0 1 = cc in omega arith)

-- of a fixup: its section has a home, and it is the type's fixup at home start + address field, with what its symbol comes to
pub record FixFrom (a : Arch) (f : List ℕ) (h : Header) (home : ℕ → Option RVA) (target : ℕ → Target) (i k : ℕ) (x : Fix) : Type 0 where
  pub start : RVA
  pub homed : home i ≡ Some start
  pub resolved : Resolved (target (relocation_symbol f h i k)) (type_of a (relocation_type f h i k)) (rva (start.0 + relocation_address f h i k)) x

module _ (a : Arch) (f : List ℕ) (h : Header) (home : ℕ → Option RVA) (target : ℕ → Target) (i k : ℕ) (x : Fix) where
  from_home : (o : Option RVA) → home i ≡ o → by_home a target o (relocation f h i k) ≡ Fixup x → FixFrom a f h home target i k x
  unfolding outcome_at relocation_in
  from_home (Some start) q e =
      let r = resolved_fix (target (relocation_symbol f h i k)) (type_of a (relocation_type f h i k)) (rva (start.0 + relocation_address f h i k)) x (has_bits a (relocation_type f h i k)) e in
      record { start = start; homed = q; resolved = r }
  from_home None q e = absurd (let w : ◌≡◌ {A = ℕ} 0 1 = cc in omega arith)

  pub fix_from : outcome a f h home target i k ≡ Fixup x → FixFrom a f h home target i k x
  unfolding outcome
  fix_from e = from_home (home i) refl e

-- ---- passed are the relocations of sections without a home alone
kind_not_passed : (k : RelocationKind) (x : Fix) → is_passed (by_kind k x) ≡ false
unfolding by_kind
kind_not_passed Absolute x = refl
kind_not_passed ImageOffset x = refl
kind_not_passed SectionOffset x = refl
kind_not_passed Relative x = refl
kind_not_passed NotCarried x = refl
kind_not_passed Unknown x = refl

resolved_not_passed : (g : Target) (t : RelocationType) (place : RVA) → is_passed (resolved g t place) ≡ false
unfolding resolved
resolved_not_passed (Home o) t place = kind_not_passed t.kind (fix_of t place o)
resolved_not_passed (Named o) t place = kind_not_passed t.kind (fix_of t place o)
resolved_not_passed (Slot o) t place = kind_not_passed t.kind (fix_of t place o)
resolved_not_passed (Missing k) t place = refl
resolved_not_passed target.Refused t place = refl

pub homed_not_passed : (a : Arch) (f : List ℕ) (h : Header) (home : ℕ → Option RVA) (target : ℕ → Target) (i k : ℕ) (start : RVA) → home i ≡ Some start
    → is_passed (outcome a f h home target i k) ≡ false
unfolding outcome outcome_at relocation_in
homed_not_passed a f h home target i k start e =
    rw e (resolved_not_passed (target (relocation_symbol f h i k)) (type_of a (relocation_type f h i k)) (rva (start.0 + relocation_address f h i k)))

-- ---- a target's refusal is its relocation's, whatever the type
resolved_refused : (g : Target) (t : RelocationType) (place : RVA) (r : Refusal) → target_refusal g ≡ Err r → outcome_refusal (resolved g t place) ≡ Err r
unfolding resolved
resolved_refused (Home o) t place r e = absurd (let w : ◌≡◌ {A = ℕ} 0 1 = cc in omega arith)
resolved_refused (Named o) t place r e = absurd (let w : ◌≡◌ {A = ℕ} 0 1 = cc in omega arith)
resolved_refused (Slot o) t place r e = absurd (let w : ◌≡◌ {A = ℕ} 0 1 = cc in omega arith)
resolved_refused (Missing k) t place r e = absurd (let w : ◌≡◌ {A = ℕ} 0 1 = cc in omega arith)
resolved_refused target.Refused t place r e = e

pub homed_refused : (a : Arch) (f : List ℕ) (h : Header) (home : ℕ → Option RVA) (target : ℕ → Target) (i k : ℕ) (start : RVA) (r : Refusal) → home i ≡ Some start
    → target_refusal (target (relocation_symbol f h i k)) ≡ Err r → outcome_refusal (outcome a f h home target i k) ≡ Err r
unfolding outcome outcome_at relocation_in
homed_refused a f h home target i k start r e q =
    rw e (resolved_refused (target (relocation_symbol f h i k)) (type_of a (relocation_type f h i k)) (rva (start.0 + relocation_address f h i k)) r q)
