-- What a fixup's value comes to at a base, and that its bytes keep all of it.
use Rattle.std.specs.Prelude.{◌≡◌, ℕ, ◌+◌, ◌-◌, ◌/◌, ◌%◌, ◌^◌, ◌<◌, ◌≤◌, true, false, ◌⊎◌, nat_le, refl}
use Rattle.std.proofs.Common.{◌∙◌, inl, inr, ⊎_elim, arith, mod-eq_of_lt, leb-true}
use Rattle.std.proofs.Math.Nat.{mod-lt}
use Rattle.std.proofs.Math.IntN.{sub_ℕ}
use Rattle.util.specs.Pick.{pick, yes_no, le_or_lt, and_left, and_right, not_both, pick_either}
use Rattle.arch.specs.declared.Arch.{Arch}
use Rattle.arch.specs.declared.Arch.TheVariants.{X32, X64}
use Rattle.kinds.specs.declared.RelocationKind.{RelocationKind}
use Rattle.kinds.specs.declared.RelocationType.{RelocationType}
use Rattle.kinds.specs.Types.{type32, type64, type_of}
use Rattle.le.specs.Le.{get, le, get_low}
use Rattle.limits.specs.Limits.{MAX_BASE}
use Rattle.fixups.specs.declared.Fix.{Fix}
use Rattle.fixups.specs.Value.{is_relative, shift, value_of}
use Rattle.fixups.specs.Signed.{signed, signed_low, signed_high, difference_same, difference_is, low_keeps}

-- ---- addends, in two's complement of 64 bits
-- a relative type has 32 bits and -4 to -9
pub record TakesAway (k : RelocationKind) (bits addend : ℕ) : Type 0 where
  pub relative : is_relative k ≡ true
  pub narrow : bits ≡ 32
  pub least : 2 ^ 64 - 9 ≤ addend
  pub most : addend ≤ 2 ^ 64 - 4

-- any other has 0
pub record AddsNone (k : RelocationKind) (addend : ℕ) : Type 0 where
  pub other : is_relative k ≡ false
  pub none : addend ≡ 0

-- one of the two, whatever the type
abbrev pub Addend : RelocationKind → ℕ → ℕ → Type 0
Addend k bits addend = TakesAway k bits addend ⊎ AddsNone k addend

-- what makes a fixup's value exact
pub record Exact (x : Fix) : Type 0 where
  pub bits : (x.bits ≡ 32) ⊎ (x.bits ≡ 64)
  pub place : x.place.0 < 2 ^ 24
  pub target : x.target.0 < 2 ^ 24
  pub addend : Addend x.kind x.bits x.addend

-- ---- the types' addends are such
abbrev OfType : RelocationType → Type 0
OfType t = Addend t.kind t.bits t.addend

adds_none : (t : RelocationType) → is_relative t.kind ≡ false → t.addend ≡ 0 → OfType t
adds_none t e z = inr (record { other = e; none = z })

takes_away : (t : RelocationType) → is_relative t.kind ≡ true → t.bits ≡ 32 → 2 ^ 64 - 9 ≤ t.addend → t.addend ≤ 2 ^ 64 - 4 → OfType t
takes_away t e b l m = inl (record { relative = e; narrow = b; least = l; most = m })

addend_32 : (t : ℕ) → OfType (type32 t)
unfolding type32
addend_32 t =
    pick_either OfType _ _ _ (λ e. adds_none _ refl refl)
    (pick_either OfType _ _ _ (λ e. adds_none _ refl refl)
    (pick_either OfType _ _ _ (λ e. adds_none _ refl refl)
    (pick_either OfType _ _ _ (λ e. takes_away _ refl refl (omega arith) (omega arith))
    (pick_either OfType _ _ _ (λ e. adds_none _ refl refl)
    (adds_none _ refl refl)))))

addend_64 : (t : ℕ) → OfType (type64 t)
unfolding type64
addend_64 t =
    pick_either OfType _ _ _ (λ e. adds_none _ refl refl)
    (pick_either OfType _ _ _ (λ e. adds_none _ refl refl)
    (pick_either OfType _ _ _ (λ e. adds_none _ refl refl)
    (pick_either OfType _ _ _ (λ e. adds_none _ refl refl)
    (pick_either OfType _ _ _ (λ e.
    let l = leb-true 4 t (and_left (nat_le 4 t) (nat_le t 9) e) in
    let m = leb-true t 9 (and_right (nat_le 4 t) (nat_le t 9) e) in
    takes_away _ refl refl (omega arith) (omega arith))
    (pick_either OfType _ _ _ (λ e. adds_none _ refl refl)
    (adds_none _ refl refl))))))

pub type_addend : (a : Arch) (t : ℕ) → Addend (type_of a t).kind (type_of a t).bits (type_of a t).addend
unfolding type_of
type_addend X32 t = addend_32 t
type_addend X64 t = addend_64 t

-- ---- values at a base
-- a relative value is the same at every base
pub relative_stays : (x : Fix) (b₁ b₂ : ℕ) → is_relative x.kind ≡ true → value_of b₁ x ≡ value_of b₂ x
unfolding value_of pick
relative_stays x b₁ b₂ e = rw e

module _ (x : Fix) (ok : Exact x) where
  no_addend : is_relative x.kind ≡ false → x.addend ≡ 0
  no_addend e = ⊎_elim (λ r. not_both (is_relative x.kind) r.relative e) (λ r. r.none) ok.addend

  relative_addend : is_relative x.kind ≡ true → TakesAway x.kind x.bits x.addend
  relative_addend e = ⊎_elim (λ r. r) (λ r. not_both (is_relative x.kind) e r.other) ok.addend

  module _ (b : ℕ) (low : b ≤ MAX_BASE) where
    -- any other value is base and target
    pub other_is : is_relative x.kind ≡ false → value_of b x ≡ b + x.target.0
    unfolding value_of pick
    other_is e =
        let n = no_addend e in
        let t = ok.target in
        rw (e, n) (omega arith)

  -- so it rises by the difference of the bases
  pub other_rises : (b₁ b₂ : ℕ) → b₁ ≤ MAX_BASE → b₂ ≤ MAX_BASE → is_relative x.kind ≡ false → value_of b₂ x + b₁ ≡ value_of b₁ x + b₂
  other_rises b₁ b₂ l₁ l₂ e = rw (other_is b₁ l₁ e, other_is b₂ l₂ e) (omega arith)

  relative_by : (b : ℕ) → is_relative x.kind ≡ true → value_of b x ≡ (x.target.0 + x.addend + (2 ^ 64 - x.place.0)) % 2 ^ 64
  unfolding value_of pick
  relative_by b e = rw e

  -- a relative value, as a signed number, is the target less the place and less what the type takes away
  pub relative_is : (b : ℕ) → is_relative x.kind ≡ true → signed 8 (value_of b x) ≡ sub_ℕ x.target.0 (x.place.0 + (2 ^ 64 - x.addend))
  relative_is b e =
      let a = relative_addend e in
      let l = a.least in
      let m = a.most in
      let p = ok.place in
      let t = ok.target in
      let v = relative_by b e in
      ⊎_elim (λ h.
      let z : value_of b x + (x.place.0 + (2 ^ 64 - x.addend)) ≡ x.target.0 = omega arith in
      signed_low 8 (value_of b x) (omega arith) ∙ difference_is (value_of b x) x.target.0 (x.place.0 + (2 ^ 64 - x.addend)) z)
      (λ h.
      let q : value_of b x + (x.place.0 + (2 ^ 64 - x.addend)) ≡ x.target.0 + 2 ^ 64 = omega arith in
      signed_high 8 (value_of b x) (omega arith) ∙ difference_same (value_of b x) (256 ^ 8) x.target.0 (x.place.0 + (2 ^ 64 - x.addend)) q)
      (le_or_lt (x.place.0 + (2 ^ 64 - x.addend)) x.target.0)

  -- ---- the bytes of a fixup keep its value: no bit is lost
  module _ (b : ℕ) (low : b ≤ MAX_BASE) where
    -- the value is in the range of four bytes
    near : (value_of b x < 2 ^ 31) ⊎ ((2 ^ 64 - 2 ^ 31 ≤ value_of b x) × (value_of b x < 2 ^ 64))
    near =
        let t = ok.target in
        ⊎_elim (λ e.
        let a = relative_addend e in
        let l = a.least in
        let m = a.most in
        let p = ok.place in
        let v = relative_by b e in
        ⊎_elim (λ h. inl (omega arith)) (λ h. inr ((omega arith), (omega arith))) (le_or_lt (x.place.0 + (2 ^ 64 - x.addend)) x.target.0))
        (λ e. let v = other_is b low e in inl (omega arith))
        (yes_no (is_relative x.kind))

    below : value_of b x < 2 ^ 64
    unfolding value_of
    below = mod-lt (x.target.0 + x.addend + shift b x) (omega arith)

    by_width : (n : ℕ) → x.bits / 8 ≡ n → signed n (value_of b x % 256 ^ n) ≡ signed 8 (value_of b x)
        → signed (x.bits / 8) (get (x.bits / 8) (le (x.bits / 8) (value_of b x)) 0) ≡ signed 8 (value_of b x)
    by_width n e h = rw (e, get_low n (value_of b x)) h

    pub no_bit_lost : signed (x.bits / 8) (get (x.bits / 8) (le (x.bits / 8) (value_of b x)) 0) ≡ signed 8 (value_of b x)
    no_bit_lost =
        ⊎_elim (λ n. by_width 4 (rw n) (low_keeps (value_of b x) near))
        (λ n. let e : value_of b x % 256 ^ 8 ≡ value_of b x = mod-eq_of_lt below in by_width 8 (rw n) (rw e))
        ok.bits
