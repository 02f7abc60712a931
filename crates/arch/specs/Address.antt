-- An address and an offset from the base; the base stands in every way from one to the other (01, "arch.rs, lib.rs").
use Rattle.std.specs.Prelude.{◌≡◌, true, false, ℕ, ◌+◌, ◌-◌, ◌^◌, ◌≤◌, ◌<◌, ltb, leb, None, Option, Some}
use Rattle.std.proofs.Common.{sym, ap, arith, lt-ltb, le-ltb, le-leb}
use Rattle.std.proofs.Math.Logic.{⊎_elim}
use Rattle.util.specs.Pick.{pick, le_or_lt}
use Rattle.arch.specs.declared.VA.{VA}
use Rattle.arch.specs.declared.RVA.{RVA}

-- a number as an address
abbrev pub va : ℕ → VA
va a = record { 0 = a }

-- a number as an offset from the base
abbrev pub rva : ℕ → RVA
rva o = record { 0 = o }

-- an address as an offset from the base: none if it lies below the base
unfoldable pub offset_of : ℕ → ℕ → Option RVA
offset_of base a = pick (leb base a) (Some (rva (a - base))) None

-- an offset as an address: none past 64 bits
unfoldable pub address_of : ℕ → ℕ → Option VA
address_of base o = pick (ltb (base + o) (2 ^ 64)) (Some (va (base + o))) None

-- an offset further on: none past 64 bits
unfoldable pub offset_plus : ℕ → ℕ → Option RVA
offset_plus o n = pick (ltb (o + n) (2 ^ 64)) (Some (rva (o + n))) None

-- ---- with one base the two ways undo each other
pub offset_of_address : (base o : ℕ) → base + o < 2 ^ 64 → (address_of base o ≡ Some (va (base + o))) × (offset_of base (base + o) ≡ Some (rva o))
unfolding address_of offset_of pick
offset_of_address base o h =
    let e : base + o - base ≡ o = omega arith in
    (rw (lt-ltb (base + o) (2 ^ 64) h), rw (le-leb base (base + o) (omega arith), e))

pub address_of_offset : (base a : ℕ) → base ≤ a → a < 2 ^ 64 → (offset_of base a ≡ Some (rva (a - base))) × (address_of base (a - base) ≡ Some (va a))
unfolding address_of offset_of pick
address_of_offset base a h k =
    let e : base + (a - base) ≡ a = omega arith in
    (rw (le-leb base a h), rw (e, lt-ltb a (2 ^ 64) k))

-- ---- what an offset tells
number_of : Option RVA → ℕ
number_of (Some o) = o.0
number_of None = 0

is_at : Option RVA → ℕ
is_at (Some o) = 1
is_at None = 0

pub at_same : (a o : RVA) → Some a ≡ Some o → a.0 ≡ o.0
unfolding number_of
at_same a o e = ap number_of e

pub none_not_at : (o : RVA) → None ≡ Some o → ⊥
unfolding is_at
none_not_at o e = let z : ◌≡◌ {A = ℕ} 0 1 = ap is_at e in omega arith

module _ (a b : ℕ) where
  pub plus_tells : (o : RVA) → offset_plus a b ≡ Some o → a + b ≡ o.0
  unfolding offset_plus pick
  plus_tells o e =
      ⊎_elim (λ t. absurd (none_not_at o (rw (le-ltb (a + b) (2 ^ 64) t) at e)))
      (λ t. at_same (rva (a + b)) o (rw (lt-ltb (a + b) (2 ^ 64) t) at e))
      (le_or_lt (2 ^ 64) (a + b))

  pub plus_past : offset_plus a b ≡ None → 2 ^ 64 ≤ a + b
  unfolding offset_plus pick
  plus_past e =
      ⊎_elim (λ t. t) (λ t. absurd (none_not_at (rva (a + b)) (sym (rw (lt-ltb (a + b) (2 ^ 64) t) at e)))) (le_or_lt (2 ^ 64) (a + b))

-- ---- the ways through the code
module _ (base a : ℕ) where
  pub offset_at : leb base a ≡ true → Some (rva (a - base)) ≡ offset_of base a
  unfolding offset_of pick
  offset_at e = rw e

  pub offset_none : leb base a ≡ false → None ≡ offset_of base a
  unfolding offset_of pick
  offset_none e = rw e

module _ (a b : ℕ) where
  pub address_of_lem : a < 2 ^ 64 → b ≤ 2 ^ 64 - 1 - a → Some (va (a + b)) ≡ address_of a b
  unfolding address_of pick
  address_of_lem f h = rw (lt-ltb (a + b) (2 ^ 64) (omega arith))

  pub address_past : a < 2 ^ 64 → 2 ^ 64 - 1 - a < b → None ≡ address_of a b
  unfolding address_of pick
  address_past f h = rw (le-ltb (a + b) (2 ^ 64) (omega arith))

  pub plus_at : a < 2 ^ 64 → b ≤ 2 ^ 64 - 1 - a → Some (rva (a + b)) ≡ offset_plus a b
  unfolding offset_plus pick
  plus_at f h = rw (lt-ltb (a + b) (2 ^ 64) (omega arith))

  pub plus_none : a < 2 ^ 64 → 2 ^ 64 - 1 - a < b → None ≡ offset_plus a b
  unfolding offset_plus pick
  plus_none f h = rw (le-ltb (a + b) (2 ^ 64) (omega arith))

pub ruleset address_ways = (offset_at, offset_none, address_of_lem, address_past, plus_at, plus_none)
