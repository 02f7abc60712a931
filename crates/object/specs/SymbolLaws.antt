-- Symbols' own records and the runs of auxiliary records behind them share out the numbers: each number is one or the other, and no two
-- runs meet (01, "Records").
use Rattle.std.specs.Prelude.{◌≡◌, Bool, true, false, List, eqb}
use Rattle.std.proofs.Math.Path.{refl}
use Rattle.std.proofs.Math.Logic.{⊎_elim}
use Prim.Native.Nat.{ℕ, zero, suc, ◌+◌, ◌-◌, ◌≤◌, ◌<◌}
use native.Mathlib.Omega.{arith}
use Rattle.std.proofs.Common.{add-one}
use borrow.Author.Tests.{eq-eqb, ne_eqb, eqb-true, eqb-false}
use Rattle.util.specs.Pick.{pick, yes_no, le_or_lt}
use Rattle.object.specs.declared.Header.{Header}
use Rattle.object.specs.declared.Symbol.{Symbol}
use Rattle.object.specs.Format.{auxiliaries}
use Rattle.object.specs.Symbol.{symbol_of, left_after, auxiliaries_left, primary, ok_at}

-- ---- as a loop counts what is left: at the first record, one record further, and at the end
pub left_none : (f : List ℕ) (h : Header) → 0 ≡ auxiliaries_left f h 0
unfolding auxiliaries_left
left_none f h = refl

pub left_again : (f : List ℕ) (h : Header) (j left r : ℕ) → left ≡ auxiliaries_left f h j → r ≡ left_after f h j left → r ≡ auxiliaries_left f h (j + 1)
unfolding auxiliaries_left
left_again f h j left r e p = rw (add-one, ← e) p

-- by the record itself
pub left_past : (f : List ℕ) (h : Header) (j left r : ℕ) (s : Symbol) → left ≡ auxiliaries_left f h j → r ≡ pick (eqb left 0) s.auxiliaries (left - 1) → s ≡ symbol_of f h j → r ≡ auxiliaries_left f h (j + 1)
unfolding left_after
left_past f h j left r s e p q = left_again f h j left r e (rw q at p)

pub left_end : (f : List ℕ) (h : Header) (j n m left : ℕ) → left ≡ auxiliaries_left f h j → j ≤ n → n ≤ j → n ≡ m → left ≡ auxiliaries_left f h m
left_end f h j n m left e a b q = let z : j ≡ n = omega arith in cc

module _ (f : List ℕ) (h : Header) where
  -- ---- what is left, one record further
  left_own : (j : ℕ) → auxiliaries_left f h j ≡ 0 → auxiliaries_left f h (suc j) ≡ auxiliaries f h j
  unfolding auxiliaries_left left_after pick
  left_own j z = rw (eq-eqb (auxiliaries_left f h j) 0 z)

  left_less : (j : ℕ) → (auxiliaries_left f h j ≡ 0 → ⊥) → auxiliaries_left f h (suc j) ≡ auxiliaries_left f h j - 1
  unfolding auxiliaries_left left_after pick
  left_less j n = rw (ne_eqb (auxiliaries_left f h j) 0 n)

  -- and k records into a symbol's run
  left_in : (j k : ℕ) → auxiliaries_left f h j ≡ 0 → k ≤ auxiliaries f h j → auxiliaries_left f h (j + suc k) ≡ auxiliaries f h j - k
  left_in j zero z l = let e : j + 1 ≡ suc j = omega arith in let r = left_own j z in rw e (omega arith)
  left_in j (suc k) z l =
      let e : j + suc (suc k) ≡ suc (j + suc k) = omega arith in
      let r = left_in j k z (omega arith) in
      let d = left_less (j + suc k) (λ n. omega arith) in
      rw e (omega arith)

  is_primary : (j : ℕ) → auxiliaries_left f h j ≡ 0 → primary f h j ≡ true
  unfolding primary
  is_primary j z = eq-eqb (auxiliaries_left f h j) 0 z

  none_left : (j : ℕ) → primary f h j ≡ true → auxiliaries_left f h j ≡ 0
  unfolding primary
  none_left j p = eqb-true (auxiliaries_left f h j) 0 p

  -- ---- the numbers are shared out
  -- record 0 is a symbol's own
  pub primary_first : primary f h 0 ≡ true
  unfolding primary auxiliaries_left
  primary_first = refl

  -- the records that a symbol has behind it are auxiliary
  pub auxiliary_run : (j k : ℕ) → primary f h j ≡ true → 1 ≤ k → k ≤ auxiliaries f h j → primary f h (j + k) ≡ false
  unfolding primary
  auxiliary_run j zero p a b = absurd (omega arith)
  auxiliary_run j (suc k) p a b = let r = left_in j k (none_left j p) (omega arith) in ne_eqb (auxiliaries_left f h (j + suc k)) 0 (λ z. omega arith)

  -- the record behind them is the next symbol's own
  pub primary_next : (j : ℕ) → primary f h j ≡ true → primary f h (j + auxiliaries f h j + 1) ≡ true
  primary_next j p =
      let e : j + auxiliaries f h j + 1 ≡ j + suc (auxiliaries f h j) = omega arith in
      let r = left_in j (auxiliaries f h j) (none_left j p) (omega arith) in
      is_primary (j + auxiliaries f h j + 1) (rw e (omega arith))

  -- a symbol before record j whose run reaches as far as j
  pub record Owner (j : ℕ) : Type 0 where
    pub own : ℕ
    pub symbol : primary f h own ≡ true
    pub before : own < j
    pub reaches : j ≤ own + auxiliaries f h own

  -- the last symbol before record j, and what is left of its run there
  record Last (j : ℕ) : Type 0 where
    pub own : ℕ
    pub none : auxiliaries_left f h own ≡ 0
    pub before : own < j
    pub rest : j + auxiliaries_left f h j ≡ own + auxiliaries f h own + 1

  last : (j : ℕ) → (auxiliaries_left f h j ≡ 0 → ⊥) → Last j
  unfolding auxiliaries_left
  last zero n = absurd (n refl)
  last (suc j) n =
      ⊎_elim
      (λ e. let z = eqb-true (auxiliaries_left f h j) 0 e in let r = left_own j z in record { own = j; none = z; before = omega arith; rest = omega arith })
      (λ e.
      let z = eqb-false (auxiliaries_left f h j) 0 e in
      let r = left_less j z in
      let l = last j z in
      let b = l.before in
      let o = l.rest in
      record { own = l.own; none = l.none; before = omega arith; rest = omega arith })
      (yes_no (eqb (auxiliaries_left f h j) 0))

  -- every record that is no symbol's own has such an owner
  pub auxiliary_owner : (j : ℕ) → primary f h j ≡ false → Owner j
  unfolding primary
  auxiliary_owner j p =
      let n = eqb-false (auxiliaries_left f h j) 0 p in
      let l = last j n in
      let o = l.rest in
      record { own = l.own; symbol = is_primary l.own l.none; before = l.before; reaches = omega arith }

  -- a run ends before every symbol that follows, so that a record has one owner
  pub runs_apart : (j k : ℕ) → primary f h j ≡ true → primary f h k ≡ true → j < k → j + auxiliaries f h j < k
  runs_apart j k p q l =
      ⊎_elim
      (λ r.
      let e : j + (k - j) ≡ k = omega arith in
      let n : primary f h k ≡ false = rw e at (auxiliary_run j (k - j) p (omega arith) (omega arith)) in
      absurd (let z : true ≡ false = cc in let y : ◌≡◌ {A = ℕ} 0 1 = cc in omega arith))
      (λ r. r)
      (le_or_lt k (j + auxiliaries f h j))

-- a test of a symbol by its own record, where `left` auxiliary ones stand from j on
module _ (ok : List ℕ → Header → ℕ → Bool) (f : List ℕ) (h : Header) (j left : ℕ) (is : left ≡ auxiliaries_left f h j) where
  pub at_own : (r : Bool) → eqb left 0 ≡ true → r ≡ ok f h j → r ≡ ok_at ok f h j
  unfolding ok_at primary
  at_own r z e = rw (← is, z) e

  pub at_other : eqb left 0 ≡ false → true ≡ ok_at ok f h j
  unfolding ok_at primary
  at_other z = rw (← is, z)

pub ruleset own_ways = (at_own, at_other)
