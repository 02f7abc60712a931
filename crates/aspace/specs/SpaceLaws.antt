-- What holds of the spaces' definitions, as later layers ask it.
use Rattle.refusal.specs.declared.Refusal.{Refusal}
use Rattle.refusal.specs.Refusal.{Code, PASSES}
use Rattle.std.specs.Prelude.{◌≡◌, refl, Bool, List, length, Some, None, Ok, Err}
use Rattle.std.proofs.Common.{sym, ◌∙◌, ⊎_elim}
use Rattle.std.proofs.Math.Bool.{true, false}
use Prim.Native.Nat.{ℕ, ◌+◌, ◌-◌, ◌^◌, ◌≤◌, ◌<◌, max}
use native.Mathlib.Omega.{arith}
use Rattle.std.proofs.Math.Dec.{leb}
use borrow.Author.Tests.{le-leb}
use Rattle.util.specs.Pick.{pick, yes_no}
use Rattle.arch.specs.declared.RVA.{RVA}
use Rattle.arch.specs.Address.{rva}
use Rattle.refusal.specs.Refusal.{unless_refused, Leaves}
use Rattle.pagemap.specs.Pages.{span_mapped, read_code}
use Rattle.pagemap.specs.PageLaws.{span_in_lem}
use Rattle.aspace.specs.Space.{read_number, reached, offset_at, span_mapped_at, read_code_at, read_number_at}

-- ---- by address is by offset, where the bytes do not pass 64 bits
module _ (marks : List ℕ) (base o n : ℕ) (h : base + o + max n 1 ≤ 2 ^ 64) where
  pub span_by_address : (size : ℕ) → span_mapped_at size marks base (base + o) n ≡ span_mapped size marks o n
  unfolding span_mapped_at reached
  span_by_address size =
      let above : leb base (base + o) ≡ true = le-leb base (base + o) (omega arith) in
      let below : leb (base + o + max n 1) (2 ^ 64) ≡ true = le-leb (base + o + max n 1) (2 ^ 64) h in
      let back : base + o - base ≡ o = omega arith in
      rw (above, below, back)

  -- the refusal of a read
  pub read_by_address : (size : ℕ) → read_code_at size marks base (base + o) n ≡ read_code size marks o n
  unfolding read_code_at read_code
  read_by_address size = rw (span_by_address size)

  -- the number read
  pub number_by_address : (image : List ℕ) → read_number_at n image marks base (base + o) ≡ read_number n image marks o
  unfolding read_number_at read_number
  number_by_address image = let back : base + o - base ≡ o = omega arith in rw (read_by_address (length image), back)

-- ---- and at `offset_at`, where they do too
-- no image reaches the last offset of all
pub last_unmapped : (size : ℕ) (marks : List ℕ) (o n : ℕ) → size < 2 ^ 64 → 2 ^ 64 - 1 ≤ o → span_mapped size marks o n ≡ false
last_unmapped size marks o n h k =
    ⊎_elim (λ e. absurd (let i = span_in_lem size marks o n e in omega arith)) (λ e. e) (yes_no (span_mapped size marks o n))

module _ (size : ℕ) (marks : List ℕ) (base a n o : ℕ) (fits : size < 2 ^ 64) (is : o ≡ offset_at base a n) where
  span_by : (t : Bool) → reached base a n ≡ t → span_mapped size marks o n ≡ span_mapped_at size marks base a n
  unfolding span_mapped_at offset_at pick
  span_by true e = rw (is, e)
  span_by false e = rw (is, e) (last_unmapped size marks (2 ^ 64 - 1) n fits (omega arith))

  pub offset_span : span_mapped size marks o n ≡ span_mapped_at size marks base a n
  offset_span = span_by (reached base a n) refl

  there_by : (t : Bool) → reached base a n ≡ t → span_mapped size marks o n ≡ true → o ≡ a - base
  unfolding offset_at pick
  there_by true e m = rw (is, e)
  there_by false e m = let i = span_in_lem size marks o n m in let l : o ≡ 2 ^ 64 - 1 = rw (is, e) in absurd (omega arith)

  -- bytes that are mapped there were reached
  pub offset_there : span_mapped size marks o n ≡ true → o ≡ a - base
  offset_there = there_by (reached base a n) refl

-- ---- a refusal leaves the same, whatever would have been written
pub leaves_same : {A : Type 0} (code : Code) (old new other x : A) (r : Code) → (code ≡ PASSES → new ≡ other) → Leaves code old new x r → Leaves code old other x r
unfolding unless_refused
leaves_same (Ok u) old new other x r e l = record { says = l.says; leaves = l.leaves ∙ e refl }
leaves_same (Err k) old new other x r e l = record { says = l.says; leaves = l.leaves }

-- ---- an offset that stands where a test holds tells how the test went
pub some_picked : (o : ℕ) (t : Bool) (p : RVA) → pick t (Some (rva o)) None ≡ Some p → (t ≡ true) × (p ≡ rva o)
unfolding pick
some_picked o true p h = (refl, cc)
some_picked o false p h = cc

pub none_picked : (o : ℕ) (t : Bool) → pick t (Some (rva o)) None ≡ None → t ≡ false
unfolding pick
none_picked o true h = cc
none_picked o false h = refl

-- ---- what an operation says and leaves, by the code of its check: a refusal is handed on, and what passes is written
module _ {A : Type 0} (code : Code) (old new : A) where
  pub leaves_kept : (k : Refusal) (r : Code) → code ≡ Err k → r ≡ Err k → Leaves code old new old r
  unfolding unless_refused
  leaves_kept k r e q = record { says = q ∙ sym e; leaves = rw e }

  pub leaves_new : (x : A) → code ≡ PASSES → x ≡ new → Leaves code old new x (Ok tt)
  unfolding unless_refused
  leaves_new x e q = record { says = sym e; leaves = rw e q }
