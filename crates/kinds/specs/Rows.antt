-- The code's tables of types, a byte a row: row t unpacked is what the definition says of type t, by one computed test over all rows.
use Rattle.std.specs.Prelude.{◌≡◌, refl, Bool, true, ◌&&◌, List, [], ◌∷◌, ℕ, ◌+◌, ◌*◌, ◌/◌, ◌%◌, ◌≤◌, eqb, leb, get_or, length}
use Rattle.std.proofs.Common.{ap, ◌∙◌, ⊎_elim, arith, lit≤, eqb-true, ne_eqb}
use Rattle.std.proofs.Math.Bool.{and-false}
use Rattle.std.proofs.Math.ListN.{get_or-eq_default}
use Rattle.std.proofs.lemmas.Bool.{lt-leb}
use Rattle.util.specs.Pick.{pick, and_left, and_right, le_or_lt}
use Rattle.arch.specs.declared.Arch.{Arch}
use Rattle.arch.specs.declared.Arch.TheVariants.{X32, X64}
use Rattle.util.specs.Prefix.{all_to, all_at}
use Rattle.kinds.specs.declared.RelocationKind.{RelocationKind}
use Rattle.kinds.specs.declared.RelocationKind.TheVariants.{Absolute, ImageOffset, SectionOffset, Relative, NotCarried, Unknown}
use Rattle.kinds.specs.declared.RelocationType.{RelocationType}
use Rattle.kinds.specs.Types.{row, minus, unknown, type32, type64, type_of, relocation_kind_number, kind_of_number, kind_back}

-- ---- a row: a byte of three octal digits
-- a distance is counted from n bytes behind its field of four (PE/COFF, REL32 and REL32_1 to REL32_5); the other kinds have no addend
abbrev pub addend_of : RelocationKind → ℕ → ℕ
addend_of Absolute n = 0
addend_of ImageOffset n = 0
addend_of SectionOffset n = 0
addend_of Relative n = minus (4 + n)
addend_of NotCarried n = 0
addend_of Unknown n = 0

-- the first digit is the field's length in words of 32 bits, the second this n, the third the kind's number
unfoldable pub unpacked : ℕ → RelocationType
unpacked b = row (kind_of_number (b % 8)) (b / 64 * 32) (addend_of (kind_of_number (b % 8)) (b / 8 % 8))

-- row t of a table; past the last it is that of an unknown type
unfoldable pub row_in : List ℕ → ℕ → ℕ
row_in rows t = get_or rows t 0o005

-- ---- the code's tables
-- of i386
abbrev pub table32 : List ℕ
table32 =
    0o005 ∷ 0o004 ∷ 0o004 ∷ 0o005 ∷ 0o005 ∷ 0o005 ∷ 0o100 ∷ 0o101 ∷ 0o005 ∷ 0o005 ∷ 0o004 ∷ 0o102 ∷ 0o005 ∷ 0o004 ∷ 0o005 ∷ 0o005 ∷ 0o005 ∷ 0o005 ∷ 0o005 ∷ 0o005 ∷ 0o103 ∷ []

-- of x64
abbrev pub table64 : List ℕ
table64 =
    0o005 ∷ 0o200 ∷ 0o100 ∷ 0o101 ∷ 0o103 ∷ 0o113 ∷ 0o123 ∷ 0o133 ∷ 0o143 ∷ 0o153 ∷ 0o004 ∷ 0o102 ∷ 0o004 ∷ []

-- of a machine
unfoldable pub rows_of : Arch → List ℕ
rows_of X32 = table32
rows_of X64 = table64

-- both together take 64 bytes at most (02, N4)
pub rows_small : length (rows_of X32) + length (rows_of X64) ≤ 64
unfolding rows_of
rows_small = lit≤ tt

-- ---- each says what the definition says
-- of one row
unfoldable right : List ℕ → (ℕ → RelocationType) → ℕ → Bool
right table type i =
    let t = unpacked (row_in table i) in
    eqb (relocation_kind_number t.kind) (relocation_kind_number (type i).kind) && (eqb t.bits (type i).bits && eqb t.addend (type i).addend)

-- two types whose kinds have one number, whose bits and whose addends are alike are one
same_type : (x y : RelocationType) → relocation_kind_number x.kind ≡ relocation_kind_number y.kind → x.bits ≡ y.bits → x.addend ≡ y.addend → x ≡ y
same_type x y k b a = rw (← kind_back x.kind, k, kind_back y.kind, b, a)

row_right : (table : List ℕ) (type : ℕ → RelocationType) (i : ℕ) → right table type i ≡ true → unpacked (row_in table i) ≡ type i
unfolding right
row_right table type i e =
    let t = unpacked (row_in table i) in
    let k = eqb (relocation_kind_number t.kind) (relocation_kind_number (type i).kind) in
    let b = eqb t.bits (type i).bits in
    let a = eqb t.addend (type i).addend in
    let r : b && a ≡ true = and_right k (b && a) e in
    same_type t (type i) (eqb-true _ _ (and_left k (b && a) e)) (eqb-true _ _ (and_left b a r)) (eqb-true _ _ (and_right b a r))

past_row : (table : List ℕ) (t : ℕ) → length table ≤ t → unpacked (row_in table t) ≡ unknown
unfolding row_in unpacked kind_of_number pick
past_row table t h = rw (get_or-eq_default table 0o005 h)

table_right : (table : List ℕ) (type : ℕ → RelocationType) (t : ℕ) → all_to (right table type) (length table) ≡ true → (length table ≤ t → unknown ≡ type t) → unpacked (row_in table t) ≡ type t
table_right table type t e past =
    ⊎_elim (λ h. past_row table t h ∙ past h) (λ h. row_right table type t (all_at (right table type) (length table) t e h)) (le_or_lt (length table) t)

-- past the last row
past32 : (t : ℕ) → 21 ≤ t → unknown ≡ type32 t
unfolding type32 pick
past32 t h =
    rw (
      ne_eqb t 6 (λ e. omega arith),
      ne_eqb t 7 (λ e. omega arith),
      ne_eqb t 0xB (λ e. omega arith),
      ne_eqb t 0x14 (λ e. omega arith),
      ne_eqb t 1 (λ e. omega arith),
      ne_eqb t 2 (λ e. omega arith),
      ne_eqb t 0xA (λ e. omega arith),
      ne_eqb t 0xD (λ e. omega arith),
    )

past64 : (t : ℕ) → 13 ≤ t → unknown ≡ type64 t
unfolding type64 pick
past64 t h =
    rw (
      ne_eqb t 2 (λ e. omega arith),
      ne_eqb t 1 (λ e. omega arith),
      ne_eqb t 3 (λ e. omega arith),
      ne_eqb t 0xB (λ e. omega arith),
      lt-leb t 9 (omega arith),
      and-false (leb 4 t),
      ne_eqb t 0xA (λ e. omega arith),
      ne_eqb t 0xC (λ e. omega arith),
    )

row_type_32 : (t : ℕ) → unpacked (row_in table32 t) ≡ type32 t
unfolding all_to right unpacked kind_of_number row_in type32 pick
row_type_32 t = table_right table32 type32 t refl (past32 t)

row_type_64 : (t : ℕ) → unpacked (row_in table64 t) ≡ type64 t
unfolding all_to right unpacked kind_of_number row_in type64 pick
row_type_64 t = table_right table64 type64 t refl (past64 t)

-- every type of both machines
pub row_type : (a : Arch) (t : ℕ) → unpacked (row_in (rows_of a) t) ≡ type_of a t
unfolding rows_of type_of
row_type X32 t = row_type_32 t
row_type X64 t = row_type_64 t

-- ---- as the code asks: the table of a machine is lent, and a row of it is a type
module _ (a : Arch) where
  pub rows_x32 : a ≡ X32 → table32 ≡ rows_of a
  unfolding rows_of
  rows_x32 e = rw e

  pub rows_x64 : a ≡ X64 → table64 ≡ rows_of a
  unfolding rows_of
  rows_x64 e = rw e

  pub row_by_rows : (rows : List ℕ) (t b : ℕ) → b ≡ row_in rows t → rows ≡ rows_of a → unpacked b ≡ type_of a t
  row_by_rows rows t b e q = ap unpacked (e ∙ ap (λ (l : List ℕ). row_in l t) q) ∙ row_type a t

  pub type_by_rows : (rows : List ℕ) (t b : ℕ) (x : RelocationType) → x ≡ unpacked b → b ≡ row_in rows t → rows ≡ rows_of a → x ≡ type_of a t
  type_by_rows rows t b x z e q = z ∙ row_by_rows rows t b e q

pub ruleset by_table = (rows_x32, rows_x64, type_by_rows)
