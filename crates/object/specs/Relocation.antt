-- Relocation records (01, "Records"; PE/COFF, "COFF Relocations").
use Rattle.std.specs.Prelude.{◌≡◌, Bool, List, ℕ, ◌+◌, ◌*◌, ◌≤◌}
use Rattle.std.proofs.Math.Path.{ap}
use Rattle.std.proofs.Common.{◌∙◌}
use Rattle.std.proofs.Math.Bool.{true, false}
use native.Mathlib.Omega.{arith}
use Rattle.std.proofs.Math.ListN.{length, get_or}
use Rattle.util.specs.Pick.{pick}
use Rattle.le.specs.Le.{get, part, get_same, part_at, part_most}
use Rattle.object.specs.declared.Header.{Header}
use Rattle.object.specs.declared.Records.{Records}
use Rattle.object.specs.declared.Relocation.{Relocation}
use Rattle.object.specs.Format.{RELOCATION_SIZE, RELOCATION_SYMBOL_AT, RELOCATION_TYPE_AT, relocation_pointer}
use Rattle.object.specs.Section.{extended, relocation_count, relocation_start}

-- the record that starts at a place of the file
unfoldable pub relocation_in : List ℕ → ℕ → Relocation
relocation_in f at = record { address = get 4 f at; symbol = get 4 f (at + RELOCATION_SYMBOL_AT); typ = get 2 f (at + RELOCATION_TYPE_AT) }

-- ---- record k of section i
module _ (f : List ℕ) (h : Header) (i k : ℕ) where
  -- where it starts in the file
  abbrev pub relocation_at : ℕ
  relocation_at = relocation_start f h i + RELOCATION_SIZE * k

  -- its three fields
  abbrev pub relocation : Relocation
  relocation = relocation_in f relocation_at

  -- VirtualAddress: how far into its section the place lies
  abbrev pub relocation_address : ℕ
  relocation_address = get 4 f relocation_at

  -- SymbolTableIndex: the number of a symbol record, auxiliary ones counted
  abbrev pub relocation_symbol : ℕ
  relocation_symbol = get 4 f (relocation_at + RELOCATION_SYMBOL_AT)

  -- Type: a number of the machine's own table
  abbrev pub relocation_type : ℕ
  relocation_type = get 2 f (relocation_at + RELOCATION_TYPE_AT)

-- ---- what is found once for a section: its relocation pointer, which record is its relocation 0, and how many there are
unfoldable pub records_of : List ℕ → Header → ℕ → Records
records_of f h i = record { pointer = relocation_pointer f h i; first = pick (extended f h i) 1 0; count = relocation_count f h i }

-- where its relocation k starts (`record_place`)
unfoldable pub record_at : Records → ℕ → ℕ
record_at r k = r.pointer + RELOCATION_SIZE * (r.first + k)

-- the bytes of these records, as far as the file has them
unfoldable pub record_bytes : List ℕ → Records → List ℕ
record_bytes f r = part f (record_at r 0) (RELOCATION_SIZE * r.count)

module _ (f : List ℕ) (h : Header) (i : ℕ) where
  places : (b : Bool) (p k : ℕ) → p + RELOCATION_SIZE * (pick b 1 0 + k) ≡ pick b (p + RELOCATION_SIZE) p + RELOCATION_SIZE * k
  unfolding pick
  places true p k = omega arith
  places false p k = omega arith

  -- the place by what is found once is that of record k
  pub record_place : (k : ℕ) → record_at (records_of f h i) k ≡ relocation_at f h i k
  unfolding record_at records_of relocation_start
  record_place k = places (extended f h i) (relocation_pointer f h i) k

  -- so with these found once, what is read is relocation k, with its symbol
  pub count_read : (rs : Records) → rs ≡ records_of f h i → rs.count ≡ relocation_count f h i
  unfolding records_of
  count_read rs e = rw e

  module _ (rs : Records) (r : Relocation) (k : ℕ) (is : rs ≡ records_of f h i) (read : r ≡ relocation_in f (record_at rs k)) where
    pub relocation_read : r ≡ relocation f h i k
    relocation_read = read ∙ ap (λ (x : Records). relocation_in f (record_at x k)) is ∙ ap (relocation_in f) (record_place k)

    pub symbol_read : r.symbol ≡ relocation_symbol f h i k
    unfolding relocation_in
    symbol_read = rw relocation_read

    -- and the bytes at its place among those of all have its symbol
    pub symbol_part : (t : List ℕ) → t ≡ record_bytes f rs → RELOCATION_SIZE * k + RELOCATION_SIZE ≤ length t → get 4 t (RELOCATION_SIZE * k + RELOCATION_SYMBOL_AT) ≡ r.symbol
    unfolding record_bytes record_at relocation_in
    symbol_part t e room =
        let b : RELOCATION_SIZE * k + RELOCATION_SIZE ≤ length (part f (rs.pointer + RELOCATION_SIZE * (rs.first + 0)) (RELOCATION_SIZE * rs.count)) = rw e at room in
        let m = part_most f (rs.pointer + RELOCATION_SIZE * (rs.first + 0)) (RELOCATION_SIZE * rs.count) in
        rw (e, read)
        (get_same 4 (part f (rs.pointer + RELOCATION_SIZE * (rs.first + 0)) (RELOCATION_SIZE * rs.count)) f (RELOCATION_SIZE * k + RELOCATION_SYMBOL_AT) (rs.pointer + RELOCATION_SIZE * (rs.first + k) + RELOCATION_SYMBOL_AT)
        (λ d p.
        let z : rs.pointer + RELOCATION_SIZE * (rs.first + 0) + (RELOCATION_SIZE * k + RELOCATION_SYMBOL_AT + d) ≡ rs.pointer + RELOCATION_SIZE * (rs.first + k) + RELOCATION_SYMBOL_AT + d = omega arith in
        part_at f (rs.pointer + RELOCATION_SIZE * (rs.first + 0)) (RELOCATION_SIZE * rs.count) (RELOCATION_SIZE * k + RELOCATION_SYMBOL_AT + d) (omega arith) ∙ ap (λ (y : ℕ). get_or f y 0) z))
