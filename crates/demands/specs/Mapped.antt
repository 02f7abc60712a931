-- After an accepted load no patch call is refused but for its position (01, "Patch"): the fix list reads back as the load's fixups, and each of them is mapped.
use Rattle.std.specs.Prelude.{◌≡◌, List, ◌++◌, ◌⊎◌, length}
use Rattle.std.proofs.Common.{ap, subst, ◌∙◌, append-nil}
use Rattle.std.proofs.Math.Bool.{true}
use Rattle.std.proofs.Math.Logic.{⊎_elim}
use Prim.Native.Nat.{ℕ, ◌+◌, ◌-◌, ◌*◌, ◌/◌, ◌%◌, ◌^◌, ◌≤◌, ◌<◌, max}
use native.Mathlib.Omega.{arith}
use Rattle.std.proofs.Math.Dec.{leb}
use Rattle.std.proofs.Math.Seq.{drop-length}
use borrow.Author.Tests.{le-leb, leb-true}
use Rattle.util.specs.Pick.{pick, yes_no}
use Rattle.util.specs.Prefix.{all_of}
use Rattle.le.specs.Le.{splice, splice_front}
use Rattle.arch.specs.Page.{PAGE_SIZE}
use Rattle.pagemap.specs.Pages.{storage_ok, span_mapped}
use Rattle.aspace.specs.Space.{reached, span_mapped_at}
use Rattle.object.specs.Format.{header_of}
use Rattle.object.specs.Section.{relocation_count}
use Rattle.limits.specs.Limits.{MAX_PAGES, MAX_BASE}
use Rattle.limits.specs.Records.{FIXUP_BYTES}
use Rattle.fixups.specs.declared.Fix.{Fix}
use Rattle.fixups.specs.Value.{value_of}
use Rattle.survey.specs.Survey.{outcomes}
use Rattle.lists.specs.RelocationLaws.{length_fixes, fix_place, fix_bits, fix_value}
use Rattle.marks.specs.Marks.{WORD_BYTES, words_for}
use Rattle.marks.specs.PutLaws.{length_marks}
use Rattle.pagemap.specs.PageLaws.{mark_spans, mark_storage}
use Rattle.patch.specs.Fixes.{fix_count, place_at, bits_at, value_at, fix_ok}
use Rattle.patch.specs.Patch.{portion, portion_ok, patch_code}
use Rattle.demands.specs.Origin.{fixups_of, fixup_at, no_fixup}
use Rattle.demands.specs.Counted.{pages_of, marks_of, fix_table_of}
use Rattle.demands.specs.Applying.{plain_code}

-- a run put over itself
pub splice_self : (l : List ℕ) → splice l 0 l ≡ l
splice_self l = splice_front l l (omega arith) ∙ ap (λ (t : List ℕ). l ++ t) (drop-length l) ∙ append-nil l

-- ---- the fix list, read back
pub record FixupPlaced (f : List ℕ) (x : Fix) : Type 0 where
  pub bits : (x.bits ≡ 32) ⊎ (x.bits ≡ 64)
  pub inside : x.place.0 + x.bits / 8 ≤ PAGE_SIZE * pages_of f

pub fixes_counted : (f : List ℕ) (base : ℕ) → fix_count (fix_table_of f base) ≡ length (fixups_of f)
fixes_counted f base =
    let e : length (fix_table_of f base) ≡ FIXUP_BYTES * length (fixups_of f) = length_fixes base (outcomes f (header_of f)) (relocation_count f (header_of f)) (header_of f).sections in
    omega arith

module _ (f : List ℕ) (base : ℕ) (low : base ≤ MAX_BASE) (few : pages_of f ≤ MAX_PAGES) (placed : (k : ℕ) → k < length (fixups_of f) → FixupPlaced f (fixup_at f k)) where
  module _ (k : ℕ) (inside : k < length (fixups_of f)) where
    room : FIXUP_BYTES * length (fixups_of f) ≤ length (fix_table_of f base)
    room =
        let e : length (fix_table_of f base) ≡ FIXUP_BYTES * length (fixups_of f) = length_fixes base (outcomes f (header_of f)) (relocation_count f (header_of f)) (header_of f).sections in
        omega arith

    pub place_fits : (fixup_at f k).place.0 + (fixup_at f k).bits / 8 ≤ 2 ^ 24
    place_fits = let p = (placed k inside).inside in omega arith

    pub place_back : place_at (fix_table_of f base) k ≡ base + (fixup_at f k).place.0
    place_back =
        let t = fix_place base (outcomes f (header_of f)) (relocation_count f (header_of f)) (header_of f).sections k (fix_table_of f base) no_fixup room inside in
        let e : place_at (fix_table_of f base) k ≡ (base + (fixup_at f k).place.0) % 2 ^ 64 = rw (splice_self (fix_table_of f base)) at t in
        let q = place_fits in
        e ∙ omega arith

    pub bits_back : bits_at (fix_table_of f base) k ≡ (fixup_at f k).bits
    bits_back =
        let t = fix_bits base (outcomes f (header_of f)) (relocation_count f (header_of f)) (header_of f).sections k (fix_table_of f base) no_fixup room inside in
        let e : bits_at (fix_table_of f base) k ≡ (fixup_at f k).bits % 2 ^ 64 = rw (splice_self (fix_table_of f base)) at t in
        e ∙ ⊎_elim (λ n. rw n) (λ n. rw n) (placed k inside).bits

    pub value_back : value_at (fix_table_of f base) k ≡ value_of base (fixup_at f k)
    value_back =
        let t = fix_value base (outcomes f (header_of f)) (relocation_count f (header_of f)) (header_of f).sections k (fix_table_of f base) no_fixup room inside in
        rw (splice_self (fix_table_of f base)) at t

  -- ---- each is mapped
  marks_room : WORD_BYTES * words_for (pages_of f) ≤ length (marks_of f)
  marks_room = let e = length_marks (pages_of f) (words_for (pages_of f)) in omega arith

  span_mapped_lem : (o n : ℕ) → 0 < n → o + n ≤ PAGE_SIZE * pages_of f → span_mapped (PAGE_SIZE * pages_of f) (marks_of f) o n ≡ true
  span_mapped_lem o n p h =
      subst (λ (m : List ℕ). span_mapped (PAGE_SIZE * pages_of f) m o n ≡ true) (splice_self (marks_of f))
      (mark_spans (pages_of f) (marks_of f) marks_room (PAGE_SIZE * pages_of f) o n (omega arith) p h)

  pub stored_well : storage_ok (PAGE_SIZE * pages_of f) (length (marks_of f)) ≡ true
  stored_well =
      subst (λ (m : List ℕ). storage_ok (PAGE_SIZE * pages_of f) (length m) ≡ true) (splice_self (marks_of f)) (mark_storage (pages_of f) (marks_of f) marks_room)

  span_at_lem : (o n : ℕ) → 0 < n → n ≤ 8 → o + n ≤ PAGE_SIZE * pages_of f → span_mapped_at (PAGE_SIZE * pages_of f) (marks_of f) base (base + o) n ≡ true
  unfolding span_mapped_at reached
  span_at_lem o n p w h =
      let d : base + o - base ≡ o = omega arith in
      let a : leb base (base + o) ≡ true = le-leb base (base + o) (omega arith) in
      let b : leb (base + o + max n 1) (2 ^ 64) ≡ true = le-leb (base + o + max n 1) (2 ^ 64) (omega arith) in
      rw (a, b, d, span_mapped_lem o n p h)

  fix_mapped : (k : ℕ) → k < length (fixups_of f) → fix_ok (PAGE_SIZE * pages_of f) (marks_of f) base (fix_table_of f base) k ≡ true
  unfolding fix_ok pick
  fix_mapped k inside =
      let p = placed k inside in
      rw (bits_back k inside, place_back k inside)
      (⊎_elim
      (λ n. let h : (fixup_at f k).place.0 + 4 ≤ PAGE_SIZE * pages_of f = let q : (fixup_at f k).bits / 8 ≡ 4 = rw n in omega (arith, p.inside) in
      rw (n, span_at_lem (fixup_at f k).place.0 4 (omega arith) (omega arith) h))
      (λ n. let h : (fixup_at f k).place.0 + 8 ≤ PAGE_SIZE * pages_of f = let q : (fixup_at f k).bits / 8 ≡ 8 = rw n in omega (arith, p.inside) in
      rw (n, span_at_lem (fixup_at f k).place.0 8 (omega arith) (omega arith) h))
      p.bits)

  portion_mapped : (number position : ℕ) → position ≤ fix_count (fix_table_of f base)
      → portion_ok (PAGE_SIZE * pages_of f) (marks_of f) base (fix_table_of f base) position (portion (fix_count (fix_table_of f base)) number position) ≡ true
  portion_mapped number position h =
      let c = fixes_counted f base in
      all_of (λ k. fix_ok (PAGE_SIZE * pages_of f) (marks_of f) base (fix_table_of f base) (position + k)) (portion (fix_count (fix_table_of f base)) number position)
      (λ k l. fix_mapped (position + k) (omega arith))

  pub only_position : (number position : ℕ) → patch_code (PAGE_SIZE * pages_of f) (marks_of f) base (fix_table_of f base) number position ≡ plain_code (fix_count (fix_table_of f base)) position
  unfolding patch_code pick
  only_position number position =
      ⊎_elim
      (λ b. rw (b, stored_well, portion_mapped number position (leb-true position (fix_count (fix_table_of f base)) b)))
      (λ b. rw b)
      (yes_no (leb position (fix_count (fix_table_of f base))))
