-- The short test of a fixup: where every page of the image is mapped, its bytes need only lie in the image.
use Rattle.std.specs.Prelude.{◌≡◌, ℕ, ◌+◌, ◌-◌, ◌%◌, ◌^◌, ◌<◌, ◌≤◌, max, Bool, true, ◌&&◌, leb, List, ◌==◌, nat_le}
use Rattle.std.proofs.Common.{sym, ◌∙◌, ⊎_elim, arith}
use borrow.Author.Tests.{le-leb, leb-true}
use Rattle.util.specs.Pick.{pick, yes_no, both_ways, and_left, and_right, and_both}
use Rattle.util.specs.Prefix.{all_to, all_at, all_of}
use Rattle.arch.specs.Page.{PAGE_SIZE, page_of}
use Rattle.marks.specs.Marks.{all_marked}
use Rattle.marks.specs.MarkLaws.{pages_at}
use Rattle.pagemap.specs.Pages.{lent_pages, span_mapped}
use Rattle.pagemap.specs.PageLaws.{mapped_of, span_of, span_in_lem}
use Rattle.aspace.specs.Space.{reached, span_mapped_at}
use Rattle.patch.specs.Fixes.{NARROW, WIDE_BYTES, place_at, bits_at, width_of, known_bits, fix_ok}
use Rattle.patch.specs.Patch.{portion_ok}

-- n bytes from the address a lie in an image of `size` bytes at the base
unfoldable pub span_in : ℕ → ℕ → ℕ → ℕ → Bool
span_in size base a n = nat_le base a && nat_le (a + n) (base + size)

-- fixup k: its width is known, and its bytes lie in the image
unfoldable pub fix_in : ℕ → ℕ → List ℕ → ℕ → Bool
fix_in size base fixes k = known_bits (bits_at fixes k) && span_in size base (place_at fixes k) (width_of (bits_at fixes k))

-- each of n fixups from p on
abbrev pub portion_in : ℕ → ℕ → List ℕ → ℕ → ℕ → Bool
portion_in size base fixes p n = all_to (λ k. fix_in size base fixes (p + k)) n

-- every page of the image is marked; it has room for a fixup, and ends below 2 ^ 64 at the base
unfoldable pub all_mapped : ℕ → List ℕ → ℕ → Bool
all_mapped size marks base = (nat_le WIDE_BYTES size && nat_le size (2 ^ 64 - 1 - base)) && all_marked marks 0 (lent_pages size)

width_some : (bits : ℕ) → 0 < width_of bits
unfolding pick
width_some bits = ⊎_elim (λ e. rw e (omega arith)) (λ e. rw e (omega arith)) (yes_no (bits == NARROW))

-- ---- bytes that are mapped lie in the image
module _ (size : ℕ) (marks : List ℕ) (base a n : ℕ) where
  span_inside : span_mapped_at size marks base a n ≡ true → span_in size base a n ≡ true
  unfolding span_mapped_at reached span_in
  span_inside e =
      let r = and_left (reached base a n) (span_mapped size marks (a - base) n) e in
      let m = and_right (reached base a n) (span_mapped size marks (a - base) n) e in
      let b = and_left (nat_le base a) (nat_le (a + max n 1) (2 ^ 64)) r in
      let h = leb-true base a b in
      let i = span_in_lem size marks (a - base) n m in
      and_both (nat_le base a) (nat_le (a + n) (base + size)) b (le-leb (a + n) (base + size) (omega arith))

  -- and where every page is marked, those that lie in it are mapped
  module _ (whole : size % PAGE_SIZE ≡ 0) (below : base + size < 2 ^ 64) (all : all_marked marks 0 (lent_pages size) ≡ true) (some : 0 < n) where
    inside_span : span_in size base a n ≡ true → span_mapped_at size marks base a n ≡ true
    unfolding span_mapped_at reached span_in
    inside_span e =
        let h = leb-true base a (and_left (nat_le base a) (nat_le (a + n) (base + size)) e) in
        let i = leb-true (a + n) (base + size) (and_right (nat_le base a) (nat_le (a + n) (base + size)) e) in
        and_both (nat_le base a && nat_le (a + max n 1) (2 ^ 64)) (span_mapped size marks (a - base) n)
        (and_both (nat_le base a) (nat_le (a + max n 1) (2 ^ 64)) (le-leb base a h) (le-leb (a + max n 1) (2 ^ 64) (omega arith)))
        (span_of size marks (a - base) n
        (λ k l. mapped_of size marks (a - base + k) (omega arith) (pages_at marks 0 (lent_pages size) (page_of (a - base + k)) all (omega arith) (omega arith))))

    span_same : span_mapped_at size marks base a n ≡ span_in size base a n
    span_same = both_ways (span_mapped_at size marks base a n) (span_in size base a n) span_inside inside_span

-- ---- so does a fixup that can be applied
module _ (size : ℕ) (marks : List ℕ) (base : ℕ) (fixes : List ℕ) where
  fix_inside : (k : ℕ) → fix_ok size marks base fixes k ≡ true → fix_in size base fixes k ≡ true
  unfolding fix_ok fix_in
  fix_inside k e =
      let b : Bool = known_bits (bits_at fixes k) in
      let w : ℕ = width_of (bits_at fixes k) in
      let s = span_mapped_at size marks base (place_at fixes k) w in
      and_both b (span_in size base (place_at fixes k) w) (and_left b s e) (span_inside size marks base (place_at fixes k) w (and_right b s e))

  pub portion_inside : (p n : ℕ) → portion_ok size marks base fixes p n ≡ true → portion_in size base fixes p n ≡ true
  portion_inside p n e =
      all_of (λ k. fix_in size base fixes (p + k)) n (λ k l. fix_inside (p + k) (all_at (λ k. fix_ok size marks base fixes (p + k)) n k e l))

-- ---- where every page is marked the two tests are one
module _ (size : ℕ) (marks : List ℕ) (base : ℕ) (all : all_mapped size marks base ≡ true) where
  tests : leb WIDE_BYTES size && nat_le size (2 ^ 64 - 1 - base) ≡ true
  unfolding all_mapped
  tests = and_left (nat_le WIDE_BYTES size && nat_le size (2 ^ 64 - 1 - base)) (all_marked marks 0 (lent_pages size)) all

  pub mapped_room : WIDE_BYTES ≤ size
  mapped_room = leb-true WIDE_BYTES size (and_left (nat_le WIDE_BYTES size) (nat_le size (2 ^ 64 - 1 - base)) tests)

  pub mapped_below : base + size < 2 ^ 64
  mapped_below =
      let h = leb-true size (2 ^ 64 - 1 - base) (and_right (nat_le WIDE_BYTES size) (nat_le size (2 ^ 64 - 1 - base)) tests) in
      let r = mapped_room in
      omega arith

  mapped_marks : all_marked marks 0 (lent_pages size) ≡ true
  unfolding all_mapped
  mapped_marks = and_right (nat_le WIDE_BYTES size && nat_le size (2 ^ 64 - 1 - base)) (all_marked marks 0 (lent_pages size)) all

module _ (size : ℕ) (marks : List ℕ) (base : ℕ) (fixes : List ℕ) (whole : size % PAGE_SIZE ≡ 0) (all : all_mapped size marks base ≡ true) where
  fix_same : (k : ℕ) → fix_in size base fixes k ≡ fix_ok size marks base fixes k
  unfolding fix_ok fix_in
  fix_same k =
      rw (span_same size marks base (place_at fixes k) (width_of (bits_at fixes k)) whole (mapped_below size marks base all) (mapped_marks size marks base all) (width_some (bits_at fixes k)))

  pub portion_same : (p n : ℕ) → portion_in size base fixes p n ≡ portion_ok size marks base fixes p n
  portion_same p n =
      both_ways (portion_in size base fixes p n) (portion_ok size marks base fixes p n)
      (λ e. all_of (λ k. fix_ok size marks base fixes (p + k)) n (λ k l. sym (fix_same (p + k)) ∙ all_at (λ k. fix_in size base fixes (p + k)) n k e l))
      (portion_inside size marks base fixes p n)
