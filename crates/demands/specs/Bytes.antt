-- A byte of the image once fixups are applied: that of the latest which covers it, else what stood there.
use Rattle.std.proofs.Math.Path.{◌≡◌, refl, ap}
use Rattle.std.proofs.Common.{◌∙◌}
use Rattle.std.proofs.Math.Bool.{true, false}
use mathlib.Core.List.{List, [], ◌∷◌}
use Rattle.std.specs.Prelude.{◌⊎◌, ℕ, ◌+◌, ◌-◌, ◌*◌, ◌/◌, ◌≤◌, ◌<◌, length}
use Rattle.std.proofs.Math.Logic.{⊎_elim}
use Rattle.std.proofs.Math.Option.{Option, none, some}
use native.Mathlib.Omega.{arith}
use Rattle.std.proofs.Math.Dec.{leb, ltb}
use Rattle.std.proofs.Math.ListN.{get_or}
use borrow.Author.Tests.{leb-true, ltb-true, le-leb, lt-ltb}
use Rattle.util.specs.Pick.{pick, yes_no, le_or_lt, and_left, and_right}
use Rattle.le.specs.Le.{le, splice, splice_in, splice_below, splice_above, length_le, length_splice}
use Rattle.arch.specs.Page.{PAGE_SIZE}
use Rattle.limits.specs.Limits.{MAX_PAGES, MAX_BASE}
use Rattle.fixups.specs.declared.Fix.{Fix}
use Rattle.fixups.specs.Value.{value_of}
use Rattle.patch.specs.Fixes.{width_of, fixed}
use Rattle.demands.specs.Origin.{fixup_byte, or_else, fixups_of, fixup_at, fixup_place, covers, latest, byte_of}
use Rattle.demands.specs.Counted.{pages_of, fix_table_of}
use Rattle.demands.specs.Applying.{written_at, AllBelow}
use Rattle.demands.specs.Mapped.{FixupPlaced, place_back, bits_back, value_back}

width_fits : (x : Fix) → (x.bits ≡ 32) ⊎ (x.bits ≡ 64) → width_of x.bits ≡ x.bits / 8
unfolding pick
width_fits x b = ⊎_elim (λ n. rw n) (λ n. rw n) b

module _ (f : List ℕ) (base : ℕ) (low : base ≤ MAX_BASE) (few : pages_of f ≤ MAX_PAGES) (placed : (k : ℕ) → k < length (fixups_of f) → FixupPlaced f (fixup_at f k)) where
  -- what fixup k putsByte at offset d
  abbrev pub puts_byte : ℕ → ℕ → ℕ
  puts_byte d k = byte_of f base (fixup_byte k (base + d - fixup_place f base k))

  module _ (image : List ℕ) (long : length image ≡ PAGE_SIZE * pages_of f) (d k : ℕ) (inside : k < length (fixups_of f)) where
    abbrev x : Fix
    x = fixup_at f k

    fixed_is : fixed base (fix_table_of f base) image k ≡ splice image x.place.0 (le (width_of x.bits) (value_of base x))
    unfolding fixed
    fixed_is =
        let p : base + x.place.0 - base ≡ x.place.0 = omega arith in
        rw (place_back f base low few placed k inside, bits_back f base low few placed k inside, value_back f base low few placed k inside, p)

    width_is : width_of x.bits ≡ x.bits / 8
    width_is = width_fits x (placed k inside).bits

    fixed_in : covers f base (base + d) k ≡ true → get_or (fixed base (fix_table_of f base) image k) d 0 ≡ puts_byte d k
    unfolding covers byte_of
    fixed_in e =
        let a : base + x.place.0 ≤ base + d = leb-true _ _ (and_left _ _ e) in
        let b : base + d < base + x.place.0 + width_of x.bits = ltb-true _ _ (and_right (leb (base + x.place.0) (base + d)) _ e) in
        let m = (placed k inside).inside in
        let w = width_is in
        let j : x.place.0 + (d - x.place.0) ≡ d = omega arith in
        let q : base + d - (base + x.place.0) ≡ d - x.place.0 = omega arith in
        let t = splice_in image x.place.0 (le (width_of x.bits) (value_of base x)) (d - x.place.0) (rw length_le (omega arith)) (omega arith) in
        let t' : get_or (splice image x.place.0 (le (width_of x.bits) (value_of base x))) d 0 ≡ get_or (le (width_of x.bits) (value_of base x)) (d - x.place.0) 0 = rw j at t in
        rw (fixed_is, q) t'

    fixed_out : covers f base (base + d) k ≡ false → get_or (fixed base (fix_table_of f base) image k) d 0 ≡ get_or image d 0
    unfolding covers
    fixed_out e =
        ap (λ (l : List ℕ). get_or l d 0) fixed_is
        ∙ ⊎_elim
        (λ a.
        ⊎_elim
        (λ b. splice_above image x.place.0 (le (width_of x.bits) (value_of base x)) d (rw length_le b))
        (λ b.
        absurd
        (let p : leb (base + x.place.0) (base + d) ≡ true = le-leb (base + x.place.0) (base + d) (omega arith) in
        let q : ltb (base + d) (base + x.place.0 + width_of x.bits) ≡ true = lt-ltb (base + d) (base + x.place.0 + width_of x.bits) (omega arith) in
        let z : true ≡ false = rw (p, q) at e in
        let w : ◌≡◌ {A = ℕ} 0 1 = cc in
        omega arith))
        (le_or_lt (x.place.0 + width_of x.bits) d))
        (λ b. splice_below image x.place.0 (le (width_of x.bits) (value_of base x)) d b)
        (le_or_lt x.place.0 d)

  -- ---- the latest
  abbrev pub seen : List ℕ → ℕ → Option ℕ → ℕ
  seen image d none = get_or image d 0
  seen image d (some k) = puts_byte d k

  seen_or : (image now : List ℕ) (d : ℕ) (o y : Option ℕ) → get_or now d 0 ≡ seen image d y → seen now d o ≡ seen image d (or_else o y)
  seen_or image now d none y e = e
  seen_or image now d (some k) y e = refl

  seen_one : (image : List ℕ) (d k : ℕ) → length image ≡ PAGE_SIZE * pages_of f → k < length (fixups_of f)
      → get_or (fixed base (fix_table_of f base) image k) d 0 ≡ seen image d (pick (covers f base (base + d) k) (some k) none)
  unfolding pick
  seen_one image d k long inside =
      ⊎_elim (λ e. rw e (fixed_in image long d k inside e)) (λ e. rw e (fixed_out image long d k inside e)) (yes_no (covers f base (base + d) k))

  length_one : (image : List ℕ) (k : ℕ) → length (fixed base (fix_table_of f base) image k) ≡ length image
  unfolding fixed
  length_one image k = length_splice _ _ _

  pub written_byte : (ks image : List ℕ) (d : ℕ) → length image ≡ PAGE_SIZE * pages_of f → AllBelow (length (fixups_of f)) ks
      → get_or (written_at base (fix_table_of f base) image ks) d 0 ≡ seen image d (latest f base (base + d) ks)
  unfolding written_at latest
  written_byte [] image d long all = refl
  written_byte (k ∷ ks) image d long all =
      written_byte ks (fixed base (fix_table_of f base) image k) d (length_one image k ∙ long) all.1
      ∙ seen_or image (fixed base (fix_table_of f base) image k) d (latest f base (base + d) ks) (pick (covers f base (base + d) k) (some k) none) (seen_one image d k long all.0)
