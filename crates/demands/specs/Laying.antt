-- A byte of the laid image: its slot's, else its section's file byte, else zero.
use Rattle.std.specs.Prelude.{◌≡◌, Bool, false, ◌&&◌, List, length}
use Rattle.std.proofs.Common.{subst}
use Rattle.std.proofs.Math.Bool.{true}
use Rattle.std.proofs.Math.Logic.{⊎_elim}
use Rattle.std.proofs.Math.Option.{Option, none, some}
use Prim.Native.Nat.{ℕ, zero, suc, ◌+◌, ◌-◌, ◌*◌, ◌/◌, ◌%◌, ◌≤◌, ◌<◌}
use native.Mathlib.Omega.{arith}
use Rattle.std.proofs.Math.Dec.{leb, ltb}
use Rattle.std.proofs.Math.ListN.{get_or}
use borrow.Author.Tests.{leb-true, ltb-true, ltb-false, le-leb, lt-ltb}
use Rattle.util.specs.Pick.{pick, yes_no, le_or_lt, and_left, and_right, not_both}
use Rattle.arch.specs.Page.{PAGE_SIZE}
use Rattle.le.specs.Le.{le}
use Rattle.object.specs.declared.Header.{Header}
use Rattle.object.specs.Format.{header_of}
use Rattle.object.specs.Section.{loaded, file_start, file_end, range_length}
use Rattle.layout.specs.Layout.{start_at, undef_start}
use Rattle.layout.proofs.LayoutLaws.{ranges_share_none}
use Rattle.object.specs.SectionLaws.{file_range}
use Rattle.limits.specs.Limits.{MAX_PAGES, MAX_EXTERNS}
use Rattle.image.specs.Laid.{laid_image}
use Rattle.image.specs.LaidLaws.{laid_slot, laid_file, laid_zero}
use Rattle.demands.specs.Origin.{slot_byte, or_else, first_below, slots_of, undef_address, in_slots, section_address, in_section, file_origin, laid_origin, byte_of}
use Rattle.demands.specs.Counted.{pages_of}

-- ---- the first number that passes
module _ (p : ℕ → Bool) where
  abbrev FirstIs : ℕ → Option ℕ → Type 0
  FirstIs n none = (i : ℕ) → i < n → p i ≡ false
  FirstIs n (some i) = (i < n) × (p i ≡ true)

  first_more : (n : ℕ) (o : Option ℕ) → FirstIs n o → FirstIs (suc n) (or_else o (pick (p n) (some n) none))
  unfolding pick
  first_more n none h =
      ⊎_elim (λ e. rw e (omega arith, e))
      (λ e. rw e (λ i l. ⊎_elim (λ q. let z : i ≡ n = omega arith in rw z e) (λ q. h i q) (le_or_lt n i)))
      (yes_no (p n))
  first_more n (some i) h = let l = h.0 in (omega arith, h.1)

  first_is : (n : ℕ) → FirstIs n (first_below p n)
  unfolding first_below
  first_is zero = λ i l. absurd (omega arith)
  first_is (suc n) = first_more n (first_below p n) (first_is n)

-- ---- a section's range holds the address
pub record InRange (f : List ℕ) (base a i : ℕ) : Type 0 where
  pub loads : loaded f (header_of f) i ≡ true
  pub from : section_address f base i ≤ a
  pub to : a < section_address f base i + range_length f (header_of f) i

pub in_range : (f : List ℕ) (base a i : ℕ) → in_section f base a i ≡ true → InRange f base a i
unfolding in_section
in_range f base a i e =
    let r = and_right (loaded f (header_of f) i) _ e in
    record {
      loads = and_left (loaded f (header_of f) i) _ e;
      from = leb-true _ _ (and_left _ _ r);
      to = ltb-true _ _ (and_right (leb (section_address f base i) a) _ r);
    }

range_in : (f : List ℕ) (base a i : ℕ) → InRange f base a i → in_section f base a i ≡ true
unfolding in_section
range_in f base a i t =
    rw (t.loads, le-leb (section_address f base i) a t.from, lt-ltb a (section_address f base i + range_length f (header_of f) i) t.to)

module _ (f : List ℕ) (base : ℕ) (image : List ℕ) (few : pages_of f ≤ MAX_PAGES) (names : slots_of f ≤ MAX_EXTERNS) (long : PAGE_SIZE * pages_of f ≤ length image) where
  abbrev h : Header
  h = header_of f

  abbrev now : List ℕ
  now = laid_image f h base (slots_of f) image

  module _ (d : ℕ) (mapped : d < PAGE_SIZE * pages_of f) where
    -- ---- slots
    in_slot : in_slots f base (base + d) ≡ true → get_or now d 0 ≡ byte_of f base (slot_byte ((base + d - undef_address f base) / 4) ((base + d - undef_address f base) % 4))
    unfolding in_slots byte_of
    in_slot e =
        let a : base + undef_start f h ≤ base + d = leb-true _ _ (and_left _ _ e) in
        let b : base + d < base + undef_start f h + 4 * slots_of f = ltb-true _ _ (and_right (leb (base + undef_start f h) (base + d)) _ e) in
        let q : base + d - (base + undef_start f h) ≡ d - undef_start f h = omega arith in
        let w : undef_start f h + 4 * ((d - undef_start f h) / 4) + (d - undef_start f h) % 4 ≡ d = omega arith in
        let t = laid_slot f h base (slots_of f) image few names long ((d - undef_start f h) / 4) ((d - undef_start f h) % 4) (omega arith) (omega arith) in
        rw q (subst (λ (z : ℕ). get_or now z 0 ≡ get_or (le 4 (base + undef_start f h + 4 * ((d - undef_start f h) / 4))) ((d - undef_start f h) % 4) 0) w t)

    no_slot : in_slots f base (base + d) ≡ false → (e : ℕ) → e < slots_of f → undef_start f h + 4 * e ≤ d → d < undef_start f h + 4 * e + 4 → ⊥
    unfolding in_slots
    no_slot n e l a b =
        let p : leb (base + undef_start f h) (base + d) ≡ true = le-leb (base + undef_start f h) (base + d) (omega arith) in
        let q : ltb (base + d) (base + undef_start f h + 4 * slots_of f) ≡ true = lt-ltb (base + d) (base + undef_start f h + 4 * slots_of f) (omega arith) in
        not_both (leb (base + undef_start f h) (base + d) && ltb (base + d) (base + undef_start f h + 4 * slots_of f)) (rw (p, q)) n

    -- ---- file bytes and zeros
    in_file_lem : (i : ℕ) → i < h.sections → InRange f base (base + d) i → ltb (base + d - section_address f base i) (file_end f h i - file_start f h i) ≡ true
        → get_or now d 0 ≡ byte_of f base (file_origin f base (base + d) (some i))
    unfolding file_origin byte_of pick
    in_file_lem i l t e =
        let a = t.from in
        let b : base + d - (base + start_at f h i) < file_end f h i - file_start f h i = ltb-true _ _ e in
        let q : base + d - (base + start_at f h i) ≡ d - start_at f h i = omega arith in
        let w : start_at f h i + (d - start_at f h i) ≡ d = omega arith in
        let r = laid_file f h base (slots_of f) image few names long i (d - start_at f h i) l t.loads (omega arith) in
        rw (e, q) (subst (λ (z : ℕ). get_or now z 0 ≡ get_or f (file_start f h i + (d - start_at f h i)) 0) w r)

    past_file : in_slots f base (base + d) ≡ false → (i : ℕ) → InRange f base (base + d) i → ltb (base + d - section_address f base i) (file_end f h i - file_start f h i) ≡ false
        → get_or now d 0 ≡ byte_of f base (file_origin f base (base + d) (some i))
    unfolding file_origin byte_of pick
    past_file n i t e =
        let a = t.from in
        let b : file_end f h i - file_start f h i ≤ base + d - (base + start_at f h i) = ltb-false _ _ e in
        rw e
        (laid_zero f h base (slots_of f) image few names long d mapped (no_slot n)
        (λ j l u x y.
        let r = file_range f h j in
        let o = t.to in
        let same : j ≡ i = ranges_share_none f h j i d u t.loads x (omega arith) (omega arith) (omega arith) in
        let y' : d < start_at f h i + (file_end f h i - file_start f h i) = rw same at y in
        omega arith))

    file_byte_lem : in_slots f base (base + d) ≡ false → (o : Option ℕ) → FirstIs (in_section f base (base + d)) h.sections o → get_or now d 0 ≡ byte_of f base (file_origin f base (base + d) o)
    unfolding file_origin byte_of
    file_byte_lem n none first =
        laid_zero f h base (slots_of f) image few names long d mapped (no_slot n)
        (λ i l t a b. let r = file_range f h i in not_both (in_section f base (base + d) i) (range_in f base (base + d) i (record { loads = t; from = omega arith; to = omega arith })) (first i l))
    file_byte_lem n (some i) first =
        ⊎_elim (λ e. in_file_lem i first.0 (in_range f base (base + d) i first.1) e) (λ e. past_file n i (in_range f base (base + d) i first.1) e)
        (yes_no (ltb (base + d - section_address f base i) (file_end f h i - file_start f h i)))

    pub laid_byte : get_or now d 0 ≡ byte_of f base (laid_origin f base (base + d))
    unfolding laid_origin pick
    laid_byte =
        ⊎_elim (λ e. rw e (in_slot e))
        (λ e. rw e (file_byte_lem e (first_below (in_section f base (base + d)) h.sections) (first_is (in_section f base (base + d)) h.sections)))
        (yes_no (in_slots f base (base + d)))
