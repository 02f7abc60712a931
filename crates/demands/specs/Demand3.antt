-- The request's third demand, one claim about any list of patch calls that follows an accepted load, and about the same load at any other allowed base.
use Rattle.patch.specs.declared.answer.Progress.{Progress}
use Rattle.refusal.specs.declared.Refusal.{Refusal}
use Rattle.std.specs.Prelude.{◌≡◌, true, false, List, ℕ, ◌+◌, ◌-◌, ◌*◌, ◌/◌, ◌%◌, ◌≤◌, ◌<◌, eqb, leb, pos, length, get_or, replicate, Result, Ok, Err}
use Rattle.std.proofs.Math.Path.{refl}
use Rattle.std.proofs.Common.{sym, ap, ◌∙◌, arith, leb-true}
use Rattle.std.proofs.Math.Logic.{⊎_elim}
use Rattle.std.proofs.Math.Option.{Option, none, some}
use Rattle.std.proofs.Math.ListN.{length-replicate}
use Rattle.util.specs.Pick.{pick, and_right}
use Rattle.arch.specs.Page.{PAGE_SIZE}
use Rattle.le.specs.Le.{get, le}
use Rattle.object.specs.Format.{header_of}
use Rattle.object.specs.Section.{loaded}
use Rattle.layout.specs.Layout.{undef_start}
use Rattle.homes.specs.Home.{section_home}
use Rattle.layout.proofs.LayoutLaws.{ranges_share_none, undef_behind, undef_fits}
use Rattle.fixups.specs.Signed.{signed, slot_keeps}
use Rattle.fixups.specs.Value.{is_relative}
use Rattle.fixups.specs.ValueLaws.{Exact, relative_stays, other_rises, no_bit_lost}
use Rattle.words.specs.Words.{word_of}
use Rattle.survey.specs.declared.answer.Counts.{Counts}
use Rattle.survey.specs.Survey.{survey_of}
use Rattle.survey.specs.Acceptance.{pages_few, names_few}
use Rattle.survey.specs.Acceptance.{fixups_exact, fixups_inside}
use Rattle.image.specs.LaidLaws.{length_laid}
use Rattle.patch.specs.Fixes.{fix_count, place_at, bits_at, value_at, width_of}
use Rattle.patch.specs.Patch.{patch_code}
use Rattle.limits.specs.Limits.{MAX_PAGES, MAX_BASE}
use Rattle.limits.specs.Records.{EXTERN_WORDS, ADDRESS}
use Rattle.checks.specs.Checks.{base_ok}
use Rattle.demands.specs.Calls.{Call, applied, after_calls, answers_to}
use Rattle.demands.specs.Origin.{fixups_of, fixup_at, no_fixup, slots_of, fixup_place, fixup_width, fixup_value, undef_address, slot_value, in_section, latest, origin_by, origin, byte_of}
use Rattle.demands.specs.Counted.{pages_of, image_of, marks_of, fix_table_of, Lent, lent_of}
use Rattle.demands.specs.Applying.{written_at, plain_code, plain_answers, applied_below, calls_write, answers_plain, length_written}
use Rattle.demands.specs.Mapped.{FixupPlaced, fixes_counted, place_back, bits_back, value_back, only_position}
use Rattle.demands.specs.Bytes.{seen, written_byte}
use Rattle.demands.specs.Laying.{in_range, laid_byte}
use Rattle.demands.specs.Moving.{origin_same}
use Rattle.demands.specs.Reading.{RangeRead, UndefRead, range_read, undef_is_read, slot_is_read}

-- the image once the calls are made on what is lent
abbrev pub image_after : ℕ → Lent → List Call → List ℕ
image_after base t calls = after_calls base t.marks t.fixes t.image calls

-- their answers
abbrev pub answers_after : ℕ → Lent → List Call → List (Result Progress Refusal)
answers_after base t calls = answers_to base t.marks t.fixes t.image calls

-- the fixups that the calls apply, the latest last: by their numbers and positions and the list's count alone
abbrev pub applied_to : List ℕ → List Call → List ℕ
applied_to f calls = applied (length (fixups_of f)) calls

-- ---- at a base, of what a load has lent
pub record AtLoad (f : List ℕ) (base : ℕ) (t : Lent) (calls : List Call) : Type 0 where
  -- the section table has the range and the file range of each loaded section, and UNDEF; the extern table has the slots
  pub ranges_read : (i : ℕ) → i < (header_of f).sections → loaded f (header_of f) i ≡ true → RangeRead f base t.sections i
  pub undef_read : UndefRead f base t.sections
  pub slots_read : (e : ℕ) → e < slots_of f → word_of EXTERN_WORDS t.externs e ADDRESS ≡ slot_value f base e
  -- the fix list is the load's fixups
  pub count : fix_count t.fixes ≡ length (fixups_of f)
  pub places : (k : ℕ) → k < length (fixups_of f) → place_at t.fixes k ≡ fixup_place f base k
  pub widths : (k : ℕ) → k < length (fixups_of f) → width_of (bits_at t.fixes k) ≡ fixup_width f base k
  pub values : (k : ℕ) → k < length (fixups_of f) → value_at t.fixes k ≡ fixup_value f base k
  -- a call is refused for its position alone (14), and the answers follow from the calls and the list's count
  pub refused : (number position : ℕ) → patch_code (PAGE_SIZE * pages_of f) t.marks base t.fixes number position ≡ plain_code (length (fixups_of f)) position
  pub answered : answers_after base t calls ≡ plain_answers (length (fixups_of f)) calls
  -- every byte of the image is its origin's
  pub long : length (image_after base t calls) ≡ PAGE_SIZE * pages_of f
  pub bytes : (d : ℕ) → d < PAGE_SIZE * pages_of f → get_or (image_after base t calls) d 0 ≡ byte_of f base (origin f base (applied_to f calls) (base + d))
  -- no address lies in two section ranges, and UNDEF is behind them all
  pub apart : (i j a : ℕ) → in_section f base a i ≡ true → in_section f base a j ≡ true → i ≡ j
  pub behind : (i a : ℕ) → i < (header_of f).sections → in_section f base a i ≡ true → a < undef_address f base
  -- the bytes of a fixup and of a slot, as a signed number, give the value back
  pub whole : (k : ℕ) → k < length (fixups_of f)
      → signed (fixup_width f base k) (get (fixup_width f base k) (le (fixup_width f base k) (fixup_value f base k)) 0) ≡ signed 8 (fixup_value f base k)
  pub slot_whole : (e : ℕ) → e < slots_of f → signed 4 (get 4 (le 4 (slot_value f base e)) 0) ≡ pos (slot_value f base e)

-- of what the file and the base alone say
abbrev pub AtBase : List ℕ → ℕ → List Call → Type 0
AtBase f base calls = AtLoad f base (lent_of f base) calls

-- ---- at two bases
pub record AtBoth (f : List ℕ) (b₁ b₂ : ℕ) (t₁ t₂ : Lent) (calls : List Call) : Type 0 where
  pub answers : answers_after b₁ t₁ calls ≡ answers_after b₂ t₂ calls
  -- bytes are paired by distance from the base
  pub origins : (d : ℕ) → origin f b₁ (applied_to f calls) (b₁ + d) ≡ origin f b₂ (applied_to f calls) (b₂ + d)
  pub relative : (k : ℕ) → is_relative (fixup_at f k).kind ≡ true → fixup_value f b₂ k ≡ fixup_value f b₁ k
  pub others : (k : ℕ) → k < length (fixups_of f) → is_relative (fixup_at f k).kind ≡ false → fixup_value f b₂ k + b₁ ≡ fixup_value f b₁ k + b₂
  pub slots : (e : ℕ) → slot_value f b₂ e + b₁ ≡ slot_value f b₁ e + b₂

-- the whole demand, of two loads of one file and the same calls at both
pub record Demand3 (f : List ℕ) (b₁ b₂ : ℕ) (t₁ t₂ : Lent) (calls : List Call) : Type 0 where
  pub one : AtLoad f b₁ t₁ calls
  pub other : AtLoad f b₂ t₂ calls
  pub both : AtBoth f b₁ b₂ t₁ t₂ calls

-- ---- its only hypotheses: the file is accepted, the bases are allowed
pub base_low : (base : ℕ) → base_ok base ≡ true → base ≤ MAX_BASE
unfolding base_ok
base_low base e = leb-true base MAX_BASE (and_right (eqb (base % PAGE_SIZE) 0) (leb base MAX_BASE) e)

module _ (f : List ℕ) (c : Counts) (accepted : survey_of f ≡ Ok c) where
  few : pages_of f ≤ MAX_PAGES
  few = pages_few f c accepted

  exact : (k : ℕ) → k < length (fixups_of f) → Exact (fixup_at f k)
  exact k l = fixups_exact f c accepted k no_fixup l

  placed : (k : ℕ) → k < length (fixups_of f) → FixupPlaced f (fixup_at f k)
  placed k l = record { bits = (exact k l).bits; inside = fixups_inside f c accepted k no_fixup l }

  image_long : (base : ℕ) → length (image_of f base) ≡ PAGE_SIZE * pages_of f
  image_long base =
      length_laid f (header_of f) (section_home f (header_of f)) (pages_of f) base (undef_start f (header_of f)) (slots_of f) (replicate (PAGE_SIZE * pages_of f) 0)
      ∙ length-replicate (PAGE_SIZE * pages_of f) 0

  module _ (base : ℕ) (ok : base_ok base ≡ true) where
    only : (number position : ℕ) → patch_code (PAGE_SIZE * pages_of f) (marks_of f) base (fix_table_of f base) number position ≡ plain_code (fix_count (fix_table_of f base)) position
    only = only_position f base (base_low base ok) few placed

    writes : (calls : List Call) → image_after base (lent_of f base) calls ≡ written_at base (fix_table_of f base) (image_of f base) (applied_to f calls)
    writes calls =
        let e = calls_write base (fix_table_of f base) (marks_of f) (PAGE_SIZE * pages_of f) only calls (image_of f base) (image_long base) in
        rw (fixes_counted f base) at e

    answers_are : (calls : List Call) → answers_after base (lent_of f base) calls ≡ plain_answers (length (fixups_of f)) calls
    answers_are calls =
        let e = answers_plain base (fix_table_of f base) (marks_of f) (PAGE_SIZE * pages_of f) only calls (image_of f base) (image_long base) in
        rw (fixes_counted f base) at e

    by_origin : (d : ℕ) → d < PAGE_SIZE * pages_of f → (o : Option ℕ) → seen f base (base_low base ok) few placed (image_of f base) d o ≡ byte_of f base (origin_by f base (base + d) o)
    unfolding origin_by
    by_origin d l none =
        laid_byte f base (replicate (PAGE_SIZE * pages_of f) 0) few (names_few f c accepted) (rw length-replicate (omega arith)) d l
    by_origin d l (some k) = refl

    width_is : (k : ℕ) → k < length (fixups_of f) → fixup_width f base k ≡ (fixup_at f k).bits / 8
    unfolding pick
    width_is k l = ⊎_elim (λ n. rw n) (λ n. rw n) (exact k l).bits

    apart_at : (i j a : ℕ) → in_section f base a i ≡ true → in_section f base a j ≡ true → i ≡ j
    apart_at i j a x y =
        let p = in_range f base a i x in
        let q = in_range f base a j y in
        let p₁ = p.from in
        let p₂ = p.to in
        let q₁ = q.from in
        let q₂ = q.to in
        ranges_share_none f (header_of f) i j (a - base) p.loads q.loads (omega arith) (omega arith) (omega arith) (omega arith)

    behind_at : (i a : ℕ) → i < (header_of f).sections → in_section f base a i ≡ true → a < undef_address f base
    behind_at i a l x =
        let p = in_range f base a i x in
        let p₂ = p.to in
        let u = undef_behind f (header_of f) i p.loads l in
        omega arith

    at_base : (calls : List Call) → AtBase f base calls
    at_base calls =
        record {
          ranges_read = λ i l t. range_read f c accepted base (base_low base ok) i l t;
          undef_read = undef_is_read f c accepted base (base_low base ok);
          slots_read = λ e l. slot_is_read f c accepted base (base_low base ok) e l;
          count = fixes_counted f base;
          places = λ k l. place_back f base (base_low base ok) few placed k l;
          widths = λ k l. ap width_of (bits_back f base (base_low base ok) few placed k l);
          values = λ k l. value_back f base (base_low base ok) few placed k l;
          refused = λ number position. only number position ∙ ap (λ (n : ℕ). plain_code n position) (fixes_counted f base);
          answered = answers_are calls;
          long = ap (length {A = ℕ}) (writes calls) ∙ length_written base (fix_table_of f base) (image_of f base) (applied_to f calls) ∙ image_long base;
          bytes = λ d l.
              ap (λ (i : List ℕ). get_or i d 0) (writes calls)
              ∙ written_byte f base (base_low base ok) few placed (applied_to f calls) (image_of f base) d (image_long base) (applied_below (length (fixups_of f)) calls)
              ∙ by_origin d l (latest f base (base + d) (applied_to f calls));
          apart = λ i j a x y. apart_at i j a x y;
          behind = λ i a l x. behind_at i a l x;
          whole = λ k l. rw (width_is k l) (no_bit_lost (fixup_at f k) (exact k l) base (base_low base ok));
          slot_whole = λ e l.
              let u = undef_fits f (header_of f) few in
              let n = names_few f c accepted in
              let b = base_low base ok in
              slot_keeps (slot_value f base e) (omega arith);
        }

  pub demand_3 : (b₁ b₂ : ℕ) → base_ok b₁ ≡ true → base_ok b₂ ≡ true → (calls : List Call) → Demand3 f b₁ b₂ (lent_of f b₁) (lent_of f b₂) calls
  demand_3 b₁ b₂ o₁ o₂ calls =
      record {
        one = at_base b₁ o₁ calls;
        other = at_base b₂ o₂ calls;
        both =
            record {
              answers = answers_are b₁ o₁ calls ∙ sym (answers_are b₂ o₂ calls);
              origins = λ d. origin_same f b₁ b₂ d (applied_to f calls);
              relative = λ k e. relative_stays (fixup_at f k) b₂ b₁ e;
              others = λ k l e. other_rises (fixup_at f k) (exact k l) b₁ b₂ (base_low b₁ o₁) (base_low b₂ o₂) e;
              slots = λ e. omega arith;
            };
      }
