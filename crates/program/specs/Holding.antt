-- What the program holds when it prints: load's tables, and the image with every fixup applied. Its buffers have just the counted sizes.
use Rattle.patch.specs.declared.answer.Progress.{Progress}
use Rattle.refusal.specs.declared.Refusal.{Refusal}
use Rattle.std.specs.Prelude.{◌≡◌, Bool, true, false, ℕ, ◌*◌, ◌≤◌, ◌<◌, leb, Result, Ok, Err}
use Rattle.std.proofs.Math.Path.{refl}
use Rattle.std.proofs.Common.{sym, ap, ◌∙◌, take_all, le-leb}
use mathlib.Core.List.{List, [], ◌∷◌, ◌++◌}
use native.Mathlib.Omega.{arith}
use Rattle.std.proofs.Math.ListN.{length}
use Rattle.refusal.specs.Refusal as refusal
use Rattle.refusal.specs.Refusal.{Code, PASSES, STORAGE, answer_of, unless_refused}
use Rattle.util.specs.Pick.{pick, not_both}
use Rattle.arch.specs.Page.{PAGE_SIZE}
use Rattle.le.specs.Le.{part, length_splice}
use Rattle.marks.specs.Marks.{WORD_BYTES, words_for}
use Rattle.object.specs.Format.{header_of}
use Rattle.layout.specs.Layout.{undef_start}
use Rattle.homes.specs.Home.{section_home}
use Rattle.image.specs.Laid.{laid_image}
use Rattle.image.specs.LaidLaws.{length_laid}
use Rattle.limits.specs.Records.{SECTION_BYTES, SYMBOL_BYTES, EXTERN_BYTES, FIXUP_BYTES, SKIP_BYTES}
use Rattle.checks.specs.Checks.{base_ok}
use Rattle.survey.specs.declared.answer.Counts.{Counts}
use Rattle.survey.specs.Survey.{Check, check, first_failed, checks, counts}
use Rattle.survey.specs.SurveyLaws.{tells_accepted}
use Rattle.survey.specs.Acceptance.{counts_are, fixups_listed}
use Rattle.patch.specs.Fixes.{fix_count}
use Rattle.patch.specs.Patch.{portion, patch_code, Patches}
use Rattle.plan.specs.Plan.{layout_room, lists_room}
use Rattle.storage.specs.Storage.{Storage, stored_by, stored}
use Rattle.loading.specs.Load.{room_ok, load_checks, Loads}
use Rattle.load.specs.LoadLaws.{load_accepts, load_leaves}
use Rattle.demands.specs.Calls.{after_calls}
use Rattle.demands.specs.Origin.{fixups_of, slots_of}
use Rattle.demands.specs.Counted.{pages_of, image_of, marks_of, sections_of, symbols_of, externs_of, fix_table_of}
use Rattle.demands.specs.Demand3.{AtBase, demand_3}
use Rattle.demands.specs.Loaded.{Lends, load_lends}
use Rattle.program.specs.Output.{PROGRAM_BASE, skip_table_of, line_of, line_total, patched_image}
use Rattle.program.specs.Within.{Within}

-- room for the longest line, which has a name as long as the file
abbrev pub LINE_ROOM : ℕ
LINE_ROOM = 16512

-- a line that is written: the file's line k; no file has 1,000
pub record Said (f : List ℕ) (k : ℕ) (line : List ℕ) : Type 0 where
  pub is : line ≡ line_of f k
  pub early : k < 1000

-- the buffers' sizes
pub record Sized (c : Counts) (s : Storage) : Type 0 where
  pub image : length s.image ≡ PAGE_SIZE * c.pages
  pub marks : length s.marks ≡ WORD_BYTES * words_for c.pages
  pub sections : length s.sections ≡ SECTION_BYTES * c.sections
  pub symbols : length s.symbols ≡ SYMBOL_BYTES * c.symbols
  pub externs : length s.externs ≡ EXTERN_BYTES * c.externs
  pub fixups : length s.fixups ≡ FIXUP_BYTES * c.fixups
  pub skips : length s.skips ≡ SKIP_BYTES * c.skips

-- what the program has before it loads: a file whose lines are printed, and buffers of those sizes
pub record Ready (f : List ℕ) (c : Counts) (s : Storage) : Type 0 where
  pub few : Within f c
  pub sized : Sized c s

-- the file's lines are to be printed, and the tables are load's
pub record HoldsTables (f : List ℕ) (c : Counts) (sections symbols externs fixups skips : List ℕ) : Type 0 where
  pub few : Within f c
  pub section_table_lem : sections ≡ sections_of f PROGRAM_BASE
  pub symbol_table_lem : symbols ≡ symbols_of f PROGRAM_BASE
  pub extern_table_lem : externs ≡ externs_of f PROGRAM_BASE
  pub fixup_table : fixups ≡ fix_table_of f PROGRAM_BASE
  pub skip_table_lem : skips ≡ skip_table_of f

-- THE PROMISE: all lines are written, and the image has every fixup applied
pub record Printed (f image : List ℕ) (lines : ℕ) : Type 0 where
  pub all : lines ≡ line_total f
  pub patched : image ≡ patched_image f

-- ---- load is not refused
none_fails : (xs ys : List Check) → first_failed xs ≡ PASSES → first_failed ys ≡ PASSES → first_failed (xs ++ ys) ≡ PASSES
unfolding first_failed pick
none_fails [] ys p q = q
none_fails (x ∷ xs) ys p q = by_test x.passes p (none_fails xs ys)
  where
    by_test : (b : Bool) → pick b (first_failed xs) x.refusal ≡ PASSES → (first_failed xs ≡ PASSES → first_failed ys ≡ PASSES → first_failed (xs ++ ys) ≡ PASSES) → pick b (first_failed (xs ++ ys)) x.refusal ≡ PASSES
    by_test true e r = r e q
    by_test false e r = e

check_passes : (b : Bool) (n : Code) (cs : List Check) → b ≡ true → first_failed cs ≡ PASSES → first_failed (check b n ∷ cs) ≡ PASSES
unfolding first_failed pick
check_passes true n cs e q = q
check_passes false n cs e q = not_both false e refl

fills : (a b : ℕ) → b ≡ a → leb a b ≡ true
fills a b e = le-leb a b (omega arith)

room : (c : Counts) (s : Storage) → Sized c s → room_ok c s ≡ true
unfolding layout_room lists_room
room c s z =
    rw (
      fills (PAGE_SIZE * c.pages) (length s.image) z.image,
      fills (WORD_BYTES * words_for c.pages) (length s.marks) z.marks,
      fills (SECTION_BYTES * c.sections) (length s.sections) z.sections,
      fills (SYMBOL_BYTES * c.symbols) (length s.symbols) z.symbols,
      fills (EXTERN_BYTES * c.externs) (length s.externs) z.externs,
      fills (FIXUP_BYTES * c.fixups) (length s.fixups) z.fixups,
      fills (SKIP_BYTES * c.skips) (length s.skips) z.skips,
    )

-- a buffer of just the counted size is its counted part
whole : (b t : List ℕ) (n : ℕ) → length b ≡ n → part b 0 n ≡ t → b ≡ t
unfolding part
whole b t n e q = sym (take_all n b (omega arith)) ∙ q

base_good : base_ok PROGRAM_BASE ≡ true
unfolding base_ok
base_good = refl

module _ (f : List ℕ) (c : Counts) (few : Within f c) where
  passes : first_failed (checks f (header_of f)) ≡ PASSES
  passes = (tells_accepted (first_failed (checks f (header_of f))) (counts f (header_of f)) c few.accepted).0

  are : counts f (header_of f) ≡ c
  are = counts_are f c few.accepted

  at : AtBase f PROGRAM_BASE []
  at = (demand_3 f c few.accepted PROGRAM_BASE PROGRAM_BASE base_good base_good []).one

  laid_long : (i : List ℕ) → length (laid_image f (header_of f) PROGRAM_BASE (slots_of f) i) ≡ length i
  laid_long i = length_laid f (header_of f) (section_home f (header_of f)) (pages_of f) PROGRAM_BASE (undef_start f (header_of f)) (slots_of f) i

  -- one call that asks for all fixups is not refused, and applies them all
  count_low : fix_count (fix_table_of f PROGRAM_BASE) ≤ 18446744073709551615
  count_low =
      let a = at.count in
      let b = fixups_listed f c few.accepted in
      let d = few.fixups in
      omega arith

  not_refused : patch_code (length (image_of f PROGRAM_BASE)) (marks_of f) PROGRAM_BASE (fix_table_of f PROGRAM_BASE) 18446744073709551615 0 ≡ PASSES
  unfolding after_calls pick
  not_refused = rw at.long (at.refused 18446744073709551615 0 ∙ rw (le-leb 0 (length (fixups_of f)) (omega arith)))

  patched_all : (image marks fixes image' : List ℕ) (q : Result Progress Refusal) → image ≡ image_of f PROGRAM_BASE → marks ≡ marks_of f → fixes ≡ fix_table_of f PROGRAM_BASE
      → Patches PROGRAM_BASE marks fixes 18446744073709551615 0 image image' q → image' ≡ patched_image f
  unfolding unless_refused
  patched_all image marks fixes image' q a b d p =
      let z : portion (fix_count (fix_table_of f PROGRAM_BASE)) 18446744073709551615 0 ≡ fix_count (fix_table_of f PROGRAM_BASE) = let l = count_low in omega arith in
      let e = rw (a, b, d, not_refused, z) at p.leaves in
      e

  module _ (s s' : Storage) (r : Result Counts Refusal) (sized : Sized c s) (loads : Loads f PROGRAM_BASE s s' r) where
    has_room : first_failed (check (room_ok (counts f (header_of f)) s) STORAGE ∷ []) ≡ PASSES
    unfolding first_failed
    has_room = check_passes (room_ok (counts f (header_of f)) s) STORAGE [] (rw are (room c s sized)) refl

    code : first_failed (load_checks f (header_of f) PROGRAM_BASE s) ≡ PASSES
    code =
        check_passes (base_ok PROGRAM_BASE) refusal.BASE (checks f (header_of f) ++ (check (room_ok (counts f (header_of f)) s) STORAGE ∷ [])) base_good
        (none_fails (checks f (header_of f)) (check (room_ok (counts f (header_of f)) s) STORAGE ∷ []) passes has_room)

    loaded : Loads f PROGRAM_BASE s s' (Ok c)
    unfolding answer_of
    loaded = record { says = rw (code, are); leaves = loads.leaves }

    lends : Lends f PROGRAM_BASE s' c
    lends = load_lends f PROGRAM_BASE s s' c loaded

    leaves : s' ≡ stored f (header_of f) PROGRAM_BASE s
    leaves = (load_accepts f PROGRAM_BASE s s' c loaded).leaves

    sections_are : s'.sections ≡ sections_of f PROGRAM_BASE
    unfolding stored_by
    sections_are = whole _ _ _ (ap (λ (z : Storage). length z.sections) leaves ∙ length_splice s.sections 0 (sections_of f PROGRAM_BASE) ∙ sized.sections) lends.sections

    symbols_are : s'.symbols ≡ symbols_of f PROGRAM_BASE
    unfolding stored_by
    symbols_are = whole _ _ _ (ap (λ (z : Storage). length z.symbols) leaves ∙ length_splice s.symbols 0 (symbols_of f PROGRAM_BASE) ∙ sized.symbols) (load_leaves f PROGRAM_BASE s s' c loaded).symbols.counted

    externs_are : s'.externs ≡ externs_of f PROGRAM_BASE
    unfolding stored_by
    externs_are = whole _ _ _ (ap (λ (z : Storage). length z.externs) leaves ∙ length_splice s.externs 0 (externs_of f PROGRAM_BASE) ∙ sized.externs) lends.externs

    fixups_are : s'.fixups ≡ fix_table_of f PROGRAM_BASE
    unfolding stored_by
    fixups_are = whole _ _ _ (ap (λ (z : Storage). length z.fixups) leaves ∙ length_splice s.fixups 0 (fix_table_of f PROGRAM_BASE) ∙ sized.fixups) lends.fixes

    skips_are : s'.skips ≡ skip_table_of f
    unfolding stored_by
    skips_are = whole _ _ _ (ap (λ (z : Storage). length z.skips) leaves ∙ length_splice s.skips 0 (skip_table_of f) ∙ sized.skips) (load_leaves f PROGRAM_BASE s s' c loaded).skips.counted

    marks_are : s'.marks ≡ marks_of f
    unfolding stored_by
    marks_are = whole _ _ _ (ap (λ (z : Storage). length z.marks) leaves ∙ length_splice s.marks 0 (marks_of f) ∙ sized.marks) lends.marks

    image_is : s'.image ≡ image_of f PROGRAM_BASE
    unfolding stored_by
    image_is = whole _ _ _ (ap (λ (z : Storage). length z.image) leaves ∙ laid_long s.image ∙ sized.image) lends.image

    pub holds : HoldsTables f c s'.sections s'.symbols s'.externs s'.fixups s'.skips
    holds =
        record {
          few = few;
          section_table_lem = sections_are;
          symbol_table_lem = symbols_are;
          extern_table_lem = externs_are;
          fixup_table = fixups_are;
          skip_table_lem = skips_are;
        }

    pub image_patched : (image : List ℕ) (q : Result Progress Refusal) → Patches PROGRAM_BASE s'.marks s'.fixups 18446744073709551615 0 s'.image image q → image ≡ patched_image f
    image_patched image q p = patched_all s'.image s'.marks s'.fixups image q image_is marks_are fixups_are p
