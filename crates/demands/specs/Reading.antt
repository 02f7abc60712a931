-- Load's tables, read word by word: they say where the loaded sections, UNDEF and the slots lie, as the origins have it.
use Rattle.refusal.specs.declared.Refusal.{Refusal}
use Rattle.std.specs.Prelude.{◌≡◌, ◌&&◌, List, ℕ, ◌+◌, ◌*◌, ◌≤◌, ◌<◌, leb, length, Result, Ok, Err}
use Rattle.std.proofs.Common.{subst, ◌∙◌, arith}
use Rattle.std.proofs.Math.Bool.{true}
use Rattle.std.proofs.Math.Logic.{⊎_elim}
use Rattle.std.proofs.Math.Dec.{eqb}
use borrow.Author.Tests.{leb-true}
use Rattle.util.specs.Pick.{pick, yes_no, and_left, and_right}
use Rattle.util.specs.Prefix.{all_at}
use Rattle.limits.specs.Limits.{MAX_FILE, MAX_BASE}
use Rattle.limits.specs.Records.{SECTION_WORDS, SECTION_BYTES, SECTION_START, SECTION_END, SECTION_FILE_START, SECTION_FILE_END, EXTERN_WORDS, ADDRESS}
use Rattle.arch.specs.Page.{PAGE_SIZE}
use Rattle.object.specs.declared.Header.{Header}
use Rattle.object.specs.Format.{HEADER_SIZE, header_of, address_field}
use Rattle.object.specs.Section.{loaded, uninitialized, file_start, file_end, range_length}
use Rattle.bounds.specs.Bounds.{size_ok, bytes_ok, data_ok, relocations_ok, section_ok, sections_ok}
use Rattle.layout.specs.Layout.{undef_start, record_of}
use Rattle.layout.proofs.LayoutLaws.{undef_behind, undef_fits}
use Rattle.homes.specs.Home.{section_home}
use Rattle.homes.specs.HomeLaws.{loaded_start}
use Rattle.externs.specs.Externs.{externs}
use Rattle.words.specs.Words.{word_of}
use Rattle.tables.specs.TableLaws.{SectionAt, UndefAt, ExternAt, sections_fill, section_read, undef_read, length_externs, extern_read}
use Rattle.survey.specs.declared.answer.Counts.{Counts}
use Rattle.survey.specs.Survey.{survey_of}
use Rattle.survey.specs.Acceptance.{records_ordered, pages_few, names_few}
use Rattle.demands.specs.Origin.{slots_of, section_address, undef_address, slot_value}
use Rattle.demands.specs.Counted.{sections_of, externs_of}
use Rattle.demands.specs.Mapped.{splice_self}

-- in a section table at a base: the record of section i has its range and its file range
pub record RangeRead (f : List ℕ) (base : ℕ) (table : List ℕ) (i : ℕ) : Type 0 where
  pub start : word_of SECTION_WORDS table (record_of f (header_of f) i) SECTION_START ≡ section_address f base i
  pub end : word_of SECTION_WORDS table (record_of f (header_of f) i) SECTION_END ≡ section_address f base i + range_length f (header_of f) i
  pub file_start_lem : word_of SECTION_WORDS table (record_of f (header_of f) i) SECTION_FILE_START ≡ file_start f (header_of f) i
  pub file_end_lem : word_of SECTION_WORDS table (record_of f (header_of f) i) SECTION_FILE_END ≡ file_end f (header_of f) i

-- the last record is UNDEF's, one page
pub record UndefRead (f : List ℕ) (base : ℕ) (table : List ℕ) : Type 0 where
  pub start : word_of SECTION_WORDS table (record_of f (header_of f) (header_of f).sections) SECTION_START ≡ undef_address f base
  pub end : word_of SECTION_WORDS table (record_of f (header_of f) (header_of f).sections) SECTION_END ≡ undef_address f base + PAGE_SIZE

module _ (f : List ℕ) (c : Counts) (accepted : survey_of f ≡ Ok c) (base : ℕ) (low : base ≤ MAX_BASE) where
  abbrev h : Header
  h = header_of f

  size_fits : length f ≤ MAX_FILE
  unfolding size_ok
  size_fits = leb-true (length f) MAX_FILE (and_right (leb HEADER_SIZE (length f)) (leb (length f) MAX_FILE) (records_ordered f c accepted).size)

  module _ (i : ℕ) (inside : i < h.sections) (loads : loaded f h i ≡ true) where
    bytes_ok_lem : bytes_ok f h i ≡ true
    unfolding sections_ok data_ok
    bytes_ok_lem =
        let a = and_left _ _ (records_ordered f c accepted).sections in
        let b = all_at (section_ok f h) h.sections i a inside in
        let d : data_ok f h i ≡ true = and_left (data_ok f h i) (relocations_ok f h i) b in
        let e : eqb (address_field f h i) 0 && bytes_ok f h i ≡ true = rw loads at d in
        and_right (eqb (address_field f h i) 0) (bytes_ok f h i) e

    file_fits : file_end f h i ≤ length f
    unfolding bytes_ok file_end pick
    file_fits =
        ⊎_elim (λ u. rw u (omega arith)) (λ u. rw u (leb-true _ (length f) (rw u at bytes_ok_lem))) (yes_no (uninitialized f h i))

    file_forward : file_start f h i ≤ file_end f h i
    unfolding file_start file_end pick
    file_forward = ⊎_elim (λ u. rw u (omega arith)) (λ u. rw u (omega arith)) (yes_no (uninitialized f h i))

    sections_room : SECTION_BYTES * (record_of f h h.sections + 1) ≤ length (sections_of f base)
    sections_room = let e = sections_fill f h base (section_home f h) (undef_start f h) in omega arith

    section_words_lem : SectionAt (sections_of f base) (record_of f h i) f h base (section_home f h) i
    section_words_lem =
        subst (λ (t : List ℕ). SectionAt t (record_of f h i) f h base (section_home f h) i) (splice_self (sections_of f base))
        (section_read f h base (section_home f h) (undef_start f h) (sections_of f base) sections_room i inside loads)

    -- the record of each loaded section has its range and its file range
    pub range_read : RangeRead f base (sections_of f base) i
    range_read =
        let w = section_words_lem in
        let s = loaded_start f h i inside loads in
        let u = undef_fits f h (pages_few f c accepted) in
        let e = undef_behind f h i loads inside in
        let n = size_fits in
        let a = file_forward in
        let b = file_fits in
        record {
          start = w.start ∙ omega arith;
          end = w.end ∙ omega arith;
          file_start_lem = w.file_from ∙ omega arith;
          file_end_lem = w.file_to ∙ omega arith;
        }

  undef_words_lem : UndefAt (sections_of f base) (record_of f h h.sections) base (undef_start f h)
  undef_words_lem =
      let e = sections_fill f h base (section_home f h) (undef_start f h) in
      subst (λ (t : List ℕ). UndefAt t (record_of f h h.sections) base (undef_start f h)) (splice_self (sections_of f base))
      (undef_read f h base (section_home f h) (undef_start f h) (sections_of f base) (omega arith))

  -- and the last one UNDEF's page
  pub undef_is_read : UndefRead f base (sections_of f base)
  undef_is_read =
      let w = undef_words_lem in
      let u = undef_fits f h (pages_few f c accepted) in
      record { start = w.start ∙ omega arith; end = w.end ∙ omega arith }

  slot_words_lem : (e : ℕ) → e < slots_of f → ExternAt (externs_of f base) e f h base (undef_start f h) (externs f h) e
  slot_words_lem e l =
      let n = length_externs f h base (undef_start f h) (externs f h) (length (externs f h)) in
      subst (λ (t : List ℕ). ExternAt t e f h base (undef_start f h) (externs f h) e) (splice_self (externs_of f base))
      (extern_read f h base (undef_start f h) (externs f h) (externs_of f base) (length (externs f h)) e (omega arith) l)

  -- each extern name's record has its slot's address
  pub slot_is_read : (e : ℕ) → e < slots_of f → word_of EXTERN_WORDS (externs_of f base) e ADDRESS ≡ slot_value f base e
  slot_is_read e l =
      let w = slot_words_lem e l in
      let u = undef_fits f h (pages_few f c accepted) in
      let n = names_few f c accepted in
      w.slot ∙ omega arith
