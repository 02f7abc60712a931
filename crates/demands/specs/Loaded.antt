-- What load's contract leaves is what the demands speak of: the counted parts follow from the file and the base, whatever the storage held before.
use Rattle.refusal.specs.declared.Refusal.{Refusal}
use Rattle.std.specs.Prelude.{◌≡◌, true, List, ℕ, ◌*◌, ◌≤◌, ◌<◌, length, replicate, Result, Ok, Err}
use Rattle.std.proofs.Common.{sym, subst, ◌∙◌, arith, zero-add, ext_get_or}
use Rattle.std.proofs.lemmas.List.{length-replicate}
use Rattle.arch.specs.Page.{PAGE_SIZE}
use Rattle.le.specs.Le.{part, part_at, length_part}
use Rattle.object.specs.Format.{header_of}
use Rattle.layout.specs.Layout.{undef_start}
use Rattle.homes.specs.Home.{section_home}
use Rattle.limits.specs.Limits.{MAX_PAGES, MAX_EXTERNS}
use Rattle.limits.specs.Records.{FIXUP_BYTES, EXTERN_BYTES, SECTION_BYTES}
use Rattle.survey.specs.declared.answer.Counts.{Counts}
use Rattle.survey.specs.Survey.{survey_of}
use Rattle.marks.specs.Marks.{WORD_BYTES, words_for}
use Rattle.image.specs.Laid.{laid_image}
use Rattle.image.specs.LaidLaws.{length_laid}
use Rattle.checks.specs.Checks.{base_ok}
use Rattle.storage.specs.Storage.{Storage}
use Rattle.loading.specs.Load.{Loads}
use Rattle.plan.specs.PlanLaws.{rooms}
use Rattle.load.specs.LoadLaws.{load_accepts, load_leaves, pages_counted}
use Rattle.demands.specs.Origin.{slots_of}
use Rattle.demands.specs.Calls.{Call}
use Rattle.demands.specs.Counted.{pages_of, image_of, marks_of, fix_table_of, sections_of, externs_of, Lent, lent, lent_of}
use Rattle.demands.specs.Demand3.{Demand3, demand_3}
use Rattle.demands.specs.Laying.{laid_byte}

-- the laid bytes hang on nothing that stood in the storage
module _ (f : List ℕ) (base : ℕ) (image : List ℕ) (few : pages_of f ≤ MAX_PAGES) (names : slots_of f ≤ MAX_EXTERNS) (room : PAGE_SIZE * pages_of f ≤ length image) where
  zeros : length {A = ℕ} (replicate (PAGE_SIZE * pages_of f) 0) ≡ PAGE_SIZE * pages_of f
  zeros = length-replicate {A = ℕ} (PAGE_SIZE * pages_of f) 0

  laid_long : (i : List ℕ) → length (laid_image f (header_of f) base (slots_of f) i) ≡ length i
  laid_long i = length_laid f (header_of f) (section_home f (header_of f)) (pages_of f) base (undef_start f (header_of f)) (slots_of f) i

  part_long : length (part (laid_image f (header_of f) base (slots_of f) image) 0 (PAGE_SIZE * pages_of f)) ≡ PAGE_SIZE * pages_of f
  part_long = length_part (laid_image f (header_of f) base (slots_of f) image) 0 (PAGE_SIZE * pages_of f) (rw (laid_long image) (omega arith))

  pub laid_counted : part (laid_image f (header_of f) base (slots_of f) image) 0 (PAGE_SIZE * pages_of f) ≡ image_of f base
  laid_counted =
      ext_get_or 0 (part (laid_image f (header_of f) base (slots_of f) image) 0 (PAGE_SIZE * pages_of f)) (image_of f base)
      (part_long ∙ sym (laid_long (replicate (PAGE_SIZE * pages_of f) 0) ∙ zeros))
      (λ k l.
      let m : k < PAGE_SIZE * pages_of f = rw part_long at l in
      (part_at (laid_image f (header_of f) base (slots_of f) image) 0 (PAGE_SIZE * pages_of f) k m ∙ rw zero-add)
      ∙ laid_byte f base image few names room k m
      ∙ sym (laid_byte f base (replicate (PAGE_SIZE * pages_of f) 0) few names (rw zeros (omega arith)) k m))

-- ---- the parts that later calls are given
pub record Lends (f : List ℕ) (base : ℕ) (s' : Storage) (c : Counts) : Type 0 where
  pub accepted : survey_of f ≡ Ok c
  pub allowed : base_ok base ≡ true
  pub image : part s'.image 0 (PAGE_SIZE * c.pages) ≡ image_of f base
  pub marks : part s'.marks 0 (WORD_BYTES * words_for c.pages) ≡ marks_of f
  pub fixes : part s'.fixups 0 (FIXUP_BYTES * c.fixups) ≡ fix_table_of f base
  -- and those that say where the parts lie: the loaded sections and UNDEF, the names' slots
  pub sections : part s'.sections 0 (SECTION_BYTES * c.sections) ≡ sections_of f base
  pub externs : part s'.externs 0 (EXTERN_BYTES * c.externs) ≡ externs_of f base

pub load_lends : (f : List ℕ) (base : ℕ) (s s' : Storage) (c : Counts) → Loads f base s s' (Ok c) → Lends f base s' c
load_lends f base s s' c loads =
    let a = load_accepts f base s s' c loads in
    let l = load_leaves f base s s' c loads in
    let p : c.pages ≡ pages_of f = pages_counted f base s s' c loads in
    let r : PAGE_SIZE * pages_of f ≤ length s.image = rw (← p) (rooms c _ a.room).image in
    record {
      accepted = a.accepted;
      allowed = a.allowed;
      image = rw (l.image, p) (laid_counted f base s.image a.pages a.names r);
      marks = l.marks.counted ∙ rw p;
      fixes = l.fixups.counted;
      sections = l.sections.counted;
      externs = l.externs.counted;
    }

-- ---- demand 3 of what two accepted loads of the file left in their storage, at any two bases
-- the counted parts of the storage
abbrev pub lent_from : Storage → Counts → Lent
lent_from s c =
    lent (part s.image 0 (PAGE_SIZE * c.pages)) (part s.marks 0 (WORD_BYTES * words_for c.pages)) (part s.fixups 0 (FIXUP_BYTES * c.fixups))
    (part s.sections 0 (SECTION_BYTES * c.sections)) (part s.externs 0 (EXTERN_BYTES * c.externs))

lent_is : (f : List ℕ) (base : ℕ) (s : Storage) (c : Counts) → Lends f base s c → lent_from s c ≡ lent_of f base
lent_is f base s c l = rw (l.image, l.marks, l.fixes, l.sections, l.externs)

pub load_demand_3 : (f : List ℕ) (b₁ : ℕ) (s₁ s₁' : Storage) (c₁ : Counts) → Loads f b₁ s₁ s₁' (Ok c₁)
    → (b₂ : ℕ) (s₂ s₂' : Storage) (c₂ : Counts) → Loads f b₂ s₂ s₂' (Ok c₂)
    → (calls : List Call) → Demand3 f b₁ b₂ (lent_from s₁' c₁) (lent_from s₂' c₂) calls
load_demand_3 f b₁ s₁ s₁' c₁ loads₁ b₂ s₂ s₂' c₂ loads₂ calls =
    let l = load_lends f b₁ s₁ s₁' c₁ loads₁ in
    let m = load_lends f b₂ s₂ s₂' c₂ loads₂ in
    subst (λ (t : Lent). Demand3 f b₁ b₂ t (lent_from s₂' c₂) calls) (sym (lent_is f b₁ s₁' c₁ l))
    (subst (λ (t : Lent). Demand3 f b₁ b₂ (lent_of f b₁) t calls) (sym (lent_is f b₂ s₂' c₂ m))
    (demand_3 f c₁ l.accepted b₁ b₂ l.allowed m.allowed calls))
