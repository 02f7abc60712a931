-- What a plan tells: its code; and that each buffer has room for what is counted.
use Rattle.refusal.specs.declared.Refusal.{Refusal}
use Rattle.std.specs.Prelude.{◌≡◌, refl, true, false, ◌&&◌, ℕ, ◌*◌, ◌≤◌, leb, Ok, Err}
use Rattle.std.proofs.Common.{ap, leb-true}
use Rattle.limits.specs.Records.{SECTION_BYTES, SYMBOL_BYTES, EXTERN_BYTES, FIXUP_BYTES, SKIP_BYTES}
use Rattle.util.specs.Pick.{and_left, and_right}
use Rattle.refusal.specs.Refusal.{Code, PASSES, answer_of}
use Rattle.arch.specs.Page.{PAGE_SIZE}
use Rattle.marks.specs.Marks.{WORD_BYTES, words_for}
use Rattle.survey.specs.declared.answer.Counts.{Counts}
use Rattle.plan.specs.declared.Lengths.{Lengths}
use Rattle.plan.specs.Plan.{layout_room, lists_room, plan_by}

-- ---- a plan tells its code
pub plan_says : (code : Code) (c : Counts) (n : ℕ) (a : Counts) (m : ℕ) → Ok (a, m) ≡ plan_by code c n → (code ≡ PASSES) × (a ≡ c) × (m ≡ n)
unfolding answer_of
plan_says (Ok u) c n a m e =
    let p : (a, m) ≡ (c, n) = cc in
    (refl, ap (λ (q : Counts × ℕ). q.0) p, ap (λ (q : Counts × ℕ). q.1) p)
plan_says (Err r) c n a m e = cc

pub plan_says_no : (code : Code) (c : Counts) (n : ℕ) (r : Refusal) → Err r ≡ plan_by code c n → code ≡ Err r
unfolding answer_of
plan_says_no (Ok u) c n r e = cc
plan_says_no (Err k) c n r e = cc

-- ---- there was room for each
pub record Rooms (c : Counts) (l : Lengths) : Type 0 where
  pub image : PAGE_SIZE * c.pages ≤ l.image
  pub marks : WORD_BYTES * words_for c.pages ≤ l.marks
  pub sections : SECTION_BYTES * c.sections ≤ l.sections
  pub symbols : SYMBOL_BYTES * c.symbols ≤ l.symbols
  pub externs : EXTERN_BYTES * c.externs ≤ l.externs
  pub fixups : FIXUP_BYTES * c.fixups ≤ l.fixups
  pub skips : SKIP_BYTES * c.skips ≤ l.skips

pub rooms : (c : Counts) (l : Lengths) → layout_room c l && lists_room c l ≡ true → Rooms c l
unfolding layout_room lists_room
rooms c l e =
    let a = and_left (layout_room c l) (lists_room c l) e in
    let b = and_right (layout_room c l) (lists_room c l) e in
    let a₂ = and_right (leb (PAGE_SIZE * c.pages) l.image) _ a in
    let b₂ = and_right (leb (SYMBOL_BYTES * c.symbols) l.symbols) _ b in
    let b₃ = and_right (leb (EXTERN_BYTES * c.externs) l.externs) _ b₂ in
    record {
      image = leb-true _ _ (and_left (leb (PAGE_SIZE * c.pages) l.image) _ a);
      marks = leb-true _ _ (and_left (leb (WORD_BYTES * words_for c.pages) l.marks) _ a₂);
      sections = leb-true _ _ (and_right (leb (WORD_BYTES * words_for c.pages) l.marks) _ a₂);
      symbols = leb-true _ _ (and_left (leb (SYMBOL_BYTES * c.symbols) l.symbols) _ b);
      externs = leb-true _ _ (and_left (leb (EXTERN_BYTES * c.externs) l.externs) _ b₂);
      fixups = leb-true _ _ (and_left (leb (FIXUP_BYTES * c.fixups) l.fixups) _ b₃);
      skips = leb-true _ _ (and_right (leb (FIXUP_BYTES * c.fixups) l.fixups) _ b₃);
    }
