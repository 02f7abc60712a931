-- The lines that are written, and what is held meanwhile. Assumes nothing.
use Rattle.refusal.specs.declared.Refusal.{Refusal}
use Rattle.refusal.specs.Refusal.{refusal_number}
use Rattle.patch.specs.declared.answer.Progress.{Progress}
use Rattle.refusal.specs.declared.Refusal.{Refusal}
use Rattle.std.specs.Prelude.{Result, Ok, Err}
use mathlib.Core.Path.{◌≡◌, sym, ap, ◌∙◌}
use mathlib.Core.List.{List, []}
use Prim.Native.Nat.{ℕ, ◌+◌, ◌*◌, ◌%◌, ◌^◌, ◌≤◌, ◌<◌}
use native.Mathlib.Omega.{arith}
use mir.Val.{Fits}
use mir.Syntax.{w8}
use lib.ListN.{length, get_or, replicate, take, length-replicate}
use lib.Seq.{length-take-le}
use Rattle.arch.specs.Page.{PAGE_SIZE}
use Rattle.le.specs.Le.{part, IsBytes}
use Rattle.marks.specs.Marks.{WORD_BYTES, words_for}
use Rattle.limits.specs.Records.{SECTION_BYTES, SYMBOL_BYTES, EXTERN_BYTES, FIXUP_BYTES, SKIP_BYTES}
use Rattle.patch.specs.Patch.{Patches}
use Rattle.loading.specs.Load.{Loads}
use Rattle.storage.specs.Storage.{storage}
use Rattle.text.specs.Text.{Puts}
use Rattle.text.specs.TextLaws.{puts_whole}
use Rattle.lines.specs.Lines.{refused_line, too_large_line}
use Rattle.lines.specs.LineLaws.{refused_long}
use Rattle.listing.specs.Listing.{listing, line_count}
use Rattle.listing.specs.ListingLaws.{lines_counted, line_long}
use Rattle.demands.specs.Counted.{sections_of, symbols_of, externs_of, fix_table_of}
use Rattle.survey.specs.declared.answer.Counts.{Counts}
use Rattle.verdict.specs.declared.answer.Verdict.{Verdict}
use Rattle.verdict.specs.declared.answer.Verdict.TheVariants.{TooLarge, Refused, Lines}
use Rattle.verdict.specs.Verdict.{verdict_of}
use Rattle.program.specs.Output.{PROGRAM_BASE, skip_table_of, line_of, line_total}
use Rattle.program.specs.Within.{Within, within}
use Rattle.program.specs.Holding.{LINE_ROOM, Said, Ready, HoldsTables, Printed, holds, image_patched}

-- ---- a line that is written
abbrev Bytes : List ℕ → Type 0
Bytes s = (i : ℕ) → Fits w8 (get_or s i 0)

small : (s : List ℕ) → Bytes s → IsBytes s
small s b i = let h = b i in omega arith

module _ (f : List ℕ) (a : List ℕ) (n : ℕ) (line : List ℕ) where
  pub said_large : (k : ℕ) → k ≡ 0 → verdict_of f ≡ TooLarge → Puts (replicate LINE_ROOM 0) 0 too_large_line a n → line ≡ part a 0 n → Said f k line
  unfolding line_of
  said_large k z e p q =
      record {
        is = rw (e, z) (q ∙ puts_whole too_large_line (replicate LINE_ROOM 0) a n p (rw (length-replicate {A = ℕ} LINE_ROOM 0) (omega arith)));
        early = omega arith;
      }

  pub said_refused : (k number : ℕ) (r : Refusal) → k ≡ 0 → number < 2 ^ 64 → verdict_of f ≡ Refused r → number ≡ refusal_number r → Puts (replicate LINE_ROOM 0) 0 (refused_line number) a n → line ≡ part a 0 n → Said f k line
  unfolding line_of
  said_refused k number r z l e o p q =
      let m = refused_long number l in
      record {
        is = rw (e, z, ← o) (q ∙ puts_whole (refused_line number) (replicate LINE_ROOM 0) a n p (rw (length-replicate {A = ℕ} LINE_ROOM 0) (omega arith)));
        early = omega arith;
      }

  pub said_listed : (c : Counts) (sections symbols externs fixups skips : List ℕ) (i k : ℕ) → HoldsTables f c sections symbols externs fixups skips → i < 1000 → k ≡ i
      → Bytes sections → Bytes symbols → Bytes externs → Bytes fixups → Bytes skips
      → Puts (replicate LINE_ROOM 0) 0 (get_or (listing f PROGRAM_BASE c sections symbols externs fixups skips) k []) a n → line ≡ part a 0 n → Said f i line
  unfolding line_of
  said_listed c sections symbols externs fixups skips j k h l m s y x z w p q =
      let i = h.few in
      let i₁ = i.pages in
      let i₂ = i.skips in
      let i₃ = i.passed in
      let i₄ = i.bytes in
      let v = line_long f PROGRAM_BASE c sections symbols externs fixups skips (omega arith) (omega arith) (omega arith) (omega arith)
      (small sections s) (small symbols y) (small externs x) (small fixups z) (small skips w) k in
      let r = puts_whole (get_or (listing f PROGRAM_BASE c sections symbols externs fixups skips) k []) (replicate LINE_ROOM 0) a n p (rw (length-replicate {A = ℕ} LINE_ROOM 0) (omega arith)) in
      let t : listing f PROGRAM_BASE c sections symbols externs fixups skips ≡ listing f PROGRAM_BASE c (sections_of f PROGRAM_BASE) (symbols_of f PROGRAM_BASE) (externs_of f PROGRAM_BASE) (fix_table_of f PROGRAM_BASE) (skip_table_of f) =
      rw (h.section_table_lem, h.symbol_table_lem, h.extern_table_lem, h.fixup_table, h.skip_table_lem) in
      record { is = rw (i.verdict, ← m) (q ∙ r ∙ ap (λ (x : List (List ℕ)). get_or x k []) t); early = l }

-- ---- how many are written
module _ (f : List ℕ) where
  pub one_large : (r k : ℕ) → verdict_of f ≡ TooLarge → k ≡ 0 → r ≡ k + 1 → r ≡ line_total f
  unfolding line_total
  one_large r k e z q = rw e (rw z at q)

  pub one_refused : (r k : ℕ) (n : Refusal) → verdict_of f ≡ Refused n → k ≡ 0 → r ≡ k + 1 → r ≡ line_total f
  unfolding line_total
  one_refused r k n e z q = rw e (rw z at q)

  module _ (c : Counts) (sections symbols externs fixups skips : List ℕ) (h : HoldsTables f c sections symbols externs fixups skips) where
    few : line_count c < 1000
    unfolding line_count
    few =
        let i = h.few in
        let i₁ = i.sections in
        let i₂ = i.symbols in
        let i₃ = i.externs in
        let i₄ = i.fixups in
        let i₅ = i.skips in
        omega arith

    total : line_total f ≡ line_count c
    unfolding line_total
    total = rw h.few.verdict (lines_counted f PROGRAM_BASE c (sections_of f PROGRAM_BASE) (symbols_of f PROGRAM_BASE) (externs_of f PROGRAM_BASE) (fix_table_of f PROGRAM_BASE) (skip_table_of f))

    pub early : (i k n : ℕ) → n ≡ line_count c % 2 ^ 64 → k ≡ i → k < n → i < 1000
    early i k n e m q = let l = few in omega arith

    pub all_listed : (i k n : ℕ) → n ≡ line_count c % 2 ^ 64 → k ≡ i → i ≤ n → n ≤ k → i ≡ line_total f
    all_listed i k n e m q r = let l = few in let t = total in omega arith

-- ---- which output
module _ (f : List ℕ) (r : Verdict) (e : r ≡ verdict_of f) where
  pub is_large : r ≡ TooLarge → verdict_of f ≡ TooLarge
  is_large q = sym e ∙ q

  pub is_refused : (n : Refusal) → r ≡ Refused n → verdict_of f ≡ Refused n
  is_refused n q = sym e ∙ q

  pub is_within : (c : Counts) → r ≡ Lines c → Within f c
  is_within c q = within f c (sym e ∙ q)

pub ruleset verdict_ways = (is_large, is_refused, is_within)

-- ---- storage of just the counted sizes
pub same_part : (n m : ℕ) → n ≤ m → n ≡ length (take n (replicate {A = ℕ} m 0))
same_part n m q = sym (length-take-le n (replicate m 0) (rw (length-replicate {A = ℕ} m 0) q))

module _ (f : List ℕ) (c : Counts) where
  front : (n m k : ℕ) → n ≡ k → n ≤ m → length (take n (replicate {A = ℕ} m 0)) ≡ k
  front n m k e q = sym (same_part n m q) ∙ e

  pub is_ready : (i w m s y e x k : ℕ) → Within f c → i ≡ PAGE_SIZE * c.pages → i ≤ 32768 → w ≡ words_for c.pages → m ≡ WORD_BYTES * w → m ≤ 8 → s ≡ SECTION_BYTES * c.sections → s ≤ 1088
      → y ≡ SYMBOL_BYTES * c.symbols → y ≤ 6144 → e ≡ EXTERN_BYTES * c.externs → e ≤ 4096 → x ≡ FIXUP_BYTES * c.fixups → x ≤ 3072 → k ≡ SKIP_BYTES * c.skips → k ≤ 3072
      → Ready f c (storage (take i (replicate 32768 0)) (take m (replicate 8 0)) (take s (replicate 1088 0)) (take y (replicate 6144 0)) (take e (replicate 4096 0)) (take x (replicate 3072 0)) (take k (replicate 3072 0)))
  is_ready i w m s y e x k few i₁ i₂ w₁ m₁ m₂ s₁ s₂ y₁ y₂ e₁ e₂ x₁ x₂ k₁ k₂ =
      record {
        few = few;
        sized =
            record {
              image = front i 32768 _ i₁ i₂;
              marks = front m 8 _ (rw w₁ at m₁) m₂;
              sections = front s 1088 _ s₁ s₂;
              symbols = front y 6144 _ y₁ y₂;
              externs = front e 4096 _ e₁ e₂;
              fixups = front x 3072 _ x₁ x₂;
              skips = front k 3072 _ k₁ k₂;
            };
      }

  module _ (i m s y e x k i' m' s' y' e' x' k' : List ℕ) (r : Result Counts Refusal) (ready : Ready f c (storage i m s y e x k)) (loads : Loads f PROGRAM_BASE (storage i m s y e x k) (storage i' m' s' y' e' x' k') r) where
    pub now_holds : HoldsTables f c s' y' e' x' k'
    now_holds = holds f c ready.few (storage i m s y e x k) (storage i' m' s' y' e' x' k') r ready.sized loads

    pub is_printed : (image : List ℕ) (q : Result Progress Refusal) (n : ℕ) → Patches PROGRAM_BASE m' x' 18446744073709551615 0 i' image q → n ≡ line_total f → Printed f image n
    is_printed image q n p t =
        record { all = t; patched = image_patched f c ready.few (storage i m s y e x k) (storage i' m' s' y' e' x' k') r ready.sized loads image q p }
