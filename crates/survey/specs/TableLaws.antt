-- The words that survey and load fill once say what the rules do, where the file's records pass their checks.
use Rattle.arch.specs.declared.RVA.{RVA}
use Rattle.refusal.specs.Refusal.{answer_of}
use Rattle.std.specs.Prelude.{◌≡◌, refl, false, not, ◌&&◌, ◌||◌, List, ℕ, ◌≤◌, ◌<◌, length, get_or, replicate, Option}
use Rattle.std.proofs.Common.{sym, ap, ◌∙◌}
use Rattle.std.proofs.Math.Path.{fun_ext}
use Rattle.std.proofs.Math.Bool.{true}
use Rattle.std.proofs.Math.Logic.{⊎_elim}
use native.Mathlib.Omega.{arith}
use Rattle.std.proofs.lemmas.List.{length-replicate, get_or-replicate}
use Rattle.std.proofs.Math.ListN.{get_or-eq_default}
use Rattle.std.proofs.Math.Dec.{leb}
use borrow.Author.Tests.{leb-true, lt-leb}
use Rattle.limits.specs.Limits.{MAX_SECTIONS, MAX_SYMBOLS, FEW_SECTIONS, FEW_SYMBOLS, MAX_EXTERNS}
use Rattle.util.specs.Pick.{pick, yes_no, le_or_lt, and_left, and_right}
use Rattle.util.specs.Prefix.{length_list, all_at}
use Rattle.le.specs.Le.{splice, splice_above, front_at}
use Rattle.object.specs.declared.Header.{Header}
use Rattle.object.specs.Symbol.{primary, symbol_place, kind, ok_at}
use Rattle.kinds.specs.declared.SymbolKind.{SymbolKind}
use Rattle.kinds.specs.declared.SymbolKind.TheVariants as kinds
use Rattle.kinds.specs.declared.Place.{Place}
use Rattle.kinds.specs.declared.Place.TheVariants.{In, Undefined, Common, Absolute, Nowhere, Other}
use Rattle.layout.specs.Layout.{undef_start}
use Rattle.homes.specs.Home.{section_home, home_record, home_word, word_home, word_record, homes_to, home_in, record_in}
use Rattle.homes.specs.HomeLaws.{homes_kept, records_kept}
use Rattle.checks.specs.Checks.{place_within, number_ok, numbers_ok}
use Rattle.rules.specs.declared.Rule.TheVariants as rules
use Rattle.rules.specs.Rule.{rule_of}
use Rattle.codes.specs.Code.{SPAN, symbol_rule, puts_in}
use Rattle.codes.specs.Puts.{CodesKept, filled_kept, puts_kept}
use Rattle.externs.specs.Externs.{externs, externs_by}
use Rattle.externs.specs.Slotted.{slotted}
use Rattle.targets.specs.Target.{targets}
use Rattle.targets.specs.Table.{code_target, target_in, Coded, target_kept}
use Rattle.survey.specs.Survey.{first_failed, answer_by}
use Rattle.survey.specs.Surveying.{Fits, externs_answer, answer_in, few_records, section_room, code_room, home_words, code_words, Cleared}

zero_at : (size j : ℕ) → get_or {A = ℕ} (replicate size 0) j 0 ≡ 0
zero_at size j =
    ⊎_elim (λ p. get_or-eq_default (replicate {A = ℕ} size 0) 0 {n = j} (rw (length-replicate {A = ℕ} size 0) p)) (λ p. get_or-replicate {A = ℕ} size j 0 0 p) (le_or_lt size j)

-- zeros behind a list read as what is past it
padded : (xs : List ℕ) (size j : ℕ) → length xs ≤ size → get_or (splice (replicate size 0) 0 xs) j 0 ≡ get_or xs j 0
padded xs size j k =
    let z : length {A = ℕ} (replicate size 0) ≡ size = length-replicate {A = ℕ} size 0 in
    ⊎_elim
    (λ p. splice_above (replicate size 0) 0 xs j (omega arith) ∙ zero_at size j ∙ sym (get_or-eq_default xs 0 p))
    (λ p. front_at (replicate size 0) xs j p (omega arith))
    (le_or_lt (length xs) j)

-- a home is looked for with a symbol in a section alone
in_section_lem : (k : SymbolKind) (p : Place) (n : ℕ) → rule_of k p ≡ rules.Section n → p ≡ In n
in_section_lem kinds.Data (In m) n e = cc
in_section_lem kinds.Data Undefined n e = absurd (let w : ◌≡◌ {A = ℕ} 0 1 = cc in omega arith)
in_section_lem kinds.Data Common n e = absurd (let w : ◌≡◌ {A = ℕ} 0 1 = cc in omega arith)
in_section_lem kinds.Data Absolute n e = absurd (let w : ◌≡◌ {A = ℕ} 0 1 = cc in omega arith)
in_section_lem kinds.Data Nowhere n e = absurd (let w : ◌≡◌ {A = ℕ} 0 1 = cc in omega arith)
in_section_lem kinds.Data Other n e = absurd (let w : ◌≡◌ {A = ℕ} 0 1 = cc in omega arith)
in_section_lem kinds.Text (In m) n e = cc
in_section_lem kinds.Text Undefined n e = absurd (let w : ◌≡◌ {A = ℕ} 0 1 = cc in omega arith)
in_section_lem kinds.Text Common n e = absurd (let w : ◌≡◌ {A = ℕ} 0 1 = cc in omega arith)
in_section_lem kinds.Text Absolute n e = absurd (let w : ◌≡◌ {A = ℕ} 0 1 = cc in omega arith)
in_section_lem kinds.Text Nowhere n e = absurd (let w : ◌≡◌ {A = ℕ} 0 1 = cc in omega arith)
in_section_lem kinds.Text Other n e = absurd (let w : ◌≡◌ {A = ℕ} 0 1 = cc in omega arith)
in_section_lem kinds.Section (In m) n e = cc
in_section_lem kinds.Section Undefined n e = absurd (let w : ◌≡◌ {A = ℕ} 0 1 = cc in omega arith)
in_section_lem kinds.Section Common n e = absurd (let w : ◌≡◌ {A = ℕ} 0 1 = cc in omega arith)
in_section_lem kinds.Section Absolute n e = absurd (let w : ◌≡◌ {A = ℕ} 0 1 = cc in omega arith)
in_section_lem kinds.Section Nowhere n e = absurd (let w : ◌≡◌ {A = ℕ} 0 1 = cc in omega arith)
in_section_lem kinds.Section Other n e = absurd (let w : ◌≡◌ {A = ℕ} 0 1 = cc in omega arith)
in_section_lem kinds.Label (In m) n e = cc
in_section_lem kinds.Label Undefined n e = absurd (let w : ◌≡◌ {A = ℕ} 0 1 = cc in omega arith)
in_section_lem kinds.Label Common n e = absurd (let w : ◌≡◌ {A = ℕ} 0 1 = cc in omega arith)
in_section_lem kinds.Label Absolute n e = absurd (let w : ◌≡◌ {A = ℕ} 0 1 = cc in omega arith)
in_section_lem kinds.Label Nowhere n e = absurd (let w : ◌≡◌ {A = ℕ} 0 1 = cc in omega arith)
in_section_lem kinds.Label Other n e = absurd (let w : ◌≡◌ {A = ℕ} 0 1 = cc in omega arith)
in_section_lem kinds.Unknown (In m) n e = absurd (let w : ◌≡◌ {A = ℕ} 0 1 = cc in omega arith)
in_section_lem kinds.Unknown Undefined n e = absurd (let w : ◌≡◌ {A = ℕ} 0 1 = cc in omega arith)
in_section_lem kinds.Unknown Common n e = absurd (let w : ◌≡◌ {A = ℕ} 0 1 = cc in omega arith)
in_section_lem kinds.Unknown Absolute n e = absurd (let w : ◌≡◌ {A = ℕ} 0 1 = cc in omega arith)
in_section_lem kinds.Unknown Nowhere n e = absurd (let w : ◌≡◌ {A = ℕ} 0 1 = cc in omega arith)
in_section_lem kinds.Unknown Other n e = absurd (let w : ◌≡◌ {A = ℕ} 0 1 = cc in omega arith)
in_section_lem kinds.File p n e = absurd (let w : ◌≡◌ {A = ℕ} 0 1 = cc in omega arith)

-- ---- the arrays' room, for few records and for many
module _ (h : Header) where
  pub few_cleared : few_records h ≡ true → Cleared h (replicate FEW_SECTIONS 0) (replicate FEW_SYMBOLS 0)
  unfolding section_room code_room pick
  few_cleared t = record { no_homes = rw t; no_codes = rw t }

  pub many_cleared : few_records h ≡ false → Cleared h (replicate MAX_SECTIONS 0) (replicate MAX_SYMBOLS 0)
  unfolding section_room code_room pick
  many_cleared t = record { no_homes = rw t; no_codes = rw t }

  -- what the limits allow has room
  pub sections_room : h.sections ≤ MAX_SECTIONS → h.sections ≤ section_room h
  unfolding section_room few_records pick
  sections_room s =
      ⊎_elim (λ t. rw t (leb-true h.sections FEW_SECTIONS (and_left (leb h.sections FEW_SECTIONS) (leb h.symbols FEW_SYMBOLS) t)))
      (λ t. rw t s)
      (yes_no (leb h.sections FEW_SECTIONS && leb h.symbols FEW_SYMBOLS))

  pub codes_room : h.symbols ≤ MAX_SYMBOLS → h.symbols ≤ code_room h
  unfolding code_room few_records pick
  codes_room s =
      ⊎_elim (λ t. rw t (leb-true h.symbols FEW_SYMBOLS (and_right (leb h.sections FEW_SECTIONS) (leb h.symbols FEW_SYMBOLS) t)))
      (λ t. rw t s)
      (yes_no (leb h.sections FEW_SECTIONS && leb h.symbols FEW_SYMBOLS))

module _ (f : List ℕ) (h : Header) (fits : Fits f h) where
  word_whole : (j : ℕ) → get_or (home_words f h) j 0 ≡ get_or (homes_to f h h.sections) j 0
  word_whole j =
      let l = length_list (home_word f h) h.sections in
      let s = sections_room h fits.sections in
      padded (homes_to f h h.sections) (section_room h) j (omega arith)

  -- the sections' homes, and which records they are
  pub homes_whole : home_in (home_words f h) ≡ section_home f h
  homes_whole =
      fun_ext (λ j. ap word_home (word_whole j)) ∙ homes_kept f h fits.pages

  pub records_whole : record_in (home_words f h) ≡ home_record f h
  records_whole = fun_ext (λ j. ap word_record (word_whole j)) ∙ records_kept f h

  -- the kept codes are those of the records
  pub codes_whole : CodesKept f h (code_words f h)
  codes_whole = filled_kept f h (code_words f h) (code_room h) (codes_room h fits.symbols) refl

  -- so the extern names are the file's
  pub names_whole : externs_by f h (puts_in (code_words f h)) ≡ externs f h
  names_whole = ap (externs_by f h) (puts_kept f h (code_words f h) codes_whole)

  module _ (numbers : numbers_ok f h ≡ true) where
    number_low : (j n : ℕ) → j < h.symbols → primary f h j ≡ true → symbol_rule f h j ≡ rules.Section n → n < SPAN
    unfolding ok_at
    number_low j n k p e =
        let a : (not (primary f h j) || number_ok f h j) ≡ true = all_at (ok_at number_ok f h) h.symbols j numbers k in
        let b : number_ok f h j ≡ true = rw p at a in
        let c : place_within h.sections (In n) ≡ true = rw (in_section_lem (kind f h j) (symbol_place f h j) n e) at b in
        let d = leb-true n h.sections c in
        let s = fits.sections in
        omega arith

    coded : Coded f h
    coded = record { sections = let s = fits.sections in omega arith; numbers = number_low }

    -- and the targets too
    pub targets_whole : length (externs f h) ≤ MAX_EXTERNS
        → target_in (home_words f h) (undef_start f h) (slotted f h (externs f h) (code_words f h)) ≡ targets f h
    targets_whole few =
        ap (λ (home : ℕ → Option RVA). λ (j : ℕ). code_target home (undef_start f h) (get_or (slotted f h (externs f h) (code_words f h)) j 0)) homes_whole
        ∙ fun_ext (target_kept f h (externs f h) (code_words f h) coded codes_whole (omega arith))

    -- the answer is the one by the rules
    pub answer_whole : answer_in f h (home_words f h) (code_words f h) ≡ externs_answer f h (section_home f h) (targets f h) (length (externs f h))
    unfolding answer_of first_failed pick
    answer_whole =
        rw names_whole
        (⊎_elim (λ k. rw (targets_whole k, homes_whole)) (λ k. rw (lt-leb (length (externs f h)) MAX_EXTERNS k)) (le_or_lt (length (externs f h)) MAX_EXTERNS))
