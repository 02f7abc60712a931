-- The ways through the code. Assumes nothing.
use Rattle.refusal.specs.declared.Refusal.TheVariants.{Externs, Pages}
use Rattle.refusal.specs.declared.Refusal.{Refusal}
use Rattle.std.specs.Prelude.{Option, Result, Ok, Err, Some, None, ok_or}
use mathlib.Core.Path.{◌≡◌, refl, sym, ap, ◌∙◌}
use mathlib.Core.Bool.{Bool, true, false, not, ◌&&◌}
use mathlib.Core.List.{List, [], ◌∷◌, ◌++◌}
use mathlib.Core.Logic.{⊎_elim}
use Prim.Native.Nat.{ℕ, zero, suc, ◌+◌, ◌-◌, ◌≤◌, ◌%◌, ◌^◌}
use native.Mathlib.Omega.{arith}
use lib.Dec.{eqb, leb}
use lib.ListN.{length, replicate, length-replicate}
use borrow.Author.Tests.{not-true, not-false}
use Rattle.limits.specs.Limits.{MAX_SECTIONS, MAX_SYMBOLS, FEW_SECTIONS, FEW_SYMBOLS, MAX_PAGES, MAX_EXTERNS}
use Rattle.refusal.specs.Refusal.{Code, PASSES, PAGES, answer_of, value_is, refusal_is}
use Rattle.util.specs.Pick.{pick, yes_no}
use Rattle.le.specs.Le.{splice}
use Rattle.codes.specs.Code.{codes_to}
use Rattle.arch.specs.declared.Arch.{Arch}
use Rattle.arch.specs.declared.RVA.{RVA}
use Rattle.arch.specs.Address.{rva}
use Rattle.arch.specs.Machine.{arch_of, arch_by}
use Rattle.bounds.specs.Bounds.{relocation_total}
use Rattle.checks.specs.Checks.{pages_ok}
use Rattle.checks.specs.CheckLaws.{pages_are, pages_few}
use Rattle.object.specs.declared.Header.{Header}
use Rattle.object.specs.Format.{header_of}
use Rattle.object.specs.Section.{relocation_count}
use Rattle.layout.specs.Layout.{undef_start, pages_to, mapped_pages, table_records}
use Rattle.homes.specs.Home.{homes_to, home_in}
use Rattle.homes.specs.Listed.{listed_total}
use Rattle.externs.specs.Externs.{externs, names_of}
use Rattle.externs.specs.Slotted.{slotted, CodesAfter}
use Rattle.targets.specs.declared.Target.{Target}
use Rattle.targets.specs.Table.{target_in}
use Rattle.fixups.specs.declared.Outcome.{Outcome}
use Rattle.fixups.specs.Outcome.{outcome}
use Rattle.fixups.specs.Tally.{tally_of}
use Rattle.fixups.specs.TallyLaws.{all_counted}
use Rattle.fixups.specs.declared.Tally.{Tally}
use Rattle.survey.specs.declared.answer.Counts.{Counts}
use Rattle.survey.specs.Survey.{Check, check, first_failed, early_checks, page_checks, target_checks, extern_checks, tally_by, counts_by, tally, checks, counts, answer_by, survey_of}
use Rattle.survey.specs.SurveyLaws.{Early, Ordered, failed_first, early, early_rest, with_pages, records_rest, sections_fit, fits_is}
use Rattle.survey.specs.Surveying.{behind_pages, targets_answer, planned_by, names_in, answer_in, few_records, section_room, code_room, home_words, code_words, Cleared}
use Rattle.survey.specs.TableLaws.{answer_whole}

-- ---- the counts
abbrev pub counts_of : Header → Tally → ℕ → ℕ → ℕ → ℕ → ℕ → Counts
counts_of h t pages sections symbols n relocations =
    record {
      pages = pages;
      sections = sections;
      symbols = symbols;
      externs = n;
      fixups = t.fixups;
      skips = t.skips;
      passed = t.passed;
      file_sections = h.sections;
      symbol_records = h.symbols;
      relocations = relocations;
    }

pub counts_are : (f : List ℕ) (h : Header) (home : ℕ → Option RVA) (n p s y r : ℕ) (u : RVA) (t : Tally) → p ≡ pages_to u.0 → s ≡ table_records f h → y ≡ listed_total f h home → r ≡ relocation_total f h → u ≡ rva (undef_start f h) → counts_of h t p s y n r ≡ counts_by f h home n t
unfolding counts_by
counts_are f h home n p s y r u t a b c d e = rw (a, e, b, c, d)

-- ---- the chain of checks
module _ (ok r : Bool) (n : Code) (cs : List Check) where
  pub check_pass : (x : Code) → r ≡ ok → not r ≡ false → x ≡ first_failed cs → x ≡ first_failed (check ok n ∷ cs)
  unfolding first_failed pick
  check_pass x q e d = let z : ok ≡ true = cc (not-false r e) in rw z d

  pub check_fail : r ≡ ok → not r ≡ true → n ≡ first_failed (check ok n ∷ cs)
  unfolding first_failed pick
  check_fail q e = let z : ok ≡ false = cc (not-true r e) in rw z

pub checks_end : PASSES ≡ first_failed []
unfolding first_failed
checks_end = refl

pub ruleset chain = (check_pass, check_fail, checks_end)

-- ---- UNDEF and the pages in 32 bits
-- of an image that is not too large both fit
pub tally_fits : (f : List ℕ) (h : Header) (homes codes : List ℕ) (a : Arch) (offset pages : ℕ) (u : RVA) (r : Tally) → a ≡ arch_by (arch_of h.machine)
    → offset ≡ u.0 % 2 ^ 32 → pages ≡ pages_to u.0 % 2 ^ 32
    → r ≡ tally_of pages (outcome a f h (home_in homes) (target_in homes offset codes)) (relocation_count f h) h.sections
    → mapped_pages f h ≤ MAX_PAGES → u ≡ rva (undef_start f h)
    → r ≡ tally_by f h (home_in homes) (target_in homes (undef_start f h) codes)
tally_fits f h homes codes a offset pages u r e q p d k g =
    let z : u.0 ≡ undef_start f h = rw g in
    let x : offset ≡ undef_start f h = omega arith in
    let y : pages ≡ mapped_pages f h = omega arith in
    rw (y, x, e) at d

-- and its numbers add up to the relocations
pub tally_adds : (f : List ℕ) (h : Header) (pages : ℕ) (o : ℕ → ℕ → Outcome) (r : Tally) → r ≡ tally_of pages o (relocation_count f h) h.sections
    → r.passed + r.skips + r.refused + r.fixups ≡ relocation_total f h
unfolding tally_of
tally_adds f h pages o r e = rw e (all_counted o (relocation_count f h) h.sections)

-- ---- behind refusal 8, by UNDEF's start
module _ (f : List ℕ) (h : Header) (b : Bool) (u : RVA) (q : b ≡ leb (pages_to u.0) MAX_PAGES) where
  behind_yes : (x s : Result Counts Refusal) → b ≡ true → u ≡ rva (undef_start f h) → x ≡ s → x ≡ behind_pages f h s
  unfolding pick
  behind_yes x s e start d = rw (← pages_are f h b u q start, e) d

  pub behind_no : (s : Result Counts Refusal) → b ≡ false → u ≡ rva (undef_start f h) → Err Pages ≡ behind_pages f h s
  unfolding pick
  behind_no s e start = rw (← pages_are f h b u q start, e)

  pub planned_yes : (home : ℕ → Option RVA) (target : ℕ → Target) (n : ℕ) (x : Result Counts Refusal) → b ≡ true
      → (mapped_pages f h ≤ MAX_PAGES → u ≡ rva (undef_start f h) → x ≡ targets_answer f h home target n) → u ≡ rva (undef_start f h) → x ≡ planned_by f h home target n
  planned_yes home target n x e d start = behind_yes x (targets_answer f h home target n) e start (d (pages_few f h b u q start e) start)

pub ruleset planned = (planned_yes, behind_no)

-- ---- behind refusals 10 and 11
module _ (f : List ℕ) (h : Header) (home : ℕ → Option RVA) (target : ℕ → Target) (n : ℕ) (t : Tally) (u : RVA) (k : Code)
    (is : mapped_pages f h ≤ MAX_PAGES → u ≡ rva (undef_start f h) → t ≡ tally_by f h home target) (checked : k ≡ first_failed (target_checks t)) where
  pub targets_refused : (r : Refusal) → k ≡ Err r → mapped_pages f h ≤ MAX_PAGES → u ≡ rva (undef_start f h) → Err r ≡ targets_answer f h home target n
  targets_refused r e p q = refusal_is k _ _ r (rw (is p q) at checked) e

  pub targets_counted : (v : Unit) (c : Counts) → k ≡ Ok v → (u ≡ rva (undef_start f h) → c ≡ counts_by f h home n t)
      → mapped_pages f h ≤ MAX_PAGES → u ≡ rva (undef_start f h) → Ok c ≡ targets_answer f h home target n
  targets_counted v c e d p q = value_is k _ _ c v (rw (is p q) at checked) e (rw (is p q) at (d q))

pub ruleset targets_ways = (targets_refused, targets_counted)

-- ---- the extern names
names_over : (ys : List ℕ) → None ≡ names_of ys → leb (length ys) MAX_EXTERNS ≡ false
unfolding pick
names_over ys e = ⊎_elim (λ t. absurd (let z : None ≡ Some (length ys) = rw t at e in let w : ◌≡◌ {A = ℕ} 0 1 = cc in omega arith)) (λ t. t) (yes_no (leb (length ys) MAX_EXTERNS))

pub record Counted (ys : List ℕ) (n : ℕ) : Type 0 where
  pub few : leb (length ys) MAX_EXTERNS ≡ true
  pub all : n ≡ length ys

names_fit : (ys : List ℕ) (n : ℕ) → Some n ≡ names_of ys → Counted ys n
unfolding pick
names_fit ys n e =
    ⊎_elim (λ t. record { few = t; all = let z : Some n ≡ Some (length ys) = rw t at e in cc })
    (λ t. absurd (let z : Some n ≡ None = rw t at e in let w : ◌≡◌ {A = ℕ} 0 1 = cc in omega arith)) (yes_no (leb (length ys) MAX_EXTERNS))

-- what is said where there are too many
pub some_is : (r : Option ℕ) (n : ℕ) → ok_or r Externs ≡ Ok n → r ≡ Some n
some_is (Some m) n e = cc
some_is None n e = cc

pub none_is : (r : Option ℕ) (k : Refusal) → ok_or r Externs ≡ Err k → (r ≡ None) × (k ≡ Externs)
none_is (Some m) k e = cc
none_is None k e = (refl, cc)

module _ (f : List ℕ) (h : Header) (homes codes : List ℕ) (r : Option ℕ) (q : Result ℕ Refusal) (is : r ≡ names_of (names_in f h codes)) (said : q ≡ ok_or r Externs) where
  pub externs_over : (k : Refusal) → q ≡ Err k → Err k ≡ answer_in f h homes codes
  unfolding answer_of first_failed pick
  externs_over k e =
      let z = none_is r k (sym said ∙ e) in
      rw (z.1, names_over (names_in f h codes) (sym z.0 ∙ is))

  pub externs_fit : (n : ℕ) (codes' : List ℕ) (u : RVA) (x : Result Counts Refusal) → q ≡ Ok n → CodesAfter f h codes (names_in f h codes) codes'
      → mapped_pages f h ≤ MAX_PAGES → u ≡ rva (undef_start f h)
      → (mapped_pages f h ≤ MAX_PAGES → u ≡ rva (undef_start f h) → x ≡ targets_answer f h (home_in homes) (target_in homes (undef_start f h) codes') n)
      → x ≡ answer_in f h homes codes
  unfolding first_failed pick
  externs_fit n codes' u x e after room start d =
      let c = names_fit (names_in f h codes) n (sym (some_is r n (sym said ∙ e)) ∙ is) in
      let g : codes' ≡ slotted f h (names_in f h codes) codes = after.few c.few in
      rw c.few (rw (g, c.all) at (d room start))

pub ruleset extern_ways = (externs_over, externs_fit)

-- ---- the arrays
module _ (f : List ℕ) (h : Header) (homes₀ codes₀ homes codes : List ℕ) (few : h.sections ≤ MAX_SECTIONS) (zeros : Cleared h homes₀ codes₀) where
  pub records_by : (b : Bool) (u : RVA) (x : Result Counts Refusal) → homes ≡ splice homes₀ 0 (homes_to f h h.sections) → (h.sections ≤ MAX_SECTIONS → codes ≡ splice codes₀ 0 (codes_to f h h.symbols))
      → b ≡ leb (pages_to u.0) MAX_PAGES → b ≡ true → u ≡ rva (undef_start f h) → x ≡ answer_in f h homes codes
      → x ≡ behind_pages f h (answer_in f h (home_words f h) (code_words f h))
  records_by b u x e c p t start d =
      let a : homes ≡ home_words f h = rw zeros.no_homes at e in
      let k : codes ≡ code_words f h = rw zeros.no_codes at (c few) in
      behind_yes f h b u p x (answer_in f h (home_words f h) (code_words f h)) t start (rw (a, k) at d)

pub ruleset section_ways = (records_by, behind_no, pages_few)

-- they are no larger than the large ones
at_most : (b : Bool) (a n : ℕ) → a ≤ n → pick b a n ≤ n
unfolding pick
at_most true a n h = h
at_most false a n h = omega arith

pub room_low : (h : Header) (s y : ℕ) → Cleared h (replicate s 0) (replicate y 0) → (s ≤ MAX_SECTIONS) × (y ≤ MAX_SYMBOLS)
unfolding section_room code_room
room_low h s y c =
    let a : s ≡ section_room h = sym (length-replicate s 0) ∙ ap length c.no_homes ∙ length-replicate (section_room h) 0 in
    let b : y ≡ code_room h = sym (length-replicate y 0) ∙ ap length c.no_codes ∙ length-replicate (code_room h) 0 in
    let d = at_most (few_records h) FEW_SECTIONS MAX_SECTIONS (omega arith) in
    let e = at_most (few_records h) FEW_SYMBOLS MAX_SYMBOLS (omega arith) in
    (rw a d, rw b e)

pub few_is : (h : Header) {r : Bool} → r ≡ (leb h.sections FEW_SECTIONS && leb h.symbols FEW_SYMBOLS) → r ≡ few_records h
unfolding few_records
few_is h e = e

-- ---- the whole
behind_is : (f : List ℕ) (h : Header) (s y : Result Counts Refusal) → (pages_ok f h ≡ true → s ≡ y) → (pages_ok f h ≡ false → Err Pages ≡ y) → behind_pages f h s ≡ y
unfolding pick
behind_is f h s y a b = ⊎_elim (λ t. rw t (a t)) (λ t. rw t (b t)) (yes_no (pages_ok f h))

module _ (f : List ℕ) (h : Header) (code : Code) (is : code ≡ first_failed (early_checks f h)) where
  abbrev late : List Check
  late = extern_checks (length (externs f h)) ++ target_checks (tally f h)

  refused_by : (r : Refusal) → first_failed (checks f h) ≡ Err r → Err r ≡ answer_by (first_failed (checks f h)) (counts f h)
  unfolding answer_of
  refused_by r e = rw e

  pages_apply : Early f h → pages_ok f h ≡ false → first_failed (checks f h) ≡ PAGES
  unfolding first_failed pick
  pages_apply o t = early_rest f h (page_checks f h ++ late) o ∙ rw t

  ordered_answer : Ordered f h → h ≡ header_of f → answer_in f h (home_words f h) (code_words f h) ≡ answer_by (first_failed (checks f h)) (counts f h)
  ordered_answer o q = answer_whole f h (fits_is f h q o) o.numbers ∙ ap (λ (k : Code). answer_by k (counts f h)) (sym (records_rest f h late o))

  module _ (v : Unit) (passed : code ≡ Ok v) where
    in_order : Early f h
    in_order = early f h [] (sym is ∙ passed)

    pages_answer : h ≡ header_of f → behind_pages f h (answer_in f h (home_words f h) (code_words f h)) ≡ answer_by (first_failed (checks f h)) (counts f h)
    pages_answer q = behind_is f h _ _ (λ t. ordered_answer (with_pages f h in_order t) q) (λ t. refused_by Pages (pages_apply in_order t))

    -- a place for each section
    pub sections_few : h.sections ≤ MAX_SECTIONS
    sections_few = sections_fit f h in_order.section_table

    pub survey_yes : (x : Result Counts Refusal) → h ≡ header_of f → x ≡ behind_pages f h (answer_in f h (home_words f h) (code_words f h)) → x ≡ survey_of f
    survey_yes x q d = rw (← q) (d ∙ pages_answer q)

  pub survey_no : (r : Refusal) → code ≡ Err r → h ≡ header_of f → Err r ≡ survey_of f
  survey_no r z q = rw (← q) (refused_by r (failed_first (early_checks f h) (page_checks f h ++ late) r (sym is ∙ z)))

pub ruleset whole = (sections_few, survey_yes, survey_no)
