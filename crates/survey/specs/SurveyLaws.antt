-- What an answer of survey says of the file.
use Rattle.refusal.specs.declared.Refusal.{Refusal}
use Rattle.std.specs.Prelude.{◌≡◌, refl, Bool, true, false, List, [], ◌∷◌, ◌++◌, ℕ, ◌≤◌, leb, eqb, Ok, Err}
use Rattle.std.proofs.Common.{sym, ◌∙◌, ⊎_elim, arith, leb-true}
use Rattle.util.specs.Pick.{pick, yes_no, and_left}
use Rattle.refusal.specs.Refusal.{Code, PASSES, answer_of}
use Rattle.object.specs.declared.Header.{Header}
use Rattle.object.specs.Format.{header_of}
use Rattle.layout.specs.Layout.{mapped_pages}
use Rattle.limits.specs.Limits.{MAX_SECTIONS, MAX_SYMBOLS, MAX_PAGES}
use Rattle.bounds.specs.Bounds.{size_ok, machine_ok, section_table_ok, symbol_table_ok, sections_ok}
use Rattle.good_names.specs.GoodNames.{names_ok}
use Rattle.checks.specs.Checks.{numbers_ok, pages_ok}
use Rattle.survey.specs.declared.answer.Counts.{Counts}
use Rattle.survey.specs.Survey.{Check, check, first_failed, early_checks, page_checks, record_checks, answer_by}
use Rattle.survey.specs.Surveying.{Fits}

-- ---- a list of checks without a failure
module _ (ok : Bool) (r : Refusal) (cs : List Check) where
  pub check_holds : first_failed (check ok (Err r) ∷ cs) ≡ PASSES → ok ≡ true
  unfolding first_failed pick
  check_holds e = ⊎_elim (λ t. t) (λ t. let z : ◌≡◌ {A = Code} (Err r) PASSES = rw t at e in cc) (yes_no ok)

  pub checks_hold : first_failed (check ok (Err r) ∷ cs) ≡ PASSES → first_failed cs ≡ PASSES
  unfolding first_failed pick
  checks_hold e = rw (check_holds e) at e

-- of two lists, the second is asked only where the first has no failure
pub failed_first : (xs ys : List Check) (r : Refusal) → first_failed xs ≡ Err r → first_failed (xs ++ ys) ≡ Err r
unfolding first_failed pick
failed_first [] ys r e = cc
failed_first (c ∷ xs) ys r e =
    ⊎_elim (λ t. rw t (failed_first xs ys r (rw t at e))) (λ t. rw t (rw t at e)) (yes_no c.passes)

-- ---- the file's records are in order: 1 to 7 do not apply
pub record Early (f : List ℕ) (h : Header) : Type 0 where
  pub size : size_ok f ≡ true
  pub machine : machine_ok h ≡ true
  pub section_table : section_table_ok f h ≡ true
  pub symbol_table : symbol_table_ok f h ≡ true
  pub sections : sections_ok f h ≡ true
  pub names : names_ok f h ≡ true
  pub numbers : numbers_ok f h ≡ true

-- and 8 does not either
pub record Ordered (f : List ℕ) (h : Header) : Type 0 where
  pub size : size_ok f ≡ true
  pub machine : machine_ok h ≡ true
  pub section_table : section_table_ok f h ≡ true
  pub symbol_table : symbol_table_ok f h ≡ true
  pub sections : sections_ok f h ≡ true
  pub names : names_ok f h ≡ true
  pub numbers : numbers_ok f h ≡ true
  pub pages : pages_ok f h ≡ true

module _ (f : List ℕ) (h : Header) where
  -- the seven checks of the records, with others behind them
  pub early : (cs : List Check) → first_failed (early_checks f h ++ cs) ≡ PASSES → Early f h
  early cs e0 =
      let e1 = checks_hold _ _ _ e0 in
      let e2 = checks_hold _ _ _ e1 in
      let e3 = checks_hold _ _ _ e2 in
      let e4 = checks_hold _ _ _ e3 in
      let e5 = checks_hold _ _ _ e4 in
      let e6 = checks_hold _ _ _ e5 in
      record {
        size = check_holds _ _ _ e0;
        machine = check_holds _ _ _ e1;
        section_table = check_holds _ _ _ e2;
        symbol_table = check_holds _ _ _ e3;
        sections = check_holds _ _ _ e4;
        names = check_holds _ _ _ e5;
        numbers = check_holds _ _ _ e6;
      }

  -- where they pass, the checks behind them decide
  pub early_rest : (cs : List Check) → Early f h → first_failed (early_checks f h ++ cs) ≡ first_failed cs
  unfolding first_failed pick
  early_rest cs o = rw (o.size, o.machine, o.section_table, o.symbol_table, o.sections, o.names, o.numbers)

  -- with the eighth
  pub with_pages : Early f h → pages_ok f h ≡ true → Ordered f h
  with_pages o t =
      record {
        size = o.size;
        machine = o.machine;
        section_table = o.section_table;
        symbol_table = o.symbol_table;
        sections = o.sections;
        names = o.names;
        numbers = o.numbers;
        pages = t;
      }

  -- the eight, with others behind them
  module _ (cs : List Check) (e : first_failed (record_checks f h ++ cs) ≡ PASSES) where
    pages_rest : first_failed (page_checks f h ++ cs) ≡ PASSES
    pages_rest = sym (early_rest (page_checks f h ++ cs) (early (page_checks f h ++ cs) e)) ∙ e

    pub ordered : Ordered f h
    ordered = with_pages (early (page_checks f h ++ cs) e) (check_holds _ _ _ pages_rest)

    pub ordered_rest : first_failed cs ≡ PASSES
    ordered_rest = checks_hold _ _ _ pages_rest

  -- where they are in order, the checks behind them decide
  pub records_rest : (cs : List Check) → Ordered f h → first_failed (record_checks f h ++ cs) ≡ first_failed cs
  unfolding first_failed pick
  records_rest cs o = rw (o.size, o.machine, o.section_table, o.symbol_table, o.sections, o.names, o.numbers, o.pages)

-- an answer tells its code
pub tells_accepted : (code : Code) (a c : Counts) → answer_by code a ≡ Ok c → (code ≡ PASSES) × (a ≡ c)
unfolding answer_of
tells_accepted (Ok u) a c e = (refl, cc)
tells_accepted (Err r) a c e = cc

pub tells_refused : (code : Code) (a : Counts) (r : Refusal) → answer_by code a ≡ Err r → code ≡ Err r
unfolding answer_of
tells_refused (Ok u) a r e = cc
tells_refused (Err k) a r e = cc

-- ---- the local arrays hold the file's records
no_table : (f : List ℕ) → eqb (header_of f).symbol_table 0 ≡ true → (header_of f).symbols ≡ 0
unfolding header_of pick
no_table f e = rw e

few_symbols : (f : List ℕ) (h : Header) → h ≡ header_of f → symbol_table_ok f h ≡ true → h.symbols ≤ MAX_SYMBOLS
unfolding symbol_table_ok
few_symbols f h q e =
    ⊎_elim (λ t. let z : h.symbols ≡ 0 = rw q (no_table f (rw q at t)) in omega arith)
    (λ t. leb-true h.symbols MAX_SYMBOLS (and_left (leb h.symbols MAX_SYMBOLS) _ (rw t at e)))
    (yes_no (eqb h.symbol_table 0))

pub sections_fit : (f : List ℕ) (h : Header) → section_table_ok f h ≡ true → h.sections ≤ MAX_SECTIONS
unfolding section_table_ok
sections_fit f h e = leb-true h.sections MAX_SECTIONS (and_left (leb h.sections MAX_SECTIONS) _ e)

pub fits_is : (f : List ℕ) (h : Header) → h ≡ header_of f → Ordered f h → Fits f h
fits_is f h q o =
    record {
      sections = sections_fit f h o.section_table;
      symbols = few_symbols f h q o.symbol_table;
      pages = leb-true (mapped_pages f h) MAX_PAGES o.pages;
    }
