-- What a file has whose lines are printed: no more than the program has room for.
use Rattle.refusal.specs.declared.Refusal.{Refusal}
use Rattle.std.specs.declared.cmp.Ordering.{Ordering}
use Rattle.std.specs.declared.cmp.Ordering.TheVariants.{Less, Equal, Greater}
use Rattle.std.specs.Prelude.{◌≡◌, refl, Bool, leb, Result, Ok, Err}
use Rattle.std.proofs.Common.{ap}
use Rattle.std.proofs.Math.Bool.{true, false}
use mathlib.Core.List.{List, [], ◌∷◌}
use Prim.Native.Nat.{ℕ, suc, ◌+◌, ◌≤◌, min}
use native.Mathlib.Omega.{arith}
use Rattle.std.proofs.Math.ListN.{length}
use borrow.Author.Tests.{leb-true}
use Rattle.util.specs.Pick.{pick, and_left, and_right}
use Rattle.util.specs.Prefix.{sum_to, count_most}
use Rattle.util.specs.Fold.{fold_records, fold_sections, fold_at, sections_walk}
use Rattle.object.specs.declared.Header.{Header}
use Rattle.object.specs.Format.{header_of}
use Rattle.object.specs.Section.{loaded, relocation_count}
use Rattle.object.specs.Relocation.{relocation_symbol}
use Rattle.homes.specs.Home.{section_home}
use Rattle.homes.specs.Listed.{listed}
use Rattle.codes.specs.Puts as Puts
use Rattle.externs.specs.Externs.{order_of, by_order, insert_name, extern_step, externs_to, externs}
use Rattle.survey.specs.declared.answer.Counts.{Counts}
use Rattle.survey.specs.Survey.{counts, counts_by, survey_of}
use Rattle.survey.specs.Acceptance.{counts_are, counts_add_up}
use Rattle.verdict.specs.declared.answer.Verdict.TheVariants.{TooLarge, Lines}
use Rattle.verdict.specs.Verdict.{MOST_BYTES, MOST_PAGES, MOST_SECTIONS, MOST_SYMBOLS, MOST_RELOCATIONS, fits, verdict_by, verdict_of}

-- the verdict is its lines, survey accepts it, and each count is within what the program has room for
pub record Within (f : List ℕ) (c : Counts) : Type 0 where
  pub verdict : verdict_of f ≡ Lines c
  pub bytes : length f ≤ MOST_BYTES
  pub accepted : survey_of f ≡ Ok c
  pub pages : c.pages ≤ MOST_PAGES
  pub file_sections : c.file_sections ≤ MOST_SECTIONS
  pub sections : c.sections ≤ MOST_SECTIONS + 1
  pub symbols : c.symbols ≤ MOST_SYMBOLS
  pub externs : c.externs ≤ MOST_RELOCATIONS
  pub fixups : c.fixups ≤ MOST_RELOCATIONS
  pub skips : c.skips ≤ MOST_RELOCATIONS
  pub passed : c.passed ≤ MOST_RELOCATIONS

-- ---- no more extern names than relocations
insert_one : (f : List ℕ) (h : Header) (j : ℕ) (xs : List ℕ) → length (insert_name f h j xs) ≤ suc (length xs)
unfolding insert_name
insert_one f h j [] = omega arith
insert_one f h j (x ∷ xs) = by_order_lem (order_of f h j x) (insert_one f h j xs)
  where
    by_order_lem : (o : Ordering) → length (insert_name f h j xs) ≤ suc (length xs)
        → length (by_order o (j ∷ x ∷ xs) (min j x ∷ xs) (x ∷ insert_name f h j xs)) ≤ suc (suc (length xs))
    by_order_lem Less k = omega arith
    by_order_lem Equal k = omega arith
    by_order_lem Greater k = omega arith

module _ (f : List ℕ) (h : Header) (puts : ℕ → Bool) where
  step_most : (xs : List ℕ) (i k m : ℕ) → length xs ≤ m + k → length (extern_step f h puts xs i k) ≤ m + suc k
  unfolding extern_step pick
  step_most xs i k m q = by_put (puts (relocation_symbol f h i k))
    where
      by_put : (b : Bool) → length (pick b (insert_name f h (relocation_symbol f h i k) xs) xs) ≤ m + suc k
      by_put true = let z = insert_one f h (relocation_symbol f h i k) xs in omega arith
      by_put false = omega arith

  externs_most : (n : ℕ) → length (externs_to f h puts n) ≤ sum_to (relocation_count f h) n
  unfolding fold_records fold_sections sum_to
  externs_most n =
      let e =
      sections_walk (relocation_count f h)
      (λ i k. length (fold_at (extern_step f h puts) (relocation_count f h) [] i k) ≤ sum_to (relocation_count f h) i + k) n (omega arith)
      (λ i k l q. step_most _ i k (sum_to (relocation_count f h) i)) (λ i e. omega arith) in
      omega arith

-- ---- from the verdict
lines_by_lem : (s : Result Counts Refusal) (c : Counts) → verdict_by s ≡ Lines c → (s ≡ Ok c) × (fits c ≡ true)
unfolding verdict_by pick
lines_by_lem (Err n) c e = absurd (let w : ◌≡◌ {A = ℕ} 0 1 = cc in omega arith)
lines_by_lem (Ok d) c e = by_fit (fits d) refl e
  where
    by_fit : (b : Bool) → fits d ≡ b → pick b (Lines d) TooLarge ≡ Lines c → ◌≡◌ {A = Result Counts Refusal} (Ok d) (Ok c) × (fits c ≡ true)
    by_fit true q x = let z : d ≡ c = cc in (ap Ok z, rw z at q)
    by_fit false q x = absurd (let w : ◌≡◌ {A = ℕ} 0 1 = cc in omega arith)

short : (f : List ℕ) (c : Counts) → verdict_of f ≡ Lines c → (leb (length f) MOST_BYTES ≡ true) × (verdict_by (survey_of f) ≡ Lines c)
unfolding verdict_of pick
short f c e = by_size (leb (length f) MOST_BYTES) refl e
  where
    by_size : (b : Bool) → leb (length f) MOST_BYTES ≡ b → pick b (verdict_by (survey_of f)) TooLarge ≡ Lines c → (leb (length f) MOST_BYTES ≡ true) × (verdict_by (survey_of f) ≡ Lines c)
    by_size true q x = (q, x)
    by_size false q x = absurd (let w : ◌≡◌ {A = ℕ} 0 1 = cc in omega arith)

module _ (f : List ℕ) (c : Counts) (e : verdict_of f ≡ Lines c) where
  accepted : survey_of f ≡ Ok c
  accepted = (lines_by_lem (survey_of f) c (short f c e).1).0

  fit : fits c ≡ true
  fit = (lines_by_lem (survey_of f) c (short f c e).1).1

  abbrev h : Header
  h = header_of f

  are : counts f h ≡ c
  are = counts_are f c accepted

  records : c.sections ≤ c.file_sections + 1
  unfolding counts_by
  records = rw (← are) (let z = count_most (loaded f h) h.sections in omega arith)

  listed_most : c.symbols ≤ c.symbol_records
  unfolding counts_by
  listed_most = rw (← are) (count_most (listed f h (section_home f h)) h.symbols)

  names_most : c.externs ≤ c.relocations
  unfolding counts_by
  names_most = rw (← are) (externs_most f h (Puts.puts f h) h.sections)

  -- what follows from the verdict
  pub within : Within f c
  unfolding fits
  within =
      let a = and_right (leb c.pages MOST_PAGES) _ fit in
      let b = and_right (leb c.file_sections MOST_SECTIONS) _ a in
      let p = leb-true c.pages MOST_PAGES (and_left (leb c.pages MOST_PAGES) _ fit) in
      let s = leb-true c.file_sections MOST_SECTIONS (and_left (leb c.file_sections MOST_SECTIONS) _ a) in
      let y = leb-true c.symbol_records MOST_SYMBOLS (and_left (leb c.symbol_records MOST_SYMBOLS) _ b) in
      let r = leb-true c.relocations MOST_RELOCATIONS (and_right (leb c.symbol_records MOST_SYMBOLS) _ b) in
      let z = counts_add_up f c accepted in
      record {
        verdict = e;
        bytes = leb-true (length f) MOST_BYTES (short f c e).0;
        accepted = accepted;
        pages = p;
        file_sections = s;
        sections = omega (arith, records);
        symbols = omega (arith, listed_most);
        externs = omega (arith, names_most);
        fixups = omega arith;
        skips = omega arith;
        passed = omega arith;
      }
