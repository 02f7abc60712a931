-- Line k of a list of lines, as the code finds it. Assumes nothing.
use Rattle.std.proofs.Common.{◌≡◌, ℕ, suc, ◌+◌, ◌-◌, ◌*◌, ◌%◌, ◌^◌, ◌<◌, ◌≤◌, List, [], ◌∷◌, ◌++◌, get_or, refl, arith, ne_eqb}
use lib.ListN.{get_or-eq_default}
use Rattle.limits.specs.Records.{WORD, SECTION_WORDS, SECTION_START, SECTION_END, SECTION_FILE_START, SECTION_FILE_END, SECTION_PERMISSIONS, SECTION_NAME_START, SECTION_NAME_LENGTH, SECTION_FILE_NUMBER, SYMBOL_WORDS, EXTERN_WORDS, ADDRESS, NAME_START, NAME_LENGTH, SYMBOL_KIND, FIXUP_WORDS, FIXUP_PLACE, FIXUP_BITS, FIXUP_VALUE, SKIP_WORDS, SKIP_SECTION, SKIP_RECORD, SKIP_REASON}
use Rattle.util.specs.Pick.{pick}
use Rattle.util.specs.Prefix.{list_to}
use Rattle.le.specs.Le.{get, part, splice}
use Rattle.kinds.specs.Symbol.{kind_numbered}
use Rattle.kinds.specs.declared.SymbolKind.{SymbolKind}
use Rattle.names.specs.Bytes.{UNDEF}
use Rattle.words.specs.Words.{word_of}
use Rattle.survey.specs.declared.answer.Counts.{Counts}
use Rattle.text.specs.Text.{Puts}
use Rattle.lines.specs.Lines.{section_line, symbol_line, extern_line, fix_line, skip_line}
use Rattle.listing.specs.Listing.{section_title, section_line_at, symbol_line_at, extern_line_at, fix_line_at, skip_line_at, line_count}
use Rattle.listing.specs.ListingLaws.{at_row, behind_rows}

-- ---- rows, and what stands behind them
module _ (g : ℕ → List ℕ) (rest : List (List ℕ)) (l e : List ℕ) (at k n q : ℕ) where
  pub row_put : k < n → Puts l at (g k) e q → Puts l at (get_or (list_to g n ++ rest) k []) e q
  row_put h p = rw (at_row g rest n k h) p

  pub rest_put : n ≤ k → Puts l at (get_or rest (k - n) []) e q → Puts l at (get_or (list_to g n ++ rest) k []) e q
  rest_put h p = rw (behind_rows g rest n k h) p

-- ---- the last line, and none behind it
module _ (g : ℕ → List ℕ) (last l e : List ℕ) (at k n q : ℕ) where
  pub last_put : k ≡ n → Puts l at last e q → Puts l at (get_or (list_to g n ++ (last ∷ [])) k []) e q
  last_put h p =
      let z : k - n ≡ 0 = omega arith in
      rest_put g (last ∷ []) l e at k n q (omega arith) (rw z p)

  pub none_put : (k ≡ n → ⊥) → n ≤ k → Puts l at (get_or (list_to g n ++ (last ∷ [])) k []) l at
  unfolding splice
  none_put d h =
      let z : get_or (last ∷ []) (k - n) [] ≡ [] = get_or-eq_default (last ∷ []) [] {n = k - n} (omega arith) in
      rest_put g (last ∷ []) l l at k n at h (rw z (record { bytes = refl; next = omega arith }))

-- ---- the line of a record
module _ (f t : List ℕ) (i : ℕ) (l e : List ℕ) (at q : ℕ) where
  pub undef_put : (x : ℕ) → x ≡ word_of SECTION_WORDS t i SECTION_FILE_NUMBER → x ≡ 0
      → Puts l at (section_line (word_of SECTION_WORDS t i SECTION_START) (word_of SECTION_WORDS t i SECTION_END) (word_of SECTION_WORDS t i SECTION_FILE_START) (word_of SECTION_WORDS t i SECTION_FILE_END) (word_of SECTION_WORDS t i SECTION_PERMISSIONS) UNDEF) e q → Puts l at (section_line_at f t i) e q
  unfolding section_line_at section_title pick
  undef_put x d z p = rw (← d, z) p

  pub section_put : (x a n : ℕ) (name : List ℕ) → x ≡ word_of SECTION_WORDS t i SECTION_FILE_NUMBER → (x ≡ 0 → ⊥) → a ≡ word_of SECTION_WORDS t i SECTION_NAME_START → n ≡ word_of SECTION_WORDS t i SECTION_NAME_LENGTH → name ≡ part f a n
      → Puts l at (section_line (word_of SECTION_WORDS t i SECTION_START) (word_of SECTION_WORDS t i SECTION_END) (word_of SECTION_WORDS t i SECTION_FILE_START) (word_of SECTION_WORDS t i SECTION_FILE_END) (word_of SECTION_WORDS t i SECTION_PERMISSIONS) name) e q → Puts l at (section_line_at f t i) e q
  unfolding section_line_at section_title pick
  section_put x a n name d z y w s p = rw (← d, ne_eqb x 0 z, ← y, ← w, ← s) p

  pub symbol_put : (x y a n : ℕ) (kind : SymbolKind) (name : List ℕ) → a ≡ word_of SYMBOL_WORDS t i NAME_START → n ≡ word_of SYMBOL_WORDS t i NAME_LENGTH → name ≡ part f a n → x ≡ word_of SYMBOL_WORDS t i ADDRESS → y ≡ word_of SYMBOL_WORDS t i SYMBOL_KIND
      → kind ≡ kind_numbered y → Puts l at (symbol_line x kind name) e q → Puts l at (symbol_line_at f t i) e q
  unfolding symbol_line_at
  symbol_put x y a n kind name d w s u v z p = rw (← d, ← w, ← s, ← u, ← v, ← z) p

  pub extern_put : (x a n : ℕ) (name : List ℕ) → a ≡ word_of EXTERN_WORDS t i NAME_START → n ≡ word_of EXTERN_WORDS t i NAME_LENGTH → name ≡ part f a n → x ≡ word_of EXTERN_WORDS t i ADDRESS
      → Puts l at (extern_line x name) e q → Puts l at (extern_line_at f t i) e q
  unfolding extern_line_at
  extern_put x a n name d w s u p = rw (← d, ← w, ← s, ← u) p

module _ (t : List ℕ) (i : ℕ) (l e : List ℕ) (at q : ℕ) where
  pub named_put : (a b c d p : ℕ) (name : List ℕ) → a ≡ word_of SECTION_WORDS t i SECTION_START → b ≡ word_of SECTION_WORDS t i SECTION_END → c ≡ word_of SECTION_WORDS t i SECTION_FILE_START → d ≡ word_of SECTION_WORDS t i SECTION_FILE_END → p ≡ word_of SECTION_WORDS t i SECTION_PERMISSIONS
      → Puts l at (section_line a b c d p name) e q
      → Puts l at (section_line (word_of SECTION_WORDS t i SECTION_START) (word_of SECTION_WORDS t i SECTION_END) (word_of SECTION_WORDS t i SECTION_FILE_START) (word_of SECTION_WORDS t i SECTION_FILE_END) (word_of SECTION_WORDS t i SECTION_PERMISSIONS) name) e q
  named_put a b c d p name u v w x y z = rw (← u, ← v, ← w, ← x, ← y) z

  pub fix_put : (a b c : ℕ) → a ≡ word_of FIXUP_WORDS t i FIXUP_PLACE → b ≡ word_of FIXUP_WORDS t i FIXUP_BITS → c ≡ word_of FIXUP_WORDS t i FIXUP_VALUE → Puts l at (fix_line a b c) e q → Puts l at (fix_line_at t i) e q
  unfolding fix_line_at
  fix_put a b c u v w z = rw (← u, ← v, ← w) z

  pub skip_put : (a b c : ℕ) → a ≡ word_of SKIP_WORDS t i SKIP_SECTION → b ≡ word_of SKIP_WORDS t i SKIP_RECORD → c ≡ word_of SKIP_WORDS t i SKIP_REASON → Puts l at (skip_line a b c) e q → Puts l at (skip_line_at t i) e q
  unfolding skip_line_at
  skip_put a b c u v w z = rw (← u, ← v, ← w) z

-- ---- how many lines
pub wraps : (a b : ℕ) → (a % 2 ^ 64 + b) % 2 ^ 64 ≡ (a + b) % 2 ^ 64
wraps a b = omega arith
