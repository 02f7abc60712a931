-- How many lines there are, and how long one is: no longer than the file and 120 bytes.
use Rattle.std.specs.Prelude.{◌≡◌, ℕ, zero, suc, ◌+◌, ◌-◌, ◌*◌, ◌^◌, ◌<◌, ◌≤◌, Bool, true, false, List, [], ◌∷◌, ◌++◌, length, get_or, ◌==◌, slice_index_or}
use Rattle.std.proofs.Common.{ap, ◌∙◌, ⊎_elim, length-append, length-take, length-drop, get_or-append-add}
use native.Mathlib.Omega.{arith}
use Rattle.std.proofs.Math.ListN.{get_or-append}
use Rattle.limits.specs.Records.{WORD, SECTION_WORDS, SECTION_START, SECTION_END, SECTION_FILE_START, SECTION_FILE_END, SECTION_PERMISSIONS, SECTION_NAME_START, SECTION_NAME_LENGTH, SECTION_FILE_NUMBER, SYMBOL_WORDS, EXTERN_WORDS, ADDRESS, NAME_START, NAME_LENGTH, SYMBOL_KIND, FIXUP_WORDS, FIXUP_PLACE, FIXUP_BITS, FIXUP_VALUE, SKIP_WORDS, SKIP_SECTION, SKIP_RECORD, SKIP_REASON}
use Rattle.util.specs.Pick.{pick, le_or_lt}
use Rattle.util.specs.Prefix.{list_to, length_list, list_at}
use Rattle.le.specs.Le.{part, IsBytes, get_below}
use Rattle.kinds.specs.Symbol.{kind_numbered}
use Rattle.names.specs.Bytes.{UNDEF}
use Rattle.words.specs.Words.{word_of}
use Rattle.survey.specs.declared.answer.Counts.{Counts}
use Rattle.lines.specs.Lines.{image_line, skipped_line}
use Rattle.lines.specs.LineLaws.{image_long, section_long, symbol_long, extern_long, fix_long, skip_long, skipped_long}
use Rattle.listing.specs.Listing.{section_title, section_line_at, symbol_line_at, extern_line_at, fix_line_at, skip_line_at, from_skips, from_fixups, from_externs, from_symbols, from_sections, listing, line_count}

pub lines_counted : (f : List ℕ) (base : ℕ) (c : Counts) (sections symbols externs fixups skips : List ℕ) → length (listing f base c sections symbols externs fixups skips) ≡ line_count c
unfolding line_count
lines_counted f base c sections symbols externs fixups skips = simp (length-append, length_list) (omega arith)

-- ---- line k of rows and what stands behind them
module _ (g : ℕ → List ℕ) (rest : List (List ℕ)) (n k : ℕ) where
  pub at_row : k < n → slice_index_or (list_to g n ++ rest) k [] ≡ g k
  at_row h = get_or-append (list_to g n) rest [] k (rw length_list h) ∙ list_at g [] n k h

  pub behind_rows : n ≤ k → slice_index_or (list_to g n ++ rest) k [] ≡ slice_index_or rest (k - n) []
  behind_rows h =
      let z : k ≡ length (list_to g n) + (k - n) = rw length_list (omega arith) in
      ap (λ (j : ℕ). get_or (list_to g n ++ rest) j []) z ∙ get_or-append-add (list_to g n) rest (k - n) []

-- ---- how long a line is
part_long : (f : List ℕ) (i n : ℕ) → length (part f i n) ≤ length f
unfolding part
part_long f i n = rw (length-take, length-drop) (omega arith)

word_below : (W : ℕ) (t : List ℕ) (i w : ℕ) → IsBytes t → word_of W t i w < 2 ^ 64
unfolding word_of
word_below W t i w b = get_below WORD t (WORD * (W * i + w)) b

title_long : (f t : List ℕ) (i : ℕ) → length (section_title f t i) ≤ 5 + length f
unfolding section_title pick
title_long f t i = by_number (word_of SECTION_WORDS t i SECTION_FILE_NUMBER == 0)
  where
    by_number : (b : Bool) → length (pick b UNDEF (part f (word_of SECTION_WORDS t i SECTION_NAME_START) (word_of SECTION_WORDS t i SECTION_NAME_LENGTH))) ≤ 5 + length f
    by_number true = omega arith
    by_number false = let z = part_long f (word_of SECTION_WORDS t i SECTION_NAME_START) (word_of SECTION_WORDS t i SECTION_NAME_LENGTH) in omega arith

abbrev Short : ℕ → List (List ℕ) → Type 0
Short m xs = (k : ℕ) → length (slice_index_or xs k []) ≤ m

rows_short : (m : ℕ) (g : ℕ → List ℕ) (n : ℕ) (rest : List (List ℕ)) → ((i : ℕ) → length (g i) ≤ m) → Short m rest → Short m (list_to g n ++ rest)
rows_short m g n rest each behind k =
    ⊎_elim (λ (h : n ≤ k). rw (behind_rows g rest n k h) (behind (k - n))) (λ (h : k < n). rw (at_row g rest n k h) (each k)) (le_or_lt n k)

one_short : (m : ℕ) (x : List ℕ) (xs : List (List ℕ)) → length x ≤ m → Short m xs → Short m (x ∷ xs)
one_short m x xs h r zero = h
one_short m x xs h r (suc k) = r k

none_short : (m : ℕ) → Short m []
none_short m k = omega arith

module _ (f : List ℕ) (base : ℕ) (c : Counts) (sections symbols externs fixups skips : List ℕ) (low : base < 2 ^ 64) (pages : c.pages < 2 ^ 64) (skipped : c.skips < 2 ^ 64) (passed : c.passed < 2 ^ 64)
    (s : IsBytes sections) (y : IsBytes symbols) (e : IsBytes externs) (x : IsBytes fixups) (z : IsBytes skips) where
  section_short : (i : ℕ) → length (section_line_at f sections i) ≤ 125 + length f
  unfolding section_line_at
  section_short i =
      let a = section_long (word_of SECTION_WORDS sections i SECTION_START) (word_of SECTION_WORDS sections i SECTION_END) (word_of SECTION_WORDS sections i SECTION_FILE_START) (word_of SECTION_WORDS sections i SECTION_FILE_END) (word_of SECTION_WORDS sections i SECTION_PERMISSIONS) (section_title f sections i)
      (word_below SECTION_WORDS sections i SECTION_START s) (word_below SECTION_WORDS sections i SECTION_END s) (word_below SECTION_WORDS sections i SECTION_FILE_START s) (word_below SECTION_WORDS sections i SECTION_FILE_END s) in
      let b = title_long f sections i in
      omega arith

  symbol_short : (i : ℕ) → length (symbol_line_at f symbols i) ≤ 125 + length f
  unfolding symbol_line_at
  symbol_short i =
      let a = symbol_long (word_of SYMBOL_WORDS symbols i ADDRESS) (kind_numbered (word_of SYMBOL_WORDS symbols i SYMBOL_KIND)) (part f (word_of SYMBOL_WORDS symbols i NAME_START) (word_of SYMBOL_WORDS symbols i NAME_LENGTH)) (word_below SYMBOL_WORDS symbols i ADDRESS y) in
      let b = part_long f (word_of SYMBOL_WORDS symbols i NAME_START) (word_of SYMBOL_WORDS symbols i NAME_LENGTH) in
      omega arith

  extern_short : (i : ℕ) → length (extern_line_at f externs i) ≤ 125 + length f
  unfolding extern_line_at
  extern_short i =
      let a = extern_long (word_of EXTERN_WORDS externs i ADDRESS) (part f (word_of EXTERN_WORDS externs i NAME_START) (word_of EXTERN_WORDS externs i NAME_LENGTH)) (word_below EXTERN_WORDS externs i ADDRESS e) in
      let b = part_long f (word_of EXTERN_WORDS externs i NAME_START) (word_of EXTERN_WORDS externs i NAME_LENGTH) in
      omega arith

  fix_short : (i : ℕ) → length (fix_line_at fixups i) ≤ 125 + length f
  unfolding fix_line_at
  fix_short i =
      let a = fix_long (word_of FIXUP_WORDS fixups i FIXUP_PLACE) (word_of FIXUP_WORDS fixups i FIXUP_BITS) (word_of FIXUP_WORDS fixups i FIXUP_VALUE) (word_below FIXUP_WORDS fixups i FIXUP_PLACE x) (word_below FIXUP_WORDS fixups i FIXUP_BITS x) (word_below FIXUP_WORDS fixups i FIXUP_VALUE x) in
      omega arith

  skip_short : (i : ℕ) → length (skip_line_at skips i) ≤ 125 + length f
  unfolding skip_line_at
  skip_short i =
      let a = skip_long (word_of SKIP_WORDS skips i SKIP_SECTION) (word_of SKIP_WORDS skips i SKIP_RECORD) (word_of SKIP_WORDS skips i SKIP_REASON) (word_below SKIP_WORDS skips i SKIP_SECTION z) (word_below SKIP_WORDS skips i SKIP_RECORD z) (word_below SKIP_WORDS skips i SKIP_REASON z) in
      omega arith

  pub line_long : (k : ℕ) → length (slice_index_or (listing f base c sections symbols externs fixups skips) k []) ≤ 125 + length f
  line_long k =
      let m : ℕ = 125 + length f in
      let a : length (image_line base c.pages) ≤ m = let q = image_long base c.pages low pages in omega arith in
      let b : length (skipped_line c.skips c.passed) ≤ m = let q = skipped_long c.skips c.passed skipped passed in omega arith in
      one_short m (image_line base c.pages) (from_sections f c sections symbols externs fixups skips) a
      (rows_short m (section_line_at f sections) c.sections (from_symbols f c symbols externs fixups skips) section_short
      (rows_short m (symbol_line_at f symbols) c.symbols (from_externs f c externs fixups skips) symbol_short
      (rows_short m (extern_line_at f externs) c.externs (from_fixups c fixups skips) extern_short
      (rows_short m (fix_line_at fixups) c.fixups (from_skips c skips) fix_short
      (rows_short m (skip_line_at skips) c.skips (skipped_line c.skips c.passed ∷ []) skip_short
      (one_short m (skipped_line c.skips c.passed) [] b (none_short m)))))))
      k
