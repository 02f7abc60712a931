-- Each of the two tables, read back word by word, gives the list of its definition. For every list of outcomes and every buffer that the table fits.
use Rattle.std.specs.Prelude.{◌≡◌, ℕ, ◌+◌, ◌*◌, ◌%◌, ◌^◌, ◌<◌, ◌≤◌, List, [], ◌∷◌, length, get_or, slice_index, slice_index_or, refl}
use Rattle.std.proofs.Common.{sym, ap, ◌∙◌, append-nil, arith}
use Rattle.std.proofs.Math.Nat.{mod-mod}
use Rattle.util.specs.Fold.{sections_both}
use Rattle.limits.specs.Records.{FIXUP_WORDS, FIXUP_BYTES, FIXUP_PLACE, FIXUP_BITS, FIXUP_VALUE, SKIP_WORDS, SKIP_BYTES, SKIP_SECTION, SKIP_RECORD, SKIP_REASON}
use Rattle.le.specs.Le.{splice}
use Rattle.targets.specs.declared.Skip.{Skip}
use Rattle.targets.specs.declared.Skip.TheVariants.{NoSymbol, NoHome, NoSlot, NoType}
use Rattle.fixups.specs.declared.Fix.{Fix}
use Rattle.fixups.specs.declared.Outcome.{Outcome}
use Rattle.fixups.specs.declared.Outcome.TheVariants.{Passed, Skipped, Refused, Fixup}
use Rattle.targets.specs.Target.{skip_number}
use Rattle.fixups.specs.Value.{value_of}
use Rattle.fixups.specs.Tally.{is_fixup, is_skipped, how_many}
use Rattle.fixups.specs.TallyLaws.{fixups_counted, skips_counted}
use Rattle.fixups.specs.Lists.{append_step, over_sections, fixes_of, fix_at_record, fix_list, SkipAt, skips_of, skip_at_record, skip_list}
use Rattle.words.specs.Words.{word_bytes, word_of, length_words}
use Rattle.words.specs.Rows.{row_words, rows_join, length_rows, row_back}
use Rattle.lists.specs.Relocations.{fix_words, skip_words, fix_bytes, skip_bytes, fix_bytes_at, skip_bytes_at, fix_table, skip_table}

-- ---- what each relocation gives, as bytes, are the rows of what it gives as records
sections_rows : {A : Type 0} (words : A → List ℕ) (out : ℕ → ℕ → List A) (bytes : ℕ → ℕ → List ℕ)
    → ((i k : ℕ) → bytes i k ≡ word_bytes (row_words words (out i k))) → (count : ℕ → ℕ) (n : ℕ)
    → over_sections bytes count n ≡ word_bytes (row_words words (over_sections out count n))
unfolding append_step row_words word_bytes
sections_rows words out bytes each count n =
    sections_both (append_step bytes) (append_step out) (λ b xs. b ≡ word_bytes (row_words words xs)) count [] [] n
    (λ i k b xs l h e. rw (e, each i k) (rows_join words xs (out i k))) refl

-- ---- fixups
abbrev pub fix_rows : ℕ → List Fix → List ℕ
fix_rows base xs = row_words (fix_words base) xs

length_fix : (base : ℕ) (x : Fix) → length (fix_words base x) ≡ FIXUP_WORDS
unfolding fix_words
length_fix base x = refl

fix_row : (base : ℕ) (x : Outcome) → fix_bytes base x ≡ word_bytes (fix_rows base (fixes_of x))
unfolding row_words word_bytes
fix_row base Passed = refl
fix_row base (Skipped s) = refl
fix_row base Refused = refl
fix_row base (Fixup x) = ap word_bytes (sym (append-nil (fix_words base x)))

value_fits : (base : ℕ) (x : Fix) → value_of base x % 2 ^ 64 ≡ value_of base x
unfolding value_of
value_fits base x = mod-mod _ (2 ^ 64)

module _ (base : ℕ) (o : ℕ → ℕ → Outcome) (count : ℕ → ℕ) (n : ℕ) where
  pub fix_words_lem : fix_table base o count n ≡ word_bytes (fix_rows base (fix_list o count n))
  unfolding fix_bytes_at fix_at_record
  fix_words_lem = sections_rows (fix_words base) (fix_at_record o) (fix_bytes_at base o) (λ i k. fix_row base (o i k)) count n

  pub length_fixes : length (fix_table base o count n) ≡ FIXUP_BYTES * length (fix_list o count n)
  length_fixes =
      rw fix_words_lem (length_words (fix_rows base (fix_list o count n)) ∙ (let l = length_rows (fix_words base) FIXUP_WORDS (length_fix base) (fix_list o count n) in omega arith))

  -- the bytes that survey's count asks for
  pub fixes_fill : length (fix_table base o count n) ≡ FIXUP_BYTES * how_many is_fixup o count n
  fixes_fill = length_fixes ∙ ap (λ (m : ℕ). FIXUP_BYTES * m) (fixups_counted o count n)

  module _ (k : ℕ) (b : List ℕ) (d : Fix) (f : FIXUP_BYTES * length (fix_list o count n) ≤ length b) (h : k < length (fix_list o count n)) where
    pub fix_back : (w : ℕ) → w < FIXUP_WORDS → word_of FIXUP_WORDS (splice b 0 (fix_table base o count n)) k w ≡ slice_index (fix_words base (slice_index_or (fix_list o count n) k d)) w % 2 ^ 64
    fix_back w q =
        rw fix_words_lem (row_back (fix_words base) FIXUP_WORDS (length_fix base) (fix_list o count n) b k w d (omega arith) h q)

    -- the three words of fixup k
    pub fix_place : word_of FIXUP_WORDS (splice b 0 (fix_table base o count n)) k FIXUP_PLACE ≡ (base + (get_or (fix_list o count n) k d).place.0) % 2 ^ 64
    unfolding fix_words
    fix_place = fix_back FIXUP_PLACE (omega arith)

    pub fix_bits : word_of FIXUP_WORDS (splice b 0 (fix_table base o count n)) k FIXUP_BITS ≡ (get_or (fix_list o count n) k d).bits % 2 ^ 64
    unfolding fix_words
    fix_bits = fix_back FIXUP_BITS (omega arith)

    pub fix_value : word_of FIXUP_WORDS (splice b 0 (fix_table base o count n)) k FIXUP_VALUE ≡ value_of base (slice_index_or (fix_list o count n) k d)
    unfolding fix_words
    fix_value = fix_back FIXUP_VALUE (omega arith) ∙ value_fits base (slice_index_or (fix_list o count n) k d)

-- ---- skips: the words of one
unfoldable pub skip_row : SkipAt → List ℕ
skip_row s = s.section ∷ s.index ∷ skip_number s.reason ∷ []

length_skip : (s : SkipAt) → length (skip_row s) ≡ SKIP_WORDS
unfolding skip_row
length_skip s = refl

skip_row_lem : (i k : ℕ) (x : Outcome) → skip_bytes i k x ≡ word_bytes (row_words skip_row (skips_of i k x))
unfolding row_words word_bytes skip_row skip_words
skip_row_lem i k Passed = refl
skip_row_lem i k (Skipped s) = refl
skip_row_lem i k Refused = refl
skip_row_lem i k (Fixup x) = refl

number_fits : (s : Skip) → skip_number s % 2 ^ 64 ≡ skip_number s
number_fits NoSymbol = refl
number_fits NoHome = refl
number_fits NoSlot = refl
number_fits NoType = refl

module _ (o : ℕ → ℕ → Outcome) (count : ℕ → ℕ) (n : ℕ) where
  pub skip_words_lem : skip_table o count n ≡ word_bytes (row_words skip_row (skip_list o count n))
  unfolding skip_bytes_at skip_at_record
  skip_words_lem = sections_rows skip_row (skip_at_record o) (skip_bytes_at o) (λ i k. skip_row_lem i k (o i k)) count n

  pub length_skips : length (skip_table o count n) ≡ SKIP_BYTES * length (skip_list o count n)
  length_skips =
      rw skip_words_lem (length_words (row_words skip_row (skip_list o count n)) ∙ (let l = length_rows skip_row SKIP_WORDS length_skip (skip_list o count n) in omega arith))

  pub skips_fill : length (skip_table o count n) ≡ SKIP_BYTES * how_many is_skipped o count n
  skips_fill = length_skips ∙ ap (λ (m : ℕ). SKIP_BYTES * m) (skips_counted o count n)

  module _ (k : ℕ) (b : List ℕ) (d : SkipAt) (f : SKIP_BYTES * length (skip_list o count n) ≤ length b) (h : k < length (skip_list o count n)) where
    pub skip_back : (w : ℕ) → w < SKIP_WORDS → word_of SKIP_WORDS (splice b 0 (skip_table o count n)) k w ≡ slice_index (skip_row (slice_index_or (skip_list o count n) k d)) w % 2 ^ 64
    skip_back w q =
        rw skip_words_lem (row_back skip_row SKIP_WORDS length_skip (skip_list o count n) b k w d (omega arith) h q)

    -- the three words of skip k
    pub skip_section : word_of SKIP_WORDS (splice b 0 (skip_table o count n)) k SKIP_SECTION ≡ (get_or (skip_list o count n) k d).section % 2 ^ 64
    unfolding skip_row
    skip_section = skip_back SKIP_SECTION (omega arith)

    pub skip_index : word_of SKIP_WORDS (splice b 0 (skip_table o count n)) k SKIP_RECORD ≡ (get_or (skip_list o count n) k d).index % 2 ^ 64
    unfolding skip_row
    skip_index = skip_back SKIP_RECORD (omega arith)

    pub skip_reason : word_of SKIP_WORDS (splice b 0 (skip_table o count n)) k SKIP_REASON ≡ skip_number (get_or (skip_list o count n) k d).reason
    unfolding skip_row
    skip_reason = skip_back SKIP_REASON (omega arith) ∙ number_fits (get_or (skip_list o count n) k d).reason
