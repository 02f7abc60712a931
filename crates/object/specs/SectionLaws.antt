-- What holds of every range length (01, "Layout, slots and fixups").
use Rattle.std.specs.Prelude.{◌≡◌, List, ℕ, ◌+◌, ◌-◌, ◌%◌, ◌≤◌, ◌<◌}
use Rattle.std.proofs.Math.Logic.{⊎_elim}
use Rattle.std.proofs.Common.{arith}
use Rattle.util.specs.Pick.{pick, yes_no, le_or_lt}
use Rattle.util.specs.Align.{round_up, up_multiple, up_not_below, up_near, up_one}
use Rattle.kinds.specs.Flags.{align_code, align_of}
use Rattle.kinds.specs.FlagLaws.{align_not_zero}
use Rattle.object.specs.declared.Header.{Header}
use Rattle.object.specs.Format.{raw_size, flags}
use Rattle.object.specs.Section.{range_length, uninitialized, file_start, file_end, raw_length}

-- ---- the range length is the least multiple of the alignment that holds the raw size
-- rounding up, where the alignment may also be 1
module _ (i b : ℕ) (h : 1 ≤ b) where
  round_multiple : round_up i b % b ≡ 0
  round_multiple =
      ⊎_elim (λ (l : b ≤ 1). let e : b ≡ 1 = omega arith in rw e (omega arith)) (λ l. up_multiple i b l) (le_or_lt b 1)

  round_holds : i ≤ round_up i b
  round_holds = ⊎_elim (λ l. let e = up_one i b l in omega arith) (λ l. up_not_below i b l) (le_or_lt b 1)

  round_least : round_up i b < i + b
  round_least = ⊎_elim (λ l. let e = up_one i b l in omega arith) (λ l. up_near i b l) (le_or_lt b 1)

module _ (f : List ℕ) (h : Header) (i : ℕ) where
  -- the alignment of section i
  abbrev pub alignment : ℕ
  alignment = align_of (align_code (flags f h i))

  -- a section's range length is a multiple of its alignment
  pub range_multiple : range_length f h i % alignment ≡ 0
  unfolding range_length
  range_multiple = round_multiple (raw_size f h i) alignment (align_not_zero (align_code (flags f h i)))

  -- it is not below the raw size
  pub range_holds : raw_size f h i ≤ range_length f h i
  unfolding range_length
  range_holds = round_holds (raw_size f h i) alignment (align_not_zero (align_code (flags f h i)))

  -- and less than one alignment above it
  pub range_least : range_length f h i < raw_size f h i + alignment
  unfolding range_length
  range_least = round_least (raw_size f h i) alignment (align_not_zero (align_code (flags f h i)))

  -- the raw data are the section's range in the file, from its start to its end
  pub raw_range : file_end f h i - file_start f h i ≡ raw_length f h i
  unfolding file_start file_end raw_length pick
  raw_range = ⊎_elim (λ t. rw t (omega arith)) (λ t. rw t (omega arith)) (yes_no (uninitialized f h i))

  -- so it holds the section's bytes in the file
  pub file_range : file_end f h i - file_start f h i ≤ range_length f h i
  unfolding file_start file_end pick
  file_range =
      let r = range_holds in
      ⊎_elim (λ t. rw t (omega arith)) (λ t. rw t (omega arith)) (yes_no (uninitialized f h i))
