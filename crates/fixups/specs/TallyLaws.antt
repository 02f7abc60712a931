-- Each relocation comes to exactly one outcome, and the counts are the lengths of the lists. For every file; `o i k` is any outcome.
use Rattle.std.specs.Prelude.{◌≡◌, ℕ, ◌+◌, ◌<◌, Bool, false, List, [], length, refl}
use Rattle.std.proofs.Common.{◌∙◌, ⊎_elim, arith, length-append}
use Rattle.util.specs.Pick.{pick, yes_no}
use Rattle.util.specs.Prefix.{sum_to}
use Rattle.util.specs.Fold.{fold_records, fold_sections, fold_at, sections_walk, sections_both, sections_made}
use Rattle.fixups.specs.declared.Outcome.{Outcome}
use Rattle.fixups.specs.declared.Outcome.TheVariants.{Passed, Skipped, Refused, Fixup}
use Rattle.fixups.specs.Tally.{is_passed, is_skipped, is_refused, is_fixup, count_step, how_many}
use Rattle.fixups.specs.Lists.{append_step, over_sections, fixes_of, fix_at_record, fix_list, skips_of, skip_at_record, skip_list}

-- one as a number
abbrev pub one : Bool → ℕ
one b = pick b 1 0

-- an outcome is exactly one of passed, skipped, refused and fixup
pub just_one : (x : Outcome) → one (is_passed x) + one (is_skipped x) + one (is_refused x) + one (is_fixup x) ≡ 1
unfolding pick
just_one Passed = refl
just_one (Skipped s) = refl
just_one Refused = refl
just_one (Fixup x) = refl

-- so the four counts add up to the relocations
pub all_counted : (o : ℕ → ℕ → Outcome) (count : ℕ → ℕ) (n : ℕ)
    → how_many is_passed o count n + how_many is_skipped o count n + how_many is_refused o count n + how_many is_fixup o count n ≡ sum_to count n
unfolding fold_records fold_sections count_step sum_to
all_counted o count n =
    let at : (Outcome → Bool) → ℕ → ℕ → ℕ = λ p i k. fold_at (count_step p o) count 0 i k in
    let e =
    sections_walk count (λ i k. at is_passed i k + at is_skipped i k + at is_refused i k + at is_fixup i k ≡ sum_to count i + k) n refl
    (λ i k l q e. let d = just_one (o i k) in omega arith) (λ i e. omega arith) in
    omega arith

-- ---- the counts are the lengths of the lists
list_length : {A : Type 0} (out : ℕ → ℕ → List A) (o : ℕ → ℕ → Outcome) (count : ℕ → ℕ) (p : Outcome → Bool)
    → ((i k : ℕ) → length (out i k) ≡ one (p (o i k))) → (n : ℕ) → length (over_sections out count n) ≡ how_many p o count n
unfolding append_step count_step
list_length out o count p h n =
    sections_both (append_step out) (count_step p o) (λ xs m. length xs ≡ m) count [] 0 n
    (λ i k xs m l q e. length-append xs (out i k) ∙ (let d = h i k in omega arith)) refl

fix_length : (x : Outcome) → length (fixes_of x) ≡ one (is_fixup x)
unfolding pick
fix_length Passed = refl
fix_length (Skipped s) = refl
fix_length Refused = refl
fix_length (Fixup x) = refl

skip_length : (i k : ℕ) (x : Outcome) → length (skips_of i k x) ≡ one (is_skipped x)
unfolding pick
skip_length i k Passed = refl
skip_length i k (Skipped s) = refl
skip_length i k Refused = refl
skip_length i k (Fixup x) = refl

module _ (o : ℕ → ℕ → Outcome) (count : ℕ → ℕ) (n : ℕ) where
  pub fixups_counted : length (fix_list o count n) ≡ how_many is_fixup o count n
  unfolding fix_at_record
  fixups_counted = list_length (fix_at_record o) o count is_fixup (λ i k. fix_length (o i k)) n

  pub skips_counted : length (skip_list o count n) ≡ how_many is_skipped o count n
  unfolding skip_at_record
  skips_counted = list_length (skip_at_record o) o count is_skipped (λ i k. skip_length i k (o i k)) n

-- ---- where a count is 0, no relocation passes its test
pub none_anywhere : (p : Outcome → Bool) (o : ℕ → ℕ → Outcome) (count : ℕ → ℕ) (n i k : ℕ) → how_many p o count n ≡ 0 → i < n → k < count i → p (o i k) ≡ false
unfolding count_step pick
none_anywhere p o count n i k e h l =
    ⊎_elim (λ t.
    let z : 0 < how_many p o count n = sections_made (count_step p o) (λ m. 0 < m) (λ m j r q. omega arith) count 0 n i k h l (λ m. rw t (omega arith)) in
    absurd (omega arith))
    (λ t. t)
    (yes_no (p (o i k)))
