-- The pass over all relocations: its loops, and that it counts what `tally_of` counts. Assumes nothing.
use Rattle.std.specs.Prelude.{Option}
use Rattle.arch.specs.declared.RVA.{RVA}
use Rattle.std.proofs.Common.{◌≡◌, ℕ, zero, suc, ◌+◌, ◌*◌, ◌^◌, ◌<◌, ◌≤◌, Bool, true, false, List, get_or, sym, refl, ap, ◌∙◌, add-zero, add-one, arith}
use Rattle.util.specs.Pick.{pick}
use Rattle.util.specs.Fold.{fold_records, fold_sections, sections_both, records_same}
use Rattle.arch.specs.declared.Arch.{Arch}
use Rattle.object.specs.declared.Header.{Header}
use Rattle.object.specs.declared.Records.{Records}
use Rattle.object.specs.Relocation.{relocation_in, records_of, record_at, count_read}
use Rattle.object.specs.Section.{relocation_count}
use Rattle.homes.specs.Home.{word_home, home_in}
use Rattle.targets.specs.declared.Target.{Target}
use Rattle.fixups.specs.Outcome.{by_home, outcome, no_home, read_outcome, read_outcome_lem}
use Rattle.targets.specs.declared.Skip.{Skip}
use Rattle.fixups.specs.declared.Fix.{Fix}
use Rattle.fixups.specs.declared.Outcome.{Outcome}
use Rattle.fixups.specs.declared.Outcome.TheVariants.{Passed, Skipped, Refused, Fixup}
use Rattle.fixups.specs.declared.Tally.{Tally}
use Rattle.fixups.specs.Tally.{is_passed, is_skipped, is_refused, is_fixup, is_mapped, is_outside, count_step, how_many, tally_of}
use Rattle.fixups.specs.Tallying.{nothing, tallied, passed_by, tally_step, row_to, rows_to, AtMost, Counted}

-- ---- one outcome more
module _ (pages : ℕ) (t : Tally) where
  pub with_mapped : (x : Fix) (b : Bool) → b ≡ is_mapped pages x → b ≡ true
      → record { passed = t.passed; skips = t.skips; refused = t.refused; fixups = t.fixups + 1; outside = t.outside } ≡ tallied pages t (Fixup x)
  unfolding tallied pick
  with_mapped x b q e = rw (← q, e)

  pub with_outside : (x : Fix) (b : Bool) → b ≡ is_mapped pages x → b ≡ false
      → record { passed = t.passed; skips = t.skips; refused = t.refused; fixups = t.fixups + 1; outside = t.outside + 1 } ≡ tallied pages t (Fixup x)
  unfolding tallied pick
  with_outside x b q e = rw (← q, e)

  module _ (o : Outcome) where
    pub with_passed : o ≡ Passed
        → record { passed = t.passed + 1; skips = t.skips; refused = t.refused; fixups = t.fixups; outside = t.outside } ≡ tallied pages t o
    unfolding tallied pick
    with_passed e = rw e

    pub with_skipped : (k : Skip) → o ≡ Skipped k
        → record { passed = t.passed; skips = t.skips + 1; refused = t.refused; fixups = t.fixups; outside = t.outside } ≡ tallied pages t o
    unfolding tallied pick
    with_skipped k e = rw e

    pub with_refused : o ≡ Refused
        → record { passed = t.passed; skips = t.skips; refused = t.refused + 1; fixups = t.fixups; outside = t.outside } ≡ tallied pages t o
    unfolding tallied pick
    with_refused e = rw e

    pub with_fix : (x : Fix) (r : Tally) → o ≡ Fixup x → r ≡ tallied pages t (Fixup x) → r ≡ tallied pages t o
    with_fix x r e q = rw e q

pub ruleset withs = (with_mapped, with_outside, with_passed, with_skipped, with_refused, with_fix)

-- ---- no count grows by more than one
up_one : (b : Bool) (n m k : ℕ) → n ≤ m + k → pick b (n + 1) n ≤ m + (k + 1)
unfolding pick
up_one true n m k h = omega arith
up_one false n m k h = omega arith

pub within_again : (pages : ℕ) (s r : Tally) (x : Outcome) (n k : ℕ) → AtMost s (n + k) → r ≡ tallied pages s x → AtMost r (n + (k + 1))
unfolding tallied
within_again pages s r x n k w e =
    rw e
    (record {
      passed = up_one (is_passed x) s.passed n k w.passed;
      skips = up_one (is_skipped x) s.skips n k w.skips;
      refused = up_one (is_refused x) s.refused n k w.refused;
      fixups = up_one (is_fixup x) s.fixups n k w.fixups;
      outside = up_one (is_outside pages x) s.outside n k w.outside;
    })

pub within_more : (s : Tally) (n m : ℕ) → AtMost s n → n ≤ m → AtMost s m
within_more s n m w h =
    record {
      passed = omega (arith, w.passed);
      skips = omega (arith, w.skips);
      refused = omega (arith, w.refused);
      fixups = omega (arith, w.fixups);
      outside = omega (arith, w.outside);
    }

pub within_room : (s : Tally) (i k m : ℕ) → AtMost s (2 ^ 32 * i + k) → i < 2 ^ 16 → k < m → m < 2 ^ 32 → AtMost s (2 ^ 60)
within_room s i k m w a b c = within_more s (2 ^ 32 * i + k) (2 ^ 60) w (omega arith)

-- ---- the records of a section
module _ (pages : ℕ) (o : ℕ → ℕ → Outcome) (i : ℕ) (t : Tally) where
  pub row_none : t ≡ row_to pages o i t 0
  unfolding fold_records
  row_none = refl

  pub row_within : AtMost t (2 ^ 32 * i) → AtMost t (2 ^ 32 * i + 0)
  row_within w = within_more t (2 ^ 32 * i) (2 ^ 32 * i + 0) w (omega arith)

  pub row_again : (k : ℕ) (s r : Tally) (x : Outcome) → s ≡ row_to pages o i t k → x ≡ o i k → r ≡ tallied pages s x → r ≡ row_to pages o i t (k + 1)
  unfolding fold_records tally_step
  row_again k s r x e q d = rw (add-one k, ← e, ← q) d

  pub row_end : (k m n : ℕ) (s : Tally) → s ≡ row_to pages o i t k → AtMost s (2 ^ 32 * i + k) → k ≤ m → m ≤ k → m ≡ n → m < 2 ^ 32 → Counted (row_to pages o i t n) i s
  row_end k m n s e w a b q c =
      let z : k ≡ n = omega arith in
      record { same = cc; near = within_more s (2 ^ 32 * i + k) (2 ^ 32 * (i + 1)) w (omega arith) }

pub ruleset row_loop = (row_none, row_again, row_end, within_again, within_room)

-- ---- a count of the pass is the count by its test
add_pick : (b : Bool) (n : ℕ) → pick b (n + 1) n ≡ n + pick b 1 0
unfolding pick
add_pick true n = refl
add_pick false n = omega arith

rows_count : (pages : ℕ) (o : ℕ → ℕ → Outcome) (count : ℕ → ℕ) (p : Outcome → Bool) (q : Tally → ℕ) → q nothing ≡ 0
    → ((t : Tally) (x : Outcome) → q (tallied pages t x) ≡ q t + pick (p x) 1 0) → (n : ℕ) → q (rows_to pages o count n) ≡ how_many p o count n
unfolding tally_step count_step
rows_count pages o count p q none step n =
    sections_both (tally_step pages o) (count_step p o) (λ t m. q t ≡ m) count nothing 0 n
    (λ i k t m l h e. step t (o i k) ∙ ap (λ (z : ℕ). z + pick (p (o i k)) 1 0) e) none

module _ (pages : ℕ) (o : ℕ → ℕ → Outcome) (count : ℕ → ℕ) where
  rows_passed : (n : ℕ) → (rows_to pages o count n).passed ≡ how_many is_passed o count n
  unfolding tallied
  rows_passed = rows_count pages o count is_passed (λ t. t.passed) refl (λ t x. add_pick (is_passed x) t.passed)

  rows_skips : (n : ℕ) → (rows_to pages o count n).skips ≡ how_many is_skipped o count n
  unfolding tallied
  rows_skips = rows_count pages o count is_skipped (λ t. t.skips) refl (λ t x. add_pick (is_skipped x) t.skips)

  rows_refused : (n : ℕ) → (rows_to pages o count n).refused ≡ how_many is_refused o count n
  unfolding tallied
  rows_refused = rows_count pages o count is_refused (λ t. t.refused) refl (λ t x. add_pick (is_refused x) t.refused)

  rows_fixups : (n : ℕ) → (rows_to pages o count n).fixups ≡ how_many is_fixup o count n
  unfolding tallied
  rows_fixups = rows_count pages o count is_fixup (λ t. t.fixups) refl (λ t x. add_pick (is_fixup x) t.fixups)

  rows_outside : (n : ℕ) → (rows_to pages o count n).outside ≡ how_many (is_outside pages) o count n
  unfolding tallied
  rows_outside = rows_count pages o count (is_outside pages) (λ t. t.outside) refl (λ t x. add_pick (is_outside pages x) t.outside)

  pub rows_are : (n : ℕ) → rows_to pages o count n ≡ tally_of pages o count n
  unfolding tally_of
  rows_are n = rw (← rows_passed n, ← rows_skips n, ← rows_refused n, ← rows_fixups n, ← rows_outside n)

  -- ---- the sections
  pub rows_none : record { passed = 0; skips = 0; refused = 0; fixups = 0; outside = 0 } ≡ rows_to pages o count 0
  unfolding fold_sections
  rows_none = refl

  pub rows_again : (i : ℕ) (s r : Tally) → s ≡ rows_to pages o count i → Counted (row_to pages o i s (count i)) i r → r ≡ rows_to pages o count (i + 1)
  unfolding fold_sections
  rows_again i s r e c = rw (add-one i, ← e) c.same

  pub rows_end : (i n m : ℕ) (s : Tally) → s ≡ rows_to pages o count i → i ≤ n → n ≤ i → n ≡ m → s ≡ tally_of pages o count m
  rows_end i n m s e a b q = let z : i ≡ m = omega arith in e ∙ ap (rows_to pages o count) z ∙ rows_are m

pub counted_near : (g r : Tally) (i : ℕ) → Counted g i r → AtMost r (2 ^ 32 * (i + 1))
counted_near g r i c = c.near

pub none_within : AtMost (record { passed = 0; skips = 0; refused = 0; fixups = 0; outside = 0 }) (2 ^ 32 * 0)
none_within = record { passed = omega arith; skips = omega arith; refused = omega arith; fixups = omega arith; outside = omega arith }

pub rows_near : (t : Tally) (i n : ℕ) → AtMost t (2 ^ 32 * i) → i ≤ n → n < 2 ^ 16 → AtMost t (2 ^ 48)
rows_near t i n w k l = within_more t (2 ^ 32 * i) (2 ^ 48) w (omega arith)

pub ruleset rows_loop = (rows_none, rows_again, rows_end, rows_near, counted_near, none_within)

-- ---- a section by what is found once for it
pub read_is : (a : Arch) (f : List ℕ) (target : ℕ → Target) (rs : Records) (home : Option RVA) (i k : ℕ) (x : Outcome)
    → x ≡ by_home a target home (relocation_in f (record_at rs k)) → x ≡ read_outcome a f target rs home i k
unfolding read_outcome
read_is a f target rs home i k x e = e

rows_same : (pages : ℕ) (o p : ℕ → ℕ → Outcome) (i : ℕ) (t : Tally) → ((k : ℕ) → o i k ≡ p i k) → (k : ℕ) → row_to pages o i t k ≡ row_to pages p i t k
unfolding tally_step
rows_same pages o p i t e k = records_same (tally_step pages o) (tally_step pages p) i (λ j s. ap (tallied pages s) (e j)) t k

pub section_end : (a : Arch) (f : List ℕ) (h : Header) (homes : List ℕ) (target : ℕ → Target) (pages i : ℕ) (rs : Records) (w : ℕ) (t s : Tally) (k : ℕ)
    → s ≡ row_to pages (read_outcome a f target rs (word_home w)) i t k → rs ≡ records_of f h i → w ≡ get_or homes i 0 → AtMost s (2 ^ 32 * i + k)
    → k ≤ rs.count → rs.count ≤ k → rs.count < 2 ^ 32 → Counted (row_to pages (outcome a f h (home_in homes) target) i t (relocation_count f h i)) i s
section_end a f h homes target pages i rs w t s k e q z m b c d =
    row_end pages (outcome a f h (home_in homes) target) i t k rs.count (relocation_count f h i) s
    (e ∙ rows_same pages (read_outcome a f target rs (word_home w)) (outcome a f h (home_in homes) target) i t (read_outcome_lem a f h homes target i rs w q z) k) m b c
    (count_read f h i rs q) d

pub ruleset section_loop = (row_none, row_again, read_is, section_end, within_again, within_room)

-- ---- a section without a home
row_passed : (pages : ℕ) (o : ℕ → ℕ → Outcome) (i : ℕ) (t : Tally) → ((k : ℕ) → o i k ≡ Passed) → (n : ℕ) → row_to pages o i t n ≡ passed_by t n
unfolding fold_records tally_step tallied pick
row_passed pages o i t e zero = rw add-zero
row_passed pages o i t e (suc n) =
    let z : t.passed + n + 1 ≡ t.passed + suc n = omega arith in
    rw (row_passed pages o i t e n, e n, z)

pub passed_near : (i n : ℕ) (t r : Tally) → n < 2 ^ 32 → r ≡ passed_by t n → AtMost t (2 ^ 32 * i) → AtMost r (2 ^ 32 * (i + 1))
passed_near i n t r l d m =
    rw d
    (record {
      passed = omega (arith, m.passed);
      skips = omega (arith, m.skips);
      refused = omega (arith, m.refused);
      fixups = omega (arith, m.fixups);
      outside = omega (arith, m.outside);
    })

pub passed_section : (a : Arch) (f : List ℕ) (h : Header) (homes : List ℕ) (target : ℕ → Target) (pages i w n : ℕ) (t r : Tally) → w ≡ get_or homes i 0 → w ≡ 0 → n ≡ relocation_count f h i → n < 2 ^ 32
    → r ≡ passed_by t n → AtMost t (2 ^ 32 * i) → Counted (row_to pages (outcome a f h (home_in homes) target) i t (relocation_count f h i)) i r
passed_section a f h homes target pages i w n t r e z q l d m =
    rw (d, q)
    (record {
      same = sym (row_passed pages (outcome a f h (home_in homes) target) i t (no_home a f h homes target i w e z) (relocation_count f h i));
      near = passed_near i (relocation_count f h i) t (passed_by t (relocation_count f h i)) (rw q at l) refl m;
    })

pub passed_within : (t : Tally) (i : ℕ) → AtMost t (2 ^ 32 * i) → i < 2 ^ 16 → AtMost t (2 ^ 60)
passed_within t i w l = within_more t (2 ^ 32 * i) (2 ^ 60) w (omega arith)

pub ruleset homeless = (passed_within, passed_section)
