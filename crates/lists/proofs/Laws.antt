-- The pass over all relocations. Assumes nothing.
use Rattle.std.specs.Prelude.{Option}
use Rattle.arch.specs.declared.RVA.{RVA}
use Rattle.std.proofs.Common.{◌≡◌, ℕ, zero, suc, ◌+◌, ◌*◌, ◌%◌, ◌^◌, ◌<◌, ◌≤◌, List, [], ◌∷◌, ◌++◌, length, get_or, ◌⊎◌, ⊎_elim, refl, ap, ◌∙◌, add-one, arith, length-append}
use Rattle.util.specs.Fold.{fold_records, fold_sections, records_same}
use Rattle.limits.specs.Records.{FIXUP_BYTES, SKIP_BYTES}
use Rattle.le.specs.Le.{splice, splice_next, splice_long}
use Rattle.arch.specs.declared.Arch.{Arch}
use Rattle.object.specs.declared.Header.{Header}
use Rattle.object.specs.declared.Records.{Records}
use Rattle.object.specs.Relocation.{relocation_in, records_of, record_at, count_read}
use Rattle.object.specs.Section.{relocation_count}
use Rattle.homes.specs.Home.{word_home, home_in}
use Rattle.targets.specs.declared.Skip.{Skip}
use Rattle.targets.specs.declared.Target.{Target}
use Rattle.fixups.specs.declared.Fix.{Fix}
use Rattle.fixups.specs.declared.Outcome.{Outcome}
use Rattle.fixups.specs.declared.Outcome.TheVariants.{Passed, Skipped, Refused, Fixup}
use Rattle.targets.specs.Target.{skip_number}
use Rattle.fixups.specs.Outcome.{by_home, outcome, no_home, read_outcome, read_outcome_lem}
use Rattle.fixups.specs.Value.{value_of}
use Rattle.fixups.specs.Lists.{append_step, over_records, over_sections}
use Rattle.fixups.specs.ListLaws.{section_behind}
use Rattle.lists.specs.declared.Rows.{Rows}
use Rattle.words.specs.Words.{word_bytes, length_words, word_low}
use Rattle.lists.specs.Relocations.{fix_words, skip_words, fix_bytes, skip_bytes, fix_bytes_at, skip_bytes_at, Written, Near, Step, BothWritten}

-- ---- one record
pub fix_put : (base : ℕ) (x : Fix) (b c : List ℕ) (k at v : ℕ) → at ≡ (base + x.place.0) % 2 ^ 64 → v ≡ value_of base x → c ≡ splice b k (word_bytes (at ∷ x.bits ∷ v ∷ [])) → c ≡ splice b k (word_bytes (fix_words base x))
unfolding fix_words
fix_put base x b c k at v e q d = rw (← q) (d ∙ ap (splice b k) (rw e (word_low (base + x.place.0) (x.bits ∷ v ∷ []))))

pub skip_put : (i j : ℕ) (s : Skip) (b c : List ℕ) (k v : ℕ) → v ≡ skip_number s → c ≡ splice b k (word_bytes ((i + 1) ∷ j ∷ v ∷ [])) → c ≡ splice b k (word_bytes (skip_words i j s))
unfolding skip_words
skip_put i j s b c k v q d = rw (← q) d

splice_nothing : (b : List ℕ) (k : ℕ) → b ≡ splice b k []
unfolding splice
splice_nothing b k = refl

length_fix : (base : ℕ) (x : Fix) → length (word_bytes (fix_words base x)) ≡ FIXUP_BYTES
unfolding fix_words
length_fix base x = length_words (fix_words base x)

length_skip : (i k : ℕ) (s : Skip) → length (word_bytes (skip_words i k s)) ≡ SKIP_BYTES
unfolding skip_words
length_skip i k s = length_words (skip_words i k s)

-- ---- one outcome
module _ (base i k : ℕ) (o : Outcome) (p : Rows) (b c : List ℕ) where
  pub step_kept : (o ≡ Passed) ⊎ (o ≡ Refused) → Step p (fix_bytes base o) (skip_bytes i k o) b b c c p 1
  step_kept e =
      let kept : Step p [] [] b b c c p 1 = record {
        written = record { fixes = splice_nothing b (FIXUP_BYTES * p.fixups); skips = splice_nothing c (SKIP_BYTES * p.skips); fix_count = omega arith; skip_count = omega arith };
        near = record { fixes = omega arith; skips = omega arith };
      } in
      ⊎_elim (λ q. rw q kept) (λ q. rw q kept) e

  pub step_skipped : (s : Skip) (c' : List ℕ) → o ≡ Skipped s → c' ≡ splice c (SKIP_BYTES * p.skips) (word_bytes (skip_words i k s))
      → Step p (fix_bytes base o) (skip_bytes i k o) b b c c' (record { fixups = p.fixups; skips = p.skips + 1 }) 1
  step_skipped s c' e d =
      let z = length_skip i k s in
      rw e
      (record {
        written = record { fixes = splice_nothing b (FIXUP_BYTES * p.fixups); skips = d; fix_count = omega arith; skip_count = omega arith };
        near = record { fixes = omega arith; skips = omega arith };
      })

  pub step_fixup : (x : Fix) (b' : List ℕ) → o ≡ Fixup x → b' ≡ splice b (FIXUP_BYTES * p.fixups) (word_bytes (fix_words base x))
      → Step p (fix_bytes base o) (skip_bytes i k o) b b' c c (record { fixups = p.fixups + 1; skips = p.skips }) 1
  step_fixup x b' e d =
      let z = length_fix base x in
      rw e
      (record {
        written = record { fixes = d; skips = splice_nothing c (SKIP_BYTES * p.skips); fix_count = omega arith; skip_count = omega arith };
        near = record { fixes = omega arith; skips = omega arith };
      })

pub ruleset outcome_steps = (step_kept, step_skipped, step_fixup)

-- ---- one after another
pub written_none : (p : Rows) (b c : List ℕ) → Written p [] [] b b c c p
written_none p b c = record { fixes = splice_nothing b (FIXUP_BYTES * p.fixups); skips = splice_nothing c (SKIP_BYTES * p.skips); fix_count = omega arith; skip_count = omega arith }

pub written_on : (p q r : Rows) (F S F' S' b b' b'' c c' c'' : List ℕ) → Written p F S b b' c c' q → Written q F' S' b' b'' c' c'' r → Written p (F ++ F') (S ++ S') b b'' c c'' r
written_on p q r F S F' S' b b' b'' c c' c'' w v =
    record {
      fixes = v.fixes ∙ ap (λ (l : List ℕ). splice l (FIXUP_BYTES * q.fixups) F') w.fixes ∙ splice_next b (FIXUP_BYTES * p.fixups) F F' (FIXUP_BYTES * q.fixups) w.fix_count;
      skips = v.skips ∙ ap (λ (l : List ℕ). splice l (SKIP_BYTES * q.skips) S') w.skips ∙ splice_next c (SKIP_BYTES * p.skips) S S' (SKIP_BYTES * q.skips) w.skip_count;
      fix_count = let e = length-append F F' in let x = w.fix_count in let y = v.fix_count in omega arith;
      skip_count = let e = length-append S S' in let x = w.skip_count in let y = v.skip_count in omega arith;
    }

pub near_on : (p q r : Rows) (n m : ℕ) → Near p q n → Near q r m → Near p r (n + m)
near_on p q r n m x y = record { fixes = omega (arith, x.fixes, y.fixes); skips = omega (arith, x.skips, y.skips) }

pub step_on : (p q r : Rows) (F S F' S' b b' b'' c c' c'' : List ℕ) (n m : ℕ) → Step p F S b b' c c' q n → Step q F' S' b' b'' c' c'' r m → Step p (F ++ F') (S ++ S') b b'' c c'' r (n + m)
step_on p q r F S F' S' b b' b'' c c' c'' n m x y =
    record { written = written_on p q r F S F' S' b b' b'' c c' c'' x.written y.written; near = near_on p q r n m x.near y.near }

-- ---- the records of a section
module _ (base : ℕ) (o : ℕ → ℕ → Outcome) (i : ℕ) (p : Rows) (b c : List ℕ) where
  pub row_none : Step p (over_records (fix_bytes_at base o) i 0) (over_records (skip_bytes_at o) i 0) b b c c p 0
  unfolding fold_records
  row_none = record { written = written_none p b c; near = record { fixes = omega arith; skips = omega arith } }

  pub row_again : (k : ℕ) (q r : Rows) (x : Outcome) (b' b'' c' c'' : List ℕ) → Step p (over_records (fix_bytes_at base o) i k) (over_records (skip_bytes_at o) i k) b b' c c' q k → x ≡ o i k
      → Step q (fix_bytes base x) (skip_bytes i k x) b' b'' c' c'' r 1 → Step p (over_records (fix_bytes_at base o) i (k + 1)) (over_records (skip_bytes_at o) i (k + 1)) b b'' c c'' r (k + 1)
  unfolding fold_records append_step fix_bytes_at skip_bytes_at
  row_again k q r x b' b'' c' c'' s e t =
      let z = step_on p q r (over_records (fix_bytes_at base o) i k) (over_records (skip_bytes_at o) i k) (fix_bytes base x) (skip_bytes i k x) b b' b'' c c' c'' k 1 s t in
      rw (add-one k) (rw (add-one k, e) at z)

  pub row_end : (k m n : ℕ) (q : Rows) (b' c' : List ℕ) → Step p (over_records (fix_bytes_at base o) i k) (over_records (skip_bytes_at o) i k) b b' c c' q k → k ≤ m → m ≤ k → m ≡ n → m < 2 ^ 32
      → Step p (over_records (fix_bytes_at base o) i n) (over_records (skip_bytes_at o) i n) b b' c c' q (2 ^ 32)
  row_end k m n q b' c' s a d e l =
      let z : k ≡ n = omega arith in
      let t = rw z at s in
      record { written = t.written; near = record { fixes = omega (arith, t.near.fixes); skips = omega (arith, t.near.skips) } }

  pub row_room : (k m : ℕ) (F S b' c' : List ℕ) (q : Rows) → Step p F S b b' c c' q k → p.fixups ≤ 2 ^ 32 * i → p.skips ≤ 2 ^ 32 * i → i < 2 ^ 16 → k < m → m < 2 ^ 32
      → (q.fixups < 2 ^ 50) × (q.skips < 2 ^ 50)
  row_room k m F S b' c' q s x y a d e = (omega (arith, s.near.fixes), omega (arith, s.near.skips))

-- ---- a section by what is found once for it
module _ (base : ℕ) (o x : ℕ → ℕ → Outcome) (i : ℕ) (e : (k : ℕ) → o i k ≡ x i k) (n : ℕ) where
  fixes_same : over_records (fix_bytes_at base o) i n ≡ over_records (fix_bytes_at base x) i n
  unfolding append_step fix_bytes_at
  fixes_same = records_same (append_step (fix_bytes_at base o)) (append_step (fix_bytes_at base x)) i (λ k b. ap (λ (y : Outcome). b ++ fix_bytes base y) (e k)) [] n

  skips_same : over_records (skip_bytes_at o) i n ≡ over_records (skip_bytes_at x) i n
  unfolding append_step skip_bytes_at
  skips_same = records_same (append_step (skip_bytes_at o)) (append_step (skip_bytes_at x)) i (λ k b. ap (λ (y : Outcome). b ++ skip_bytes i k y) (e k)) [] n

pub read_again : (a : Arch) (f : List ℕ) (target : ℕ → Target) (rs : Records) (home : Option RVA) (base i : ℕ) (p : Rows) (b c : List ℕ) (k : ℕ) (q r : Rows) (x : Outcome)
    (b' b'' c' c'' : List ℕ)
    → Step p (over_records (fix_bytes_at base (read_outcome a f target rs home)) i k) (over_records (skip_bytes_at (read_outcome a f target rs home)) i k) b b' c c' q k
    → x ≡ by_home a target home (relocation_in f (record_at rs k)) → Step q (fix_bytes base x) (skip_bytes i k x) b' b'' c' c'' r 1
    → Step p (over_records (fix_bytes_at base (read_outcome a f target rs home)) i (k + 1)) (over_records (skip_bytes_at (read_outcome a f target rs home)) i (k + 1)) b b'' c c'' r (k + 1)
unfolding read_outcome
read_again a f target rs home base i p b c k q r x b' b'' c' c'' s e t =
    row_again base (read_outcome a f target rs home) i p b c k q r x b' b'' c' c'' s e t

pub read_end : (a : Arch) (f : List ℕ) (h : Header) (homes : List ℕ) (target : ℕ → Target) (rs : Records) (w base i : ℕ) (p : Rows) (b c : List ℕ) (k : ℕ) (q : Rows)
    (b' c' : List ℕ)
    → Step p (over_records (fix_bytes_at base (read_outcome a f target rs (word_home w))) i k) (over_records (skip_bytes_at (read_outcome a f target rs (word_home w))) i k) b b' c c' q k
    → rs ≡ records_of f h i → w ≡ get_or homes i 0 → k ≤ rs.count → rs.count ≤ k → rs.count < 2 ^ 32
    → Step p (over_records (fix_bytes_at base (outcome a f h (home_in homes) target)) i (relocation_count f h i))
    (over_records (skip_bytes_at (outcome a f h (home_in homes) target)) i (relocation_count f h i)) b b' c c' q (2 ^ 32)
read_end a f h homes target rs w base i p b c k q b' c' s e z m d l =
    let each = read_outcome_lem a f h homes target i rs w e z in
    row_end base (outcome a f h (home_in homes) target) i p b c k rs.count (relocation_count f h i) q b' c'
    (rw (
      fixes_same base (read_outcome a f target rs (word_home w)) (outcome a f h (home_in homes) target) i each k,
      skips_same base (read_outcome a f target rs (word_home w)) (outcome a f h (home_in homes) target) i each k,
    ) at s) m d (count_read f h i rs e) l

-- ---- a section without a home writes nothing
module _ (base : ℕ) (o : ℕ → ℕ → Outcome) (i : ℕ) (e : (k : ℕ) → o i k ≡ Passed) where
  no_fixes : (n : ℕ) → over_records (fix_bytes_at base o) i n ≡ []
  unfolding fold_records append_step fix_bytes_at
  no_fixes zero = refl
  no_fixes (suc n) = rw (no_fixes n, e n)

  no_skips : (n : ℕ) → over_records (skip_bytes_at o) i n ≡ []
  unfolding fold_records append_step skip_bytes_at
  no_skips zero = refl
  no_skips (suc n) = rw (no_skips n, e n)

pub no_rows : (a : Arch) (f : List ℕ) (h : Header) (homes : List ℕ) (target : ℕ → Target) (base i w : ℕ) (p : Rows) (b c : List ℕ) → w ≡ get_or homes i 0 → w ≡ 0
    → Step p (over_records (fix_bytes_at base (outcome a f h (home_in homes) target)) i (relocation_count f h i)) (over_records (skip_bytes_at (outcome a f h (home_in homes) target)) i (relocation_count f h i)) b b c c p (2 ^ 32)
no_rows a f h homes target base i w p b c e z =
    let each = no_home a f h homes target i w e z in
    rw (no_fixes base (outcome a f h (home_in homes) target) i each (relocation_count f h i), no_skips base (outcome a f h (home_in homes) target) i each (relocation_count f h i))
    (record { written = written_none p b c; near = record { fixes = omega arith; skips = omega arith } })

-- ---- the sections
abbrev pub none : Rows
none = record { fixups = 0; skips = 0 }

module _ (base : ℕ) (o : ℕ → ℕ → Outcome) (count : ℕ → ℕ) (b c : List ℕ) where
  pub rows_none : Step none (over_sections (fix_bytes_at base o) count 0) (over_sections (skip_bytes_at o) count 0) b b c c none (2 ^ 32 * 0)
  unfolding fold_sections
  rows_none = record { written = written_none none b c; near = record { fixes = omega arith; skips = omega arith } }

  pub rows_again : (i : ℕ) (q r : Rows) (b' b'' c' c'' : List ℕ) → Step none (over_sections (fix_bytes_at base o) count i) (over_sections (skip_bytes_at o) count i) b b' c c' q (2 ^ 32 * i)
      → Step q (over_records (fix_bytes_at base o) i (count i)) (over_records (skip_bytes_at o) i (count i)) b' b'' c' c'' r (2 ^ 32)
      → Step none (over_sections (fix_bytes_at base o) count (i + 1)) (over_sections (skip_bytes_at o) count (i + 1)) b b'' c c'' r (2 ^ 32 * (i + 1))
  rows_again i q r b' b'' c' c'' s t =
      let z =
      step_on none q r (over_sections (fix_bytes_at base o) count i) (over_sections (skip_bytes_at o) count i) (over_records (fix_bytes_at base o) i (count i)) (over_records (skip_bytes_at o) i (count i)) b b' b'' c c' c''
      (2 ^ 32 * i) (2 ^ 32) s t in
      rw (add-one i, section_behind (fix_bytes_at base o) count i, section_behind (skip_bytes_at o) count i)
      (record { written = z.written; near = record { fixes = omega (arith, z.near.fixes); skips = omega (arith, z.near.skips) } })

  pub rows_end : (i n m : ℕ) (q : Rows) (b' c' : List ℕ) → Step none (over_sections (fix_bytes_at base o) count i) (over_sections (skip_bytes_at o) count i) b b' c c' q (2 ^ 32 * i) → i ≤ n → n ≤ i → n ≡ m
      → BothWritten (over_sections (fix_bytes_at base o) count m) (over_sections (skip_bytes_at o) count m) b b' c c'
  rows_end i n m q b' c' s a d e =
      let z : i ≡ m = omega arith in
      let t = rw z at s in
      record { fixes = t.written.fixes; skips = t.written.skips }

-- no byte more or less
pub fixes_long : (p q : Rows) (F S b b' c c' : List ℕ) (n : ℕ) → Step p F S b b' c c' q n → length b' ≡ length b
fixes_long p q F S b b' c c' n s = splice_long b b' (FIXUP_BYTES * p.fixups) F s.written.fixes

pub skips_long : (p q : Rows) (F S b b' c c' : List ℕ) (n : ℕ) → Step p F S b b' c c' q n → length c' ≡ length c
skips_long p q F S b b' c c' n s = splice_long c c' (SKIP_BYTES * p.skips) S s.written.skips
