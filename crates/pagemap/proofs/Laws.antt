-- What the code asks: pages against bytes, and each check's ways. Assumes nothing.
use Rattle.refusal.specs.Refusal.{Code, PASSES, STORAGE, NOT_MAPPED}
use Rattle.le.specs.Le.{splice, part, splice_whole}
use lib.Seq.{length-take-le}
use mathlib.Core.Path.{◌≡◌, sym, ◌∙◌}
use mathlib.Core.Bool.{Bool, true, false, not}
use mathlib.Core.List.{List}
use Prim.Native.Nat.{ℕ, ◌+◌, ◌-◌, ◌*◌, ◌^◌, ◌≤◌, ◌<◌, max}
use native.Mathlib.Omega.{arith}
use lib.ListN.{length, length-drop, take, drop}
use lib.Dec.{ltb, leb}
use borrow.Author.Tests.{le-ltb, le-leb, lt-leb, leb-true, leb-false, not-true, not-false}
use Rattle.util.specs.Pick.{pick, both_ways}
use Rattle.util.specs.Prefix.{all_to, all_at, all_of, all_stop}
use Rattle.arch.specs.Page.{PAGE_SIZE, page_of}
use Rattle.marks.specs.Marks.{marked, all_marked}
use Rattle.pagemap.specs.Pages.{lent_pages, storage_ok, mapped, span_mapped, read_code, slice_code}
use Rattle.pagemap.specs.PageLaws.{mapped_of, mapped_marked, read_in, slice_ordered, slice_in}

-- ---- a span: its pages' marks say what its bytes' do
abbrev page_end : ℕ → ℕ → ℕ
page_end o m = page_of (o + (m - 1)) + 1

module _ (size : ℕ) (marks : List ℕ) (o m : ℕ) where
  span_bytes : 0 < m → o + m ≤ lent_pages size * PAGE_SIZE → all_marked marks (page_of o) (page_end o m) ≡ all_to (λ k. mapped size marks (o + k)) m
  unfolding all_marked
  span_bytes z h =
      both_ways (all_marked marks (page_of o) (page_end o m)) (all_to (λ k. mapped size marks (o + k)) m)
      (λ e. all_of (λ k. mapped size marks (o + k)) m
      (λ k l.
      let q : page_of o + (page_of (o + k) - page_of o) ≡ page_of (o + k) = omega arith in
      let t = all_at (λ k. marked marks (page_of o + k)) (page_end o m - page_of o) (page_of (o + k) - page_of o) e (omega arith) in
      mapped_of size marks (o + k) (omega arith) (rw q at t)))
      (λ e. all_of (λ k. marked marks (page_of o + k)) (page_end o m - page_of o)
      (λ j l.
      let k : ℕ = (page_of o + j) * PAGE_SIZE - o in
      let q : page_of (o + k) ≡ page_of o + j = omega arith in
      rw q at (mapped_marked size marks (o + k) (all_at (λ k. mapped size marks (o + k)) m k e (omega arith)))))

  -- a byte past the lent pages is not mapped
  span_out : 0 < m → lent_pages size * PAGE_SIZE < o + m → all_to (λ k. mapped size marks (o + k)) m ≡ false
  unfolding mapped
  span_out z h =
      all_stop (λ k. mapped size marks (o + k)) (m - 1) m (omega arith)
      (let f : ltb (page_of (o + (m - 1))) (lent_pages size) ≡ false = le-ltb (page_of (o + (m - 1))) (lent_pages size) (omega arith) in rw f)

module _ (size : ℕ) (marks : List ℕ) (o n m : ℕ) (w : Bool) where
  pub span_yes : (r : Bool) → m ≡ max n 1 → w ≡ leb (o + m) (lent_pages size * PAGE_SIZE) → not w ≡ false
      → r ≡ all_marked marks (page_of o) (page_of (o + (m - 1)) + 1) → r ≡ span_mapped size marks o n
  unfolding span_mapped
  span_yes r e q t d = let y = not-false w t in d ∙ rw (← e) (span_bytes size marks o m (omega arith) (leb-true _ _ (cc)))

  pub span_no : m ≡ max n 1 → w ≡ leb (o + m) (lent_pages size * PAGE_SIZE) → not w ≡ true → false ≡ span_mapped size marks o n
  unfolding span_mapped
  span_no e q t = let y = not-true w t in rw (← e) (sym (span_out size marks o m (omega arith) (leb-false _ _ (cc))))

  pub span_fits : size < 2 ^ 64 → w ≡ leb (o + m) (lent_pages size * PAGE_SIZE) → not w ≡ false → o + (m - 1) < 2 ^ 64
  span_fits f q t = let y = not-false w t in let h : o + m ≤ lent_pages size * PAGE_SIZE = leb-true _ _ (cc) in omega arith

pub ruleset span_ways = (span_yes, span_no, span_fits)

-- ---- the ways through `slice_code`; a start past the end leaves nothing to fit, so it is 15 in any buffer
module _ (size : ℕ) (marks : List ℕ) (start end room : ℕ) (ok : Bool) (q : ok ≡ storage_ok size (length marks)) where
  pub slice_bad : not ok ≡ true → STORAGE ≡ slice_code size marks start end room
  unfolding slice_code pick
  slice_bad e = let y = not-true ok e in let a : storage_ok size (length marks) ≡ false = cc in rw a

  module _ (e : not ok ≡ false) where
    pub slice_late : end < start → NOT_MAPPED ≡ slice_code size marks start end room
    unfolding slice_code pick
    slice_late h =
        let y = not-false ok e in
        let a : storage_ok size (length marks) ≡ true = cc in
        rw (a, le-leb (end - start) room (omega arith), lt-leb start end h)

    pub slice_short : room < end - start → STORAGE ≡ slice_code size marks start end room
    unfolding slice_code pick
    slice_short h = let y = not-false ok e in let a : storage_ok size (length marks) ≡ true = cc in rw (a, lt-leb (end - start) room h)

    module _ (s : Bool) (h : start ≤ end) (k : end - start ≤ room) (p : s ≡ span_mapped size marks start (end - start)) where
      pub slice_all : not s ≡ false → PASSES ≡ slice_code size marks start end room
      unfolding slice_code pick
      slice_all z =
          let y = not-false ok e in
          let x = not-false s z in
          let a : storage_ok size (length marks) ≡ true = cc in
          let b : span_mapped size marks start (end - start) ≡ true = cc in
          rw (a, le-leb (end - start) room k, le-leb start end h, b)

      pub slice_none : not s ≡ true → NOT_MAPPED ≡ slice_code size marks start end room
      unfolding slice_code pick
      slice_none z =
          let y = not-false ok e in
          let x = not-true s z in
          let a : storage_ok size (length marks) ≡ true = cc in
          let b : span_mapped size marks start (end - start) ≡ false = cc in
          rw (a, le-leb (end - start) room k, le-leb start end h, b)

pub ruleset slice_ways = (slice_bad, slice_late, slice_short, slice_all, slice_none)

-- ---- what is read without a refusal lies within the image
module _ (size : ℕ) (marks : List ℕ) (k : Code) where
  module _ (o n : ℕ) where
    pub read_end : k ≡ read_code size marks o n → k ≡ PASSES → o + max n 1 ≤ size
    read_end e z = read_in size marks o n (cc)

  module _ (start end room : ℕ) where
    pub slice_order : k ≡ slice_code size marks start end room → k ≡ PASSES → start ≤ end
    slice_order e z = slice_ordered size marks start end room (cc)

    pub slice_end : k ≡ slice_code size marks start end room → k ≡ PASSES → end ≤ size
    slice_end e z = slice_in size marks start end room (cc)

pub ruleset reads = (read_end, slice_order, slice_end)

-- a read as long as the buffer takes its place
pub whole_read : (image buf x : List ℕ) (from : ℕ) → from + max (length buf) 1 ≤ length image
    → x ≡ splice buf 0 (take (from + length buf - from) (drop from image)) → x ≡ part image from (length buf)
unfolding part
whole_read image buf x from h e =
    let n : from + length buf - from ≡ length buf = omega arith in
    let d : length (drop from image) ≡ length image - from = length-drop from image in
    splice_whole buf (take (length buf) (drop from image)) x (length-take-le (length buf) (drop from image) (omega arith)) (rw n at e)
