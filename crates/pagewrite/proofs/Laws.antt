-- What the code asks: the marks' words and loops, and each check's ways. Assumes nothing.
use Rattle.refusal.specs.declared.Refusal.{Refusal}
use Rattle.refusal.specs.Refusal.{Code, PASSES, STORAGE}
use Rattle.std.specs.Prelude.{Ok, Err}
use mathlib.Core.Path.{◌≡◌, refl, sym, ◌∙◌}
use mathlib.Core.Bool.{Bool, true, false}
use mathlib.Core.List.{List}
use Prim.Native.Nat.{ℕ, suc, ◌+◌, ◌-◌, ◌*◌, ◌/◌, ◌%◌, ◌^◌, ◌≤◌, ◌<◌}
use native.Mathlib.Omega.{arith}
use native.Mathlib.Nat.{mod-lt, one-mul}
use lib.ListN.{length, replicate, length-replicate}
use lib.Bits.{bit_or}
use lib.Dec.{leb}
use lib.Pow.{shl_exact}
use borrow.Author.Tests.{le-leb, lt-leb, ne_eqb, leb-true}
use Rattle.util.specs.Align.{round_up, up_not_below, align_exact}
use Rattle.util.specs.Pick.{pick, head_passes, rest_passes}
use Rattle.arch.specs.Page.{PAGE_SIZE}
use Rattle.le.specs.Le.{get, le, splice, splice_next}
use Rattle.refusal.specs.Refusal.{unless_refused, Leaves, LeavesBoth}
use Rattle.marks.specs.Marks.{WORD_PAGES, WORD_BYTES}
use Rattle.pagemap.specs.Pages.{storage_ok, read_code}
use Rattle.pagemap.specs.PageLaws.{read_in}
use Rattle.pagewrite.specs.Marking.{mark_page, mark_pages}
use Rattle.pagewrite.specs.PageWrite.{pages_lent, padded_write_code, padded, capacity_code}
use Rattle.pagewrite.specs.PageWriteLaws.{padded_fits}

-- ---- the marks
pub mark_is : (m x : List ℕ) (p w : ℕ) → w ≡ get WORD_BYTES m (WORD_BYTES * (p / WORD_PAGES)) → x ≡ splice m (WORD_BYTES * (p / WORD_PAGES)) (le WORD_BYTES (bit_or w (1 * 2 ^ (p % WORD_PAGES) % 2 ^ 64))) → x ≡ mark_page m p
unfolding mark_page
mark_is m x p w d q =
    let f : p % WORD_PAGES < WORD_PAGES = mod-lt p (omega arith) in
    let s : 1 * 2 ^ (p % WORD_PAGES) % 2 ^ 64 ≡ 1 * 2 ^ (p % WORD_PAGES) = shl_exact 1 (p % WORD_PAGES) 64 (omega arith) (omega arith) in
    rw (q, s, one-mul, d)

pub pages_none : (m : List ℕ) (p : ℕ) → m ≡ mark_pages m p (p - p)
unfolding mark_pages
pages_none m p = let z : p - p ≡ 0 = omega arith in rw z

pub pages_again : (m x y : List ℕ) (p q : ℕ) → x ≡ mark_pages m p (q - p) → p ≤ q → y ≡ mark_page x q → y ≡ mark_pages m p (q + 1 - p)
unfolding mark_pages
pages_again m x y p q e h d =
    let z : q + 1 - p ≡ suc (q - p) = omega arith in
    let w : p + (q - p) ≡ q = omega arith in
    rw (z, w, d, e)

pub pages_end : (m x : List ℕ) (p q n : ℕ) → x ≡ mark_pages m p (q - p) → q ≡ p + n → x ≡ mark_pages m p n
pages_end m x p q n e h = let z : q - p ≡ n = omega arith in cc

pub ruleset pages_loop = (pages_none, pages_again, pages_end)

-- ---- a byte that is set lies within the image
pub read_byte : (size : ℕ) (marks : List ℕ) (k : Code) (o : ℕ) → k ≡ read_code size marks o 1 → k ≡ PASSES → o < size
read_byte size marks k o e z = let h = read_in size marks o 1 (sym e ∙ z) in omega arith

-- ---- the ways through `pages_lent`
module _ (size o n : ℕ) where
  pub lent_none : n ≡ 0 → true ≡ pages_lent size o n
  unfolding pages_lent pick
  lent_none e = rw e

  pub lent_few : (r : Bool) → (n ≡ 0 → ⊥) → r ≡ leb (o + n * PAGE_SIZE) size → r ≡ pages_lent size o n
  unfolding pages_lent pick
  lent_few r e q = rw (ne_eqb n 0 e, q)

  pub lent_many : (n ≡ 0 → ⊥) → size / PAGE_SIZE < n → false ≡ pages_lent size o n
  unfolding pages_lent pick
  lent_many e h = rw (ne_eqb n 0 e, lt-leb (o + n * PAGE_SIZE) size (omega arith))

pub ruleset lent_ways = (lent_none, lent_few, lent_many)

-- ---- a padded write: the items, and zeros right after them
pub padded_sum : (size marks o n : ℕ) (k : Code) → size < 2 ^ 64 → k ≡ padded_write_code size marks o n → k ≡ PASSES → o + n < 2 ^ 64
padded_sum size marks o n k f e z = let h = (padded_fits size marks o n (cc)).inside (omega arith) in omega arith

pub padded_is : (image x y items : List ℕ) (o : ℕ) → x ≡ splice image o items
    → y ≡ splice x (o + length items) (replicate ((length items / PAGE_SIZE + 1) * PAGE_SIZE - length items) 0) → y ≡ splice image o (padded items)
unfolding padded
padded_is image x y items o e d = d ∙ rw e (splice_next image o items (replicate ((length items / PAGE_SIZE + 1) * PAGE_SIZE - length items) 0) (o + length items) refl)

pub ruleset padded_ways = (padded_sum, padded_is)

-- ---- a map of just the given items: there is room for a padded write at 0 where there is for the capacity
capacity_room : (size marks n : ℕ) → capacity_code size marks (round_up n PAGE_SIZE) ≡ PASSES → padded_write_code size marks 0 n ≡ PASSES
unfolding capacity_code padded_write_code pages_lent pick
capacity_room size marks n e =
    let s : storage_ok size marks ≡ true = head_passes (storage_ok size marks) (pick (leb (round_up n PAGE_SIZE / PAGE_SIZE + 1) (size / PAGE_SIZE)) PASSES STORAGE) STORAGE e (λ z. cc) in
    let r = rest_passes (storage_ok size marks) (pick (leb (round_up n PAGE_SIZE / PAGE_SIZE + 1) (size / PAGE_SIZE)) PASSES STORAGE) STORAGE e (λ z. cc) in
    let l = leb-true (round_up n PAGE_SIZE / PAGE_SIZE + 1) (size / PAGE_SIZE) (head_passes (leb (round_up n PAGE_SIZE / PAGE_SIZE + 1) (size / PAGE_SIZE)) PASSES STORAGE r (λ z. cc)) in
    let u = up_not_below n PAGE_SIZE (omega arith) in
    rw (s, ne_eqb (n / PAGE_SIZE + 1) 0 (λ z. omega arith), le-leb (0 + (n / PAGE_SIZE + 1) * PAGE_SIZE) size (omega arith))

module _ (image items marks m new y : List ℕ) (a : ℕ) (s r : Code) where
  pub items_done : (x : List ℕ) (u : Unit) → a ≡ round_up (length items) PAGE_SIZE % 2 ^ 64 → length items + PAGE_SIZE ≤ 2 ^ 64
      → Leaves (capacity_code (length image) (length marks) a) marks (replicate (length marks) 0) m s → s ≡ Ok u
      → LeavesBoth (padded_write_code (length image) (length m) 0 (length items)) image new x m (mark_pages m 0 (length items / PAGE_SIZE + 1)) y r
      → LeavesBoth (capacity_code (length image) (length marks) (round_up (length items) PAGE_SIZE)) image new x marks
      (mark_pages (replicate (length marks) 0) 0 (length items / PAGE_SIZE + 1)) y r
  unfolding unless_refused
  items_done x u e f l d w =
      let g : a ≡ round_up (length items) PAGE_SIZE = e ∙ align_exact (length items) PAGE_SIZE f (omega arith) in
      let z : capacity_code (length image) (length marks) a ≡ PASSES = sym l.says ∙ d in
      let c : m ≡ replicate (length marks) 0 = rw z at l.leaves in
      let n : length m ≡ length marks = rw c (length-replicate (length marks) 0) in
      let p : padded_write_code (length image) (length m) 0 (length items) ≡ PASSES =
      rw n (capacity_room (length image) (length marks) (length items) (rw (← g) z)) in
      let h : m ≡ replicate (length marks) 0 → y ≡ mark_pages m 0 (length items / PAGE_SIZE + 1) → y ≡ mark_pages (replicate (length marks) 0) 0 (length items / PAGE_SIZE + 1) = λ h k. rw (← h) k in
      rw (← g, z) (record { says = rw p at w.says; leaves = rw p at w.leaves; leaves₂ = h c (rw p at w.leaves₂) })

  pub items_refused : (k : Refusal) → a ≡ round_up (length items) PAGE_SIZE % 2 ^ 64 → length items + PAGE_SIZE ≤ 2 ^ 64
      → Leaves (capacity_code (length image) (length marks) a) marks (replicate (length marks) 0) m s → s ≡ Err k → r ≡ Err k
      → LeavesBoth (capacity_code (length image) (length marks) (round_up (length items) PAGE_SIZE)) image new image marks y m r
  unfolding unless_refused
  items_refused k e f l d q =
      let g : a ≡ round_up (length items) PAGE_SIZE = e ∙ align_exact (length items) PAGE_SIZE f (omega arith) in
      let t : capacity_code (length image) (length marks) a ≡ Err k = sym l.says ∙ d in
      rw (← g, t, q) (record { says = refl; leaves = refl; leaves₂ = rw t at l.leaves })

pub ruleset items_ways = (items_done, items_refused)
