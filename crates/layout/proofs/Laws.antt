-- The loops of the layout. Assumes nothing.
use Rattle.std.proofs.Common.{◌≡◌, ℕ, ◌+◌, ◌%◌, ◌^◌, ◌<◌, ◌≤◌, Bool, true, false, List, arith}
use Rattle.util.specs.Pick.{pick}
use Rattle.util.specs.Align.{round_up, up_is, up_near}
use Rattle.util.specs.Prefix.{count_none, count_yes, count_no, count_end}
use Rattle.arch.specs.Page.{PAGE_SIZE}
use Rattle.arch.specs.Address.{rva}
use Rattle.object.specs.declared.Header.{Header}
use Rattle.object.specs.Section.{loaded, range_length}
use Rattle.layout.specs.Layout.{next_start, start_at}
use Rattle.layout.specs.LayoutLaws.{start_none, start_again}

-- ---- one section further: past 64 bits it wraps
next_is : (at n e r : ℕ) → e ≡ (at + n) % 2 ^ 64 → r ≡ round_up e PAGE_SIZE % 2 ^ 64 → r ≡ round_up (at + n) PAGE_SIZE % 2 ^ 64
next_is at n e r p q =
    let a = up_is e PAGE_SIZE (omega arith) in
    let b = up_is (at + n) PAGE_SIZE (omega arith) in
    omega arith

next_near : (at n : ℕ) → n < 2 ^ 33 → round_up (at + n) PAGE_SIZE ≤ at + 2 ^ 34
next_near at n b = let u = up_near (at + n) PAGE_SIZE (omega arith) in omega arith

module _ (f : List ℕ) (h : Header) (i at : ℕ) (l : Bool) where
  pub loaded_is : (n e r : ℕ) → l ≡ loaded f h i → l ≡ true → n < 2 ^ 33 → n ≡ range_length f h i → e ≡ (at + n) % 2 ^ 64 → r ≡ round_up e PAGE_SIZE % 2 ^ 64 → r ≡ next_start f h i at % 2 ^ 64
  unfolding next_start pick
  loaded_is n e r q t b p d g = rw (← q, t, ← p) (next_is at n e r d g)

  pub loaded_near : (n : ℕ) → l ≡ loaded f h i → l ≡ true → n < 2 ^ 33 → n ≡ range_length f h i → next_start f h i at ≤ at + 2 ^ 34
  unfolding next_start pick
  loaded_near n q t b p = rw (← q, t, ← p) (next_near at n b)

  pub unloaded_is : l ≡ loaded f h i → l ≡ false → at < 2 ^ 64 → at ≡ next_start f h i at % 2 ^ 64
  unfolding next_start pick
  unloaded_is q t k = rw (← q, t) (omega arith)

  pub unloaded_near : l ≡ loaded f h i → l ≡ false → next_start f h i at ≤ at + 2 ^ 34
  unfolding next_start pick
  unloaded_near q t = rw (← q, t) (omega arith)

pub ruleset next_ways = (loaded_is, loaded_near, unloaded_is, unloaded_near)

-- ---- starts
pub ruleset start_loop = (start_none, start_again)
