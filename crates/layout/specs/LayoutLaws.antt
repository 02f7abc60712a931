-- Where sections start, as promises that hold for every file and every header (01, "Layout, slots and fixups").
use Rattle.std.specs.Prelude.{◌≡◌, ℕ, suc, ◌+◌, ◌%◌, ◌^◌, ◌<◌, ◌≤◌, true, List}
use Rattle.std.proofs.Math.Path.{refl}
use Rattle.std.proofs.Common.{add-one}
use native.Mathlib.Omega.{arith}
use Rattle.util.specs.Pick.{pick}
use Rattle.util.specs.Align.{round_up, up_not_below, up_near}
use Rattle.arch.specs.Page.{PAGE_SIZE}
use Rattle.object.specs.declared.Header.{Header}
use Rattle.object.specs.Section.{loaded, range_length}
use Rattle.layout.specs.Layout.{next_start, start_at}

module _ (f : List ℕ) (h : Header) where
  -- ---- as a loop keeps a start: at the first section, and one section further where nothing wraps
  pub start_none : 0 ≡ start_at f h 0
  unfolding start_at
  start_none = refl

  pub start_again : (i at r : ℕ) → at ≡ start_at f h i → at < 2 ^ 60 → r ≡ next_start f h i at % 2 ^ 64 → next_start f h i at ≤ at + 2 ^ 34 → r ≡ start_at f h (i + 1)
  unfolding start_at
  start_again i at r e k p q = let z : r ≡ next_start f h i at = omega arith in rw (add-one, ← e) z

  -- ---- one section further
  -- behind a loaded section the next start is the page boundary at or behind its range's end
  pub loaded_takes_range : (i : ℕ) → loaded f h i ≡ true → start_at f h (suc i) ≡ round_up (start_at f h i + range_length f h i) PAGE_SIZE
  unfolding start_at next_start pick
  loaded_takes_range i t = rw t

  -- no page is left out: the next start is less than a page behind the range's end
  pub no_gap : (i : ℕ) → loaded f h i ≡ true → start_at f h (suc i) < start_at f h i + range_length f h i + PAGE_SIZE
  no_gap i t = rw (loaded_takes_range i t) (up_near (start_at f h i + range_length f h i) PAGE_SIZE (omega arith))

  -- the next start is not within the range
  pub next_apart : (i : ℕ) → loaded f h i ≡ true → start_at f h i + range_length f h i ≤ start_at f h (suc i)
  next_apart i t = rw (loaded_takes_range i t) (up_not_below (start_at f h i + range_length f h i) PAGE_SIZE (omega arith))
