-- The ways through the code. Assumes nothing.
use Rattle.std.specs.Prelude.{Option}
use mathlib.Core.Path.{◌≡◌}
use mathlib.Core.List.{List}
use Prim.Native.Nat.{ℕ, ◌%◌, ◌^◌}
use native.Mathlib.Omega.{arith}
use lib.ListN.{length}
use Rattle.le.specs.Le.{splice, part}
use Rattle.arch.specs.Machine.{arch_of, arch_by}
use Rattle.arch.specs.Address.{rva}
use Rattle.arch.specs.declared.Arch.{Arch}
use Rattle.arch.specs.declared.RVA.{RVA}
use Rattle.object.specs.declared.Header.{Header}
use Rattle.object.specs.Format.{header_of}
use Rattle.object.specs.Section.{relocation_count}
use Rattle.layout.specs.Layout.{pages_to, mapped_pages, undef_start}
use Rattle.layout.proofs.LayoutLaws.{undef_fits}
use Rattle.homes.specs.Home.{home_in, record_in}
use Rattle.targets.specs.Table.{target_in}
use Rattle.fixups.specs.Outcome.{outcome}
use Rattle.tables.specs.Sections.{section_table}
use Rattle.symbol_table.specs.Symbols.{symbol_table}
use Rattle.tables.specs.Externs.{extern_table}
use Rattle.lists.specs.Relocations.{fix_table, skip_table, BothWritten}
use Rattle.image.specs.Laid.{laid}
use Rattle.marks.specs.Marks.{words_for, mark_bytes}
use Rattle.storage.specs.Storage.{storage, stored_by, stored, Known}
use Rattle.storage.specs.Writing.{LayoutIs, NamesAre}

-- ---- the parts that are written
module _ (f : List ℕ) (h : Header) (base : ℕ) (home : ℕ → Option RVA) (undef pages n : ℕ) (s s' i i' m m' : List ℕ) where
  pub laid_is : s' ≡ splice s 0 (section_table f h base home undef) → i' ≡ laid f h home pages base undef n i → m' ≡ splice m 0 (mark_bytes pages (words_for pages))
      → LayoutIs f h base home undef pages n s s' i i' m m'
  laid_is x y z = record { sections = x; image = y; marks = z }

module _ (f : List ℕ) (h : Header) (base : ℕ) (home : ℕ → Option RVA) (row : ℕ → ℕ) (undef n : ℕ) (slots y y' e e' : List ℕ) where
  pub listed_is : y' ≡ splice y 0 (symbol_table f h base home row) → e' ≡ splice e 0 (extern_table f h base undef slots n) → NamesAre f h base home row undef n slots y y' e e'
  listed_is p q = record { symbols = p; externs = q }

pub ruleset parts = (laid_is, listed_is)

pub stored_is : {a : Arch} {f : List ℕ} {h : Header} {base : ℕ} {homes codes names : List ℕ} {start : RVA} {undef pages n : ℕ} {i i' k k' s s' y y' e e' x x' z z' : List ℕ} (slots : List ℕ) (m : ℕ) → h ≡ header_of f
    → start ≡ rva (undef_start f h) → undef ≡ start.0 % 2 ^ 32 → pages ≡ pages_to start.0 % 2 ^ 32 → a ≡ arch_by (arch_of h.machine) → names ≡ part slots 0 m → n ≡ length names % 2 ^ 32
    → LayoutIs f h base (home_in homes) start.0 pages n s s' i i' k k' → NamesAre f h base (home_in homes) (record_in homes) start.0 n names y y' e e'
    → BothWritten (fix_table base (outcome a f h (home_in homes) (target_in homes undef codes)) (relocation_count f h) h.sections)
    (skip_table (outcome a f h (home_in homes) (target_in homes undef codes)) (relocation_count f h) h.sections) x x' z z'
    → Known f (header_of f) homes codes (part slots 0 m) → storage i' k' s' y' e' x' z' ≡ stored f (header_of f) base (storage i k s y e x z)
unfolding stored_by
stored_is {f = f} {h = h} {homes = homes} {codes = codes} {names = names} {start = start} {undef = undef} {pages = pages} {n = n} slots m head begins last mapped machine named count l w b known =
    let lim : Known f h homes codes names = rw (head, named) known in
    let fits = undef_fits f h lim.pages in
    let room = lim.pages in
    let few = lim.few in
    let at : start.0 ≡ undef_start f h = rw begins in
    let u : undef ≡ undef_start f h = omega arith in
    let p : pages ≡ mapped_pages f h = omega arith in
    let c : n ≡ length names = omega arith in
    rw (← head, l.image, l.marks, l.sections, w.symbols, w.externs, b.fixes, b.skips, machine, p, begins, u, c, lim.names, lim.home, lim.row, lim.target)

-- ---- where a caller has its own buffers again, they hold what is in the lent ones
pub left_in : {image marks sections symbols externs fixups skips image' marks' sections' symbols' externs' fixups' skips' : List ℕ} → image ≡ image' → marks ≡ marks' → sections ≡ sections' → symbols ≡ symbols'
    → externs ≡ externs' → fixups ≡ fixups' → skips ≡ skips'
    → storage image marks sections symbols externs fixups skips ≡ storage image' marks' sections' symbols' externs' fixups' skips'
left_in i m s y e x k = rw (i, m, s, y, e, x, k)
