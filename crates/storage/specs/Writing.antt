-- What the parts that write promise.
use Rattle.arch.specs.declared.RVA.{RVA}
use Rattle.std.specs.Prelude.{◌≡◌, List, ℕ, Option}
use Rattle.le.specs.Le.{splice}
use Rattle.object.specs.declared.Header.{Header}
use Rattle.tables.specs.Sections.{section_table}
use Rattle.symbol_table.specs.Symbols.{symbol_table}
use Rattle.tables.specs.Externs.{extern_table}
use Rattle.image.specs.Laid.{laid}
use Rattle.marks.specs.Marks.{words_for, mark_bytes}

-- section table, image and marks
pub record LayoutIs (f : List ℕ) (h : Header) (base : ℕ) (home : ℕ → Option RVA) (undef pages n : ℕ) (s s' i i' m m' : List ℕ) : Type 0 where
  pub sections : s' ≡ splice s 0 (section_table f h base home undef)
  pub image : i' ≡ laid f h home pages base undef n i
  pub marks : m' ≡ splice m 0 (mark_bytes pages (words_for pages))

-- symbols and extern names
pub record NamesAre (f : List ℕ) (h : Header) (base : ℕ) (home : ℕ → Option RVA) (row : ℕ → ℕ) (undef n : ℕ) (slots y y' e e' : List ℕ) : Type 0 where
  pub symbols : y' ≡ splice y 0 (symbol_table f h base home row)
  pub externs : e' ≡ splice e 0 (extern_table f h base undef slots n)
