-- The lent storage, and what a load leaves in it (01, "Load").
use Rattle.arch.specs.declared.RVA.{RVA}
use Rattle.std.specs.Prelude.{◌≡◌, List, ℕ, ◌≤◌, length, Option}
use Rattle.limits.specs.Limits.{MAX_PAGES, MAX_EXTERNS}
use Rattle.le.specs.Le.{splice}
use Rattle.object.specs.declared.Header.{Header}
use Rattle.object.specs.Section.{relocation_count}
use Rattle.layout.specs.Layout.{undef_start, mapped_pages}
use Rattle.homes.specs.Home.{section_home, home_record, home_in, record_in}
use Rattle.externs.specs.Externs.{externs}
use Rattle.targets.specs.declared.Target.{Target}
use Rattle.targets.specs.Target.{targets}
use Rattle.targets.specs.Table.{target_in}
use Rattle.survey.specs.Survey.{outcomes_by}
use Rattle.tables.specs.Sections.{section_table}
use Rattle.symbol_table.specs.Symbols.{symbol_table}
use Rattle.tables.specs.Externs.{extern_table}
use Rattle.lists.specs.Relocations.{fix_table, skip_table}
use Rattle.image.specs.Laid.{laid}
use Rattle.marks.specs.Marks.{words_for, mark_bytes}
use Rattle.storage.specs.declared.Lent.{Lent}

-- the seven lent buffers
pub record Storage : Type 0 where
  pub image : List ℕ
  pub marks : List ℕ
  pub sections : List ℕ
  pub symbols : List ℕ
  pub externs : List ℕ
  pub fixups : List ℕ
  pub skips : List ℕ

-- all seven as one
abbrev pub storage : List ℕ → List ℕ → List ℕ → List ℕ → List ℕ → List ℕ → List ℕ → Storage
storage image marks sections symbols externs fixups skips =
    record { image = image; marks = marks; sections = sections; symbols = symbols; externs = externs; fixups = fixups; skips = skips }

-- what the caller's buffers hold
abbrev pub storage_of : Lent → Storage
storage_of l = storage l.image.now l.marks.now l.sections.now l.symbols.now l.externs.now l.fixups.now l.skips.now

-- the buffers are the same ones
pub record SameBuffers (before after : Lent) : Type 0 where
  pub image : after.image.ghost_name ≡ before.image.ghost_name
  pub marks : after.marks.ghost_name ≡ before.marks.ghost_name
  pub sections : after.sections.ghost_name ≡ before.sections.ghost_name
  pub symbols : after.symbols.ghost_name ≡ before.symbols.ghost_name
  pub externs : after.externs.ghost_name ≡ before.externs.ghost_name
  pub fixups : after.fixups.ghost_name ≡ before.fixups.ghost_name
  pub skips : after.skips.ghost_name ≡ before.skips.ghost_name

-- ---- what is written: `home` says where a section's home starts, `row` which record it is, `slots` has the extern names' symbols, `target` says what each
-- symbol comes to
module _ (f : List ℕ) (h : Header) (base : ℕ) (home : ℕ → Option RVA) (row : ℕ → ℕ) (slots : List ℕ) (target : ℕ → Target) where
  -- the storage with the counted parts written; behind them it is as it was
  unfoldable pub stored_by : Storage → Storage
  stored_by s =
      record {
        image = laid f h home (mapped_pages f h) base (undef_start f h) (length slots) s.image;
        marks = splice s.marks 0 (mark_bytes (mapped_pages f h) (words_for (mapped_pages f h)));
        sections = splice s.sections 0 (section_table f h base home (undef_start f h));
        symbols = splice s.symbols 0 (symbol_table f h base home row);
        externs = splice s.externs 0 (extern_table f h base (undef_start f h) slots (length slots));
        fixups = splice s.fixups 0 (fix_table base (outcomes_by f h home target) (relocation_count f h) h.sections);
        skips = splice s.skips 0 (skip_table (outcomes_by f h home target) (relocation_count f h) h.sections);
      }

-- by the rules' own homes, names and targets
abbrev pub stored : List ℕ → Header → ℕ → Storage → Storage
stored f h base s = stored_by f h base (section_home f h) (home_record f h) (externs f h) (targets f h) s

-- what is known when everything is written: the words say what the rules do, and the limits
pub record Known (f : List ℕ) (h : Header) (homes codes slots : List ℕ) : Type 0 where
  pub home : home_in homes ≡ section_home f h
  pub row : record_in homes ≡ home_record f h
  pub target : target_in homes (undef_start f h) codes ≡ targets f h
  pub names : slots ≡ externs f h
  pub pages : mapped_pages f h ≤ MAX_PAGES
  pub few : length slots ≤ MAX_EXTERNS
