-- The lines in the rules' own words, and where each stands: of a loaded section, a listed symbol, an extern name, a fixup, a skip. For every file whose lines are printed.
use Rattle.names.specs.declared.Name.{Name}
use Rattle.std.specs.Prelude.{◌≡◌, refl, true, List, [], ◌∷◌, ◌++◌, ℕ, suc, ◌+◌, ◌%◌, ◌^◌, ◌<◌, length, get_or, drop, Option, None}
use Rattle.std.proofs.Common.{sym, ◌∙◌, append-nil, arith, get_or-append-add}
use Rattle.std.proofs.Math.Path.{ap}
use Rattle.std.proofs.Math.Bool.{false}
use borrow.Author.Tests.{ne_eqb}
use Rattle.std.proofs.Math.Dec.{eqb}
use Rattle.util.specs.Pick.{pick}
use Rattle.util.specs.Prefix.{count_to, list_to, length_list, count_below}
use Rattle.le.specs.Le.{splice, part, splice_front}
use Rattle.kinds.specs.declared.SymbolKind.{SymbolKind}
use Rattle.kinds.specs.declared.SymbolKind.TheVariants.{Unknown, Text, Data, Section, File, Label}
use Rattle.kinds.specs.Symbol.{kind_number, kind_is}
use Rattle.object.specs.declared.Header.{Header}
use Rattle.object.specs.Format.{header_of}
use Rattle.object.specs.Section.{loaded, relocation_count, file_start, file_end, range_length, permissions}
use Rattle.object.specs.Symbol.{kind}
use Rattle.names.specs.Name.{section_name, symbol_name, name_start, name_length}
use Rattle.layout.specs.Layout.{start_at, record_of, undef_start}
use Rattle.homes.specs.Home.{section_home, home_record}
use Rattle.homes.specs.HomeLaws.{loaded_start}
use Rattle.homes.specs.Listed.{listed, listed_offset}
use Rattle.externs.specs.Externs.{externs}
use Rattle.words.specs.Words.{word_of}
use Rattle.tables.specs.Sections.{section_words}
use Rattle.tables.specs.Externs.{extern_words}
use Rattle.tables.specs.TableLaws.{length_sections, section_record, length_externs, extern_back}
use Rattle.symbol_table.specs.Symbols.{symbol_words}
use Rattle.symbol_table.specs.SymbolLaws.{length_symbols, symbol_record_lem}
use Rattle.limits.specs.Records.{SECTION_WORDS, SYMBOL_WORDS, EXTERN_WORDS, FIXUP_WORDS, SKIP_WORDS}
use Rattle.targets.specs.Target.{skip_number}
use Rattle.fixups.specs.Lists.{SkipAt, skip_list}
use Rattle.lists.specs.Relocations.{fix_words, skip_words}
use Rattle.lists.specs.RelocationLaws.{length_fixes, fix_back, skip_row, length_skips, skip_back}
use Rattle.survey.specs.declared.answer.Counts.{Counts}
use Rattle.survey.specs.Survey.{counts_by, outcomes}
use Rattle.survey.specs.Acceptance.{counts_are, fixups_listed, skips_listed}
use Rattle.demands.specs.Counted.{sections_of, symbols_of, externs_of, fix_table_of}
use Rattle.demands.specs.Origin.{fixups_of, no_fixup, fixup_at, fixup_place, fixup_value, slot_value}
use Rattle.lines.specs.Lines.{section_line, symbol_line, extern_line, fix_line, skip_line, skipped_line}
use Rattle.listing.specs.Listing.{section_title, section_line_at, symbol_line_at, extern_line_at, fix_line_at, skip_line_at, from_symbols, from_externs, from_fixups, from_skips}
use Rattle.listing.specs.ListingLaws.{at_row}
use Rattle.verdict.specs.declared.answer.Verdict.TheVariants.{Lines}
use Rattle.verdict.specs.Verdict.{verdict_of}
use Rattle.program.specs.Output.{PROGRAM_BASE, skip_table_of, line_of}
use Rattle.program.specs.Within.{Within, within}

-- a word of a record has 64 bits
abbrev pub low : ℕ → ℕ
low n = n % 2 ^ 64

-- a name is the part of the file that its two words say
abbrev pub name_at : List ℕ → Option Name → List ℕ
name_at f name = part f (low (name_start name)) (low (name_length name))

-- ---- where a row stands
behind : (g : ℕ → List ℕ) (n k : ℕ) (rest : List (List ℕ)) → get_or (list_to g n ++ rest) (n + k) [] ≡ get_or rest k []
behind g n k rest = ap (λ (m : ℕ). get_or (list_to g n ++ rest) (m + k) []) (sym (length_list g n)) ∙ get_or-append-add (list_to g n) rest k []

drop_all : (l : List ℕ) → drop (length l) l ≡ []
drop_all [] = refl
drop_all (x ∷ l) = drop_all l

splice_self : (l : List ℕ) → splice l 0 l ≡ l
splice_self l = splice_front l l (omega arith) ∙ ap (λ (t : List ℕ). l ++ t) (drop_all l) ∙ append-nil l

kind_low : (k : SymbolKind) → low (kind_number k) ≡ kind_number k
kind_low Unknown = refl
kind_low Text = refl
kind_low Data = refl
kind_low Section = refl
kind_low File = refl
kind_low Label = refl

module _ (f : List ℕ) (c : Counts) (is : verdict_of f ≡ Lines c) where
  abbrev h : Header
  h = header_of f

  few : Within f c
  few = within f c is

  sections_are : c.sections ≡ count_to (loaded f h) h.sections + 1
  unfolding counts_by
  sections_are = ap (λ (k : Counts). k.sections) (sym (counts_are f c few.accepted))

  symbols_are : c.symbols ≡ count_to (listed f h (section_home f h)) h.symbols
  unfolding counts_by
  symbols_are = ap (λ (k : Counts). k.symbols) (sym (counts_are f c few.accepted))

  externs_are : c.externs ≡ length (externs f h)
  unfolding counts_by
  externs_are = ap (λ (k : Counts). k.externs) (sym (counts_are f c few.accepted))

  file_sections : c.file_sections ≡ h.sections
  unfolding counts_by
  file_sections = ap (λ (k : Counts). k.file_sections) (sym (counts_are f c few.accepted))

  -- ---- a loaded section, by its place among the loaded ones
  section_at_lem : (k : ℕ) → k < c.sections → line_of f (suc k) ≡ section_line_at f (sections_of f PROGRAM_BASE) k
  unfolding line_of
  section_at_lem k q = rw is (at_row (section_line_at f (sections_of f PROGRAM_BASE)) (from_symbols f c (symbols_of f PROGRAM_BASE) (externs_of f PROGRAM_BASE) (fix_table_of f PROGRAM_BASE) (skip_table_of f)) c.sections k q)

  section_word : (i : ℕ) → i < h.sections → loaded f h i ≡ true → (w : ℕ) → w < SECTION_WORDS
      → word_of SECTION_WORDS (sections_of f PROGRAM_BASE) (record_of f h i) w ≡ low (get_or (section_words f h PROGRAM_BASE (section_home f h) i) w 0)
  section_word i n t w q =
      rw (splice_self (sections_of f PROGRAM_BASE)) at
      (section_record f h PROGRAM_BASE (section_home f h) (undef_start f h) (sections_of f PROGRAM_BASE)
      (let z = length_sections f h PROGRAM_BASE (section_home f h) (undef_start f h) in omega arith) w q i n t)

  pub section_said : (i : ℕ) → i < h.sections → loaded f h i ≡ true
      → line_of f (suc (record_of f h i))
      ≡ section_line (low (PROGRAM_BASE + start_at f h i)) (low (PROGRAM_BASE + start_at f h i + range_length f h i)) (low (file_start f h i)) (low (file_end f h i)) (low (permissions f h i)) (name_at f (section_name f h i))
  unfolding section_line_at section_title section_words pick
  section_said i n t =
      let w = section_word i n t in
      let a = count_below (loaded f h) h.sections i n t in
      let b = sections_are in
      let d = few.file_sections in
      let y = file_sections in
      let z : eqb (low (i + 1)) 0 ≡ false = ne_eqb (low (i + 1)) 0 (λ e. omega arith) in
      section_at_lem (record_of f h i) (omega arith)
      ∙ rw (w 0 (omega arith), w 1 (omega arith), w 2 (omega arith), w 3 (omega arith), w 4 (omega arith), w 5 (omega arith), w 6 (omega arith), w 7 (omega arith), z, loaded_start f h i n t)

  -- ---- a listed symbol, behind the sections, by its place among the listed ones
  symbol_at : (k : ℕ) → k < c.symbols → line_of f (suc (c.sections + k)) ≡ symbol_line_at f (symbols_of f PROGRAM_BASE) k
  unfolding line_of
  symbol_at k q =
      rw is
      (behind (section_line_at f (sections_of f PROGRAM_BASE)) c.sections k (from_symbols f c (symbols_of f PROGRAM_BASE) (externs_of f PROGRAM_BASE) (fix_table_of f PROGRAM_BASE) (skip_table_of f))
      ∙ at_row (symbol_line_at f (symbols_of f PROGRAM_BASE)) (from_externs f c (externs_of f PROGRAM_BASE) (fix_table_of f PROGRAM_BASE) (skip_table_of f)) c.symbols k q)

  symbol_word : (j : ℕ) → j < h.symbols → listed f h (section_home f h) j ≡ true → (w : ℕ) → w < SYMBOL_WORDS
      → word_of SYMBOL_WORDS (symbols_of f PROGRAM_BASE) (count_to (listed f h (section_home f h)) j) w ≡ low (get_or (symbol_words f h PROGRAM_BASE (section_home f h) (home_record f h) j) w 0)
  symbol_word j n t w q =
      rw (splice_self (symbols_of f PROGRAM_BASE)) at
      (symbol_record_lem f h PROGRAM_BASE (section_home f h) (home_record f h) (symbols_of f PROGRAM_BASE)
      (let z = length_symbols f h PROGRAM_BASE (section_home f h) (home_record f h) in omega arith) w q j n t)

  pub symbol_said : (j : ℕ) → j < h.symbols → listed f h (section_home f h) j ≡ true
      → line_of f (suc (c.sections + count_to (listed f h (section_home f h)) j))
      ≡ symbol_line (low (PROGRAM_BASE + listed_offset f h (section_home f h) j)) (kind f h j) (name_at f (symbol_name f h j))
  unfolding symbol_line_at symbol_words
  symbol_said j n t =
      let w = symbol_word j n t in
      let a = count_below (listed f h (section_home f h)) h.symbols j n t in
      let b = symbols_are in
      symbol_at (count_to (listed f h (section_home f h)) j) (omega arith)
      ∙ rw (w 0 (omega arith), w 1 (omega arith), w 2 (omega arith), w 3 (omega arith), kind_low (kind f h j), kind_is (kind f h j))

  -- ---- an extern name, behind the symbols
  extern_at : (e : ℕ) → e < c.externs → line_of f (suc (c.sections + (c.symbols + e))) ≡ extern_line_at f (externs_of f PROGRAM_BASE) e
  unfolding line_of
  extern_at e q =
      rw is
      (behind (section_line_at f (sections_of f PROGRAM_BASE)) c.sections (c.symbols + e) (from_symbols f c (symbols_of f PROGRAM_BASE) (externs_of f PROGRAM_BASE) (fix_table_of f PROGRAM_BASE) (skip_table_of f))
      ∙ behind (symbol_line_at f (symbols_of f PROGRAM_BASE)) c.symbols e (from_externs f c (externs_of f PROGRAM_BASE) (fix_table_of f PROGRAM_BASE) (skip_table_of f))
      ∙ at_row (extern_line_at f (externs_of f PROGRAM_BASE)) (from_fixups c (fix_table_of f PROGRAM_BASE) (skip_table_of f)) c.externs e q)

  extern_word : (e : ℕ) → e < length (externs f h) → (w : ℕ) → w < EXTERN_WORDS → word_of EXTERN_WORDS (externs_of f PROGRAM_BASE) e w ≡ low (get_or (extern_words f h PROGRAM_BASE (undef_start f h) (externs f h) e) w 0)
  extern_word e n w q =
      rw (splice_self (externs_of f PROGRAM_BASE)) at
      (extern_back f h PROGRAM_BASE (undef_start f h) (externs f h) (length (externs f h)) e w (externs_of f PROGRAM_BASE)
      (let z = length_externs f h PROGRAM_BASE (undef_start f h) (externs f h) (length (externs f h)) in omega arith) n q)

  pub extern_said : (e : ℕ) → e < length (externs f h)
      → line_of f (suc (c.sections + (c.symbols + e))) ≡ extern_line (low (slot_value f PROGRAM_BASE e)) (name_at f (symbol_name f h (get_or (externs f h) e 0)))
  unfolding extern_line_at extern_words
  extern_said e n =
      let w = extern_word e n in
      let a = externs_are in
      extern_at e (omega arith) ∙ rw (w 0 (omega arith), w 2 (omega arith), w 3 (omega arith))

  -- ---- a fixup, behind the extern names
  fix_at_lem : (k : ℕ) → k < c.fixups → line_of f (suc (c.sections + (c.symbols + (c.externs + k)))) ≡ fix_line_at (fix_table_of f PROGRAM_BASE) k
  unfolding line_of
  fix_at_lem k q =
      rw is
      (behind (section_line_at f (sections_of f PROGRAM_BASE)) c.sections (c.symbols + (c.externs + k)) (from_symbols f c (symbols_of f PROGRAM_BASE) (externs_of f PROGRAM_BASE) (fix_table_of f PROGRAM_BASE) (skip_table_of f))
      ∙ behind (symbol_line_at f (symbols_of f PROGRAM_BASE)) c.symbols (c.externs + k) (from_externs f c (externs_of f PROGRAM_BASE) (fix_table_of f PROGRAM_BASE) (skip_table_of f))
      ∙ behind (extern_line_at f (externs_of f PROGRAM_BASE)) c.externs k (from_fixups c (fix_table_of f PROGRAM_BASE) (skip_table_of f))
      ∙ at_row (fix_line_at (fix_table_of f PROGRAM_BASE)) (from_skips c (skip_table_of f)) c.fixups k q)

  fix_word : (k : ℕ) → k < length (fixups_of f) → (w : ℕ) → w < FIXUP_WORDS → word_of FIXUP_WORDS (fix_table_of f PROGRAM_BASE) k w ≡ low (get_or (fix_words PROGRAM_BASE (fixup_at f k)) w 0)
  fix_word k n w q =
      let l = length_fixes PROGRAM_BASE (outcomes f h) (relocation_count f h) h.sections in
      let t = fix_back PROGRAM_BASE (outcomes f h) (relocation_count f h) h.sections k (fix_table_of f PROGRAM_BASE) no_fixup (omega arith) n w q in
      rw (splice_self (fix_table_of f PROGRAM_BASE)) at t

  pub fix_said : (k : ℕ) → k < length (fixups_of f)
      → line_of f (suc (c.sections + (c.symbols + (c.externs + k)))) ≡ fix_line (low (fixup_place f PROGRAM_BASE k)) (low (fixup_at f k).bits) (low (fixup_value f PROGRAM_BASE k))
  unfolding fix_line_at fix_words
  fix_said k n =
      let w = fix_word k n in
      let a = fixups_listed f c few.accepted in
      fix_at_lem k (omega arith) ∙ rw (w 0 (omega arith), w 1 (omega arith), w 2 (omega arith))

  -- ---- a skip, behind the fixups
  skip_at : (k : ℕ) → k < c.skips → line_of f (suc (c.sections + (c.symbols + (c.externs + (c.fixups + k))))) ≡ skip_line_at (skip_table_of f) k
  unfolding line_of
  skip_at k q =
      rw is
      (behind (section_line_at f (sections_of f PROGRAM_BASE)) c.sections (c.symbols + (c.externs + (c.fixups + k))) (from_symbols f c (symbols_of f PROGRAM_BASE) (externs_of f PROGRAM_BASE) (fix_table_of f PROGRAM_BASE) (skip_table_of f))
      ∙ behind (symbol_line_at f (symbols_of f PROGRAM_BASE)) c.symbols (c.externs + (c.fixups + k)) (from_externs f c (externs_of f PROGRAM_BASE) (fix_table_of f PROGRAM_BASE) (skip_table_of f))
      ∙ behind (extern_line_at f (externs_of f PROGRAM_BASE)) c.externs (c.fixups + k) (from_fixups c (fix_table_of f PROGRAM_BASE) (skip_table_of f))
      ∙ behind (fix_line_at (fix_table_of f PROGRAM_BASE)) c.fixups k (from_skips c (skip_table_of f))
      ∙ at_row (skip_line_at (skip_table_of f)) (skipped_line c.skips c.passed ∷ []) c.skips k q)

  abbrev skips : List SkipAt
  skips = skip_list (outcomes f h) (relocation_count f h) h.sections

  skip_word : (k : ℕ) (d : SkipAt) → k < length skips → (w : ℕ) → w < SKIP_WORDS → word_of SKIP_WORDS (skip_table_of f) k w ≡ low (get_or (skip_row (get_or skips k d)) w 0)
  skip_word k d n w q =
      let l = length_skips (outcomes f h) (relocation_count f h) h.sections in
      let t = skip_back (outcomes f h) (relocation_count f h) h.sections k (skip_table_of f) d (omega arith) n w q in
      rw (splice_self (skip_table_of f)) at t

  pub skip_said : (k : ℕ) (d : SkipAt) → k < length skips
      → line_of f (suc (c.sections + (c.symbols + (c.externs + (c.fixups + k)))))
      ≡ skip_line (low (get_or skips k d).section) (low (get_or skips k d).index) (low (skip_number (get_or skips k d).reason))
  unfolding skip_line_at skip_row skip_words
  skip_said k d n =
      let w = skip_word k d n in
      let a = skips_listed f c few.accepted in
      skip_at k (omega arith) ∙ rw (w 0 (omega arith), w 1 (omega arith), w 2 (omega arith))
