-- The routine of an address, asked of the tables that an accepted load leaves (02, N1): the answer in terms of the file's own records.
use Rattle.nearest.specs.declared.Routine.{Routine}
use Rattle.refusal.specs.declared.Refusal.{Refusal}
use Rattle.std.specs.Prelude.{◌≡◌, refl, Bool, List, ◌⊎◌, ℕ, zero, suc, ◌+◌, ◌-◌, ◌*◌, ◌/◌, ◌^◌, ◌≤◌, ◌<◌, leb, ltb, None, Option, Some, Result, Ok, Err}
use Rattle.std.proofs.Common.{sym, subst, ◌∙◌, eq-or-lt_of_le}
use Rattle.std.proofs.Math.Path.{ap}
use Rattle.std.proofs.Math.Bool.{true, false}
use Rattle.std.proofs.Math.Logic.{inl, inr, ⊎_elim}
use native.Mathlib.Omega.{arith}
use Rattle.std.proofs.Math.ListN.{length, get_or}
use borrow.Author.Tests.{leb-true, ltb-true, le-leb, lt-ltb}
use Rattle.util.specs.Pick.{pick_either, not_both, and_left, and_right, and_both}
use Rattle.util.specs.Prefix.{count_to, list_at, length_list, count_most, count_below}
use Rattle.limits.specs.Limits.{MAX_BASE}
use Rattle.limits.specs.Records.{SECTION_BYTES, SYMBOL_WORDS, SYMBOL_BYTES, ADDRESS, SYMBOL_NUMBER, SYMBOL_HOME}
use Rattle.le.specs.Le.{part, IsBytes, get_below}
use Rattle.arch.specs.Page.{PAGE_SIZE}
use Rattle.arch.specs.Address.{va, none_not_at}
use Rattle.arch.specs.declared.RVA.{RVA}
use Rattle.refusal.specs.declared.Refusal.TheVariants.{NoSection, NoRoutine}
use Rattle.object.specs.declared.Header.{Header}
use Rattle.object.specs.Format.{VALUE_AT, header_of, symbol_record_at, symbol_value}
use Rattle.object.specs.Section.{loaded, range_length}
use Rattle.object.specs.Symbol.{symbol_place, listed_value}
use Rattle.kinds.specs.Symbol.{listed_by}
use Rattle.kinds.specs.declared.Place.{Place}
use Rattle.kinds.specs.declared.Place.TheVariants as place
use Rattle.layout.specs.Layout.{record_of, table_records, undef_start}
use Rattle.layout.proofs.LayoutLaws.{undef_fits}
use Rattle.homes.specs.Home.{has_home, section_home, home_record, by_number}
use Rattle.homes.specs.HomeLaws.{section_most}
use Rattle.homes.specs.Listed.{of_place, place_home, listed, offset_from, listed_offset, listed_total}
use Rattle.words.specs.Words.{word_of}
use Rattle.words.specs.Picked.{Chosen, chosen, chosen_is, length_chosen}
use Rattle.symbol_table.specs.SymbolLaws.{SymbolAt, symbol_read, symbols_fill}
use Rattle.tables.specs.TableLaws.{sections_fill}
use Rattle.survey.specs.declared.answer.Counts.{Counts}
use Rattle.survey.specs.Survey.{survey_of}
use Rattle.survey.specs.SurveyLaws.{fits_is}
use Rattle.survey.specs.Surveying.{Fits}
use Rattle.survey.specs.Acceptance.{records_ordered, pages_few}
use Rattle.section.specs.declared.Section.{Section}
use Rattle.section.specs.Section.{holds, within}
use Rattle.symbols.specs.Symbol.{symbol_count}
use Rattle.module.specs.Questions.{section_at, blank, nth}
use Rattle.module.specs.Routine.{routine, table_sections}
use Rattle.module.specs.RoutineLaws.{Holder, Unheld, InRoutine, WithoutSymbol}
use Rattle.module.proofs.RoutineLaws.{found_is_routine, refused_is}
use Rattle.storage.specs.Storage.{Storage}
use Rattle.loading.specs.Load.{Loads}
use Rattle.load.specs.LoadLaws.{load_accepts, load_leaves}
use Rattle.demands.specs.Origin.{section_address, undef_address, in_section}
use Rattle.demands.specs.Counted.{sections_of, symbols_of}
use Rattle.demands.specs.Demand3.{base_low}
use Rattle.demands.specs.Mapped.{splice_self}
use Rattle.demands.specs.Reading.{range_read, undef_is_read}

-- ---- in the file's terms
-- symbol record j is listed
abbrev pub is_listed : List ℕ → ℕ → Bool
is_listed f j = listed f (header_of f) (section_home f (header_of f)) j

-- where it lies at a base: its home's start plus its value
abbrev pub listed_address : List ℕ → ℕ → ℕ → ℕ
listed_address f base j = base + listed_offset f (header_of f) (section_home f (header_of f)) j

-- its section's home, by its number in the section table
abbrev pub symbol_home : List ℕ → ℕ → ℕ
symbol_home f j = of_place (home_record f (header_of f)) 0 (symbol_place f (header_of f) j)

-- record r of the section table is loaded section i's, whose range holds the address
pub record InLoaded (f : List ℕ) (base x r : ℕ) : Type 0 where
  pub section : ℕ
  pub inside : section < (header_of f).sections
  pub own : record_of f (header_of f) section ≡ r
  pub range : in_section f base x section ≡ true

-- or it is UNDEF's, whose page does
pub record InUndef (f : List ℕ) (base x r : ℕ) : Type 0 where
  pub own : record_of f (header_of f) (header_of f).sections ≡ r
  pub from : undef_address f base ≤ x
  pub to : x < undef_address f base + PAGE_SIZE

-- record r holds the address
abbrev pub HeldBy : List ℕ → ℕ → ℕ → ℕ → Type 0
HeldBy f base x r = InLoaded f base x r ⊎ InUndef f base x r

-- ---- what an answer says of the file
-- a symbol: record `number` of the file, which is the list's k-th from 0; its home holds the address; none of that home lies nearer, or later at the same address
pub record RoutineInFile (f : List ℕ) (base : ℕ) (symbols : List ℕ) (x k d : ℕ) : Type 0 where
  pub number : ℕ
  pub inside : number < (header_of f).symbols
  pub is_listed_lem : is_listed f number ≡ true
  pub place : count_to (is_listed f) number ≡ k
  -- load's record k has its number, its home and its address
  pub number_read : word_of SYMBOL_WORDS symbols k SYMBOL_NUMBER ≡ number
  pub home_read : word_of SYMBOL_WORDS symbols k SYMBOL_HOME ≡ symbol_home f number
  pub address_read : word_of SYMBOL_WORDS symbols k ADDRESS ≡ listed_address f base number
  pub home_holds : HeldBy f base x (symbol_home f number)
  pub not_above : listed_address f base number ≤ x
  pub distance : d ≡ x - listed_address f base number
  pub most : (j : ℕ) → j < (header_of f).symbols → is_listed f j ≡ true → symbol_home f j ≡ symbol_home f number → listed_address f base j ≤ x → listed_address f base j ≤ listed_address f base number
  pub last : (j : ℕ) → number < j → j < (header_of f).symbols → is_listed f j ≡ true → symbol_home f j ≡ symbol_home f number → listed_address f base j ≡ listed_address f base number → ⊥

-- 21: a record holds the address, and no listed symbol with that home lies at it or below
pub record NoSymbolBelow (f : List ℕ) (base x : ℕ) : Type 0 where
  pub section : ℕ
  pub holder : HeldBy f base x section
  pub none : (j : ℕ) → j < (header_of f).symbols → is_listed f j ≡ true → symbol_home f j ≡ section → listed_address f base j ≤ x → ⊥

-- 19: no record holds it
abbrev pub NoHolder : List ℕ → ℕ → ℕ → Type 0
NoHolder f base x = (r : ℕ) → HeldBy f base x r → ⊥

-- of each answer; there is no other refusal
unfoldable pub FileSays : List ℕ → ℕ → List ℕ → ℕ → Result Routine Refusal → Type 0
FileSays f base symbols x (Ok a) = RoutineInFile f base symbols x a.symbol a.distance
FileSays f base symbols x (Err n) = ((n ≡ NoSection) × NoHolder f base x) ⊎ ((n ≡ NoRoutine) × NoSymbolBelow f base x)

-- ---- what the words of the symbol table have room for
offset_most : (w : Option RVA) (v m : ℕ) → ((o : RVA) → w ≡ Some o → o.0 ≤ m) → offset_from w v ≤ m + v
unfolding offset_from
offset_most (Some o) v m h = let q = h o refl in omega arith
offset_most None v m h = omega arith

module _ (f : List ℕ) (h : Header) where
  start_most : (p : Place) (o : RVA) → place_home (section_home f h) p ≡ Some o → o.0 ≤ undef_start f h
  unfolding of_place by_number
  start_most (place.In zero) o e = absurd (none_not_at o e)
  start_most (place.In (suc i)) o e = section_most f h i o e
  start_most place.Undefined o e = absurd (none_not_at o e)
  start_most place.Common o e = absurd (none_not_at o e)
  start_most place.Absolute o e = absurd (none_not_at o e)
  start_most place.Nowhere o e = absurd (none_not_at o e)
  start_most place.Other o e = absurd (none_not_at o e)

  record_most : (i : ℕ) → home_record f h i ≤ h.sections
  unfolding home_record
  record_most i =
      pick_either (λ (z : ℕ). z ≤ h.sections) (has_home f h i) (record_of f h i) 0
      (λ t.
      let a = count_most (loaded f h) i in
      let b = ltb-true i h.sections (and_left (ltb i h.sections) (loaded f h i) t) in
      omega arith)
      (omega arith)

  place_most : (p : Place) → of_place (home_record f h) 0 p ≤ h.sections
  unfolding of_place by_number
  place_most (place.In zero) = omega arith
  place_most (place.In (suc i)) = record_most i
  place_most place.Undefined = omega arith
  place_most place.Common = omega arith
  place_most place.Absolute = omega arith
  place_most place.Nowhere = omega arith
  place_most place.Other = omega arith

  value_fits : IsBytes f → (j : ℕ) → listed_value f h j < 2 ^ 32
  unfolding listed_by
  value_fits b j = let v : symbol_value f h j < 2 ^ 32 = get_below 4 f (symbol_record_at h j + VALUE_AT) b in pick_either (λ (z : ℕ). z < 2 ^ 32) _ (symbol_value f h j) 0 (λ _. v) (omega arith)

-- ---- the two tables of an accepted file, at an allowed base; each element of the file is a byte, as in every slice of bytes
module _ (f : List ℕ) (bytes : IsBytes f) (c : Counts) (accepted : survey_of f ≡ Ok c) (base : ℕ) (low : base ≤ MAX_BASE) where
  abbrev h : Header
  h = header_of f

  fits : Fits f h
  fits = fits_is f h refl (records_ordered f c accepted)

  -- record k of the symbol table is that of the k-th listed symbol
  pub record SymbolRead (k j : ℕ) : Type 0 where
    pub number : word_of SYMBOL_WORDS (symbols_of f base) k SYMBOL_NUMBER ≡ j
    pub home_is : word_of SYMBOL_WORDS (symbols_of f base) k SYMBOL_HOME ≡ symbol_home f j
    pub address : word_of SYMBOL_WORDS (symbols_of f base) k ADDRESS ≡ listed_address f base j

  read_symbol : (j : ℕ) → j < h.symbols → is_listed f j ≡ true → SymbolRead (count_to (is_listed f) j) j
  read_symbol j l t =
      let e = symbols_fill f h base (section_home f h) (home_record f h) in
      let w : SymbolAt (symbols_of f base) (count_to (is_listed f) j) f h base (section_home f h) (home_record f h) j =
      subst (λ (s : List ℕ). SymbolAt s (count_to (is_listed f) j) f h base (section_home f h) (home_record f h) j) (splice_self (symbols_of f base))
      (symbol_read f h base (section_home f h) (home_record f h) (symbols_of f base) j (omega arith) l t) in
      let few = fits.symbols in
      let some = fits.sections in
      let r = place_most f h (symbol_place f h j) in
      let v = value_fits f h bytes j in
      let u = undef_fits f h (pages_few f c accepted) in
      let o = offset_most (place_home (section_home f h) (symbol_place f h j)) (listed_value f h j) (undef_start f h) (start_most f h (symbol_place f h j)) in
      record {
        number = w.number ∙ omega arith;
        home_is = w.home_record ∙ omega arith;
        address = w.address ∙ omega arith;
      }

  symbols_count : symbol_count (symbols_of f base) ≡ listed_total f h (section_home f h)
  symbols_count = let e = symbols_fill f h base (section_home f h) (home_record f h) in omega arith

  which_symbol : (k : ℕ) → k < symbol_count (symbols_of f base) → Chosen (is_listed f) h.symbols k (get_or (chosen (is_listed f) h.symbols) k 0)
  which_symbol k l = chosen_is (is_listed f) h.symbols k 0 (rw (length_chosen (is_listed f) h.symbols) (rw symbols_count at l))

  -- ---- the section table: a record that holds the address, in the file's terms, there and back
  abbrev table : List Section
  table = table_sections (sections_of f base)

  sections_count : length (sections_of f base) / SECTION_BYTES ≡ table_records f h
  sections_count = let e = sections_fill f h base (section_home f h) (undef_start f h) in omega arith

  section_is : (r : ℕ) → r < table_records f h → nth table r ≡ section_at (sections_of f base) r
  section_is r l = list_at (section_at (sections_of f base)) blank (length (sections_of f base) / SECTION_BYTES) r (rw sections_count l)

  module _ (x : ℕ) where
    loaded_holds : (i : ℕ) → i < h.sections → loaded f h i ≡ true
        → holds (va x) (section_at (sections_of f base) (record_of f h i)) ≡ within (section_address f base i) (section_address f base i + range_length f h i) x
    loaded_holds i l t = let w = range_read f c accepted base low i l t in rw (w.start, w.end)

    undef_holds : holds (va x) (section_at (sections_of f base) (record_of f h h.sections)) ≡ within (undef_address f base) (undef_address f base + PAGE_SIZE) x
    undef_holds = let w = undef_is_read f c accepted base low in rw (w.start, w.end)

    loaded_case : (r : ℕ) → r < record_of f h h.sections → holds (va x) (section_at (sections_of f base) r) ≡ true → InLoaded f base x r
    unfolding in_section
    loaded_case r l t =
        let i = get_or (chosen (loaded f h) h.sections) r 0 in
        let o : Chosen (loaded f h) h.sections r i = chosen_is (loaded f h) h.sections r 0 (rw (length_chosen (loaded f h) h.sections) l) in
        let e : holds (va x) (section_at (sections_of f base) (record_of f h i)) ≡ true = ap (λ (z : ℕ). holds (va x) (section_at (sections_of f base) z)) o.place ∙ t in
        record {
          section = i;
          inside = o.below;
          own = o.place;
          range = and_both (loaded f h i) _ o.passes (sym (loaded_holds i o.below o.passes) ∙ e);
        }

    undef_case : (r : ℕ) → record_of f h h.sections ≡ r → holds (va x) (section_at (sections_of f base) r) ≡ true → InUndef f base x r
    undef_case r q t =
        let e : within (undef_address f base) (undef_address f base + PAGE_SIZE) x ≡ true =
        sym undef_holds ∙ ap (λ (z : ℕ). holds (va x) (section_at (sections_of f base) z)) q ∙ t in
        record {
          own = q;
          from = leb-true (undef_address f base) x (and_left (leb (undef_address f base) x) (ltb x (undef_address f base + PAGE_SIZE)) e);
          to = ltb-true x (undef_address f base + PAGE_SIZE) (and_right (leb (undef_address f base) x) (ltb x (undef_address f base + PAGE_SIZE)) e);
        }

    held_by : (r : ℕ) → Holder table (va x) r → HeldBy f base x r
    held_by r o =
        let l : r < table_records f h = rw (length_list (section_at (sections_of f base)) (length (sections_of f base) / SECTION_BYTES), sections_count) at o.below in
        let t : holds (va x) (section_at (sections_of f base) r) ≡ true = ap (holds (va x)) (sym (section_is r l)) ∙ o.inside in
        ⊎_elim (λ q. inr (undef_case r (sym q) t)) (λ q. inl (loaded_case r q t)) (eq-or-lt_of_le {n = r} {m = record_of f h h.sections} (omega arith))

    none_held : Unheld table (va x) → NoHolder f base x
    unfolding in_section
    none_held o r =
        let long : length table ≡ table_records f h = length_list (section_at (sections_of f base)) (length (sections_of f base) / SECTION_BYTES) ∙ sections_count in
        let miss : (m : ℕ) → m < table_records f h → holds (va x) (section_at (sections_of f base) m) ≡ false = λ m l. ap (holds (va x)) (sym (section_is m l)) ∙ o m (rw long l) in
        ⊎_elim
        (λ a.
        let t : loaded f h a.section ≡ true = and_left (loaded f h a.section) _ a.range in
        let n = count_below (loaded f h) h.sections a.section a.inside t in
        not_both _ (loaded_holds a.section a.inside t ∙ and_right (loaded f h a.section) _ a.range) (miss (record_of f h a.section) (omega arith)))
        (λ a.
        not_both _ (undef_holds ∙ and_both (leb (undef_address f base) x) (ltb x (undef_address f base + PAGE_SIZE)) (le-leb _ _ a.from) (lt-ltb _ _ a.to)) (miss (record_of f h h.sections) (omega arith)))

    -- ---- the answer
    found_in_file : (k d : ℕ) → InRoutine table (symbols_of f base) (va x) k d → RoutineInFile f base (symbols_of f base) x k d
    found_in_file k d r =
        let i = r.nearest_one in
        let j = get_or (chosen (is_listed f) h.symbols) k 0 in
        let o : Chosen (is_listed f) h.symbols k j = which_symbol k i.listed in
        let w : SymbolRead k j = subst (λ (z : ℕ). SymbolRead z j) o.place (read_symbol j o.below o.passes) in
        let own : symbol_home f j ≡ r.section = sym w.home_is ∙ i.own in
        record {
          number = j;
          inside = o.below;
          is_listed_lem = o.passes;
          place = o.place;
          number_read = w.number;
          home_read = w.home_is;
          address_read = w.address;
          home_holds = subst (λ (z : ℕ). HeldBy f base x z) (sym own) (held_by r.section r.holder);
          not_above = rw w.address at i.not_above;
          distance = rw w.address at i.distance;
          most = λ m l t q a.
              let v = read_symbol m l t in
              rw (v.address, w.address) at (i.most (count_to (is_listed f) m) (rw symbols_count (count_below (is_listed f) h.symbols m l t)) (v.home_is ∙ q ∙ own) (rw v.address a));
          last = λ m b l t q e.
              let v = read_symbol m l t in
              i.last (count_to (is_listed f) m) (rw o.place at (count_below (is_listed f) m j b o.passes)) (rw symbols_count (count_below (is_listed f) h.symbols m l t)) (v.home_is ∙ q ∙ own) (v.address ∙ e ∙ sym w.address);
        }

    none_in_file : WithoutSymbol table (symbols_of f base) (va x) → NoSymbolBelow f base x
    none_in_file w =
        record {
          section = w.section;
          holder = held_by w.section w.holder;
          none = λ m l t q a.
              let v = read_symbol m l t in
              w.none (count_to (is_listed f) m) (rw symbols_count (count_below (is_listed f) h.symbols m l t)) (v.home_is ∙ q) (rw v.address a);
        }

    by_answer : (a : Result Routine Refusal) → routine table (symbols_of f base) (va x) ≡ a → FileSays f base (symbols_of f base) x a
    unfolding FileSays
    by_answer (Ok a) e = found_in_file a.symbol a.distance (found_is_routine table (symbols_of f base) (va x) a.symbol a.distance e)
    by_answer (Err n) e =
        ⊎_elim (λ r. inl (r.0, none_held r.1)) (λ r. inr (r.0, none_in_file r.1)) (refused_is table (symbols_of f base) (va x) n e)

    -- every answer is what the file says
    pub traced : FileSays f base (symbols_of f base) x (routine table (symbols_of f base) (va x))
    traced = by_answer (routine table (symbols_of f base) (va x)) refl

-- ---- of the tables that a load left in its storage: the counted parts, as the host gives them to `nelgrauf_routine`
abbrev pub asked_after : Storage → Counts → ℕ → Result Routine Refusal
asked_after s c x = routine (table_sections (part s.sections 0 (SECTION_BYTES * c.sections))) (part s.symbols 0 (SYMBOL_BYTES * c.symbols)) (va x)

pub load_traced : (f : List ℕ) → IsBytes f → (base : ℕ) (s s' : Storage) (c : Counts) → Loads f base s s' (Ok c) → (x : ℕ)
    → FileSays f base (part s'.symbols 0 (SYMBOL_BYTES * c.symbols)) x (asked_after s' c x)
load_traced f bytes base s s' c loads x =
    let a = load_accepts f base s s' c loads in
    let l = load_leaves f base s s' c loads in
    rw (l.sections.counted, l.symbols.counted) (traced f bytes c a.accepted base (base_low base a.allowed) x)
