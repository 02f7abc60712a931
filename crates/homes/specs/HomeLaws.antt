-- What a home is, for every file and every header (02, N3), and that the words which are kept of homes say so.
use Rattle.std.specs.Prelude.{◌≡◌, Bool, List, ℕ, ◌+◌, ◌≤◌, ◌<◌, ltb, None, Option, Some}
use Rattle.std.proofs.Math.Path.{refl, sym, fun_ext}
use Rattle.std.proofs.Math.Bool.{true, false, and-false}
use Rattle.std.proofs.Math.Logic.{⊎_elim}
use native.Mathlib.Omega.{arith}
use borrow.Author.Tests.{ltb-true, ne_eqb, lt-ltb, le-ltb}
use Rattle.util.specs.Pick.{pick, yes_no, and_left, and_right, le_or_lt, three_ways}
use Rattle.util.specs.Prefix.{list_at, list_past, count_below}
use Rattle.limits.specs.Limits.{MAX_PAGES}
use Rattle.arch.specs.declared.RVA.{RVA}
use Rattle.arch.specs.Address.{rva, at_same, none_not_at}
use Rattle.object.specs.declared.Header.{Header}
use Rattle.object.specs.Section.{loaded, range_length}
use Rattle.layout.specs.Layout.{start_at, undef_start, mapped_pages, record_of}
use Rattle.layout.proofs.LayoutLaws.{starts_in_order, starts_on_pages, starts_fit, ranges_share_none}
use Rattle.ranks.specs.Named.{TableRecord, Loaded, Undef, Nowhere, first_in}
use Rattle.ranks.specs.FirstLaws.{found_at}
use Rattle.homes.specs.Home.{has_home, section_home, home_record, record_start, start_of, kept_word, home_word, word_start, word_home, word_record, homes_to, home_in, record_in}

-- ---- what a home is
-- section i is in the file and loaded, and o is where its own range starts
pub record OwnHome (f : List ℕ) (h : Header) (i : ℕ) (o : RVA) : Type 0 where
  pub inside : i < h.sections
  pub loads : loaded f h i ≡ true
  pub start : o.0 ≡ start_at f h i

-- the homes of sections i and j are two: neither their records nor any address of their ranges are the same
pub record TwoHomes (f : List ℕ) (h : Header) (i j : ℕ) : Type 0 where
  pub records : home_record f h i ≡ home_record f h j → ⊥
  pub ranges : (a : ℕ) → start_at f h i ≤ a → a < start_at f h i + range_length f h i → start_at f h j ≤ a → a < start_at f h j + range_length f h j → ⊥

module _ (f : List ℕ) (h : Header) where
  module _ (i : ℕ) (inside : i < h.sections) (loads : loaded f h i ≡ true) where
    -- a loaded section's home starts where its own range does
    pub loaded_home : section_home f h i ≡ Some (rva (start_at f h i))
    unfolding section_home pick
    loaded_home = rw (lt-ltb i h.sections inside, loads)

    -- and is its own record of the table
    pub loaded_record : home_record f h i ≡ record_of f h i
    unfolding home_record pick
    loaded_record = rw (lt-ltb i h.sections inside, loads)

    pub loaded_start : start_of (section_home f h i) ≡ start_at f h i
    unfolding start_of
    loaded_start = rw loaded_home

  -- an unloaded section has none
  pub unloaded_none : (i : ℕ) → loaded f h i ≡ false → section_home f h i ≡ None
  unfolding section_home pick
  unloaded_none i t = rw (t, and-false (ltb i h.sections))

  -- nor does what stands past the sections
  pub past_none : (i : ℕ) → h.sections ≤ i → section_home f h i ≡ None
  unfolding section_home pick
  past_none i q = rw (le-ltb i h.sections q)

  own_case : (i : ℕ) (o : RVA) (b : Bool) → has_home f h i ≡ b → pick b (Some (rva (start_at f h i))) None ≡ Some o → OwnHome f h i o
  unfolding pick
  own_case i o true t e =
      record {
        inside = ltb-true i h.sections (and_left (ltb i h.sections) (loaded f h i) t);
        loads = and_right (ltb i h.sections) (loaded f h i) t;
        start = sym (at_same (rva (start_at f h i)) o e);
      }
  own_case i o false t e = absurd (none_not_at o e)

  -- a section that has a home is loaded, and starts where its home does
  pub home_own : (i : ℕ) (o : RVA) → section_home f h i ≡ Some o → OwnHome f h i o
  unfolding section_home
  home_own i o e = own_case i o (has_home f h i) refl e

  -- UNDEF is nobody's home: its record stands behind those of all homes
  pub home_not_undef : (i : ℕ) (o : RVA) → section_home f h i ≡ Some o → home_record f h i < record_of f h h.sections
  home_not_undef i o e =
      let w = home_own i o e in
      rw (loaded_record i w.inside w.loads) (count_below (loaded f h) h.sections i w.inside w.loads)

  -- two loaded sections have two homes: uninitialised ones too, and those of the same bytes of the file
  pub two_homes : (i j : ℕ) → (i ≡ j → ⊥) → i < h.sections → j < h.sections → loaded f h i ≡ true → loaded f h j ≡ true → TwoHomes f h i j
  two_homes i j other p q t u =
      record {
        records = λ e.
            let z : record_of f h i ≡ record_of f h j = rw (loaded_record i p t, loaded_record j q u) at e in
            ⊎_elim (λ lt. let a = count_below (loaded f h) j i lt t in omega arith)
            (⊎_elim other (λ gt. let a = count_below (loaded f h) i j gt u in omega arith))
            (three_ways i j);
        ranges = λ a li ri lj rj. other (ranges_share_none f h i j a t u li ri lj rj);
      }

-- ---- where records start
module _ (f : List ℕ) (h : Header) where
  module _ (p : ℕ → Bool) (u : Bool) where
    start_case : (x : TableRecord) (o : RVA) → first_in p u 0 h.sections ≡ x → record_start f h x ≡ Some o → o.0 ≤ undef_start f h
    unfolding record_start
    start_case (Loaded k) o e q =
        let r = found_at p u h.sections k e in
        let a : start_at f h k ≤ undef_start f h = starts_in_order f h k h.sections (omega (arith, r.inside)) in
        let z = at_same (rva (start_at f h k)) o q in
        omega arith
    start_case Undef o e q = let z = at_same (rva (undef_start f h)) o q in omega arith
    start_case Nowhere o e q = absurd (none_not_at o q)

    -- no record that is searched for starts behind UNDEF
    pub start_most : (o : RVA) → record_start f h (first_in p u 0 h.sections) ≡ Some o → o.0 ≤ undef_start f h
    start_most o q = start_case (first_in p u 0 h.sections) o refl q

  -- nor does a section's home
  pub section_most : (i : ℕ) (o : RVA) → section_home f h i ≡ Some o → o.0 ≤ undef_start f h
  section_most i o e =
      let w = home_own f h i o e in
      let k = w.inside in
      let s = w.start in
      let a = starts_in_order f h i h.sections (omega arith) in
      omega arith

-- ---- what is kept
-- the start that a word keeps is that of its home
pub word_start_lem : (w : ℕ) → word_start w ≡ start_of (word_home w)
unfolding word_home start_of pick
word_start_lem w = ⊎_elim (λ e. let z : w ≡ 0 = omega arith in rw z) (λ n. rw (ne_eqb w 0 (λ z. omega arith))) (le_or_lt w 0)

module _ (f : List ℕ) (h : Header) where
  kept_unloaded : (i : ℕ) → loaded f h i ≡ false → home_word f h i ≡ 0
  unfolding home_word pick
  kept_unloaded i t = rw t

  kept_loaded : (i : ℕ) → loaded f h i ≡ true → home_word f h i ≡ kept_word (record_of f h i) (start_at f h i)
  unfolding home_word pick
  kept_loaded i t = rw t

  -- the words say of every section which record its home is
  record_in_lem : (i : ℕ) → i < h.sections → word_record (home_word f h i) ≡ home_record f h i
  unfolding home_record kept_word pick
  record_in_lem i q =
      ⊎_elim (λ t. rw (kept_loaded i t, lt-ltb i h.sections q, t) (omega arith))
      (λ t. rw (kept_unloaded i t, lt-ltb i h.sections q, t))
      (yes_no (loaded f h i))

  record_past : (i : ℕ) → h.sections ≤ i → 0 ≡ home_record f h i
  unfolding home_record pick
  record_past i q = rw (le-ltb i h.sections q)

  pub records_kept : record_in (homes_to f h h.sections) ≡ home_record f h
  records_kept =
      fun_ext (λ i. ⊎_elim
      (λ q. rw (list_past (home_word f h) 0 h.sections i q) (record_past i q))
      (λ q. rw (list_at (home_word f h) 0 h.sections i q) (record_in_lem i q))
      (le_or_lt h.sections i))

  -- and where it starts, where refusal 8 does not apply
  module _ (room : mapped_pages f h ≤ MAX_PAGES) where
    start_back : (i : ℕ) → i < h.sections → word_start (kept_word (record_of f h i) (start_at f h i)) ≡ start_at f h i
    unfolding kept_word
    start_back i q =
        let a = starts_on_pages f h i in
        let b = starts_fit f h room i (omega arith) in
        omega arith

    home_in_lem : (i : ℕ) → i < h.sections → word_home (home_word f h i) ≡ section_home f h i
    unfolding word_home kept_word pick
    home_in_lem i q =
        ⊎_elim (λ t.
        let e = start_back i q in
        rw (kept_loaded i t, loaded_home f h i q t, ne_eqb (kept_word (record_of f h i) (start_at f h i)) 0 (λ z. omega arith), e))
        (λ t. rw (kept_unloaded i t, unloaded_none f h i t))
        (yes_no (loaded f h i))

    home_past : (i : ℕ) → h.sections ≤ i → word_home 0 ≡ section_home f h i
    unfolding word_home pick
    home_past i q = rw (past_none f h i q)

    pub homes_kept : home_in (homes_to f h h.sections) ≡ section_home f h
    homes_kept =
        fun_ext (λ i. ⊎_elim
        (λ q. rw (list_past (home_word f h) 0 h.sections i q) (home_past i q))
        (λ q. rw (list_at (home_word f h) 0 h.sections i q) (home_in_lem i q))
        (le_or_lt h.sections i))
