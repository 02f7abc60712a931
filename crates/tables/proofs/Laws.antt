-- The loops of the tables. Assumes nothing.
use Rattle.names.specs.declared.Name.{Name}
use Rattle.std.specs.Prelude.{Option, None}
use Rattle.std.proofs.Common.{◌≡◌, ℕ, ◌+◌, ◌*◌, ◌%◌, ◌^◌, ◌≤◌, Bool, true, false, List, [], ◌∷◌, ◌++◌, length, get_or, sym, refl, ap, ◌∙◌, add-one, arith}
use Rattle.limits.specs.Limits.{SLOT_SIZE}
use Rattle.limits.specs.Records.{SECTION_BYTES, EXTERN_BYTES}
use Rattle.arch.specs.Page.{PAGE_SIZE}
use Rattle.arch.specs.declared.RVA.{RVA}
use Rattle.arch.specs.Address.{rva}
use Rattle.homes.specs.Home.{start_of}
use Rattle.le.specs.Le.{splice, splice_long}
use Rattle.object.specs.declared.Header.{Header}
use Rattle.object.specs.Section.{loaded, range_length, file_start, file_end, permissions}
use Rattle.names.specs.Name.{section_name, symbol_name, name_start, name_length}
use Rattle.stops.specs.Stops.{stops_of}
use Rattle.stops.specs.Names.{symbol_name_by, section_name_by}
use Rattle.stops.specs.NameLaws.{symbol_name_is, section_name_is}
use Rattle.words.specs.Words.{word_bytes, word_low, word_next}
use Rattle.words.specs.Picked.{picked, Standing, picked_none, picked_more, picked_same, joined, standing_behind, standing_long}
use Rattle.tables.specs.Sections.{READ, section_words, undef_words, section_table}
use Rattle.tables.specs.Externs.{extern_words, extern_table}
use Rattle.tables.specs.TableLaws.{length_externs}

-- ---- sections
-- a section's record from what was read of it
two_low : (a b : ℕ) (ws : List ℕ) (x y : ℕ) → x ≡ a % 2 ^ 64 → y ≡ (x + b) % 2 ^ 64 → word_bytes (x ∷ y ∷ ws) ≡ word_bytes (a ∷ (a + b) ∷ ws)
two_low a b ws x y p q =
    let e : y ≡ (a + b) % 2 ^ 64 = omega arith in
    rw (p, e) (word_low a _ ∙ word_next a (a + b) ws)

pub section_put : (f : List ℕ) (h : Header) (base : ℕ) (home : ℕ → Option RVA) (stops b c : List ℕ) (i k len from to perm ns nl x y start may n : ℕ) (at : RVA) (name : Option Name)
    → c ≡ splice b k (word_bytes (x ∷ y ∷ start ∷ to ∷ may ∷ ns ∷ nl ∷ (n + 1) ∷ [])) → start ≡ from → may ≡ perm → n ≡ i → x ≡ (base + at.0) % 2 ^ 64 → y ≡ (x + len) % 2 ^ 64 → at ≡ rva (start_of (home i)) → len ≡ range_length f h i
    → from ≡ file_start f h i → to ≡ file_end f h i → perm ≡ permissions f h i → ns ≡ name_start name → nl ≡ name_length name → name ≡ section_name_by f h stops i → stops ≡ stops_of true f h
    → c ≡ splice b k (word_bytes (section_words f h base home i))
unfolding section_words
section_put f h base home stops b c i k len from to perm ns nl x y start may n at name d0 sf mp ni lo hi e1 e2 e3 e4 e5 e6 e7 e w =
    let d : c ≡ splice b k (word_bytes (x ∷ y ∷ from ∷ to ∷ perm ∷ ns ∷ nl ∷ (i + 1) ∷ [])) = rw (sf, mp, ni) at d0 in
    let e8 : name ≡ section_name f h i = e ∙ section_name_is f h stops w i in
    let e9 : at.0 ≡ start_of (home i) = ap (λ (o : RVA). o.0) e1 in
    rw (← e9, ← e2, ← e3, ← e4, ← e5, ← e8, ← e6, ← e7)
    (d ∙ ap (splice b k) (two_low (base + at.0) len (from ∷ to ∷ perm ∷ ns ∷ nl ∷ (i + 1) ∷ []) x y lo hi))

pub undef_put : (base undef : ℕ) (b c : List ℕ) (k x y : ℕ) → c ≡ splice b k (word_bytes (x ∷ y ∷ 0 ∷ 0 ∷ READ ∷ 0 ∷ 0 ∷ 0 ∷ [])) → x ≡ (base + undef) % 2 ^ 64 → y ≡ (x + PAGE_SIZE) % 2 ^ 64
    → c ≡ splice b k (word_bytes (undef_words base undef))
undef_put base undef b c k x y d lo hi = d ∙ ap (splice b k) (two_low (base + undef) PAGE_SIZE (0 ∷ 0 ∷ READ ∷ 0 ∷ 0 ∷ 0 ∷ []) x y lo hi)

section_long : (f : List ℕ) (h : Header) (base : ℕ) (home : ℕ → Option RVA) (i : ℕ) → 8 * length (section_words f h base home i) ≡ SECTION_BYTES
unfolding section_words
section_long f h base home i = refl

-- ---- the loop over the sections
module _ (f : List ℕ) (h : Header) (base : ℕ) (home : ℕ → Option RVA) where
  abbrev pub Written : List ℕ → List ℕ → ℕ → ℕ → Type 0
  Written l b n i = Standing SECTION_BYTES (picked (loaded f h) (section_words f h base home) i) l b n i

  pub sections_none : (l : List ℕ) → Written l l 0 0
  sections_none l = picked_none (loaded f h) (section_words f h base home) SECTION_BYTES l

  module _ (l b : List ℕ) (n i : ℕ) (t : Bool) where
    pub sections_more : (c : List ℕ) → Written l b n i → t ≡ loaded f h i → t ≡ true → c ≡ splice b (SECTION_BYTES * n) (word_bytes (section_words f h base home i)) → Written l c (n + 1) (i + 1)
    sections_more c o e y d = picked_more (loaded f h) (section_words f h base home) SECTION_BYTES i n l b t e o (section_long f h base home i) c y d

    pub sections_same : Written l b n i → t ≡ loaded f h i → t ≡ false → Written l b n (i + 1)
    sections_same o e y = picked_same (loaded f h) (section_words f h base home) SECTION_BYTES i n l b t e o y

pub sections_end : (f : List ℕ) (h : Header) (base : ℕ) (home : ℕ → Option RVA) (undef i n m : ℕ) (l b c : List ℕ) → Standing SECTION_BYTES (picked (loaded f h) (section_words f h base home) i) l b n i → i ≤ m → m ≤ i
    → m ≡ h.sections → c ≡ splice b (SECTION_BYTES * n) (word_bytes (undef_words base undef)) → c ≡ splice l 0 (section_table f h base home undef)
sections_end f h base home undef i n m l b c o a k z d =
    let w : i ≡ h.sections = omega arith in
    standing_behind SECTION_BYTES (picked (loaded f h) (section_words f h base home) i) (word_bytes (undef_words base undef)) l b c n i o d
    ∙ ap (λ (j : ℕ). splice l 0 (picked (loaded f h) (section_words f h base home) j ++ word_bytes (undef_words base undef))) w

pub sections_long : (T R l b c : List ℕ) (i n : ℕ) → Standing SECTION_BYTES T l b n i → c ≡ splice b (SECTION_BYTES * n) R → length c ≡ length l
sections_long T R l b c i n o d = splice_long b c (SECTION_BYTES * n) R d ∙ standing_long SECTION_BYTES T l b n i o

pub ruleset sections_loop = (sections_none, sections_more, sections_same, sections_end, sections_long)

-- ---- externs
pub extern_put : (f : List ℕ) (h : Header) (base undef : ℕ) (slots stops b c : List ℕ) (e k j ns nl x n m : ℕ) (name : Option Name) → c ≡ splice b k (word_bytes (x ∷ n ∷ ns ∷ nl ∷ []))
    → x ≡ ((base + undef) % 2 ^ 64 + SLOT_SIZE * m) % 2 ^ 64 → m ≡ e → n ≡ j → j ≡ get_or slots e 0 → ns ≡ name_start name → nl ≡ name_length name → name ≡ symbol_name_by f h stops j → stops ≡ stops_of false f h
    → c ≡ splice b k (word_bytes (extern_words f h base undef slots e))
unfolding extern_words
extern_put f h base undef slots stops b c e k j ns nl x n m name d0 hi me nj e1 e2 e3 q w =
    let d : c ≡ splice b k (word_bytes (x ∷ j ∷ ns ∷ nl ∷ [])) = rw nj at d0 in
    let e4 : name ≡ symbol_name f h j = q ∙ symbol_name_is f h stops w j in
    let z : x ≡ (base + undef + SLOT_SIZE * e) % 2 ^ 64 = omega arith in
    rw (← e1, ← e4, ← e2, ← e3) (d ∙ ap (splice b k) (rw z (word_low (base + undef + SLOT_SIZE * e) (j ∷ ns ∷ nl ∷ []))))

module _ (f : List ℕ) (h : Header) (base undef : ℕ) (slots : List ℕ) where
  pub externs_none : (l : List ℕ) → l ≡ splice l 0 (extern_table f h base undef slots 0)
  unfolding extern_table splice
  externs_none l = refl

  pub externs_again : (l b c : List ℕ) (e : ℕ) → b ≡ splice l 0 (extern_table f h base undef slots e) → c ≡ splice b (EXTERN_BYTES * e) (word_bytes (extern_words f h base undef slots e))
      → c ≡ splice l 0 (extern_table f h base undef slots (e + 1))
  unfolding extern_table
  externs_again l b c e p d = rw (add-one e) (joined l b c (extern_table f h base undef slots e) (word_bytes (extern_words f h base undef slots e)) (EXTERN_BYTES * e) p (sym (length_externs f h base undef slots e)) d)

  pub externs_end : (l b : List ℕ) (e n : ℕ) → b ≡ splice l 0 (extern_table f h base undef slots e) → e ≤ n → n ≤ e → b ≡ splice l 0 (extern_table f h base undef slots n)
  externs_end l b e n p a c = let z : e ≡ n = omega arith in p ∙ ap (λ (k : ℕ). splice l 0 (extern_table f h base undef slots k)) z

pub ruleset externs_loop = (externs_none, externs_again, externs_end)
