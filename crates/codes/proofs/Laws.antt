-- The ways through the code. Assumes nothing.
use Rattle.std.proofs.Common.{Ordering, Less, Equal, Greater, is_lt}
use mathlib.Core.Path.{◌≡◌, refl, sym, ap, ◌∙◌}
use mathlib.Core.Bool.{Bool, true, false, ◌&&◌, ◌||◌, and-false}
use mathlib.Core.List.{List, [], ◌∷◌}
use mathlib.Core.Logic.{⊎_elim}
use Prim.Native.Nat.{ℕ, ◌+◌, ◌%◌, ◌≤◌, ◌<◌}
use native.Mathlib.Numerals.{add-one}
use native.Mathlib.Omega.{arith}
use lib.Dec.{eqb}
use lib.ListN.{length, get_or, set}
use borrow.Author.Tests.{eq-eqb, ne_eqb}
use Rattle.std.specs.List.Sorted.{IsPartitionedBy, IsPartitionPoint}
use Rattle.std.proofs.lemmas.List.{get_or_default}
use Rattle.limits.specs.Limits.{MAX_SECTIONS}
use Rattle.util.specs.Pick.{pick, pick_no, flag_no, yes_no, not_both}
use Rattle.util.specs.Prefix.{any_to, any_out, length_list, list_at}
use Rattle.le.specs.Le.{splice, splice_long, splice_past, splice_above, splice_alike, splice_over, front_at, fill_none, fill_again, fill_end}
use Rattle.object.specs.declared.Header.{Header}
use Rattle.object.specs.declared.Symbol.{Symbol}
use Rattle.object.specs.Section.{loaded}
use Rattle.object.specs.Symbol.{symbol_of, kind_of, place_of, auxiliaries_left, primary}
use Rattle.object.specs.SymbolLaws.{left_none}
use Rattle.kinds.specs.declared.SymbolKind.{SymbolKind}
use Rattle.kinds.specs.declared.Place.{Place}
use Rattle.rules.specs.declared.Rule.{Rule}
use Rattle.rules.specs.declared.Rule.TheVariants.{Section, Extern, Slot, Name, Refused}
use Rattle.rules.specs.Rule.{rule_of}
use Rattle.names.specs.Bytes.{compare_bytes, are_same_bytes, UNDEF}
use Rattle.names.specs.OrderLaws.{equal_same, same_equal, same_bytes, bytes_same}
use Rattle.names.specs.declared.Span.{Span}
use Rattle.names.specs.Name.{section_span, symbol_span, span_text, section_text}
use Rattle.ranks.specs.Rank.{lateness, section_ranks, InOrder}
use Rattle.ranks.specs.RankLaws.{ranks_room, ranks_long}
use Rattle.ranks.specs.Search.{is_lower, lower_than, LowFirst, Halved, ranks_in_order}
use Rattle.ranks.specs.Named.{TableRecord, Loaded, section_is_named, some_section_named, loaded_named, named_record}
use Rattle.ranks.specs.Ranked.{ranked_first, ranked_none, ranked_some, ranked_without}
use Rattle.codes.specs.Code.{AUXILIARY, REFUSED, SLOT, EXTERN, UNDEF_RECORD, UNDEF_EXTERN, SPAN, HOMES, RECORDS, named_code, rule_code, code_by_name, code_of, codes_to, is_extern, puts_in}
use Rattle.codes.specs.Draft.{NAMED, undef_named, code_there, draft_of, drafts_to, some_drafts, final_code, final_codes, draft_named, draft_plain}

-- ---- one code of the list
module _ (l : List ℕ) (at v : ℕ) where
  pub code_in : set l at v ≡ splice l at (v ∷ [])
  unfolding splice
  code_in = refl

  pub code_past : length l ≤ at → l ≡ splice l at (v ∷ [])
  code_past h = sym (splice_past l at (v ∷ []) h)

pub ruleset one_code = (code_in, code_past)

-- ---- where the lower ones end, as the library's search says it
module _ (low : ℕ → Bool) (list : List ℕ) where
  pub parted : LowFirst low list → IsPartitionedBy low list
  parted first i j d a b t = rw (get_or_default list i d 0 (omega arith)) (first i j a b (rw (get_or_default list j d 0 b) at t))

  pub point_halved : (r : ℕ) → r ≤ length list → IsPartitionPoint (λ y. low y ≡ true) (λ y. low y ≡ false) list r → Halved low list r 0
  point_halved r b p = record { room = omega arith; before = λ k q. p.0 k 0 (omega arith) q; behind = λ k q s. p.1 k 0 (omega arith) s }

-- ---- a section by name
lt_lower : (o : Ordering) → is_lt o ≡ is_lower o
unfolding is_lower
lt_lower Less = refl
lt_lower Equal = refl
lt_lower Greater = refl

module _ (f : List ℕ) (h : Header) (name : List ℕ) where
  module _ (x : ℕ) (t : Span) (o : Ordering) (is : t ≡ section_span f h x) (by : o ≡ compare_bytes (span_text f t) name) where
    order_is : o ≡ compare_bytes (section_text f h x) name
    order_is = rw (← is) by

    pub before_is : (r : Bool) → r ≡ is_lt o → r ≡ lower_than (section_text f h) name x
    before_is r e = e ∙ lt_lower o ∙ ap is_lower order_is

  module _ (t : Bool) (is : t ≡ are_same_bytes name UNDEF) where
    pub undef_without : t ≡ true → UNDEF_EXTERN ≡ named_code (undef_named name) false
    unfolding named_code pick
    undef_without e = rw (← is, e)

    pub extern_without : t ≡ false → EXTERN ≡ named_code (undef_named name) false
    unfolding named_code pick
    extern_without e = rw (← is, e)

    pub undef_unloaded : t ≡ true → UNDEF_RECORD ≡ named_code (undef_named name) true
    unfolding named_code pick
    undef_unloaded e = rw (← is, e)

    pub slot_unloaded : t ≡ false → SLOT ≡ named_code (undef_named name) true
    unfolding named_code pick
    slot_unloaded e = rw (← is, e)

  module _ (i : ℕ) (t : Bool) where
    pub of_loaded : t ≡ loaded f h i → t ≡ true → i % SPAN + RECORDS ≡ pick (loaded f h i) (named_code (Loaded i) true) (named_code (undef_named name) true)
    unfolding named_code pick
    of_loaded is e = rw (← is, e) (omega arith)

  module _ (i c : ℕ) (s : Span) (o : Ordering) (q : s ≡ section_span f h i) (is : o ≡ compare_bytes (span_text f s) name) where
    order_there : o ≡ compare_bytes (section_text f h i) name
    order_there = rw (← q) is

    pub there_equal : o ≡ Equal → c ≡ pick (loaded f h i) (named_code (Loaded i) true) (named_code (undef_named name) true) → c ≡ code_there f h name i
    unfolding code_there pick
    there_equal e d = rw (bytes_same (section_text f h i) name (equal_same (section_text f h i) name (sym order_there ∙ e))) d

    there_not : (o ≡ Equal → ⊥) → are_same_bytes (section_text f h i) name ≡ false
    there_not n =
        ⊎_elim (λ t. absurd (n (order_there ∙ same_equal (section_text f h i) name (same_bytes (section_text f h i) name t)))) (λ t. t) (yes_no (are_same_bytes (section_text f h i) name))

    pub there_other : (o ≡ Equal → ⊥) → c ≡ named_code (undef_named name) false → c ≡ code_there f h name i
    unfolding code_there pick
    there_other n d = rw (there_not n) d

  -- what stands at the end of the search
  module _ (ranks : List ℕ) (p : ℕ) (is : ranks ≡ section_ranks f h) (ends : Halved (lower_than (section_text f h) name) ranks p 0) where
    in_order : InOrder (section_text f h) (lateness f h) h.sections ranks
    in_order = ranks_in_order f h name ranks is

    none_at : (p < h.sections → loaded_named f h name (get_or ranks p 0) ≡ false) → named_record f h name ≡ undef_named name
    none_at r =
        ranked_none f h name ranks p in_order ends r

    without_at : (p < h.sections → section_is_named f h name (get_or ranks p 0) ≡ false) → some_section_named f h name ≡ false
    without_at r = ranked_without f h name ranks p in_order ends r

    some_at : p < h.sections → section_is_named f h name (get_or ranks p 0) ≡ true → some_section_named f h name ≡ true
    some_at k r = ranked_some f h name ranks p in_order ends k r

    both_at : (a b : Bool) → loaded f h (get_or ranks p 0) ≡ a → section_is_named f h name (get_or ranks p 0) ≡ b → loaded_named f h name (get_or ranks p 0) ≡ (a && b)
    unfolding loaded_named
    both_at a b e d = rw (e, d)

    there_case : (a b : Bool) → p < h.sections → loaded f h (get_or ranks p 0) ≡ a → section_is_named f h name (get_or ranks p 0) ≡ b
        → pick b (pick a (named_code (Loaded (get_or ranks p 0)) true) (named_code (undef_named name) true)) (named_code (undef_named name) false) ≡ code_by_name f h name
    unfolding pick
    there_case true true k e d =
        rw (ranked_first f h name ranks p in_order ends k (both_at true true e d), some_at k d)
    there_case false true k e d = rw (none_at (λ z. both_at false true e d), some_at k d)
    there_case a false k e d = rw (none_at (λ z. both_at a false e d ∙ and-false a), without_at (λ z. d))

    pub name_there : (c : ℕ) → p < length ranks → c ≡ code_there f h name (get_or ranks p 0) → c ≡ code_by_name f h name
    unfolding code_there
    name_there c k q =
        let long = in_order.long in
        q ∙ there_case (loaded f h (get_or ranks p 0)) (section_is_named f h name (get_or ranks p 0)) (omega arith) refl refl

    pub name_past : (c : ℕ) → length ranks ≤ p → c ≡ named_code (undef_named name) false → c ≡ code_by_name f h name
    name_past c k q =
        let long = in_order.long in
        q ∙ sym (ap (λ (x : TableRecord). named_code x (some_section_named f h name)) (none_at (λ z. absurd (omega arith))) ∙ ap (named_code (undef_named name)) (without_at (λ z. absurd (omega arith))))

pub ruleset name_ways = (undef_without, extern_without, undef_unloaded, slot_unloaded, of_loaded, there_equal, there_other, pick_no, flag_no)

pub ruleset by_name = (name_there, name_past)

-- ---- by the rule
module _ (r : Rule) where
  pub code_section : (n : ℕ) → r ≡ Section n → n % SPAN + HOMES ≡ rule_code r NAMED
  unfolding rule_code
  code_section n e = rw e (omega arith)

  pub code_extern : r ≡ Extern → EXTERN ≡ rule_code r NAMED
  unfolding rule_code
  code_extern e = rw e

  pub code_slot : r ≡ Slot → SLOT ≡ rule_code r NAMED
  unfolding rule_code
  code_slot e = rw e

  pub code_name : r ≡ Name → NAMED ≡ rule_code r NAMED
  unfolding rule_code
  code_name e = rw e

  pub code_refused : r ≡ Refused → REFUSED ≡ rule_code r NAMED
  unfolding rule_code
  code_refused e = rw e

pub ruleset by_rule_lem = (code_section, code_extern, code_slot, code_name, code_refused)

-- ---- of a record, and of all
module _ (s : Symbol) (left : ℕ) where
  pub draft_own : (c : ℕ) (k : SymbolKind) (p : Place) (r : Rule) → left ≡ 0 → k ≡ kind_of s → p ≡ place_of s → r ≡ rule_of k p → c ≡ rule_code r NAMED → c ≡ pick (eqb left 0) (rule_code (rule_of (kind_of s) (place_of s)) NAMED) AUXILIARY
  unfolding pick
  draft_own c k p r z a b d q = rw (eq-eqb left 0 z, ← a, ← b, ← d) q

  pub draft_auxiliary : (left ≡ 0 → ⊥) → AUXILIARY ≡ pick (eqb left 0) (rule_code (rule_of (kind_of s) (place_of s)) NAMED) AUXILIARY
  unfolding pick
  draft_auxiliary n = rw (ne_eqb left 0 n)

pub ruleset of_record = (draft_own, draft_auxiliary)

module _ (f : List ℕ) (h : Header) (j left x : ℕ) (s : Symbol) (q : left ≡ auxiliaries_left f h j) (read : s ≡ symbol_of f h j) (m : x ≡ pick (eqb left 0) (rule_code (rule_of (kind_of s) (place_of s)) NAMED) AUXILIARY) where
  draft_is : x ≡ draft_of f h j
  unfolding draft_of primary
  draft_is = rw (q, read) at m

  pub draft_again : (l b b' : List ℕ) → b ≡ splice l 0 (drafts_to f h j) → b' ≡ splice b j (x ∷ []) → b' ≡ splice l 0 (drafts_to f h (j + 1))
  draft_again l b b' e d = fill_again (draft_of f h) l b b' j x e draft_is d

  pub some_again : (r t : Bool) → t ≡ some_drafts f h j → r ≡ (t || eqb x NAMED) → r ≡ some_drafts f h (j + 1)
  unfolding any_to
  some_again r t e p = rw (add-one, ← e, ← draft_is) p

pub some_none : (f : List ℕ) (h : Header) → false ≡ some_drafts f h 0
unfolding any_to
some_none f h = refl

pub some_end : (f : List ℕ) (h : Header) (r : Bool) (j n m : ℕ) → r ≡ some_drafts f h j → j ≤ n → n ≤ j → n ≡ m → r ≡ some_drafts f h m
some_end f h r j n m e a b q = let z : j ≡ m = omega arith in rw (← z) e

pub ruleset draft_loop = (left_none, fill_none, draft_again, some_again, some_none, some_end, fill_end)

-- ---- the second pass
module _ (f : List ℕ) (h : Header) (c j : ℕ) where
  pub for_name : (t : Span) (r : ℕ) → c ≡ NAMED → t ≡ symbol_span f h j → r ≡ code_by_name f h (span_text f t) → r ≡ final_code f h c j
  unfolding final_code pick
  for_name t r e n q = rw (eq-eqb c NAMED e, ← n) q

  pub for_other : (c ≡ NAMED → ⊥) → c ≡ final_code f h c j
  unfolding final_code pick
  for_other n = rw (ne_eqb c NAMED n)

pub ruleset for_ways = (for_name, for_other)

pub name_again : (f : List ℕ) (h : Header) (l b b' : List ℕ) (j c x : ℕ) → b ≡ splice l 0 (final_codes f h l j) → c ≡ get_or b j 0 → x ≡ final_code f h c j → b' ≡ splice b j (x ∷ []) → b' ≡ splice l 0 (final_codes f h l (j + 1))
name_again f h l b b' j c x e q m d =
    let n = length_list (λ k. final_code f h (get_or l k 0) k) j in
    let z : get_or (splice l 0 (final_codes f h l j)) j 0 ≡ get_or l j 0 = splice_above l 0 (final_codes f h l j) j (omega arith) in
    let y : c ≡ get_or l j 0 = (rw e at q) ∙ z in
    fill_again (λ k. final_code f h (get_or l k 0) k) l b b' j x e (rw (← y) m) d

pub ruleset name_loop = (fill_none, name_again, fill_end)

-- ---- both
none_any : (p : ℕ → Bool) (n j : ℕ) → any_to p n ≡ false → j < n → p j ≡ false
none_any p n j e k = ⊎_elim (λ t. not_both (any_to p n) (sym (any_out p j n n true k refl (sym t) refl)) e) (λ t. t) (yes_no (p j))

module _ (f : List ℕ) (h : Header) (l w : List ℕ) (e : w ≡ splice l 0 (drafts_to f h h.symbols)) where
  pub one_pass : (r : Bool) → r ≡ some_drafts f h h.symbols → r ≡ false → w ≡ splice l 0 (codes_to f h h.symbols)
  one_pass r q z =
      let a = length_list (draft_of f h) h.symbols in
      let b = length_list (code_of f h) h.symbols in
      e ∙ splice_alike l (drafts_to f h h.symbols) (codes_to f h h.symbols) (a ∙ sym b)
      (λ j k m.
      let i : j < h.symbols = omega arith in
      list_at (draft_of f h) 0 h.symbols j i ∙ draft_plain f h j (none_any (λ n. eqb (draft_of f h n) NAMED) h.symbols j (sym q ∙ z) i) ∙ sym (list_at (code_of f h) 0 h.symbols j i))

  pub two_passes : (b : List ℕ) → (h.sections ≤ MAX_SECTIONS → b ≡ splice w 0 (final_codes f h w h.symbols)) → (h.sections ≤ MAX_SECTIONS → b ≡ splice l 0 (codes_to f h h.symbols))
  two_passes b t k =
      let a = length_list (draft_of f h) h.symbols in
      let c = length_list (code_of f h) h.symbols in
      let d = length_list (λ j. final_code f h (get_or w j 0) j) h.symbols in
      let s : splice w 0 (final_codes f h w h.symbols) ≡ splice w 0 (codes_to f h h.symbols) =
      splice_alike w (final_codes f h w h.symbols) (codes_to f h h.symbols) (d ∙ sym c)
      (λ j k' m.
      let i : j < h.symbols = omega arith in
      let n : length w ≡ length l = splice_long l w 0 (drafts_to f h h.symbols) e in
      let y : get_or w j 0 ≡ draft_of f h j = ap (λ (x : List ℕ). get_or x j 0) e ∙ front_at l (drafts_to f h h.symbols) j (omega arith) (omega arith) ∙ list_at (draft_of f h) 0 h.symbols j i in
      list_at (λ x. final_code f h (get_or w x 0) x) 0 h.symbols j i ∙ ap (λ (x : ℕ). final_code f h x j) y ∙ draft_named f h j ∙ sym (list_at (code_of f h) 0 h.symbols j i)) in
      t k ∙ s ∙ ap (λ (x : List ℕ). splice x 0 (codes_to f h h.symbols)) e ∙ splice_over l (drafts_to f h h.symbols) (codes_to f h h.symbols) (a ∙ sym c)

-- the order that was made, and the array that holds it
pub made_order : (f : List ℕ) (h : Header) (a b : List ℕ) → length a ≡ h.sections → h.sections ≤ MAX_SECTIONS → (length a ≡ h.sections → h.sections ≤ MAX_SECTIONS → b ≡ section_ranks f h) → b ≡ section_ranks f h
made_order f h a b l k e = e l k

pub not_made : (h : Header) (x y : List ℕ) → MAX_SECTIONS < h.sections → h.sections ≤ MAX_SECTIONS → x ≡ y
not_made h x y k l = absurd (omega arith)

pub ruleset order_made = (made_order, not_made, ranks_room, ranks_long)

pub ruleset passes = (one_pass, two_passes)

pub puts_is : (codes : List ℕ) (j c : ℕ) {r : Bool} → r ≡ is_extern c → c ≡ get_or codes j 0 → r ≡ puts_in codes j
puts_is codes j c e q = rw (← q) e
