-- What stands at the end of a search in halves for a name is what a search from the front finds: of sections with one name the loaded stand first, then the lower number.
use Rattle.std.specs.Prelude.{◌≡◌, Bool, List, ℕ, zero, suc, ◌≤◌, ◌<◌, get_or}
use Rattle.std.proofs.Math.Path.{refl, sym}
use Rattle.std.proofs.Common.{ap, ◌∙◌, ⊎_elim, arith}
use Rattle.std.proofs.Math.Bool.{true, false}
use borrow.Author.Tests.{leb-true}
use Rattle.util.specs.Pick.{pick, yes_no, and_left, and_right, and_both, not_both}
use Rattle.util.specs.Prefix.{any_to, any_out}
use Rattle.object.specs.declared.Header.{Header}
use Rattle.object.specs.Section.{loaded}
use Rattle.names.specs.Bytes.{are_same_bytes, UNDEF}
use Rattle.names.specs.Name.{section_text}
use Rattle.names.specs.OrderLaws.{same_bytes, bytes_same}
use Rattle.ranks.specs.Rank.{tie_before, lateness, InOrder}
use Rattle.ranks.specs.Search.{lower_than, Halved, first_there, none_there}
use Rattle.ranks.specs.Named.{TableRecord, Loaded, Undef, Nowhere, first_in, section_is_named, some_section_named, loaded_named, named_record}
use Rattle.ranks.specs.FirstLaws.{found_at, found_undef, found_nowhere, found_by}

-- where no section passes UNDEF is found, if that passes
module _ (p : ℕ → Bool) (u : Bool) (n : ℕ) (none : (m : ℕ) → m < n → p m ≡ false) where
  none_case : (x : TableRecord) → first_in p u 0 n ≡ x → first_in p u 0 n ≡ pick u Undef Nowhere
  unfolding pick
  none_case (Loaded k) e = let r = found_at p u n k e in not_both (p k) r.passes (none k r.inside)
  none_case Undef e = e ∙ sym (ap (λ (b : Bool). pick b Undef Nowhere) (found_undef p u n e).undef)
  none_case Nowhere e = e ∙ sym (ap (λ (b : Bool). pick b Undef Nowhere) (found_nowhere p u n e).undef)

  none_found : first_in p u 0 n ≡ pick u Undef Nowhere
  none_found = none_case (first_in p u 0 n) refl

-- none of them passes if each does not
any_no : (p : ℕ → Bool) (n : ℕ) → ((m : ℕ) → m < n → p m ≡ false) → any_to p n ≡ false
unfolding any_to
any_no p zero none = refl
any_no p (suc n) none = rw (any_no p n (λ m k. none m (omega arith)), none n (omega arith))

-- the search for a name ends at place p of a list of the sections in order
module _ (f : List ℕ) (h : Header) (name list : List ℕ) (p : ℕ) (ord : InOrder (section_text f h) (lateness f h) h.sections list)
    (ends : Halved (lower_than (section_text f h) name) list p 0) where
  tie_loaded : (x m : ℕ) → loaded f h m ≡ true → tie_before (lateness f h) x m ≡ true → (b : Bool) → loaded f h x ≡ b → loaded f h x ≡ true
  unfolding tie_before lateness pick
  tie_loaded x m l t true e = e
  tie_loaded x m l t false e = let z : false ≡ true = rw (e, l) at t in not_both true refl (sym z)

  tie_lower : (x m : ℕ) → loaded f h m ≡ true → loaded f h x ≡ true → tie_before (lateness f h) x m ≡ true → x ≤ m
  unfolding tie_before lateness pick
  tie_lower x m l e t = leb-true x m (rw (e, l) at t)

  passes_has : (j : ℕ) → loaded_named f h name j ≡ true → section_text f h j ≡ name
  unfolding loaded_named
  passes_has j t = same_bytes (section_text f h j) name (and_right (loaded f h j) (section_is_named f h name j) t)

  passes_loads : (j : ℕ) → loaded_named f h name j ≡ true → loaded f h j ≡ true
  unfolding loaded_named
  passes_loads j t = and_left (loaded f h j) (section_is_named f h name j) t

  passes_is : (j : ℕ) → loaded f h j ≡ true → section_text f h j ≡ name → loaded_named f h name j ≡ true
  unfolding loaded_named
  passes_is j l e = and_both (loaded f h j) (section_is_named f h name j) l (bytes_same (section_text f h j) name e)

  -- a loaded section there that has the name is the record
  pub ranked_first : p < h.sections → loaded_named f h name (get_or list p 0) ≡ true → named_record f h name ≡ Loaded (get_or list p 0)
  ranked_first k t =
      let x = get_or list p 0 in
      let b = found_by (loaded_named f h name) (are_same_bytes name UNDEF) h.sections x (ord.below p k) t in
      let r = found_at (loaded_named f h name) (are_same_bytes name UNDEF) h.sections b.section b.is in
      let tie = first_there (section_text f h) (lateness f h) h.sections list name ord p ends (passes_has x t) b.section r.inside (passes_has b.section r.passes) in
      let le = tie_lower x b.section (passes_loads b.section r.passes) (passes_loads x t) tie in
      let z : b.section ≡ x = let y = b.not_behind in omega arith in
      b.is ∙ ap Loaded z

  ranked_passed : (p < h.sections → loaded_named f h name (get_or list p 0) ≡ false) → (m : ℕ) → m < h.sections → loaded_named f h name m ≡ true → ⊥
  ranked_passed no-pass m k t =
      none_there (section_text f h) (lateness f h) h.sections list name ord p ends
      (λ inside e.
      let x = get_or list p 0 in
      let tie = first_there (section_text f h) (lateness f h) h.sections list name ord p ends e m k (passes_has m t) in
      let l = tie_loaded x m (passes_loads m t) tie (loaded f h x) refl in
      not_both (loaded_named f h name x) (passes_is x l e) (no-pass inside))
      m k (passes_has m t)

  -- where none stands there, it is UNDEF's or none
  pub ranked_none : (p < h.sections → loaded_named f h name (get_or list p 0) ≡ false) → named_record f h name ≡ pick (are_same_bytes name UNDEF) Undef Nowhere
  ranked_none no-pass =
      none_found (loaded_named f h name) (are_same_bytes name UNDEF) h.sections
      (λ m k. ⊎_elim (λ t. absurd (ranked_passed no-pass m k t)) (λ t. t) (yes_no (loaded_named f h name m)))

  -- some section has the name if that one does
  pub ranked_some : p < h.sections → section_is_named f h name (get_or list p 0) ≡ true → some_section_named f h name ≡ true
  ranked_some k t = sym (any_out (section_is_named f h name) (get_or list p 0) h.sections h.sections true (ord.below p k) refl (sym t) refl)

  -- and none if that one does not
  pub ranked_without : (p < h.sections → section_is_named f h name (get_or list p 0) ≡ false) → some_section_named f h name ≡ false
  ranked_without other =
      any_no (section_is_named f h name) h.sections
      (λ m k. ⊎_elim
      (λ t. absurd (none_there (section_text f h) (lateness f h) h.sections list name ord p ends
      (λ inside e. not_both (section_is_named f h name (get_or list p 0)) (bytes_same (section_text f h (get_or list p 0)) name e) (other inside)) m k
      (same_bytes (section_text f h m) name t)))
      (λ t. t)
      (yes_no (section_is_named f h name m)))
