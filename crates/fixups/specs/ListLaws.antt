-- What holds of every fixup that a relocation comes to holds of every element of the fix list; and every fixup and every skip stands in its list.
use Rattle.std.specs.Prelude.{◌≡◌, ℕ, zero, suc, ◌+◌, ◌-◌, ◌<◌, List, [], ◌∷◌, ◌++◌, length, get_or, slice_index_or, refl}
use Rattle.std.proofs.Common.{sym, ◌∙◌, ⊎_elim, arith, not-suc-le-zero, le_of_suc-le-suc, length-append, get_or-append-add}
use Rattle.std.proofs.Math.Path.{ap}
use mathlib.Core.List.{append-nil, append_assoc}
use Rattle.std.proofs.Math.ListN.{get_or-append}
use Rattle.util.specs.Pick.{le_or_lt}
use Rattle.util.specs.Fold.{fold_records, fold_sections, records_both, sections_each, sections_made}
use Rattle.targets.specs.declared.Skip.{Skip}
use Rattle.fixups.specs.declared.Fix.{Fix}
use Rattle.fixups.specs.declared.Outcome.{Outcome}
use Rattle.fixups.specs.declared.Outcome.TheVariants.{Passed, Skipped, Refused, Fixup}
use Rattle.fixups.specs.Lists.{append_step, over_records, over_sections, fixes_of, fix_at_record, fix_list, skip_at_record, skip_list}

-- a section's list goes behind those of the sections before it
module _ {A : Type 0} (out : ℕ → ℕ → List A) where
  behind : (i : ℕ) (xs : List A) (k : ℕ) → fold_records (append_step out) i xs k ≡ xs ++ over_records out i k
  unfolding append_step
  behind i xs k =
      records_both (append_step out) (append_step out) (λ a b. a ≡ xs ++ b) i xs [] k
      (λ j a b l e. ap (λ c. c ++ out i j) e ∙ append_assoc xs b (out i j)) (sym (append-nil xs))

  pub section_behind : (count : ℕ → ℕ) (i : ℕ) → over_sections out count (suc i) ≡ over_sections out count i ++ over_records out i (count i)
  unfolding fold_sections
  section_behind count i = behind i (over_sections out count i) (count i)

-- P of every element of a list
abbrev pub Each : {A : Type 0} → (A → Type 0) → List A → Type 0
Each {A} P l = (j : ℕ) (d : A) → j < length l → P (slice_index_or l j d)

module _ {A : Type 0} (P : A → Type 0) where
  each_none : Each P []
  each_none j d h = absurd (not-suc-le-zero h)

  each_append : (xs ys : List A) → Each P xs → Each P ys → Each P (xs ++ ys)
  each_append xs ys p q j d h =
      let n : length (xs ++ ys) ≡ length xs + length ys = length-append xs ys in
      ⊎_elim (λ k.
      let m = j - length xs in
      let e : j ≡ length xs + (j - length xs) = omega arith in
      let g : get_or (xs ++ ys) j d ≡ get_or ys (j - length xs) d = ap (λ (t : ℕ). get_or (xs ++ ys) t d) e ∙ get_or-append-add xs ys (j - length xs) d in
      rw g (q (j - length xs) d (omega arith)))
      (λ k. rw (get_or-append xs ys d j k) (p j d k))
      (le_or_lt (length xs) j)

  each_section : (out : ℕ → ℕ → List A) (count : ℕ → ℕ) (n : ℕ) → ((i k : ℕ) → i < n → k < count i → Each P (out i k)) → Each P (over_sections out count n)
  unfolding append_step
  each_section out count n h = sections_each (append_step out) (Each P) count [] n (λ i k xs l q p. each_append xs (out i k) p (h i k l q)) each_none

module _ (P : Fix → Type 0) where
  each_one : (x : Fix) → P x → Each P (x ∷ [])
  each_one x p zero d l = p
  each_one x p (suc j) d l = absurd (not-suc-le-zero (le_of_suc-le-suc l))

  each_fix : (y : Outcome) → ((x : Fix) → y ≡ Fixup x → P x) → Each P (fixes_of y)
  each_fix Passed h = each_none P
  each_fix (Skipped s) h = each_none P
  each_fix Refused h = each_none P
  each_fix (Fixup x) h = each_one x (h x refl)

  pub every_fixup : (o : ℕ → ℕ → Outcome) (count : ℕ → ℕ) (n : ℕ)
      → ((i k : ℕ) (x : Fix) → i < n → k < count i → o i k ≡ Fixup x → P x) → Each P (fix_list o count n)
  unfolding fix_at_record
  every_fixup o count n h = each_section P (fix_at_record o) count n (λ i k a b. each_fix (o i k) (λ x. h i k x a b))

-- ---- x stands in a list, at a position
pub record Stands {A : Type 0} (x : A) (l : List A) : Type 0 where
  pub position : ℕ
  pub inside : position < length l
  pub is : (d : A) → slice_index_or l position d ≡ x

module _ {A : Type 0} (x : A) where
  stands_alone : Stands x (x ∷ [])
  stands_alone = record { position = 0; inside = omega arith; is = λ d. refl }

  stands_left : (xs ys : List A) → Stands x xs → Stands x (xs ++ ys)
  stands_left xs ys s =
      let n : length (xs ++ ys) ≡ length xs + length ys = length-append xs ys in
      let h = s.inside in
      record { position = s.position; inside = omega arith; is = λ d. get_or-append xs ys d s.position h ∙ s.is d }

  stands_right : (xs ys : List A) → Stands x ys → Stands x (xs ++ ys)
  stands_right xs ys s =
      let n : length (xs ++ ys) ≡ length xs + length ys = length-append xs ys in
      let h = s.inside in
      record { position = length xs + s.position; inside = omega arith; is = λ d. get_or-append-add xs ys s.position d ∙ s.is d }

  stands_section : (out : ℕ → ℕ → List A) (count : ℕ → ℕ) (n i k : ℕ) → i < n → k < count i → Stands x (out i k) → Stands x (over_sections out count n)
  unfolding append_step
  stands_section out count n i k h l s =
      sections_made (append_step out) (Stands x) (λ xs j m. stands_left xs (out j m)) count [] n i k h l (λ xs. stands_right xs (out i k) s)

module _ (o : ℕ → ℕ → Outcome) (count : ℕ → ℕ) (n i k : ℕ) (section : i < n) (index : k < count i) where
  -- a relocation that comes to a fixup has it in the fix list
  pub fixup_listed : (x : Fix) → o i k ≡ Fixup x → Stands x (fix_list o count n)
  unfolding fix_at_record
  fixup_listed x e = stands_section x (fix_at_record o) count n i k section index (rw e (stands_alone x))

  -- one that is skipped stands in the skip list, with its section, record and reason
  pub skip_listed : (r : Skip) → o i k ≡ Skipped r → Stands (record { section = i + 1; index = k; reason = r }) (skip_list o count n)
  unfolding skip_at_record
  skip_listed r e = stands_section _ (skip_at_record o) count n i k section index (rw e (stands_alone _))
