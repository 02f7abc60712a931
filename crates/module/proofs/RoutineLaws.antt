-- What the question for an address's routine promises. These rest on the first record that a test takes (`QuestionLaws`).
use Rattle.refusal.specs.declared.Refusal.TheVariants.{NoRoutine, NoSection}
use Rattle.nearest.specs.declared.Routine.{Routine}
use Rattle.refusal.specs.declared.Refusal.{Refusal}
use Rattle.std.specs.Prelude.{◌≡◌, ℕ, ◌⊎◌, List, Result, Ok, Err}
use Rattle.std.proofs.Common.{sym, ◌∙◌, inl, inr, ⊎_elim, arith}
use Rattle.std.proofs.Math.Path.{ap}
use Rattle.arch.specs.declared.VA.{VA}
use Rattle.section.specs.declared.Section.{Section}
use Rattle.section.specs.Section.{holds}
use Rattle.nearest.specs.Nearest.{nearest}
use Rattle.nearest.specs.NearestLaws.{nearest_is_found, found_is_nearest, refused_is_none, none_is_refused}
use Rattle.module.specs.Questions.{numbered, NONE_HOLDS}
use Rattle.module.specs.Routine.{of_holder, routine}
use Rattle.module.proofs.QuestionLaws.{first_is, none_is}
use Rattle.module.specs.RoutineLaws.{Holder, Unheld, WithoutSymbol, InRoutine, held_or_none}

-- ---- the answer is that of the holder's symbols, or 19
module _ (t : List Section) (symbols : List ℕ) (x : VA) where
  pub by_holder : (i : ℕ) → Holder t x i → routine t symbols x ≡ nearest symbols i x
  unfolding of_holder
  by_holder i h = ap (of_holder symbols x) (first_is (holds x) numbered NONE_HOLDS t i h.below h.inside h.first)

  -- 19 where no record holds the address
  pub outside_is_19 : Unheld t x → routine t symbols x ≡ Err NoSection
  unfolding of_holder
  outside_is_19 n = ap (of_holder symbols x) (none_is (holds x) numbered NONE_HOLDS t n)

  -- 21 where the record that holds it has no symbol at it or below
  pub none_is_21 : WithoutSymbol t symbols x → routine t symbols x ≡ Err NoRoutine
  none_is_21 w = by_holder w.section w.holder ∙ none_is_refused symbols w.section x w.none

  -- and there is no other refusal
  pub refused_is : (n : Refusal) → routine t symbols x ≡ Err n → ((n ≡ NoSection) × Unheld t x) ⊎ ((n ≡ NoRoutine) × WithoutSymbol t symbols x)
  refused_is n e =
      ⊎_elim
      (λ h.
      let r = refused_is_none symbols h.section x n (sym (by_holder h.section h.holder) ∙ e) in
      inr (r.0, record { section = h.section; holder = h.holder; none = r.1 }))
      (λ o. let z : Err NoSection ≡ Err n = sym (outside_is_19 o) ∙ e in inl (cc, o))
      (held_or_none t x)

  pub found_is_routine : (k d : ℕ) → routine t symbols x ≡ Ok (record { symbol = k; distance = d }) → InRoutine t symbols x k d
  found_is_routine k d e =
      ⊎_elim
      (λ h. record { section = h.section; holder = h.holder; nearest_one = found_is_nearest symbols h.section x k d (sym (by_holder h.section h.holder) ∙ e) })
      (λ n. let z : Err NoSection ≡ Ok (record { symbol = k; distance = d }) = sym (outside_is_19 n) ∙ e in absurd (let w : ◌≡◌ {A = ℕ} 0 1 = cc in omega arith))
      (held_or_none t x)

  pub routine_is_found : (k d : ℕ) → InRoutine t symbols x k d → routine t symbols x ≡ Ok (record { symbol = k; distance = d })
  routine_is_found k d r = by_holder r.section r.holder ∙ nearest_is_found symbols r.section x k d r.nearest_one
