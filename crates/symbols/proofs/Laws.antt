-- The two searches by number: as a search of the numbers in their order.
use Rattle.refusal.specs.declared.Refusal.TheVariants.{NoEntry}
use Rattle.refusal.specs.declared.Refusal.{Refusal}
use Rattle.std.specs.Prelude.{◌≡◌, Bool, true, false, cond, ℕ, zero, suc, ◌+◌, List, [], ◌∷◌, length, Option, Some, None, Result, Ok, Err}
use Rattle.std.specs.List.{find, range_with_len}
use Rattle.std.specs.Option.{option_map}
use Rattle.std.specs.declared.ops.Range.{Range}
use Rattle.std.specs.declared.iter.Rev.{Rev}
use Rattle.std.specs.Iterator.Adapters.{rev_source, rev_steps}
use Rattle.std.proofs.Common.{◌-◌, ◌<◌, refl, ap, sym, subst, ◌∙◌, arith, add-one}
use Rattle.std.proofs.iter.runs.Sources.{nat_range_steps_back}
use Rattle.std.proofs.lemmas.Iterator.{YieldsList}
use Rattle.std.proofs.lemmas.Iterator.Consumers.{YieldsList-from_shown}
use Rattle.util.specs.Pick.{pick}
use Rattle.symbols.specs.Symbol.{last_to, first_from}

-- as a question answers
abbrev pub entry_number : Option ℕ → Result ℕ Refusal
entry_number (Some k) = Ok k
entry_number None = Err NoEntry

-- the n numbers from `a` on, the last first
abbrev pub range_back : ℕ → ℕ → List ℕ
range_back a zero = []
range_back a (suc n) = (a + n) ∷ range_back a n

none_left : (a n : ℕ) → n ≡ 0 → length (range_back a n) ≡ 0
none_left a n e = rw e

one_more : (a b c d x : ℕ) → c ≡ a → (0 < b - a) × (x ≡ d) × (b ≡ d + 1) → range_back a (b - a) ≡ x ∷ range_back c (d - c)
one_more a b c d x e h =
    let n : b - a ≡ suc (d - a) = omega (arith, h.0, h.2) in
    let last : a + (d - a) ≡ x = omega (arith, h.0, h.1, h.2) in
    rw (n, e, last)

kept : (r : Option ℕ) → option_map (λ x. x) r ≡ r
kept (Some k) = refl
kept None = refl

module _ (p : ℕ → Bool) where
  pub first_by_find : (a n : ℕ) → first_from p a n ≡ entry_number (find p (range_with_len a n))
  unfolding first_from pick
  first_by_find a zero = refl
  first_by_find a (suc n) = elim (p a) as (λ v. pick v (Ok a) (first_from p (suc a) n) ≡ entry_number (cond v (Some a) (find p (range_with_len (a + 1) n)))) [ true ↦ refl | false ↦ rw add-one (first_by_find (suc a) n) ]

  pub last_by_find : (n : ℕ) → last_to NoEntry p n ≡ entry_number (find p (range_back 0 n))
  unfolding last_to pick
  last_by_find zero = refl
  last_by_find (suc n) = let e : 0 + n ≡ n = omega arith in rw e (elim (p n) as (λ v. pick v (Ok n) (last_to NoEntry p n) ≡ entry_number (cond v (Some n) (find p (range_back 0 n)))) [ true ↦ refl | false ↦ last_by_find n ])

  module _ (r : Option ℕ) {answer : Result ℕ Refusal} (told : answer ≡ entry_number r) where
    pub first_told : (a n : ℕ) → option_map (λ x. x) r ≡ find p (range_with_len a (n - a)) → answer ≡ first_from p a (n - a)
    first_told a n e = told ∙ ap entry_number (sym (kept r) ∙ e) ∙ sym (first_by_find a (n - a))

    pub last_told : (n : ℕ) → option_map (λ x. x) r ≡ find p (range_back 0 (n - 0)) → answer ≡ last_to NoEntry p n
    last_told n e = let z : n - 0 ≡ n = omega arith in told ∙ ap entry_number (sym (kept r) ∙ rw z at e) ∙ sym (last_by_find n)

-- what a range gives from its end
pub YieldsList-from_rev_range : {s : Rev (Range ℕ)} (a b : ℕ) → rev_source s ≡ record { start = a; end = b } → YieldsList (rev_steps nat_range_steps_back) (λ x. x) s (range_back a (b - a))
YieldsList-from_rev_range {s} a b e =
    subst (λ (r : Range ℕ). YieldsList (rev_steps nat_range_steps_back) (λ x. x) s (range_back r.start (r.end - r.start))) e
    (YieldsList-from_shown (rev_steps nat_range_steps_back) (λ x. x) (λ r. range_back (rev_source r).start ((rev_source r).end - (rev_source r).start)) (λ r t h. none_left _ _ h.1.0) (λ r x t h. one_more _ _ _ _ _ h.0 h.1) s)
