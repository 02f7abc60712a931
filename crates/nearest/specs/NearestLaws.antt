-- What the nearest symbol promises.
use Rattle.refusal.specs.declared.Refusal.TheVariants.{NoRoutine}
use Rattle.nearest.specs.declared.Routine.{Routine}
use Rattle.refusal.specs.declared.Refusal.{Refusal}
use Rattle.std.proofs.Math.Path.{◌≡◌, ap}
use Rattle.std.specs.Prelude.{refl, Bool, true, false, ◌||◌, List, ◌⊎◌, ℕ, zero, suc, ◌-◌, ◌<◌, ◌≤◌, eqb, Result, Ok, Err}
use Rattle.std.proofs.Common.{sym, ◌∙◌, inl, inr, arith, not-suc-le-zero, le_of_suc-le-suc, eq-or-lt_of_le}
use Rattle.std.proofs.Math.Bool.{not, or-true}
use Rattle.std.proofs.Math.Logic.{⊎_elim}
use borrow.Author.Tests.{leb-true, le-leb, lt-leb, eq-eqb, eqb-true}
use Rattle.std.proofs.Math.Dec.{leb}
use Rattle.util.specs.Pick.{yes_no, le_or_lt, not_both, and_left, and_right, and_both}
use Rattle.util.specs.Prefix.{all_to, all_of, all_stop}
use Rattle.arch.specs.declared.VA.{VA}
use Rattle.symbols.specs.Symbol.{symbol_count}
use Rattle.symbols.specs.SymbolLaws.{last_is, last_none}
use Rattle.nearest.specs.Nearest.{row_address, row_home, qualifies, is_greatest, last_greatest, with_distance, nearest}

-- ---- of the first n, those that p takes: the last of the greatest
module _ (p : ℕ → Bool) (at : ℕ → ℕ) where
  -- k is it: p takes it, none that p takes is greater, and none behind it is as great
  pub record Greatest (n k : ℕ) : Type 0 where
    pub below : k < n
    pub taken : p k ≡ true
    pub most : (j : ℕ) → j < n → p j ≡ true → at j ≤ at k
    pub last : (j : ℕ) → k < j → j < n → p j ≡ true → at j < at k

  -- p takes none of them
  abbrev pub TakesNone : ℕ → Type 0
  TakesNone n = (j : ℕ) → j < n → p j ≡ false

  -- one more number: it is the new one, or the old one stays
  pub greatest_first : (n : ℕ) → TakesNone n → p n ≡ true → Greatest (suc n) n
  greatest_first n o t =
      record {
        below = omega arith;
        taken = t;
        most = λ j l e. ⊎_elim (λ q. rw q (omega arith)) (λ m. not_both (p j) e (o j m)) (eq-or-lt_of_le (le_of_suc-le-suc l));
        last = λ j a l e. absurd (omega arith);
      }

  pub greatest_next : (n k : ℕ) → Greatest n k → p n ≡ true → at k ≤ at n → Greatest (suc n) n
  greatest_next n k g t h =
      record {
        below = omega arith;
        taken = t;
        most = λ j l e. ⊎_elim (λ q. rw q (omega arith)) (λ m. let b : at j ≤ at k = g.most j m e in omega arith) (eq-or-lt_of_le (le_of_suc-le-suc l));
        last = λ j a l e. absurd (omega arith);
      }

  pub greatest_stays : (n k : ℕ) → Greatest n k → (p n ≡ true → at n < at k) → Greatest (suc n) k
  greatest_stays n k g h =
      let b = g.below in
      record {
        below = omega arith;
        taken = g.taken;
        most = λ j l e. ⊎_elim (λ q. let s : at n < at k = h (rw q at e) in rw q (omega arith)) (λ m. g.most j m e) (eq-or-lt_of_le (le_of_suc-le-suc l));
        last = λ j a l e. ⊎_elim (λ q. rw q (h (rw q at e))) (λ m. g.last j a m e) (eq-or-lt_of_le (le_of_suc-le-suc l));
      }

  pub none_more : (n : ℕ) → TakesNone n → p n ≡ false → TakesNone (suc n)
  none_more n o f j l = ⊎_elim (λ q. rw q f) (λ m. o j m) (eq-or-lt_of_le (le_of_suc-le-suc l))

  -- there is one wherever p takes one
  pub record Some (n : ℕ) : Type 0 where
    pub it : ℕ
    pub greatest : Greatest n it

  pub some_or_none : (n : ℕ) → Some n ⊎ TakesNone n
  some_or_none zero = inr (λ j l. absurd (not-suc-le-zero l))
  some_or_none (suc n) =
      ⊎_elim
      (λ s. ⊎_elim
      (λ t. ⊎_elim
      (λ h. inl (record { it = n; greatest = greatest_next n s.it s.greatest t h }))
      (λ h. inl (record { it = s.it; greatest = greatest_stays n s.it s.greatest (λ _. h) }))
      (le_or_lt (at s.it) (at n)))
      (λ f. inl (record { it = s.it; greatest = greatest_stays n s.it s.greatest (λ t. not_both (p n) t f) }))
      (yes_no (p n)))
      (λ o. ⊎_elim
      (λ t. inl (record { it = n; greatest = greatest_first n o t }))
      (λ f. inr (none_more n o f))
      (yes_no (p n)))
      (some_or_none n)

  -- ---- the definition finds it
  no_greater : (n k : ℕ) → Greatest n k → is_greatest p at n k ≡ true
  unfolding is_greatest
  no_greater n k g =
      and_both (p k) (all_to (λ j. not (p j) || leb (at j) (at k)) n) g.taken
      (all_of (λ j. not (p j) || leb (at j) (at k)) n
      (λ j l. ⊎_elim (λ t. rw (le-leb (at j) (at k) (g.most j l t)) (or-true (not (p j)))) (λ f. rw f) (yes_no (p j))))

  no_later : (n k : ℕ) → Greatest n k → (j : ℕ) → k < j → j < n → is_greatest p at n j ≡ false
  unfolding is_greatest
  no_later n k g j a l =
      ⊎_elim
      (λ t. rw t (all_stop (λ i. not (p i) || leb (at i) (at j)) k n g.below (rw g.taken (lt-leb (at k) (at j) (g.last j a l t)))))
      (λ f. rw f)
      (yes_no (p j))

  pub greatest_is : (n k : ℕ) → Greatest n k → last_greatest p at n ≡ Ok k
  greatest_is n k g = last_is NoRoutine (is_greatest p at n) n k g.below (no_greater n k g) (no_later n k g)

  pub none_is : (n : ℕ) → TakesNone n → last_greatest p at n ≡ Err NoRoutine
  unfolding is_greatest
  none_is n o = last_none NoRoutine (is_greatest p at n) n (λ j l. rw (o j l))

-- ---- the answer for record r and an address
-- its two numbers
symbol_of : Result Routine Refusal → ℕ
symbol_of (Ok a) = a.symbol
symbol_of (Err n) = 0

distance_of : Result Routine Refusal → ℕ
distance_of (Ok a) = a.distance
distance_of (Err n) = 0

module _ (symbols : List ℕ) (r : ℕ) (x : VA) where
  -- symbol k of the list is the nearest of the record, and the address lies d behind it
  pub record IsNearest (k d : ℕ) : Type 0 where
    pub listed : k < symbol_count symbols
    pub own : row_home symbols k ≡ r
    pub not_above : row_address symbols k ≤ x.0
    pub distance : d ≡ x.0 - row_address symbols k
    -- no other is nearer
    pub most : (j : ℕ) → j < symbol_count symbols → row_home symbols j ≡ r → row_address symbols j ≤ x.0 → row_address symbols j ≤ row_address symbols k
    -- and none that is later in file order lies at the same address
    pub last : (j : ℕ) → k < j → j < symbol_count symbols → row_home symbols j ≡ r → row_address symbols j ≡ row_address symbols k → ⊥

  -- no symbol of the record lies at the address or below
  abbrev pub NoneQualifies : Type 0
  NoneQualifies = (j : ℕ) → j < symbol_count symbols → row_home symbols j ≡ r → row_address symbols j ≤ x.0 → ⊥

  -- the two sides of `qualifies`
  does_qualify : (j : ℕ) → row_home symbols j ≡ r → row_address symbols j ≤ x.0 → qualifies symbols r x j ≡ true
  unfolding qualifies
  does_qualify j h l = and_both (eqb (row_home symbols j) r) (leb (row_address symbols j) x.0) (eq-eqb (row_home symbols j) r h) (le-leb (row_address symbols j) x.0 l)

  home_qualifies : (j : ℕ) → qualifies symbols r x j ≡ true → row_home symbols j ≡ r
  unfolding qualifies
  home_qualifies j t = eqb-true (row_home symbols j) r (and_left (eqb (row_home symbols j) r) (leb (row_address symbols j) x.0) t)

  address_qualifies : (j : ℕ) → qualifies symbols r x j ≡ true → row_address symbols j ≤ x.0
  unfolding qualifies
  address_qualifies j t = leb-true (row_address symbols j) x.0 (and_right (eqb (row_home symbols j) r) (leb (row_address symbols j) x.0) t)

  abbrev taken : ℕ → Bool
  taken = qualifies symbols r x

  abbrev Top : ℕ → Type 0
  Top = Greatest taken (row_address symbols) (symbol_count symbols)

  top_is : (k : ℕ) → Top k → IsNearest k (x.0 - row_address symbols k)
  top_is k g =
      record {
        listed = g.below;
        own = home_qualifies k g.taken;
        not_above = address_qualifies k g.taken;
        distance = refl;
        most = λ j l h a. g.most j l (does_qualify j h a);
        last = λ j b l h e. let z = address_qualifies k g.taken in let m = g.last j b l (does_qualify j h (omega arith)) in omega arith;
      }

  is_top : (k d : ℕ) → IsNearest k d → Top k
  is_top k d i =
      record {
        below = i.listed;
        taken = does_qualify k i.own i.not_above;
        most = λ j l t. i.most j l (home_qualifies j t) (address_qualifies j t);
        last = λ j b l t.
            let m = i.most j l (home_qualifies j t) (address_qualifies j t) in
            ⊎_elim (λ e. absurd (i.last j b l (home_qualifies j t) e)) (λ q. q) (eq-or-lt_of_le m);
      }

  -- what is the nearest is the answer
  pub nearest_is_found : (k d : ℕ) → IsNearest k d → nearest symbols r x ≡ Ok (record { symbol = k; distance = d })
  unfolding with_distance
  nearest_is_found k d i = rw (greatest_is taken (row_address symbols) (symbol_count symbols) k (is_top k d i), i.distance)

  -- and 21 it is where none qualifies
  pub none_is_refused : NoneQualifies → nearest symbols r x ≡ Err NoRoutine
  unfolding with_distance
  none_is_refused o =
      rw (none_is taken (row_address symbols) (symbol_count symbols) (λ j l. ⊎_elim (λ t. absurd (o j l (home_qualifies j t) (address_qualifies j t))) (λ f. f) (yes_no (taken j))))

  -- one of the two holds, so the other way round too
  pub record Nearby : Type 0 where
    pub symbol : ℕ
    pub distance : ℕ
    pub it : IsNearest symbol distance

  pub one_or_none : Nearby ⊎ NoneQualifies
  one_or_none =
      ⊎_elim
      (λ s. inl (record { symbol = s.it; distance = x.0 - row_address symbols s.it; it = top_is s.it s.greatest }))
      (λ o. inr (λ j l h a. not_both (taken j) (does_qualify j h a) (o j l)))
      (some_or_none taken (row_address symbols) (symbol_count symbols))

  pub found_is_nearest : (k d : ℕ) → nearest symbols r x ≡ Ok (record { symbol = k; distance = d }) → IsNearest k d
  unfolding symbol_of distance_of
  found_is_nearest k d e =
      ⊎_elim
      (λ s. let q = nearest_is_found s.symbol s.distance s.it in let a : s.symbol ≡ k = ap symbol_of (sym q ∙ e) in let b : s.distance ≡ d = ap distance_of (sym q ∙ e) in rw (← a, ← b) s.it)
      (λ o. let q = none_is_refused o in let z : ◌≡◌ {A = ℕ} 0 1 = cc in absurd (omega arith))
      one_or_none

  pub refused_is_none : (c : Refusal) → nearest symbols r x ≡ Err c → (c ≡ NoRoutine) × NoneQualifies
  refused_is_none c e =
      ⊎_elim
      (λ s. let q = nearest_is_found s.symbol s.distance s.it in let z : ◌≡◌ {A = ℕ} 0 1 = cc in absurd (omega arith))
      (λ o. let q = none_is_refused o in (cc, o))
      one_or_none
