-- One insertion: the list stays sorted, keeps its names, and gets that of j. Lemmas of ExternLaws.
use Rattle.std.proofs.Common.{Ordering, Less, Equal, Greater}
use Rattle.std.specs.Prelude.{◌≡◌, ◌⊎◌, length, get_or}
use Rattle.std.proofs.Math.Path.{refl, sym, ap}
use Rattle.std.proofs.Common.{◌∙◌, not-suc-le-zero, le_trans, le_of_suc-le-suc}
use mathlib.Core.List.{List, [], ◌∷◌}
use Rattle.std.proofs.Math.Logic.{inl, inr, ⊎_elim}
use Prim.Native.Nat.{ℕ, zero, suc, ◌≤◌, ◌<◌, min}
use Rattle.std.proofs.Math.Nat.{le_refl}
use native.Mathlib.Omega.{arith}
use Rattle.util.specs.Pick.{le_or_lt, three_ways}
use Rattle.object.specs.declared.Header.{Header}
use Rattle.names.specs.Bytes.{compare_bytes}
use Rattle.names.specs.Name.{symbol_text}
use Rattle.names.specs.OrderLaws.{equal_same, compare_self, turned, compare_turned, less_less, less_not_self}
use Rattle.externs.specs.Externs.{order_of, by_order, insert_name}

-- ---- a list by its members
abbrev pub In : ℕ → List ℕ → Type 0
In y [] = ⊥
In y (x ∷ xs) = (y ≡ x) ⊎ In y xs

-- the name of x comes before those of xs
abbrev pub Above : List ℕ → Header → ℕ → List ℕ → Type 0
Above f h x xs = (y : ℕ) → In y xs → order_of f h x y ≡ Less

-- each name comes before those behind it, so none stands there twice
abbrev pub Rising : List ℕ → Header → List ℕ → Type 0
Rising f h [] = Unit {0}
Rising f h (x ∷ xs) = Above f h x xs × Rising f h xs

-- a member has j's name, and no number above j
pub record Has (f : List ℕ) (h : Header) (j : ℕ) (xs : List ℕ) : Type 0 where
  pub entry : ℕ
  pub is : In entry xs
  pub named : symbol_text f h entry ≡ symbol_text f h j
  pub lowest : entry ≤ j

min_either : (a b : ℕ) → (min a b ≡ a) ⊎ (min a b ≡ b)
min_either a b = ⊎_elim (λ k. inl (omega arith)) (λ k. inr (omega arith)) (le_or_lt a b)

-- ---- one insertion
module _ (f : List ℕ) (h : Header) (j : ℕ) where
  -- of two equal names the lower number has both
  pub min_name : (x : ℕ) → order_of f h j x ≡ Equal → symbol_text f h (min j x) ≡ symbol_text f h x
  min_name x e =
      ⊎_elim (λ m. ap (symbol_text f h) m ∙ equal_same (symbol_text f h j) (symbol_text f h x) e) (λ m. ap (symbol_text f h) m) (min_either j x)

  pub in_insert : (y : ℕ) (xs : List ℕ) → In y (insert_name f h j xs) → (y ≡ j) ⊎ In y xs
  unfolding insert_name
  in_insert y [] p = p
  in_insert y (x ∷ xs) p = by_order_lem (order_of f h j x) (in_insert y xs) p
    where
      by_order_lem : (o : Ordering) → (In y (insert_name f h j xs) → (y ≡ j) ⊎ In y xs)
          → In y (by_order o (j ∷ x ∷ xs) (min j x ∷ xs) (x ∷ insert_name f h j xs)) → (y ≡ j) ⊎ ((y ≡ x) ⊎ In y xs)
      by_order_lem Less rest q = q
      by_order_lem Equal rest q =
          ⊎_elim (λ e. ⊎_elim (λ m. inl (e ∙ m)) (λ m. inr (inl (e ∙ m))) (min_either j x)) (λ r. inr (inr r)) q
      by_order_lem Greater rest q = ⊎_elim (λ e. inr (inl e)) (λ r. ⊎_elim (λ e. inl e) (λ s. inr (inr s)) (rest r)) q

  pub rise : (xs : List ℕ) → Rising f h xs → Rising f h (insert_name f h j xs)
  unfolding insert_name
  rise [] r = (λ y p. absurd p, tt)
  rise (x ∷ xs) r = by_order_lem (order_of f h j x) refl (rise xs r.1)
    where
      by_order_lem : (o : Ordering) → order_of f h j x ≡ o → Rising f h (insert_name f h j xs)
          → Rising f h (by_order o (j ∷ x ∷ xs) (min j x ∷ xs) (x ∷ insert_name f h j xs))
      by_order_lem Less e s = (
        λ y p. ⊎_elim (λ q. ap (λ (z : ℕ). order_of f h j z) q ∙ e)
            (λ q. less_less (symbol_text f h j) (symbol_text f h x) (symbol_text f h y) e (r.0 y q)) p,
        r,
      )
      by_order_lem Equal e s = (λ y p. ap (λ (n : List ℕ). compare_bytes n (symbol_text f h y)) (min_name x e) ∙ r.0 y p, r.1)
      by_order_lem Greater e s = (
        λ y p. ⊎_elim
            (λ q. ap (λ (z : ℕ). order_of f h x z) q ∙ compare_turned (symbol_text f h j) (symbol_text f h x) ∙ ap turned e)
            (λ q. r.0 y q) (in_insert y xs p),
        s,
      )

  later : (y x : ℕ) (xs : List ℕ) → Has f h y xs → Has f h y (x ∷ xs)
  later y x xs k = record { entry = k.entry; is = inr k.is; named = k.named; lowest = k.lowest }

  -- what was there keeps its name, and so does j
  keep_in : (z : ℕ) (xs : List ℕ) → In z xs → Has f h z (insert_name f h j xs)
  unfolding insert_name
  keep_in z [] p = absurd p
  keep_in z (x ∷ xs) p = by_order_lem (order_of f h j x) refl (keep_in z xs)
    where
      by_order_lem : (o : Ordering) → order_of f h j x ≡ o → (In z xs → Has f h z (insert_name f h j xs))
          → Has f h z (by_order o (j ∷ x ∷ xs) (min j x ∷ xs) (x ∷ insert_name f h j xs))
      by_order_lem Less e rest = record { entry = z; is = inr p; named = refl; lowest = le_refl z }
      by_order_lem Equal e rest =
          ⊎_elim (λ q. record { entry = min j x; is = inl refl; named = min_name x e ∙ ap (symbol_text f h) (sym q); lowest = omega arith })
          (λ q. record { entry = z; is = inr q; named = refl; lowest = le_refl z }) p
      by_order_lem Greater e rest =
          ⊎_elim (λ q. record { entry = z; is = inl q; named = refl; lowest = le_refl z }) (λ q. later z x (insert_name f h j xs) (rest q)) p

  pub keep : (y : ℕ) (xs : List ℕ) → Has f h y xs → Has f h y (insert_name f h j xs)
  keep y xs k =
      let m = keep_in k.entry xs k.is in
      record { entry = m.entry; is = m.is; named = m.named ∙ k.named; lowest = le_trans m.lowest k.lowest }

  pub put_in : (xs : List ℕ) → Has f h j (insert_name f h j xs)
  unfolding insert_name
  put_in [] = record { entry = j; is = inl refl; named = refl; lowest = le_refl j }
  put_in (x ∷ xs) = by_order_lem (order_of f h j x) refl (put_in xs)
    where
      by_order_lem : (o : Ordering) → order_of f h j x ≡ o → Has f h j (insert_name f h j xs)
          → Has f h j (by_order o (j ∷ x ∷ xs) (min j x ∷ xs) (x ∷ insert_name f h j xs))
      by_order_lem Less e rest = record { entry = j; is = inl refl; named = refl; lowest = le_refl j }
      by_order_lem Equal e rest =
          record {
            entry = min j x;
            is = inl refl;
            named = min_name x e ∙ sym (equal_same (symbol_text f h j) (symbol_text f h x) e);
            lowest = omega arith;
          }
      by_order_lem Greater e rest = later j x (insert_name f h j xs) rest

  -- a symbol whose name is there, under no higher number, adds nothing
  pub put_again : (xs : List ℕ) → Rising f h xs → Has f h j xs → insert_name f h j xs ≡ xs
  unfolding insert_name
  put_again [] r k = absurd k.is
  put_again (x ∷ xs) r k = ⊎_elim here (λ q. behind q (put_again xs r.1 (record { entry = k.entry; is = q; named = k.named; lowest = k.lowest }))) k.is
    where
      here : k.entry ≡ x → by_order (order_of f h j x) (j ∷ x ∷ xs) (min j x ∷ xs) (x ∷ insert_name f h j xs) ≡ x ∷ xs
      here e =
          let n : symbol_text f h x ≡ symbol_text f h j = ap (symbol_text f h) (sym e) ∙ k.named in
          let o : order_of f h j x ≡ Equal = rw n (compare_self (symbol_text f h j)) in
          let m : min j x ≡ x = let l = k.lowest in omega arith in
          rw (o, m)

      behind : In k.entry xs → insert_name f h j xs ≡ xs → by_order (order_of f h j x) (j ∷ x ∷ xs) (min j x ∷ xs) (x ∷ insert_name f h j xs) ≡ x ∷ xs
      behind q rest =
          let l : order_of f h x j ≡ Less = ap (compare_bytes (symbol_text f h x)) (sym k.named) ∙ r.0 k.entry q in
          let o : order_of f h j x ≡ Greater = compare_turned (symbol_text f h x) (symbol_text f h j) ∙ ap turned l in
          rw (o, rest)

pub insert_grows : (f : List ℕ) (h : Header) (j : ℕ) (xs : List ℕ) → length xs ≤ length (insert_name f h j xs)
unfolding insert_name
insert_grows f h j [] = omega arith
insert_grows f h j (x ∷ xs) = by_order_lem (order_of f h j x) (insert_grows f h j xs)
  where
    by_order_lem : (o : Ordering) → length xs ≤ length (insert_name f h j xs)
        → length (x ∷ xs) ≤ length (by_order o (j ∷ x ∷ xs) (min j x ∷ xs) (x ∷ insert_name f h j xs))
    by_order_lem Less k = omega arith
    by_order_lem Equal k = omega arith
    by_order_lem Greater k = omega arith

-- ---- members by their index
pub member : (xs : List ℕ) (e : ℕ) → e < length xs → In (get_or xs e 0) xs
member [] e k = absurd (not-suc-le-zero k)
member (x ∷ xs) zero k = inl refl
member (x ∷ xs) (suc e) k = inr (member xs e (le_of_suc-le-suc k))

-- y stands in xs, and where
pub record Index (y : ℕ) (xs : List ℕ) : Type 0 where
  pub index : ℕ
  pub inside : index < length xs
  pub is : get_or xs index 0 ≡ y

pub index_of : (y : ℕ) (xs : List ℕ) → In y xs → Index y xs
index_of y [] p = absurd p
index_of y (x ∷ xs) p =
    ⊎_elim (λ e. record { index = 0; inside = omega arith; is = sym e })
    (λ q. let r = index_of y xs q in record { index = suc r.index; inside = omega (arith, r.inside); is = r.is }) p

pub rising_at : (f : List ℕ) (h : Header) (xs : List ℕ) (i j : ℕ) → Rising f h xs → i < j → j < length xs → order_of f h (get_or xs i 0) (get_or xs j 0) ≡ Less
rising_at f h [] i j r p q = absurd (not-suc-le-zero q)
rising_at f h (x ∷ xs) i zero r p q = absurd (not-suc-le-zero p)
rising_at f h (x ∷ xs) zero (suc j) r p q = r.0 (get_or xs j 0) (member xs j (le_of_suc-le-suc q))
rising_at f h (x ∷ xs) (suc i) (suc j) r p q = rising_at f h xs i j r.1 (le_of_suc-le-suc p) (le_of_suc-le-suc q)

-- so no name stands twice
pub rising_once : (f : List ℕ) (h : Header) (xs : List ℕ) (i j : ℕ) → Rising f h xs → i < length xs → j < length xs
    → symbol_text f h (get_or xs i 0) ≡ symbol_text f h (get_or xs j 0) → i ≡ j
rising_once f h xs i j r p q e =
    ⊎_elim (λ k. absurd (less_not_self (symbol_text f h (get_or xs j 0)) (rw e at (rising_at f h xs i j r k q))))
    (⊎_elim (λ k. k) (λ k. absurd (less_not_self (symbol_text f h (get_or xs j 0)) (rw e at (rising_at f h xs j i r k p)))))
    (three_ways i j)
