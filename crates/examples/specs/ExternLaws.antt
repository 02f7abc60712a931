-- The extern list of `names_object` is its symbols in their order: each relocation puts a name behind all that are there, or the last one again.
use Rattle.std.specs.declared.cmp.Ordering.TheVariants.{Greater}
use Rattle.std.specs.Prelude.{◌≡◌, true, length, get_or}
use Rattle.std.proofs.Math.Path.{refl, ap}
use Rattle.std.proofs.Common.{sym, ◌∙◌, ⊎_elim}
use mathlib.Core.List.{List, [], ◌∷◌, ◌++◌, append-nil}
use Prim.Native.Nat.{ℕ, zero, suc, ◌-◌, ◌≤◌, ◌<◌, min}
use native.Mathlib.Omega.{arith}
use borrow.Author.Tests.{eq-eqb, lt-ltb}
use Rattle.util.specs.Fold.{fold_records, fold_sections}
use Rattle.util.specs.Pick.{pick, le_or_lt}
use Rattle.util.specs.Prefix.{list_to, length_list, list_at}
use Rattle.limits.specs.Limits.{MAX_RELOCATIONS}
use Rattle.object.specs.declared.Header.{Header}
use Rattle.object.specs.Symbol.{kind, symbol_place, left_after, auxiliaries_left, primary, is_symbol}
use Rattle.kinds.specs.declared.SymbolKind.TheVariants.{Data}
use Rattle.kinds.specs.declared.Place.TheVariants.{Undefined}
use Rattle.kinds.specs.Symbol.{is_function, code_or_data, kind_by, zero_place, place_by}
use Rattle.rules.specs.declared.Rule.TheVariants.{Extern}
use Rattle.names.specs.Name.{symbol_text}
use Rattle.names.specs.OrderLaws.{compare_self}
use Rattle.codes.specs.Code.{symbol_rule}
use Rattle.codes.specs.Puts.{puts_by, puts}
use Rattle.externs.specs.Externs.{order_of, insert_name, extern_step, extern_records, externs}
use Rattle.examples.specs.NamesObject.{MAX_NAMES, names_object, names_header}
use Rattle.examples.specs.FieldLaws.{text_count, symbol_is, value_is, section_is, symbol_type_is, class_is, auxiliaries_are}
use Rattle.examples.specs.NameLaws.{names_rise}

-- ---- one insertion
-- a name that comes behind all of xs goes behind them
insert_behind : (f : List ℕ) (h : Header) (j : ℕ) (xs ys : List ℕ) → ((e : ℕ) → e < length xs → order_of f h j (get_or xs e 0) ≡ Greater)
    → insert_name f h j (xs ++ ys) ≡ xs ++ insert_name f h j ys
unfolding insert_name
insert_behind f h j [] ys above = refl
insert_behind f h j (x ∷ xs) ys above =
    rw (above 0 (omega arith)) (ap (λ (l : List ℕ). x ∷ l) (insert_behind f h j xs ys (λ e q. above (suc e) (omega arith))))

-- and stays if it is there
insert_again : (f : List ℕ) (h : Header) (j : ℕ) → insert_name f h j (j ∷ []) ≡ j ∷ []
unfolding insert_name
insert_again f h j = let m : min j j ≡ j = omega arith in rw (compare_self (symbol_text f h j), m)

-- the numbers below n
abbrev pub numbers : ℕ → List ℕ
numbers n = list_to (λ (j : ℕ). j) n

module _ (n m : ℕ) (names : n ≤ MAX_NAMES) (most : m ≤ MAX_RELOCATIONS) where
  abbrev f : List ℕ
  f = names_object n m

  abbrev h : Header
  h = names_header n m

  -- ---- every record is a symbol's own, of data that is undefined
  pub none_left : (k : ℕ) → k ≤ n → auxiliaries_left f h k ≡ 0
  unfolding auxiliaries_left left_after pick
  none_left zero q = refl
  none_left (suc k) q = rw (none_left k (omega arith)) (auxiliaries_are n m names most k q)

  module _ (k : ℕ) (below : k < n) where
    pub is_primary : primary f h k ≡ true
    unfolding primary
    is_primary = eq-eqb (auxiliaries_left f h k) 0 (none_left k (omega arith))

    is_symbol_lem : is_symbol f h k ≡ true
    unfolding is_symbol
    is_symbol_lem = rw (lt-ltb k n below, is_primary)

    kind_is : kind f h k ≡ Data
    unfolding kind_by code_or_data is_function pick
    kind_is = rw (class_is n m names most k below, symbol_type_is n m names most k below)

    pub place_is : symbol_place f h k ≡ Undefined
    unfolding place_by zero_place pick
    place_is = rw (section_is n m names most k below, class_is n m names most k below, value_is n m names most k below)

    pub rule_is : symbol_rule f h k ≡ Extern
    rule_is = rw (kind_is, place_is)

    -- so a relocation to it puts its name
    puts_name_lem : puts f h k ≡ true
    unfolding puts puts_by
    puts_name_lem = rw (is_symbol_lem, rule_is)

  -- ---- behind the names of lower numbers
  above_numbers : (k : ℕ) → k < n → (e : ℕ) → e < length (numbers k) → order_of f h k (get_or (numbers k) e 0) ≡ Greater
  above_numbers k p e q =
      let l : length (numbers k) ≡ k = length_list (λ (j : ℕ). j) k in
      rw (list_at (λ (j : ℕ). j) 0 k e (omega arith)) (names_rise n m names e k (omega arith) p)

  put_next : (k : ℕ) → k < n → insert_name f h k (numbers k) ≡ numbers (suc k)
  unfolding list_to insert_name
  put_next k p = ap (insert_name f h k) (sym (append-nil (numbers k))) ∙ insert_behind f h k (numbers k) [] (above_numbers k p)

  put_last : (k : ℕ) → k < n → insert_name f h k (numbers (suc k)) ≡ numbers (suc k)
  unfolding list_to
  put_last k p = insert_behind f h k (numbers k) (k ∷ []) (above_numbers k p) ∙ ap (λ (l : List ℕ). numbers k ++ l) (insert_again f h k)

  module _ (some : 1 ≤ n) where
    -- relocation k: the next name, or the last one again
    put_one : (k : ℕ) → insert_name f h (min k (n - 1)) (numbers (min k n)) ≡ numbers (min (suc k) n)
    put_one k =
        ⊎_elim
        (λ q.
        let a : min k (n - 1) ≡ n - 1 = omega arith in
        let b : min k n ≡ suc (n - 1) = omega arith in
        let c : min (suc k) n ≡ suc (n - 1) = omega arith in
        rw (a, b, c) (put_last (n - 1) (omega arith)))
        (λ q.
        let a : min k (n - 1) ≡ k = omega arith in
        let b : min k n ≡ k = omega arith in
        let c : min (suc k) n ≡ suc k = omega arith in
        rw (a, b, c) (put_next k q))
        (le_or_lt n k)

    -- the list after the first k relocations
    pub records_are : (k : ℕ) → k ≤ m → extern_records f h (puts f h) 0 [] k ≡ numbers (min k n)
    unfolding fold_records extern_step list_to pick
    records_are zero q = let e : min 0 n ≡ 0 = omega arith in rw e
    records_are (suc k) q =
        rw (symbol_is n m names most k q, puts_name_lem (min k (n - 1)) (omega arith), records_are k (omega arith)) (put_one k)

    -- and after all of them
    pub externs_are : n ≤ m → externs f h ≡ numbers n
    unfolding fold_sections
    externs_are q = let e : min m n ≡ n = omega arith in rw (text_count n m names most, records_are m (omega arith), e)
