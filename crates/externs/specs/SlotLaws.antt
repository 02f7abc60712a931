-- What the slot of a name is, for every list of symbol numbers.
use Rattle.std.proofs.Math.Path.{◌≡◌}
use Rattle.std.specs.Prelude.{true, false, length, get_or, None, Some}
use mathlib.Core.List.{List, [], ◌∷◌}
use Rattle.std.proofs.Math.Logic.{⊎_elim}
use Prim.Native.Nat.{ℕ, zero, suc, ◌+◌, ◌<◌}
use Rattle.std.proofs.Common.{not-suc-le-zero, le_of_suc-le-suc}
use native.Mathlib.Omega.{arith}
use Rattle.util.specs.Pick.{pick, yes_no}
use Rattle.object.specs.declared.Header.{Header}
use Rattle.names.specs.Name.{symbol_text}
use Rattle.names.specs.OrderLaws.{same_bytes, same_self}
use Rattle.externs.specs.Slot.{symbol_has_name, slot_from, slot_of}

-- the slot of a name that the list has
pub record Slot (f : List ℕ) (h : Header) (list name : List ℕ) : Type 0 where
  pub index : ℕ
  pub found : slot_of f h list name ≡ Some index
  pub inside : index < length list
  pub named : symbol_text f h (get_or list index 0) ≡ name

-- the slot in xs, which stands at i: a places on
record SlotIn (f : List ℕ) (h : Header) (name : List ℕ) (i : ℕ) (xs : List ℕ) : Type 0 where
  past : ℕ
  found : slot_from f h name i xs ≡ Some (i + past)
  inside : past < length xs
  named : symbol_has_name f h name (get_or xs past 0) ≡ true

module _ (f : List ℕ) (h : Header) (name : List ℕ) where
  slot_first : (i x : ℕ) (xs : List ℕ) → symbol_has_name f h name x ≡ true → SlotIn f h name i (x ∷ xs)
  unfolding slot_from pick
  slot_first i x xs t =
      record { past = 0; found = let e : i + 0 ≡ i = omega arith in rw (t, e); inside = omega arith; named = t }

  slot_later : (i x : ℕ) (xs : List ℕ) → symbol_has_name f h name x ≡ false → SlotIn f h name (suc i) xs → SlotIn f h name i (x ∷ xs)
  unfolding slot_from pick
  slot_later i x xs t r =
      let e : i + suc r.past ≡ suc i + r.past = omega arith in
      record { past = suc r.past; found = rw (t, e) r.found; inside = omega (arith, r.inside); named = r.named }

  slot_search : (xs : List ℕ) (i e : ℕ) → e < length xs → symbol_has_name f h name (get_or xs e 0) ≡ true → SlotIn f h name i xs
  slot_search [] i e k t = absurd (not-suc-le-zero k)
  slot_search (x ∷ xs) i zero k t = slot_first i x xs t
  slot_search (x ∷ xs) i (suc e) k t =
      ⊎_elim (λ y. slot_first i x xs y) (λ n. slot_later i x xs n (slot_search xs (suc i) e (le_of_suc-le-suc k) t)) (yes_no (symbol_has_name f h name x))

  slot_whole : (list : List ℕ) → SlotIn f h name 0 list → Slot f h list name
  slot_whole list r =
      record {
        index = r.past;
        found = let e : 0 + r.past ≡ r.past = omega arith in rw e at r.found;
        inside = r.inside;
        named = same_bytes (symbol_text f h (get_or list r.past 0)) name r.named;
      }

  -- a name that some entry has is found, and where it is found it stands
  pub slot_of_entry : (list : List ℕ) (e : ℕ) → e < length list → symbol_text f h (get_or list e 0) ≡ name → Slot f h list name
  slot_of_entry list e k n = slot_whole list (slot_search list 0 e k (rw n (same_self name)))

  slot_from_lem : (xs : List ℕ) (i r : ℕ) → slot_from f h name i xs ≡ Some r → SlotIn f h name i xs
  unfolding slot_from pick
  slot_from_lem [] i r q = let z : ◌≡◌ {A = ℕ} 0 1 = cc in absurd (omega arith)
  slot_from_lem (x ∷ xs) i r q =
      ⊎_elim (λ y. slot_first i x xs y) (λ n. slot_later i x xs n (slot_from_lem xs (suc i) r (rw n at q))) (yes_no (symbol_has_name f h name x))

  -- a slot is an index of the list, and the name there is the one asked for
  pub slot_inside : (list : List ℕ) (e : ℕ) → slot_of f h list name ≡ Some e → e < length list
  slot_inside list e q =
      let s = slot_whole list (slot_from_lem list 0 e q) in
      let z : e ≡ s.index = cc in
      rw z s.inside

  pub slot_named_lem : (list : List ℕ) (e : ℕ) → slot_of f h list name ≡ Some e → symbol_text f h (get_or list e 0) ≡ name
  slot_named_lem list e q =
      let s = slot_whole list (slot_from_lem list 0 e q) in
      let z : e ≡ s.index = cc in
      rw z s.named

  -- a name that no entry has, and only such a name, has no slot
  pub slot_nothing : (list : List ℕ) (e : ℕ) → slot_of f h list name ≡ None → e < length list → symbol_text f h (get_or list e 0) ≡ name → ⊥
  slot_nothing list e q k n =
      let s = slot_of_entry list e k n in
      let z : ◌≡◌ {A = ℕ} 0 1 = cc s.found in
      omega arith
