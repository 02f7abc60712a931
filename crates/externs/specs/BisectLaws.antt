-- The search in halves finds the slot: in every sorted list it answers as the plain search does, so in the list of externs.
use Rattle.std.proofs.Common.{Ordering, Less, Equal, Greater}
use Rattle.std.specs.Prelude.{◌≡◌, refl, Bool, List, length, get_or, None, Option, Some}
use Rattle.std.proofs.Common.{sym, ap, ◌∙◌, arith, eq-eqb, ne_eqb}
use Rattle.std.proofs.Math.Logic.{⊎_elim}
use Prim.Native.Nat.{ℕ, zero, suc, ◌+◌, ◌-◌, ◌/◌, ◌≤◌, ◌<◌}
use Rattle.util.specs.Pick.{pick, le_or_lt, three_ways}
use Rattle.object.specs.declared.Header.{Header}
use Rattle.names.specs.Bytes.{compare_bytes}
use Rattle.names.specs.Name.{symbol_text}
use Rattle.names.specs.OrderLaws.{equal_same, less_not_self, less_less, greater_less}
use Rattle.externs.specs.Externs.{externs_by}
use Rattle.externs.specs.Slot.{slot_of}
use Rattle.externs.specs.SlotLaws.{slot_of_entry, slot_inside, slot_named_lem}
use Rattle.externs.specs.Inserting.{Rising, rising_at, rising_once}
use Rattle.externs.specs.ExternLaws.{externs_rise}
use Rattle.externs.specs.Bisect.{name_order, by_side, halves, bisect}

module _ (f : List ℕ) (h : Header) (list name : List ℕ) where
  -- every entry of that name is one of the n from lo
  abbrev Within : ℕ → ℕ → Type 0
  Within lo n = (e : ℕ) → e < length list → symbol_text f h (get_or list e 0) ≡ name → (lo ≤ e) × (e < lo + n)

  -- a name that no entry has
  slot_none : (lo : ℕ) → Within lo 0 → None ≡ slot_of f h list name
  slot_none lo w = by_found (slot_of f h list name) refl
    where
      by_found : (s : Option ℕ) → slot_of f h list name ≡ s → None ≡ s
      by_found (Some e) q =
          let k = w e (slot_inside f h name list e q) (slot_named_lem f h name list e q) in
          absurd (omega arith)
      by_found None q = refl

  module _ (r : Rising f h list) (m : ℕ) where
    -- a name that comes before entry m's stands before m, one that comes after it behind m, and an equal one there
    before : (e : ℕ) → name_order f h name (get_or list m 0) ≡ Less → e < length list → symbol_text f h (get_or list e 0) ≡ name → e < m
    before e o k n =
        let a = symbol_text f h (get_or list e 0) in
        let b = symbol_text f h (get_or list m 0) in
        let p : compare_bytes a b ≡ Less = rw n o in
        ⊎_elim (λ q. q)
        (⊎_elim (λ q. absurd (less_not_self b (rw q at p)))
        (λ q. absurd (less_not_self a (less_less a b a p (rising_at f h list m e r q k)))))
        (three_ways e m)

    behind : (e : ℕ) → name_order f h name (get_or list m 0) ≡ Greater → m < length list → symbol_text f h (get_or list e 0) ≡ name → m < e
    behind e o inside n =
        let a = symbol_text f h (get_or list e 0) in
        let b = symbol_text f h (get_or list m 0) in
        let p : compare_bytes b a ≡ Less = rw n (greater_less name b o) in
        ⊎_elim (λ q. absurd (less_not_self a (less_less a b a (rising_at f h list e m r q inside) p)))
        (⊎_elim (λ q. absurd (less_not_self b (rw q at p))) (λ q. q))
        (three_ways e m)

    here : name_order f h name (get_or list m 0) ≡ Equal → m < length list → Some m ≡ slot_of f h list name
    here o inside =
        let n : name ≡ symbol_text f h (get_or list m 0) = equal_same name (symbol_text f h (get_or list m 0)) o in
        let s = slot_of_entry f h name list m inside (sym n) in
        let z : m ≡ s.index = rising_once f h list m s.index r inside s.inside (sym n ∙ sym s.named) in
        ap Some z ∙ sym s.found

  -- one turn, from what the two halves answer
  turn_slot : Rising f h list → (lo n : ℕ) (left right : Option ℕ) → 0 < n → lo + n ≤ length list → Within lo n
      → (Within lo (n / 2) → left ≡ slot_of f h list name)
      → (Within (lo + n / 2 + 1) (n - n / 2 - 1) → right ≡ slot_of f h list name)
      → by_side (name_order f h name (get_or list (lo + n / 2) 0)) left (Some (lo + n / 2)) right ≡ slot_of f h list name
  turn_slot r lo n left right more fits w on-left on-right = by_order_lem (name_order f h name (get_or list (lo + n / 2) 0)) refl
    where
      by_order_lem : (o : Ordering) → name_order f h name (get_or list (lo + n / 2) 0) ≡ o → by_side o left (Some (lo + n / 2)) right ≡ slot_of f h list name
      by_order_lem Less o = on-left (λ e p q. ((w e p q).0, before r (lo + n / 2) e o p q))
      by_order_lem Equal o = here r (lo + n / 2) o (omega arith)
      by_order_lem Greater o =
          on-right (λ e p q. let g = w e p q in let b = behind r (lo + n / 2) e o (omega arith) q in (omega arith, omega arith))

  halves_slot : Rising f h list → (turns lo n : ℕ) → n ≤ turns → lo + n ≤ length list → Within lo n → halves f h list name turns lo n ≡ slot_of f h list name
  unfolding halves pick
  halves_slot r zero lo n k fits w = slot_none lo (λ e p q. let g = w e p q in (g.0, omega arith))
  halves_slot r (suc turns) lo n k fits w =
      ⊎_elim (λ z. rw (eq-eqb n 0 (omega arith)) (slot_none lo (λ e p q. let g = w e p q in (g.0, omega arith))))
      (λ more. rw (ne_eqb n 0 (λ z. omega arith))
      (turn_slot r lo n (halves f h list name turns lo (n / 2)) (halves f h list name turns (lo + n / 2 + 1) (n - n / 2 - 1)) more fits w
      (halves_slot r turns lo (n / 2) (omega arith) (omega arith))
      (halves_slot r turns (lo + n / 2 + 1) (n - n / 2 - 1) (omega arith) (omega arith))))
      (le_or_lt n 0)

  -- in every list that rises by name, the search in halves gives the slot
  pub bisect_slot : Rising f h list → bisect f h list name ≡ slot_of f h list name
  bisect_slot r = halves_slot r (length list) 0 (length list) (omega arith) (omega arith) (λ e p q. (omega arith, omega arith))

-- so it does in the list of a file's externs
pub bisect_externs : (f : List ℕ) (h : Header) (puts : ℕ → Bool) (name : List ℕ) → bisect f h (externs_by f h puts) name ≡ slot_of f h (externs_by f h puts) name
bisect_externs f h puts name = bisect_slot f h (externs_by f h puts) name (externs_rise f h puts)
