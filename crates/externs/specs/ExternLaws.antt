-- What the list of externs is, for every file and every choice of the symbols that put their names: sorted, each name once, exactly the names put, with the lowest numbers.
use Rattle.refusal.specs.declared.Refusal.{Refusal}
use Rattle.std.proofs.Common.{Less, Equal}
use Rattle.std.specs.Prelude.{leb, ◌≡◌, Bool, get_or, take, replicate, Some, Result, Ok, Err, Option, None}
use Rattle.std.proofs.Common.{leb-true, leb-false, sym, ap, ◌∙◌, arith, length-take-le}
use Rattle.std.proofs.Math.Path.{refl}
use Rattle.std.proofs.Math.Bool.{true, false}
use mathlib.Core.List.{List, [], ◌++◌}
use Rattle.std.proofs.Math.Logic.{⊎_elim}
use Prim.Native.Nat.{ℕ, zero, suc, ◌≤◌, ◌<◌, ◌-◌}
use Rattle.std.proofs.Math.Nat.{le_refl}
use Rattle.std.proofs.Math.ListN.{length}
use Rattle.std.proofs.Math.Seq.{take-append_seam}
use Rattle.util.specs.Pick.{pick, yes_no}
use Rattle.util.specs.Fold as Fold
use Rattle.util.specs.Fold.{fold_records, sections_each, sections_made}
use Rattle.object.specs.declared.Header.{Header}
use Rattle.object.specs.Section.{relocation_count}
use Rattle.object.specs.Relocation.{relocation_symbol}
use Rattle.names.specs.Name.{symbol_text}
use Rattle.names.specs.OrderLaws.{compare_self, equal_same}
use Rattle.limits.specs.Limits.{MAX_EXTERNS, EXTERN_ROOM}
use Rattle.externs.specs.Externs.{order_of, insert_name, extern_step, extern_records, externs_to, externs_by, Holds, names_of, slot_words}
use Rattle.externs.specs.Slot.{slot_of}
use Rattle.externs.specs.SlotLaws.{Slot, slot_of_entry}
use Rattle.externs.specs.Inserting.{In, Rising, Has, in_insert, rise, keep, put_in, insert_grows, member, index_of, rising_at, rising_once}

-- y is the symbol of a relocation that puts its name, in one of the first m sections
pub record Put (f : List ℕ) (h : Header) (puts : ℕ → Bool) (m y : ℕ) : Type 0 where
  pub section : ℕ
  pub which : ℕ
  pub within : section < m
  pub inside : which < relocation_count f h section
  pub does : puts (relocation_symbol f h section which) ≡ true
  pub is : y ≡ relocation_symbol f h section which

-- some entry has j's name
pub record Entry (f : List ℕ) (h : Header) (list : List ℕ) (j : ℕ) : Type 0 where
  pub index : ℕ
  pub inside : index < length list
  pub named : order_of f h (get_or list index 0) j ≡ Equal

-- ---- the relocations of all sections
module _ (f : List ℕ) (h : Header) (puts : ℕ → Bool) where
  step_up : (xs : List ℕ) (i k : ℕ) → length xs ≤ length (extern_step f h puts xs i k)
  unfolding extern_step pick
  step_up xs i k = by_put (puts (relocation_symbol f h i k))
    where
      by_put : (b : Bool) → length xs ≤ length (pick b (insert_name f h (relocation_symbol f h i k) xs) xs)
      by_put true = insert_grows f h (relocation_symbol f h i k) xs
      by_put false = le_refl (length xs)

  -- the list only grows with more records, and with more sections
  pub records_grow : (i : ℕ) (xs : List ℕ) (k m : ℕ) → k ≤ m → length (extern_records f h puts i xs k) ≤ length (extern_records f h puts i xs m)
  records_grow = Fold.records_grow (extern_step f h puts) length step_up

  pub sections_grow : (i m : ℕ) → i ≤ m → length (externs_to f h puts i) ≤ length (externs_to f h puts m)
  sections_grow = Fold.sections_grow (extern_step f h puts) length step_up (relocation_count f h) []

  step_rise : (xs : List ℕ) (i k : ℕ) → Rising f h xs → Rising f h (extern_step f h puts xs i k)
  unfolding extern_step pick
  step_rise xs i k s = by_put (puts (relocation_symbol f h i k))
    where
      by_put : (b : Bool) → Rising f h (pick b (insert_name f h (relocation_symbol f h i k) xs) xs)
      by_put true = rise f h (relocation_symbol f h i k) xs s
      by_put false = s

  sections_rise : (m : ℕ) → Rising f h (externs_to f h puts m)
  sections_rise m = sections_each (extern_step f h puts) (Rising f h) (relocation_count f h) [] m (λ i k xs l q. step_rise xs i k) tt

  step_keep : (y : ℕ) (xs : List ℕ) (i k : ℕ) → Has f h y xs → Has f h y (extern_step f h puts xs i k)
  unfolding extern_step pick
  step_keep y xs i k s = by_put (puts (relocation_symbol f h i k))
    where
      by_put : (b : Bool) → Has f h y (pick b (insert_name f h (relocation_symbol f h i k) xs) xs)
      by_put true = keep f h (relocation_symbol f h i k) y xs s
      by_put false = s

  -- so do the records of a section, from a list that rises or has a name
  pub records_rise : (i : ℕ) (xs : List ℕ) (k : ℕ) → Rising f h xs → Rising f h (extern_records f h puts i xs k)
  unfolding fold_records
  records_rise i xs zero r = r
  records_rise i xs (suc k) r = step_rise (extern_records f h puts i xs k) i k (records_rise i xs k r)

  pub records_keep : (y i : ℕ) (xs : List ℕ) (k : ℕ) → Has f h y xs → Has f h y (extern_records f h puts i xs k)
  unfolding fold_records
  records_keep y i xs zero s = s
  records_keep y i xs (suc k) s = step_keep y (extern_records f h puts i xs k) i k (records_keep y i xs k s)

  sections_put : (i k m : ℕ) → i < m → k < relocation_count f h i → puts (relocation_symbol f h i k) ≡ true → Has f h (relocation_symbol f h i k) (externs_to f h puts m)
  unfolding extern_step pick
  sections_put i k m p q t =
      let j = relocation_symbol f h i k in
      sections_made (extern_step f h puts) (Has f h j) (step_keep j) (relocation_count f h) [] m i k p q (λ xs. rw t (put_in f h j xs))

  step_from : (y m : ℕ) (i k : ℕ) (xs : List ℕ) → i < m → k < relocation_count f h i → (In y xs → Put f h puts m y)
      → In y (extern_step f h puts xs i k) → Put f h puts m y
  unfolding extern_step pick
  step_from y m i k xs p q rest = by_put (puts (relocation_symbol f h i k)) refl
    where
      by_put : (b : Bool) → puts (relocation_symbol f h i k) ≡ b → In y (pick b (insert_name f h (relocation_symbol f h i k) xs) xs) → Put f h puts m y
      by_put true t s =
          ⊎_elim (λ e. record { section = i; which = k; within = p; inside = q; does = t; is = e }) rest (in_insert f h (relocation_symbol f h i k) y xs s)
      by_put false t s = rest s

  sections_from : (y m : ℕ) → In y (externs_to f h puts m) → Put f h puts m y
  sections_from y m = sections_each (extern_step f h puts) (λ xs. In y xs → Put f h puts m y) (relocation_count f h) [] m (step_from y m) (λ s. absurd s)

-- ---- the list of a file
module _ (f : List ℕ) (h : Header) (puts : ℕ → Bool) where
  -- sorted strictly by name; the same by indices
  pub externs_rise : Rising f h (externs_by f h puts)
  externs_rise = sections_rise f h puts h.sections

  pub externs_sorted : (i j : ℕ) → i < j → j < length (externs_by f h puts)
      → order_of f h (get_or (externs_by f h puts) i 0) (get_or (externs_by f h puts) j 0) ≡ Less
  externs_sorted i j p q = rising_at f h (externs_by f h puts) i j externs_rise p q

  -- so no name stands twice
  pub externs_once : (i j : ℕ) → i < length (externs_by f h puts) → j < length (externs_by f h puts)
      → order_of f h (get_or (externs_by f h puts) i 0) (get_or (externs_by f h puts) j 0) ≡ Equal → i ≡ j
  externs_once i j p q e =
      rising_once f h (externs_by f h puts) i j externs_rise p q
      (equal_same (symbol_text f h (get_or (externs_by f h puts) i 0)) (symbol_text f h (get_or (externs_by f h puts) j 0)) e)

  -- every name that a relocation puts is there
  pub externs_all : (i k : ℕ) → i < h.sections → k < relocation_count f h i → puts (relocation_symbol f h i k) ≡ true
      → Entry f h (externs_by f h puts) (relocation_symbol f h i k)
  externs_all i k p q t =
      let s = sections_put f h puts i k h.sections p q t in
      let r = index_of s.entry (externs_by f h puts) s.is in
      record {
        index = r.index;
        inside = r.inside;
        named = rw (r.is, s.named) (compare_self (symbol_text f h (relocation_symbol f h i k)));
      }

  -- every entry is the symbol of a relocation that puts its name
  pub externs_only : (e : ℕ) → e < length (externs_by f h puts) → Put f h puts h.sections (get_or (externs_by f h puts) e 0)
  externs_only e p = sections_from f h puts (get_or (externs_by f h puts) e 0) h.sections (member (externs_by f h puts) e p)

  -- an entry's number is the lowest of those that put its name
  pub externs_lowest : (e i k : ℕ) → e < length (externs_by f h puts) → i < h.sections → k < relocation_count f h i → puts (relocation_symbol f h i k) ≡ true
      → order_of f h (get_or (externs_by f h puts) e 0) (relocation_symbol f h i k) ≡ Equal → get_or (externs_by f h puts) e 0 ≤ relocation_symbol f h i k
  externs_lowest e i k p a b t o =
      let s = sections_put f h puts i k h.sections a b t in
      let r = index_of s.entry (externs_by f h puts) s.is in
      let j = relocation_symbol f h i k in
      let n : symbol_text f h (get_or (externs_by f h puts) e 0) ≡ symbol_text f h (get_or (externs_by f h puts) r.index 0) =
      equal_same (symbol_text f h (get_or (externs_by f h puts) e 0)) (symbol_text f h j) o ∙ sym s.named ∙ ap (symbol_text f h) (sym r.is) in
      let m : e ≡ r.index = externs_once e r.index p r.inside (rw n (compare_self (symbol_text f h (get_or (externs_by f h puts) r.index 0)))) in
      rw (m, r.is) s.lowest

  -- a relocation that puts its name finds its slot
  pub externs_slot : (i k : ℕ) → i < h.sections → k < relocation_count f h i → puts (relocation_symbol f h i k) ≡ true
      → Slot f h (externs_by f h puts) (symbol_text f h (relocation_symbol f h i k))
  externs_slot i k p q t =
      let r = externs_all i k p q t in
      slot_of_entry f h (symbol_text f h (relocation_symbol f h i k)) (externs_by f h puts) r.index r.inside
      (equal_same (symbol_text f h (get_or (externs_by f h puts) r.index 0)) (symbol_text f h (relocation_symbol f h i k)) r.named)

  -- each entry's own name has its index for a slot
  pub externs_own : (e : ℕ) → e < length (externs_by f h puts) → slot_of f h (externs_by f h puts) (symbol_text f h (get_or (externs_by f h puts) e 0)) ≡ Some e
  externs_own e p =
      let s = slot_of_entry f h (symbol_text f h (get_or (externs_by f h puts) e 0)) (externs_by f h puts) e p refl in
      let z : e ≡ s.index = externs_once e s.index p s.inside (rw s.named (compare_self (symbol_text f h (get_or (externs_by f h puts) e 0)))) in
      s.found ∙ ap Some (sym z)

-- ---- what the answer of `collect` says of the list ys and the buffer
-- what `collect` answers and leaves says so
pub kept_holds : (ys s : List ℕ) (r : Option ℕ) → r ≡ names_of ys → s ≡ slot_words ys → Holds ys s r
unfolding Holds slot_words pick
kept_holds ys s r e d =
    ⊎_elim
    (λ t.
    let w : s ≡ ys ++ replicate (EXTERN_ROOM - length ys) 0 = rw t at d in
    let c : r ≡ Some (length ys) = rw t at e in
    rw (c, w) (leb-true (length ys) MAX_EXTERNS t, take-append_seam ys (replicate (EXTERN_ROOM - length ys) 0)))
    (λ t. let c : r ≡ None = rw t at e in rw c (leb-false (length ys) MAX_EXTERNS t))
    (yes_no (leb (length ys) MAX_EXTERNS))

module _ (ys slots : List ℕ) (r : Option ℕ) (q : Holds ys slots r) where
  pub over_length : r ≡ None → MAX_EXTERNS < length ys
  unfolding Holds
  over_length e = rw e at q

  pub count_room : (n : ℕ) → r ≡ Some n → n ≤ MAX_EXTERNS
  unfolding Holds
  count_room n e = (rw e at q).0

  -- so they are a part of the buffer
  pub count_fits : (n : ℕ) → r ≡ Some n → length slots ≡ EXTERN_ROOM → n ≤ length slots
  count_fits n e q = let k : n ≤ MAX_EXTERNS = count_room n e in omega arith

  pub count_taken : (n : ℕ) → r ≡ Some n → length slots ≡ EXTERN_ROOM → length (take n slots) ≡ n
  count_taken n e q = length-take-le n slots (count_fits n e q)

  pub count_list : (n : ℕ) → r ≡ Some n → take n slots ≡ ys
  unfolding Holds
  count_list n e = (rw e at q).1

pub ruleset holds = (over_length, count_room, count_fits, count_taken, count_list)
