-- The loops that gather the names: over the records of a section, and over the sections; what is left in the codes meanwhile. Assumes nothing.
use Rattle.refusal.specs.declared.Refusal.{Refusal}
use Rattle.std.specs.Prelude.{Option, Result, Ok, Err, Some, None}
use mathlib.Core.Path.{◌≡◌, refl, sym, ap, ◌∙◌, fun_ext}
use mathlib.Core.Bool.{Bool, true, false}
use mathlib.Core.List.{List, [], ◌∷◌, ◌++◌}
use mathlib.Core.Logic.{◌⊎◌, inl, inr, ⊎_elim}
use Prim.Native.Nat.{ℕ, zero, suc, ◌+◌, ◌-◌, ◌*◌, ◌/◌, ◌≤◌, ◌<◌}
use native.Mathlib.Numerals.{add-one}
use native.Mathlib.Omega.{arith}
use borrow.Author.Tests.{eqb-true, lt-leb, le-leb, lt-ltb, le-ltb, ltb-true}
use lib.Dec.{eqb, leb, ltb}
use lib.ListN.{length, get_or, take, drop, set, replicate, length-append, length-replicate, length-take, length-set}
use lib.Seq.{ext_get_or, take_at, length-take-le, take-take}
use Rattle.util.specs.Pick.{pick, yes_no, le_or_lt, not_both}
use Rattle.util.specs.Prefix.{length_list}
use Rattle.util.specs.Fold.{fold_records, fold_sections}
use Rattle.le.specs.Le.{get, part, splice, splice_in, splice_above, splice_long, part_most, get_same, part_at}
use Rattle.limits.specs.Limits.{MAX_EXTERNS, EXTERN_ROOM}
use Rattle.object.specs.declared.Header.{Header}
use Rattle.object.specs.declared.Records.{Records}
use Rattle.object.specs.declared.Relocation.{Relocation}
use Rattle.object.specs.Format.{RELOCATION_SIZE, RELOCATION_SYMBOL_AT}
use Rattle.object.specs.Section.{relocation_count}
use Rattle.object.specs.Relocation.{relocation_symbol, relocation_in, records_of, record_at, record_bytes, count_read, symbol_read, symbol_part}
use Rattle.names.specs.Name.{symbol_text}
use Rattle.codes.specs.Code.{SLOT, EXTERN, UNDEF_RECORD, UNDEF_EXTERN, is_extern, puts_in}
use Rattle.externs.specs.Externs.{insert_name, extern_step, extern_records, externs_to, Holds, names_of, slot_words}
use Rattle.externs.specs.ExternLaws.{records_grow, sections_grow, records_rise, records_keep, over_length, count_room, count_list}
use Rattle.externs.specs.Held.{held, Inserted}
use Rattle.externs.specs.Keys.{InStep, Keyed}
use Rattle.externs.specs.Inserting.{Rising, Has, rise, keep, put_in, put_again}
use Rattle.externs.specs.Slot.{slot_of}
use Rattle.externs.specs.Slotted.{settled, slotted_code, slotted_at, slotted_to, slotted, CodesAfter}
use Rattle.externs.specs.Spent.{spent, spend, Spends, Kept, Left, LeftFor, Passing}
use Rattle.externs.proofs.Laws.{held_length, step_none, holds_over, holds_count, held_list, cleared}

-- ---- the list and its keys
module _ (f : List ℕ) (h : Header) (l ks : List ℕ) where
  pub kept_none : Kept f h l ks 0
  unfolding held
  kept_none = record { step = step_none f h l ks; rising = tt }

  pub kept_step : (n : ℕ) → Kept f h l ks n → InStep f h l ks n
  kept_step n k = k.step

  pub kept_rising : (n : ℕ) → Kept f h l ks n → Rising f h (held n l)
  kept_rising n k = k.rising

  pub kept_more : (n j r : ℕ) (l' ks' : List ℕ) → Kept f h l ks n → Inserted f h j l n l' r → InStep f h l' ks' r → Kept f h l' ks' r
  kept_more n j r l' ks' k y e = record { step = e; rising = rw y.list (rise f h j (held n l) k.rising) }

-- ---- the codes of symbols that put their names
module _ (h : Header) (codes codes' : List ℕ) (j : ℕ) where
  pub spend_own : (c x : ℕ) → j < h.symbols → c ≡ get_or codes j 0 → x ≡ spent c → codes' ≡ splice codes j (x ∷ []) → codes' ≡ spend h codes j
  unfolding spend pick
  spend_own c x t e q d = rw (lt-ltb j h.symbols t, ← e, ← q) d

  pub spend_past : h.symbols ≤ j → codes ≡ spend h codes j
  unfolding spend pick
  spend_past t = rw (le-ltb j h.symbols t)

pub ruleset spending = (spend_own, spend_past)

-- such a symbol puts no name,
spent_puts : (c : ℕ) → is_extern (spent c) ≡ false
unfolding spent pick
spent_puts c = ⊎_elim (λ e. rw e) (λ e. rw e) (yes_no (eqb c UNDEF_EXTERN))

-- and comes to what it would come to
spent_slotted : (c : ℕ) (x : Option ℕ) → is_extern c ≡ true → slotted_code (spent c) x ≡ slotted_code c x
unfolding spent slotted_code settled pick
spent_slotted c x t =
    ⊎_elim (λ e. let z : c ≡ EXTERN = eqb-true c EXTERN e in rw z)
    (λ e. let z : c ≡ UNDEF_EXTERN = eqb-true c UNDEF_EXTERN (rw e at t) in rw z)
    (yes_no (eqb c EXTERN))

-- a list with v at a place: it stands there, or what stood there before
set_cell : (s : List ℕ) (at v i : ℕ) → ((i ≡ at) × (get_or (set s at v) i 0 ≡ v)) ⊎ (get_or (set s at v) i 0 ≡ get_or s i 0)
set_cell [] at v i = inr refl
set_cell (y ∷ s) zero v zero = inl (refl, refl)
set_cell (y ∷ s) zero v (suc i) = inr refl
set_cell (y ∷ s) (suc at) v zero = inr refl
set_cell (y ∷ s) (suc at) v (suc i) = ⊎_elim (λ p. inl (ap suc p.0, p.1)) (λ e. inr e) (set_cell s at v i)

-- one more symbol puts its name: each code stays, or is that symbol's
spend_cell : (h : Header) (codes : List ℕ) (j x : ℕ)
    → ((x ≡ j) × ((j < h.symbols) × (get_or (spend h codes j) x 0 ≡ spent (get_or codes j 0)))) ⊎ (get_or (spend h codes j) x 0 ≡ get_or codes x 0)
unfolding spend splice pick
spend_cell h codes j x =
    ⊎_elim
    (λ t. rw t (⊎_elim (λ p. inl (p.0, (ltb-true j h.symbols t, p.1))) (λ e. inr e) (set_cell codes j (spent (get_or codes j 0)) x)))
    (λ t. rw t (inr refl)) (yes_no (ltb j h.symbols))

spend_long : (h : Header) (codes : List ℕ) (j : ℕ) → length (spend h codes j) ≡ length codes
unfolding spend splice pick
spend_long h codes j = ⊎_elim (λ t. rw t (length-set codes j (spent (get_or codes j 0)))) (λ t. rw t) (yes_no (ltb j h.symbols))

module _ (f : List ℕ) (h : Header) (old : List ℕ) where
  pub spends_none : (xs : List ℕ) → Spends f h old old xs
  spends_none xs = record { long = refl; each = λ j. inl refl }

  module _ (new xs : List ℕ) (s : Spends f h old new xs) where
    -- a symbol that puts its name still has the code that it had
    still : (j : ℕ) → puts_in new j ≡ true → get_or new j 0 ≡ get_or old j 0
    still j t = ⊎_elim (λ e. e) (λ p. not_both (puts_in new j) t (ap is_extern p.is ∙ spent_puts (get_or old j 0))) (s.each j)

    still_puts : (j : ℕ) → puts_in new j ≡ true → puts_in old j ≡ true
    still_puts j t = ap is_extern (sym (still j t)) ∙ t

    -- one that puts none changes nothing: it never does, or it has done so
    idle : (ys : List ℕ) (i k : ℕ) → Rising f h ys → ((j : ℕ) → Has f h j xs → Has f h j ys) → puts_in new (relocation_symbol f h i k) ≡ false → extern_step f h (puts_in old) ys i k ≡ ys
    unfolding extern_step pick
    idle ys i k r has t =
        ⊎_elim (λ e. let z : puts_in old (relocation_symbol f h i k) ≡ false = ap is_extern (sym e) ∙ t in rw z)
        (λ p. rw p.did (put_again f h (relocation_symbol f h i k) ys r (has (relocation_symbol f h i k) p.has)))
        (s.each (relocation_symbol f h i k))

    -- so do several
    idle_run : (i k d : ℕ) (start : List ℕ) → Rising f h xs → xs ≡ extern_records f h (puts_in old) i start k
        → ((q : ℕ) → k ≤ q → q < k + d → puts_in new (relocation_symbol f h i q) ≡ false) → xs ≡ extern_records f h (puts_in old) i start (k + d)
    unfolding fold_records
    idle_run i k zero start r e none = let z : k + 0 ≡ k = omega arith in rw z e
    idle_run i k (suc d) start r e none =
        let z : k + suc d ≡ suc (k + d) = omega arith in
        let before : xs ≡ extern_records f h (puts_in old) i start (k + d) = idle_run i k d start r e (λ q a b. none q a (omega arith)) in
        rw (z, ← before) (sym (idle xs i (k + d) r (λ j p. p) (none (k + d) (omega arith) (omega arith))))

    -- the records of a section put the same by the codes that are left as by the old ones
    pub same_records : (i k : ℕ) → Rising f h xs → extern_records f h (puts_in new) i xs k ≡ extern_records f h (puts_in old) i xs k
    unfolding fold_records extern_step pick
    same_records i zero r = refl
    same_records i (suc k) r =
        let ys = extern_records f h (puts_in new) i xs k in
        let j = relocation_symbol f h i k in
        let rest : ys ≡ extern_records f h (puts_in old) i xs k = same_records i k r in
        rw (← rest)
        (⊎_elim
        (λ (t : puts_in new j ≡ true). let o : puts_in old j ≡ true = still_puts j t in rw (t, o))
        (λ (t : puts_in new j ≡ false). rw t (sym (idle ys i k (records_rise f h (puts_in new) i xs k r) (λ y p. records_keep f h (puts_in new) y i xs k p) t)))
        (yes_no (puts_in new j)))

    -- one symbol more
    spends_more : (j : ℕ) (new' ys : List ℕ) → puts_in new j ≡ true → new' ≡ spend h new j → ys ≡ insert_name f h j xs → Spends f h old new' ys
    spends_more j new' ys t e q =
        record {
          long = ap length e ∙ spend_long h new j ∙ s.long;
          each = λ x. ⊎_elim
              (λ c. inr (record {
                inside = rw c.0 c.1.0;
                did = rw c.0 (still_puts j t);
                is = ap (λ (l : List ℕ). get_or l x 0) e ∙ c.1.1 ∙ ap spent (still j t) ∙ rw c.0;
                has = rw (c.0, q) (put_in f h j xs);
              }))
              (λ c. ⊎_elim (λ k. inl (ap (λ (l : List ℕ). get_or l x 0) e ∙ c ∙ k))
              (λ p. inr (record { inside = p.inside; did = p.did; is = ap (λ (l : List ℕ). get_or l x 0) e ∙ c ∙ p.is; has = rw q (keep f h j x xs p.has) }))
              (s.each x))
              (spend_cell h new j x);
        }

    -- and what a section's records leave
    pub spends_on : (new' ys : List ℕ) → Spends f h new new' ys → ((j : ℕ) → Has f h j xs → Has f h j ys) → Spends f h old new' ys
    spends_on new' ys m has =
        record {
          long = m.long ∙ s.long;
          each = λ x. ⊎_elim
              (λ a. ⊎_elim (λ b. inl (a ∙ b)) (λ p. inr (record { inside = p.inside; did = p.did; is = a ∙ p.is; has = has x p.has })) (s.each x))
              (λ a. inr (record { inside = a.inside; did = still_puts x a.did; is = a.is ∙ ap spent (still x a.did); has = a.has }))
              (m.each x);
        }

    -- once the slots are put in, nothing is left of it
    slotted_each : (ys : List ℕ) → slotted_at f h ys new ≡ slotted_at f h ys old
    unfolding slotted_at
    slotted_each ys =
        fun_ext (λ j. ⊎_elim (λ e. rw e) (λ p. rw p.is (spent_slotted (get_or old j 0) (slot_of f h ys (symbol_text f h j)) p.did)) (s.each j))

    pub slotted_same : (ys : List ℕ) → slotted f h ys new ≡ slotted f h ys old
    slotted_same ys =
        let vs = slotted_to f h ys old h.symbols in
        let n : length vs ≡ h.symbols = length_list (slotted_at f h ys old) h.symbols in
        let long : length (splice new 0 vs) ≡ length (splice old 0 vs) = splice_long new (splice new 0 vs) 0 vs refl ∙ s.long ∙ sym (splice_long old (splice old 0 vs) 0 vs refl) in
        rw (slotted_each ys)
        (ext_get_or 0 (splice new 0 vs) (splice old 0 vs) long
        (λ i k.
        let a : i < length new = rw (splice_long new (splice new 0 vs) 0 vs refl) at k in
        ⊎_elim
        (λ (p : length vs ≤ i).
        splice_above new 0 vs i (omega arith) ∙ ⊎_elim (λ e. e) (λ q. let z = q.inside in absurd (omega arith)) (s.each i) ∙ sym (splice_above old 0 vs i (omega arith)))
        (λ (p : i < length vs).
        let m = s.long in
        let x : get_or (splice new 0 vs) (0 + i) 0 ≡ get_or vs i 0 = splice_in new 0 vs i p (omega arith) in
        let y : get_or (splice old 0 vs) (0 + i) 0 ≡ get_or vs i 0 = splice_in old 0 vs i p (omega arith) in
        let o : 0 + i ≡ i = omega arith in
        (rw o at x) ∙ sym (rw o at y))
        (le_or_lt (length vs) i)))

-- ---- records that put no name are passed
module _ (t codes : List ℕ) (k : ℕ) where
  pub pass_none : Passing t codes k k
  pass_none = record { low = omega arith; whole = λ q a b. omega arith; none = λ q a b. absurd (omega arith) }

  pub pass_more : (q s : ℕ) (b : Bool) → Passing t codes k q → q < length t / RELOCATION_SIZE
      → s ≡ get 4 (take (RELOCATION_SIZE * q + RELOCATION_SIZE - RELOCATION_SIZE * q) (drop (RELOCATION_SIZE * q) t)) RELOCATION_SYMBOL_AT
      → b ≡ puts_in codes s → b ≡ false → Passing t codes k (q + 1)
  unfolding part
  pass_more q s b p lt e is not =
      let l = p.low in
      let z : RELOCATION_SIZE * q + RELOCATION_SIZE - RELOCATION_SIZE * q ≡ RELOCATION_SIZE = omega arith in
      let there : s ≡ get 4 t (RELOCATION_SIZE * q + RELOCATION_SYMBOL_AT) =
      (rw z at e)
      ∙ get_same 4 (part t (RELOCATION_SIZE * q) RELOCATION_SIZE) t RELOCATION_SYMBOL_AT (RELOCATION_SIZE * q + RELOCATION_SYMBOL_AT)
      (λ d m. part_at t (RELOCATION_SIZE * q) RELOCATION_SIZE (RELOCATION_SYMBOL_AT + d) (omega arith)
      ∙ (let y : RELOCATION_SIZE * q + (RELOCATION_SYMBOL_AT + d) ≡ RELOCATION_SIZE * q + RELOCATION_SYMBOL_AT + d = omega arith in ap (λ (x : ℕ). get_or t x 0) y))
      in
      record {
        low = omega arith;
        whole = λ i a c. ⊎_elim (λ (g : q ≤ i). let y : i ≡ q = omega arith in rw y (omega arith)) (λ g. p.whole i a g) (le_or_lt q i);
        none = λ i a c. ⊎_elim (λ (g : q ≤ i). let y : i ≡ q = omega arith in rw (y, ← there) (sym is ∙ not)) (λ g. p.none i a g) (le_or_lt q i);
      }

  pub pass_in : (q : ℕ) → q < length t / RELOCATION_SIZE → RELOCATION_SIZE * q + RELOCATION_SIZE ≤ length t
  pass_in q lt = omega arith

  pub pass_end : (q n : ℕ) → Passing t codes k q → q ≤ n → n ≤ q → Passing t codes k n
  pass_end q n p a b = let e : q ≡ n = omega arith in rw e at p

pub ruleset pass_loop = (pass_none, pass_more, pass_in, pass_end)

-- ---- the relocations of a section: by the codes `old` that they had first, of which `new` are left
module _ (f : List ℕ) (h : Header) (old : List ℕ) (i : ℕ) (start : List ℕ) where
  pub records_none : start ≡ extern_records f h (puts_in old) i start 0
  unfolding fold_records
  records_none = refl

  module _ (rs : Records) (is : rs ≡ records_of f h i) where
    -- record k puts its symbol's name
    module _ (new l a : List ℕ) (n k m : ℕ) (b : Bool) (x : Relocation) (read : x ≡ relocation_in f (record_at rs k)) (does : b ≡ puts_in new x.symbol) (sure : b ≡ true)
        (s : Spends f h old new (held n l)) (q : held n l ≡ extern_records f h (puts_in old) i start k) (y : Inserted f h x.symbol l n a m) where
      records_one : held m a ≡ extern_records f h (puts_in old) i start (k + 1)
      unfolding fold_records extern_step pick
      records_one =
          let symbol : x.symbol ≡ relocation_symbol f h i k = symbol_read f h i rs x k is read in
          let puts : puts_in old (relocation_symbol f h i k) ≡ true = rw symbol at (still_puts f h old new (held n l) s x.symbol (sym does ∙ sure)) in
          rw (add-one, puts, ← symbol, ← q) y.list

      pub records_over : (z : List ℕ) → k < rs.count → n ≤ MAX_EXTERNS → MAX_EXTERNS < length l → length a ≡ length l → MAX_EXTERNS < m
          → Holds (extern_records f h (puts_in old) i start (relocation_count f h i)) z None
      records_over z lt few room same over =
          holds_over (extern_records f h (puts_in old) i start (relocation_count f h i)) z
          (omega (
            arith,
            held_length m a (omega (arith, y.room)),
            ap length records_one,
            records_grow f h (puts_in old) i start (k + 1) (relocation_count f h i) (let c = count_read f h i rs is in omega arith),
          ))

    module _ (t : List ℕ) (bytes : t ≡ record_bytes f rs) where
      -- no record is passed that is none of the section's
      pub pass_room : (codes : List ℕ) (k r : ℕ) → Passing t codes (k + 1) r → k < rs.count → r ≤ rs.count
      unfolding record_bytes
      pass_room codes k r p lt =
          ⊎_elim (λ (a : r ≤ k + 1). omega arith)
          (λ (a : k + 1 < r).
          let w = p.whole (r - 1) (omega arith) (omega arith) in
          let m : length t ≤ RELOCATION_SIZE * rs.count = rw bytes (part_most f (record_at rs 0) (RELOCATION_SIZE * rs.count)) in
          omega arith)
          (le_or_lt r (k + 1))

      passed : (new xs : List ℕ) → Spends f h old new xs → Rising f h xs → (k r : ℕ) → Passing t new k r → xs ≡ extern_records f h (puts_in old) i start k
          → xs ≡ extern_records f h (puts_in old) i start r
      passed new xs s rises k r p q =
          let l = p.low in
          let z : k + (r - k) ≡ r = omega arith in
          rw z at
          (idle_run f h old new xs s i k (r - k) start rises q
          (λ m a b.
          let at : get 4 t (RELOCATION_SIZE * m + RELOCATION_SYMBOL_AT) ≡ relocation_symbol f h i m =
          symbol_part f h i rs (relocation_in f (record_at rs m)) m is refl t bytes (p.whole m a (omega arith)) ∙ symbol_read f h i rs (relocation_in f (record_at rs m)) m is refl
          in
          rw (← at) (p.none m a (omega arith))))

      module _ (new l ks : List ℕ) (n k r : ℕ) (b : Bool) (x : Relocation) (read : x ≡ relocation_in f (record_at rs k)) (does : b ≡ puts_in new x.symbol)
          (s : Spends f h old new (held n l)) (q : held n l ≡ extern_records f h (puts_in old) i start k) where
        pub records_pass : b ≡ false → Kept f h l ks n → Passing t new (k + 1) r → held n l ≡ extern_records f h (puts_in old) i start r
        records_pass not kept p =
            passed new (held n l) s kept.rising (k + 1) r p
            (idle_run f h old new (held n l) s i k 1 start kept.rising q
            (λ m a c. let z : m ≡ k = omega arith in rw (z, ← symbol_read f h i rs x k is read) (sym does ∙ not)))

        pub records_more : (m : ℕ) (a new' : List ℕ) → b ≡ true → Inserted f h x.symbol l n a m → Kept f h a ks m → new' ≡ spend h new x.symbol → Passing t new' (k + 1) r
            → held m a ≡ extern_records f h (puts_in old) i start r
        records_more m a new' sure y kept e p =
            passed new' (held m a) (spends_more f h old new (held n l) s x.symbol new' (held m a) (sym does ∙ sure) e y.list) kept.rising (k + 1) r p
            (records_one new l a n k m b x read does sure s q y)

    pub records_end : (k n : ℕ) (l : List ℕ) → k ≤ rs.count → rs.count ≤ k → n ≤ MAX_EXTERNS → held n l ≡ extern_records f h (puts_in old) i start k
        → Holds (extern_records f h (puts_in old) i start (relocation_count f h i)) l (Some n)
    records_end k n l a b few q =
        let e : k ≡ relocation_count f h i = let z = count_read f h i rs is in omega arith in
        holds_count (extern_records f h (puts_in old) i start (relocation_count f h i)) l n few (rw e at q)

-- the codes that one more symbol leaves
pub records_spent : (f : List ℕ) (h : Header) (old new new' l a : List ℕ) (n j m : ℕ) (b : Bool) → b ≡ puts_in new j → b ≡ true → Spends f h old new (held n l) → Inserted f h j l n a m
    → new' ≡ spend h new j → Spends f h old new' (held m a)
records_spent f h old new new' l a n j m b does sure s y e = spends_more f h old new (held n l) s j new' (held m a) (sym does ∙ sure) e y.list

module _ (f : List ℕ) (h : Header) (old new l ks : List ℕ) where
  pub left_over : LeftFor f h old new l ks None
  unfolding LeftFor
  left_over = tt

  pub left_count : (n : ℕ) → Kept f h l ks n → Spends f h old new (held n l) → LeftFor f h old new l ks (Some n)
  unfolding LeftFor
  left_count n k s = record { list = k; codes = s }

  left_of : (r : Option ℕ) (n : ℕ) → LeftFor f h old new l ks r → r ≡ Some n → Left f h old new l ks n
  unfolding LeftFor
  left_of r n e q = rw q at e

pub ruleset records_loop = (records_none, records_pass, records_spent, records_more, records_over, records_end, left_over, left_count, pass_room)

-- ---- of all sections
module _ (f : List ℕ) (h : Header) (old : List ℕ) where
  pub externs_none : (l : List ℕ) → held 0 l ≡ externs_to f h (puts_in old) 0
  unfolding fold_sections held
  externs_none l = refl

  module _ (i n : ℕ) (l ks new a ks' new' : List ℕ) (r : Option ℕ) (kept : Kept f h l ks n) (s : Spends f h old new (held n l)) (q : held n l ≡ externs_to f h (puts_in old) i)
      (y : Holds (extern_records f h (puts_in new) i (held n l) (relocation_count f h i)) a r) where
    externs_suc : externs_to f h (puts_in old) (i + 1) ≡ extern_records f h (puts_in new) i (held n l) (relocation_count f h i)
    unfolding fold_sections
    externs_suc = rw (add-one, ← q) (sym (same_records f h old new (held n l) s i (relocation_count f h i) kept.rising))

    pub externs_more : (c : ℕ) → r ≡ Some c → held c a ≡ externs_to f h (puts_in old) (i + 1)
    externs_more c e = held_list (extern_records f h (puts_in new) i (held n l) (relocation_count f h i)) a r c y e ∙ sym externs_suc

    pub externs_over : (m t : ℕ) (b : List ℕ) → i < m → m ≡ t → r ≡ None → Holds (externs_to f h (puts_in old) t) b None
    externs_over m t b lt z e =
        holds_over (externs_to f h (puts_in old) t) b
        (omega (
          arith,
          over_length (extern_records f h (puts_in new) i (held n l) (relocation_count f h i)) a r y e,
          ap length externs_suc,
          sections_grow f h (puts_in old) (i + 1) t (omega arith),
        ))

    module _ (c : ℕ) (e : r ≡ Some c) (z : LeftFor f h new new' a ks' r) where
      pub externs_kept : Kept f h a ks' c
      externs_kept = (left_of f h new new' a ks' r c z e).list

      pub externs_spent : Spends f h old new' (held c a)
      externs_spent =
          spends_on f h old new (held n l) s new' (held c a) (left_of f h new new' a ks' r c z e).codes
          (λ j p. rw (held_list (extern_records f h (puts_in new) i (held n l) (relocation_count f h i)) a r c y e) (records_keep f h (puts_in new) j i (held n l) (relocation_count f h i) p))

  pub externs_end : (i m t n : ℕ) (l : List ℕ) → i ≤ m → m ≤ i → m ≡ t → n ≤ MAX_EXTERNS → held n l ≡ externs_to f h (puts_in old) i → Holds (externs_to f h (puts_in old) t) l (Some n)
  externs_end i m t n l a b z few q = let e : i ≡ t = omega arith in holds_count (externs_to f h (puts_in old) t) l n few (rw e at q)

pub ruleset externs_loop = (externs_none, externs_more, externs_over, externs_kept, externs_spent, externs_end, count_room, left_over, left_count, kept_none, spends_none)

-- ---- the whole
pub record Collected (f : List ℕ) (h : Header) (codes ys s codes' : List ℕ) (r : Option ℕ) : Type 0 where
  pub says : r ≡ names_of ys
  pub words : s ≡ slot_words ys
  pub long : length s ≡ EXTERN_ROOM
  pub slots : CodesAfter f h codes ys codes'

module _ (f : List ℕ) (h : Header) (codes ys s t : List ℕ) (r : Option ℕ) (holds : Holds ys s r) (room : length s ≡ EXTERN_ROOM) where
  pub kept_over : (left : List ℕ) → r ≡ None → t ≡ splice s 0 (replicate (length s - 0) 0) → Collected f h codes ys t left None
  unfolding slot_words pick
  kept_over left e d =
      let z : leb (length ys) MAX_EXTERNS ≡ false = lt-leb (length ys) MAX_EXTERNS (over_length ys s r holds e) in
      let w : t ≡ replicate EXTERN_ROOM 0 = rw room at (d ∙ cleared s 0 (omega arith)) in
      record { says = rw z; words = rw z w; long = rw w (length-replicate {A = ℕ} EXTERN_ROOM 0); slots = record { few = λ y. not_both (leb (length ys) MAX_EXTERNS) y z } }

  -- the first n words are the list
  front_is : (n : ℕ) → r ≡ Some n → t ≡ splice s n (replicate (length s - n) 0) → part t 0 n ≡ ys
  unfolding part
  front_is n e d =
      let few = count_room ys s r holds n e in
      let list = count_list ys s r holds n e in
      ap (λ (x : List ℕ). take n x) (d ∙ cleared s n (omega arith)) ∙ take_at (take n s) (replicate (length s - n) 0) n (rw (length-take n s) (omega arith)) ∙ list

  pub kept_few : (n : ℕ) (w ks left codes' : List ℕ) → r ≡ Some n → t ≡ splice s n (replicate (length s - n) 0) → w ≡ part t 0 n → LeftFor f h codes left s ks r → codes' ≡ slotted f h w left
      → Collected f h codes ys t codes' (Some n)
  unfolding slot_words pick
  kept_few n v ks left codes' e d q m p =
      let few = count_room ys s r holds n e in
      let list = count_list ys s r holds n e in
      let c : length (take n s) ≡ n = rw (length-take n s) (omega arith) in
      let size : length ys ≡ n = rw list at c in
      let z : leb (length ys) MAX_EXTERNS ≡ true = le-leb (length ys) MAX_EXTERNS (omega arith) in
      let w : t ≡ ys ++ replicate (EXTERN_ROOM - n) 0 = rw (list, room) at (d ∙ cleared s n (omega arith)) in
      record {
        says = rw (z, size);
        words = rw (z, size) w;
        long = rw (w, length-append, length-replicate {A = ℕ}) (omega arith);
        slots = record {
          few = λ y. p ∙ ap (λ (x : List ℕ). slotted f h x left) (q ∙ front_is n e d)
              ∙ slotted_same f h codes left (held n s) (left_of f h codes left s ks r n m e).codes ys;
        };
      }

-- the words that are kept rise, and the first keys are theirs
pub front_keyed : (f : List ℕ) (h : Header) (codes left ys s t w ks : List ℕ) (r : Option ℕ) (n : ℕ) → LeftFor f h codes left s ks r → Holds ys s r → length s ≡ EXTERN_ROOM → r ≡ Some n
    → t ≡ splice s n (replicate (length s - n) 0) → w ≡ part t 0 n → Keyed f h w ks
unfolding InStep held
front_keyed f h codes left ys s t w ks r n p holds room e d q =
    let few = count_room ys s r holds n e in
    let k : Kept f h s ks n = (left_of f h codes left s ks r n p e).list in
    let z : w ≡ take n s = q ∙ front_is f h [] ys s t r holds room n e d ∙ sym (count_list ys s r holds n e) in
    let m : length w ≡ n = ap length z ∙ length-take-le n s (omega arith) in
    let all : take n w ≡ take n s = ap (take n) z ∙ take-take n n s (omega arith) in
    record { rising = rw z k.rising; step = rw (m, all) k.step }

pub ruleset kept = (kept_over, kept_few)
