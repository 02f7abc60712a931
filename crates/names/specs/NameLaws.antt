-- What a good name is: only bytes that a name may have, and an end where one is due (01, "Records").
-- A byte past the file reads as 0; the survey's refusals 3 and 4 keep every field and the string table within it.
use Rattle.names.specs.declared.Name.{Name}
use Rattle.std.specs.Prelude.{◌≡◌, refl, Bool, ◌&&◌, List, [], ◌∷◌, ◌⊎◌, ℕ, zero, suc, ◌+◌, ◌-◌, ◌≤◌, ◌<◌, min, eqb, length, get_or, take, drop, None, Option, Some}
use Rattle.std.proofs.Common.{sym, ap, ◌∙◌, inl, inr, ⊎_elim, not-suc-le-zero, arith, drop_of_length-le, drop-cons, add-one}
use Rattle.std.proofs.Math.Bool.{true, false}
use Rattle.std.proofs.Math.Dec.{ltb, leb}
use Rattle.std.proofs.Math.ListN.{get_or-eq_default}
use Rattle.std.proofs.Math.Seq.{take-nil}
use borrow.Author.Tests.{leb-true, ltb-true, lt-ltb, eqb-true, eqb-false}
use Rattle.util.specs.Pick.{pick, yes_no, le_or_lt, and_left, and_right}
use Rattle.le.specs.Le.{get, part, IsBytes, length_part, part_none}
use Rattle.utf8.specs.Utf8.{well_formed}
use Rattle.chars.specs.Chars.{good_section_name, good_symbol_name}
use Rattle.chars.specs.WalkLaws.{Visible}
use Rattle.chars.specs.GoodLaws.{Allowed, good_visible, good_some, good_allowed, good_well_formed}
use Rattle.object.specs.declared.Header.{Header}
use Rattle.object.specs.Format.{NAME_SIZE, LONG_OFFSET_AT, section_header_at, symbol_record_at, string_table, string_length}
use Rattle.names.specs.Bytes.{run, up_to_zero, all_digits, decimal, are_same_bytes, UNDEF}
use Rattle.names.specs.Name.{good_name, name_bytes, name_start, name_length, short_run, long_run, symbol_run, slash_run, slash_by, slash_digits, section_run, checked, section_name_at, symbol_name_at, section_name, symbol_name, SLASH, left_from, long_span, span_at, no_span, slash_span, span_text, symbol_text}

-- ---- where a run ends
-- one more byte: a zero ends the run, any other is passed
module _ (f : List ℕ) (i n : ℕ) where
  run_stop : eqb (get_or f i 0) 0 ≡ true → run f i (suc n) ≡ 0
  unfolding run pick
  run_stop e = rw e

  run_on : eqb (get_or f i 0) 0 ≡ false → run f i (suc n) ≡ suc (run f (i + 1) n)
  unfolding run pick
  run_on e = rw e

-- at most as many as were looked at
pub run_most : (f : List ℕ) (i n : ℕ) → run f i n ≤ n
unfolding run
run_most f i zero = omega arith
run_most f i (suc n) =
    ⊎_elim (λ e. rw (run_stop f i n e) (omega arith)) (λ e. rw (run_on f i n e) (let r = run_most f (i + 1) n in omega arith))
    (yes_no (eqb (get_or f i 0) 0))

-- a run that is shorter ends at a zero
pub run_zero : (f : List ℕ) (i n : ℕ) → run f i n < n → get_or f (i + run f i n) 0 ≡ 0
run_zero f i zero h = absurd (omega arith)
run_zero f i (suc n) h =
    ⊎_elim (λ e. let a : i + 0 ≡ i = omega arith in rw (run_stop f i n e, a) (eqb-true _ _ e))
    (λ e.
    let r = run_on f i n e in
    let a : i + suc (run f (i + 1) n) ≡ i + 1 + run f (i + 1) n = omega arith in
    rw (r, a) (run_zero f (i + 1) n (omega arith)))
    (yes_no (eqb (get_or f i 0) 0))

-- no byte of it is zero
pub run_before : (f : List ℕ) (i n k : ℕ) → k < run f i n → get_or f (i + k) 0 ≡ 0 → ⊥
unfolding run
run_before f i zero k h = absurd (omega arith)
run_before f i (suc n) zero h =
    let a : i + 0 ≡ i = omega arith in
    ⊎_elim (λ e. let r = run_stop f i n e in absurd (omega arith)) (λ e. rw a (eqb-false _ _ e)) (yes_no (eqb (get_or f i 0) 0))
run_before f i (suc n) (suc k) h =
    let a : i + suc k ≡ i + 1 + k = omega arith in
    ⊎_elim (λ e. let r = run_stop f i n e in absurd (omega arith))
    (λ e. let r = run_on f i n e in rw a (run_before f (i + 1) n k (omega arith)))
    (yes_no (eqb (get_or f i 0) 0))

-- all of it lies within the file
pub run_within : (f : List ℕ) (i n : ℕ) → 0 < run f i n → i + run f i n ≤ length f
run_within f i n h =
    ⊎_elim (λ past. absurd (run_before f i n (run f i n - 1) (omega arith) (get_or-eq_default f 0 {n = i + (run f i n - 1)} past)))
    (λ k. omega arith)
    (le_or_lt (length f) (i + (run f i n - 1)))

-- so the part that it names has as many bytes as it says
pub run_long : (f : List ℕ) (i n : ℕ) → length (part f i (run f i n)) ≡ run f i n
run_long f i n =
    ⊎_elim (λ h. let z : run f i n ≡ 0 = omega arith in rw (z, part_none f i)) (λ h. length_part f i (run f i n) (run_within f i n h)) (le_or_lt (run f i n) 0)

-- ---- a name that passed its check
-- what is picked beside no name and yet is good was picked, and is as it was
taken : (t : Bool) (m : Option Name) (at n : ℕ) → pick t m None ≡ good_name at n → t ≡ true
unfolding pick
taken true m at n e = refl
taken false m at n e = cc

taken_is : (t : Bool) (m : Option Name) (at n : ℕ) → pick t m None ≡ good_name at n → m ≡ good_name at n
unfolding pick
taken_is true m at n e = e
taken_is false m at n e = cc

-- a name that is taken passed its rule, on the bytes that it names
pub checked_good : (good : List ℕ → Bool) (f : List ℕ) (m : Option Name) (at n : ℕ) → checked good f m ≡ good_name at n → good (part f at n) ≡ true
unfolding checked name_bytes
checked_good good f None at n e = cc
checked_good good f (Some m) at n e =
    let t : good (part f m.at m.length) ≡ true = taken (good (part f m.at m.length)) (Some m) at n e in
    let q : part f m.at m.length ≡ part f at n = ap (name_bytes f) (taken_is (good (part f m.at m.length)) (Some m) at n e) in
    rw q at t

-- the check moves nothing: the name stands where it was found
pub checked_is : (good : List ℕ → Bool) (f : List ℕ) (m : Option Name) (at n : ℕ) → checked good f m ≡ good_name at n → m ≡ good_name at n
unfolding checked
checked_is good f None at n e = cc
checked_is good f (Some m) at n e = taken_is (good (part f m.at m.length)) (Some m) at n e

-- ---- its bytes
module _ (good : List ℕ → Bool) (P : ℕ → Type 0) (rule : (s : List ℕ) → good s ≡ true → (k : ℕ) → k < length s → P (get_or s k 0)) (f : List ℕ) (k : ℕ) where
  bytes_are : (m c : Option Name) → checked good f m ≡ c → k < length (name_bytes f c) → P (get_or (name_bytes f c) k 0)
  unfolding name_bytes
  bytes_are m None e h = absurd (omega arith)
  bytes_are m (Some n) e h = rule (part f n.at n.length) (checked_good good f m n.at n.length e) k h

-- every byte of a section's name is 0x21 to 0x7E
pub section_name_visible : (f : List ℕ) (h : Header) (i k : ℕ) → k < length (name_bytes f (section_name f h i)) → Visible (get_or (name_bytes f (section_name f h i)) k 0)
section_name_visible f h i k l = bytes_are good_section_name Visible good_visible f k (section_run f h (section_header_at h i)) (section_name f h i) refl l

-- no byte of a symbol's is below 0x21, and none 0x7F
pub symbol_name_allowed : (f : List ℕ) (h : Header) (j k : ℕ) → k < length (name_bytes f (symbol_name f h j)) → Allowed (get_or (name_bytes f (symbol_name f h j)) k 0)
symbol_name_allowed f h j k l = bytes_are good_symbol_name Allowed good_allowed f k (symbol_run f h (symbol_record_at h j)) (symbol_name f h j) refl l

module _ (f : List ℕ) (h : Header) (j at n : ℕ) (e : symbol_name f h j ≡ good_name at n) where
  passed : good_symbol_name (part f at n) ≡ true
  passed = checked_good good_symbol_name f (symbol_run f h (symbol_record_at h j)) at n e

  -- a symbol's good name is well-formed UTF-8
  pub symbol_name_utf8 : well_formed (name_bytes f (good_name at n)) ≡ true
  unfolding name_bytes
  symbol_name_utf8 = good_well_formed (part f at n) passed

  -- and is not empty
  pub symbol_name_some : 0 < length (name_bytes f (good_name at n))
  unfolding name_bytes
  symbol_name_some = good_some (part f at n) passed

-- ---- where it stands
-- in its field: at most eight bytes, and either all eight or a zero behind them
pub record InField (f : List ℕ) (field at n : ℕ) : Type 0 where
  pub start : at ≡ field
  pub few : n ≤ NAME_SIZE
  pub end : (n ≡ NAME_SIZE) ⊎ (get_or f (at + n) 0 ≡ 0)
  pub long : length (part f at n) ≡ n

-- in the string table, behind its length field: it ends at a zero before the table's end
pub record InStrings (f : List ℕ) (h : Header) (offset at n : ℕ) : Type 0 where
  pub start : at ≡ string_table h + offset
  pub behind : 4 ≤ offset
  pub within : offset + n < string_length f h
  pub zero_end : get_or f (at + n) 0 ≡ 0
  pub long : length (part f at n) ≡ n

field_run : (f : List ℕ) (field : ℕ) → InField f field field (run f field NAME_SIZE)
field_run f field =
    let m = run_most f field NAME_SIZE in
    record {
      start = refl;
      few = m;
      end = ⊎_elim (λ k. inl (omega arith)) (λ k. inr (run_zero f field NAME_SIZE k)) (le_or_lt NAME_SIZE (run f field NAME_SIZE));
      long = run_long f field NAME_SIZE;
    }

-- a short name: at most eight bytes, and a zero behind fewer
pub short_name : (f : List ℕ) (field at n : ℕ) → short_run f field ≡ good_name at n → InField f field at n
short_name f field at n e =
    let a : field ≡ at = ap name_start e in
    let r : run f field NAME_SIZE ≡ n = ap name_length e in
    rw (← a, ← r) (field_run f field)

strings_run : (f : List ℕ) (h : Header) (offset n : ℕ) → n ≡ run f (string_table h + offset) (string_length f h - offset) → 4 ≤ offset → n < string_length f h - offset
    → InStrings f h offset (string_table h + offset) n
strings_run f h offset n r low k =
    record {
      start = refl;
      behind = low;
      within = omega arith;
      zero_end = rw r (run_zero f (string_table h + offset) (string_length f h - offset) (rw (← r) k));
      long = rw r (run_long f (string_table h + offset) (string_length f h - offset));
    }

-- a long name: it starts at its offset, at least 4, and ends at a zero that lies within the table
pub long_name : (f : List ℕ) (h : Header) (offset at n : ℕ) → long_run f h offset ≡ good_name at n → InStrings f h offset at n
unfolding long_run
long_name f h offset at n e =
    let left = string_length f h - offset in
    let r = run f (string_table h + offset) left in
    let t : leb 4 offset && ltb r left ≡ true = taken (leb 4 offset && ltb r left) (good_name (string_table h + offset) r) at n e in
    let q : good_name (string_table h + offset) r ≡ good_name at n = taken_is (leb 4 offset && ltb r left) (good_name (string_table h + offset) r) at n e in
    let a : string_table h + offset ≡ at = ap name_start q in
    let b : r ≡ n = ap name_length q in
    let low = leb-true 4 offset (and_left (leb 4 offset) (ltb r left) t) in
    let k = ltb-true r left (and_right (leb 4 offset) (ltb r left) t) in
    rw (← a, ← b) (strings_run f h offset r refl low k)

-- where the table lies within the file, that zero is one of the file's bytes
pub long_name_inside : (f : List ℕ) (h : Header) (offset at n : ℕ) → InStrings f h offset at n → string_table h + string_length f h ≤ length f → at + n < length f
long_name_inside f h offset at n s k =
    let a = s.start in
    let w = s.within in
    omega arith

-- one of the two: in the field, or in the string table at some offset
pub data Found (f : List ℕ) (h : Header) (field at n : ℕ) : Type 0 where
  in_field : InField f field at n → Found f h field at n
  in_strings : (offset : ℕ) → InStrings f h offset at n → Found f h field at n

module _ (f : List ℕ) (h : Header) (field at n : ℕ) where
  -- whichever of two was picked
  either : (t : Bool) (a b : Option Name) → (a ≡ good_name at n → Found f h field at n) → (b ≡ good_name at n → Found f h field at n) → pick t a b ≡ good_name at n
      → Found f h field at n
  unfolding pick
  either true a b p q e = p e
  either false a b p q e = q e

  short_found : short_run f field ≡ good_name at n → Found f h field at n
  short_found e = in_field (short_name f field at n e)

  long_found : (offset : ℕ) → long_run f h offset ≡ good_name at n → Found f h field at n
  long_found o e = in_strings o (long_name f h o at n e)

  bad_found : None ≡ good_name at n → Found f h field at n
  bad_found e = absurd (let z : ◌≡◌ {A = ℕ} 0 1 = cc in omega arith)

  -- a section's good name stands in its field or in the string table
  pub section_name_found : section_name_at f h field ≡ good_name at n → Found f h field at n
  unfolding section_run slash_run
  section_name_found e =
      either (eqb (get_or f field 0) SLASH) (slash_run f h field) (short_run f field)
      (λ s.
      either (leb 2 (run f field NAME_SIZE) && all_digits (slash_digits f field)) (long_run f h (decimal (slash_digits f field))) None
      (λ l. long_found (decimal (slash_digits f field)) l)
      (λ b. bad_found b)
      s)
      (λ s. short_found s)
      (checked_is good_section_name f (section_run f h field) at n e)

  -- a symbol's good name stands in its field or in the string table
  pub symbol_name_found : symbol_name_at f h field ≡ good_name at n → Found f h field at n
  unfolding symbol_run
  symbol_name_found e =
      either (eqb (get 4 f field) 0) (long_run f h (get 4 f (field + LONG_OFFSET_AT))) (pick (eqb (get_or f field 0) 0) None (short_run f field))
      (λ l. long_found (get 4 f (field + LONG_OFFSET_AT)) l)
      (λ s. either (eqb (get_or f field 0) 0) None (short_run f field) (λ b. bad_found b) (λ k. short_found k) s)
      (checked_is good_symbol_name f (symbol_run f h field) at n e)

-- ---- the bytes where a symbol's name stands
-- the next byte: a zero ends the text, and so does the list's end, which reads as a zero
pub text_next : (l : List ℕ) (i : ℕ) → up_to_zero (drop i l) ≡ pick (eqb (get_or l i 0) 0) [] (get_or l i 0 ∷ up_to_zero (drop (suc i) l))
unfolding up_to_zero pick
text_next [] zero = refl
text_next [] (suc i) = refl
text_next (x ∷ xs) zero = refl
text_next (x ∷ xs) (suc i) = text_next xs i

-- no byte of it is zero, and each is a byte of the list
pub text_no_zero : (l : List ℕ) (i : ℕ) → i < length (up_to_zero l) → 0 < get_or (up_to_zero l) i 0
unfolding up_to_zero pick
text_no_zero [] i h = absurd (omega arith)
text_no_zero (x ∷ xs) i h = by_zero (eqb x 0) refl (text_no_zero xs) i h
  where
    by_zero : (b : Bool) → eqb x 0 ≡ b → ((i : ℕ) → i < length (up_to_zero xs) → 0 < get_or (up_to_zero xs) i 0)
        → (i : ℕ) → i < length (pick b [] (x ∷ up_to_zero xs)) → 0 < get_or (pick b [] (x ∷ up_to_zero xs)) i 0
    by_zero true e rest i h = absurd (omega arith)
    by_zero false e rest zero h = let z = eqb-false x 0 e in omega arith
    by_zero false e rest (suc i) h = rest i (omega arith)

pub text_bytes_lem : (l : List ℕ) → IsBytes l → IsBytes (up_to_zero l)
unfolding up_to_zero pick
text_bytes_lem [] b i = b i
text_bytes_lem (x ∷ xs) b i = by_zero (eqb x 0) (text_bytes_lem xs (λ k. b (suc k))) i
  where
    by_zero : (t : Bool) → IsBytes (up_to_zero xs) → (i : ℕ) → get_or (pick t [] (x ∷ up_to_zero xs)) i 0 < 256
    by_zero true rest i = omega arith
    by_zero false rest zero = b 0
    by_zero false rest (suc i) = rest i

-- it is the run there
pub text_run : (f : List ℕ) (i n : ℕ) → part f i (run f i n) ≡ up_to_zero (part f i n)
unfolding part run up_to_zero pick
text_run f i zero = refl
text_run f i (suc n) =
    ⊎_elim (λ past. let d : drop i f ≡ [] = drop_of_length-le f past in rw (d, take-nil))
    (λ h.
    let d : drop i f ≡ get_or f i 0 ∷ drop (i + 1) f = rw add-one (drop-cons f i 0 h) in
    ⊎_elim (λ (e : eqb (get_or f i 0) 0 ≡ true). rw (d, e))
    (λ (e : eqb (get_or f i 0) 0 ≡ false). rw (d, e) (ap (λ (l : List ℕ). get_or f i 0 ∷ l) (text_run f (i + 1) n)))
    (yes_no (eqb (get_or f i 0) 0)))
    (le_or_lt (length f) i)

-- ---- a good name is what stands there
module _ (f : List ℕ) (h : Header) (at n : ℕ) where
  long_text : (offset : ℕ) → long_run f h offset ≡ good_name at n → span_text f (long_span f h offset) ≡ part f at n
  unfolding long_run long_span left_from pick
  long_text offset e =
      let left = string_length f h - offset in
      let r = run f (string_table h + offset) left in
      let t : leb 4 offset && ltb r left ≡ true = taken (leb 4 offset && ltb r left) (good_name (string_table h + offset) r) at n e in
      let q : good_name (string_table h + offset) r ≡ good_name at n = taken_is (leb 4 offset && ltb r left) (good_name (string_table h + offset) r) at n e in
      let a : string_table h + offset ≡ at = ap name_start q in
      let b : r ≡ n = ap name_length q in
      rw (and_left (leb 4 offset) (ltb r left) t, ← b, ← a) (sym (text_run f (string_table h + offset) left))

  short_text : (field : ℕ) → pick (eqb (get_or f field 0) 0) None (short_run f field) ≡ good_name at n → up_to_zero (part f field NAME_SIZE) ≡ part f at n
  unfolding pick
  short_text field e = by_first (eqb (get_or f field 0) 0) e
    where
      by_first : (b : Bool) → pick b None (short_run f field) ≡ good_name at n → up_to_zero (part f field NAME_SIZE) ≡ part f at n
      by_first true q = cc
      by_first false q =
          let a : field ≡ at = ap name_start q in
          let r : run f field NAME_SIZE ≡ n = ap name_length q in
          rw (← a, ← r) (sym (text_run f field NAME_SIZE))

  run_text : (field : ℕ) → symbol_run f h field ≡ good_name at n → span_text f (span_at f h field) ≡ part f at n
  unfolding symbol_run span_at pick
  run_text field e = by_long (eqb (get 4 f field) 0) e
    where
      by_long : (b : Bool) → pick b (long_run f h (get 4 f (field + LONG_OFFSET_AT))) (pick (eqb (get_or f field 0) 0) None (short_run f field)) ≡ good_name at n
          → span_text f (pick b (long_span f h (get 4 f (field + LONG_OFFSET_AT))) (record { at = field; most = NAME_SIZE })) ≡ part f at n
      by_long true q = long_text (get 4 f (field + LONG_OFFSET_AT)) q
      by_long false q = short_text field q

-- wherever a symbol's name is good, it is the bytes that names are compared by
pub symbol_name_text : (f : List ℕ) (h : Header) (j at n : ℕ) → symbol_name f h j ≡ good_name at n → symbol_text f h j ≡ name_bytes f (symbol_name f h j)
unfolding name_bytes
symbol_name_text f h j at n e =
    rw e (run_text f h at n (symbol_record_at h j) (checked_is good_symbol_name f (symbol_run f h (symbol_record_at h j)) at n e))

-- ---- the same of a section's
module _ (f : List ℕ) (h : Header) (at n : ℕ) where
  tail_text : (offset : ℕ) → long_run f h offset ≡ good_name at n → span_text f (pick (ltb offset (string_length f h)) (long_span f h offset) no_span) ≡ part f at n
  unfolding long_run pick
  tail_text offset e =
      let left = string_length f h - offset in
      let r = run f (string_table h + offset) left in
      let t : leb 4 offset && ltb r left ≡ true = taken (leb 4 offset && ltb r left) (good_name (string_table h + offset) r) at n e in
      let k : r < left = ltb-true r left (and_right (leb 4 offset) (ltb r left) t) in
      rw (lt-ltb offset (string_length f h) (omega arith)) (long_text f h at n offset e)

  pub slash_text : (d : Option ℕ) → slash_by f h d ≡ good_name at n → span_text f (slash_span f h d) ≡ part f at n
  unfolding slash_by slash_span
  slash_text (Some o) e = tail_text o e
  slash_text None e = cc

-- ---- a text is one that is shorter than k bytes if its first k bytes are
same_next : (x : ℕ) (a b y : List ℕ) (t : Bool) → ((w : ℕ) (z : List ℕ) → y ≡ w ∷ z → are_same_bytes a z ≡ are_same_bytes b z) → are_same_bytes (pick t [] (x ∷ a)) y ≡ are_same_bytes (pick t [] (x ∷ b)) y
unfolding are_same_bytes pick
same_next x a b y true rest = refl
same_next x a b [] false rest = refl
same_next x a b (w ∷ z) false rest = ap (λ (c : Bool). eqb x w && c) (rest w z refl)

same_front : (d y : List ℕ) (m k : ℕ) → length y < k → are_same_bytes (up_to_zero (take (min m k) d)) y ≡ are_same_bytes (up_to_zero (take m d)) y
unfolding up_to_zero
same_front [] y m k l = rw (take-nil (min m k), take-nil m)
same_front (x ∷ d) y zero k l = let e : min 0 k ≡ 0 = omega arith in rw e
same_front (x ∷ d) y (suc m) zero l = absurd (not-suc-le-zero l)
same_front (x ∷ d) y (suc m) (suc k) l =
    let e : min (suc m) (suc k) ≡ suc (min m k) = omega arith in
    rw e (same_next x (up_to_zero (take (min m k) d)) (up_to_zero (take m d)) y (eqb x 0) (λ w z q. same_front d z m k (let n : length y ≡ suc (length z) = ap length q in omega arith)))

pub undef_front : (f : List ℕ) (at m : ℕ) → are_same_bytes (part f at (run f at (min m 6))) UNDEF ≡ are_same_bytes (up_to_zero (part f at m)) UNDEF
unfolding part
undef_front f at m = ap (λ (l : List ℕ). are_same_bytes l UNDEF) (text_run f at (min m 6)) ∙ same_front (drop at f) UNDEF m 6 (omega arith)
