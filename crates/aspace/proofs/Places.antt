-- The ways through the offsets of places and through the readers, as the code asks them.
use Rattle.refusal.specs.declared.Refusal.{Refusal}
use Rattle.std.specs.Prelude.{◌≡◌, refl, Bool, true, false, List, ℕ, zero, suc, ◌+◌, ◌-◌, ◌^◌, ◌<◌, ◌≤◌, max, length, get_or, Result, Ok, Err, take, drop, leb, Option, Some, None}
use Rattle.std.proofs.Common.{sym, ap, ◌∙◌, arith, le-leb, suc-add, zero-add}
use Rattle.std.proofs.lemmas.Bool.{lt-leb}
use Rattle.std.proofs.Math.Bool.{and-false}
use Rattle.std.proofs.lemmas.List.{get_or_past}
use Rattle.util.specs.Pick.{pick, and_right}
use Rattle.arch.specs.declared.RVA.{RVA}
use Rattle.arch.specs.Address.{rva, offset_of}
use Rattle.le.specs.Le.{get, part, get_same, part_at, part_most}
use Rattle.refusal.specs.Refusal.{Code, PASSES, NOT_MAPPED, STORAGE, answer_of}
use Rattle.pagemap.specs.Pages.{storage_ok, span_mapped}
use Rattle.pagemap.specs.PageLaws.{span_in_lem}
use Rattle.aspace.specs.Space.{reached}
use Rattle.aspace.specs.SpaceLaws.{some_picked, none_picked}
use Rattle.aspace.specs.Places.{span_there, read_code_there, bytes_code_there}

-- ---- an address: below the base; past 64 bits; reached
module _ (base a n : ℕ) (x : Option RVA) (e : x ≡ offset_of base a) where
  reached_by : (t : Bool) → leb base a ≡ t → pick (leb base a) (Some (rva (a - base))) None ≡ None → reached base a n ≡ false
  unfolding reached pick
  reached_by true q h = let z : Some (rva (a - base)) ≡ None = rw q at h in cc
  reached_by false q h = rw q

  pub offset_below : x ≡ None → reached base a n ≡ false
  unfolding offset_of
  offset_below h = reached_by (leb base a) refl (sym e ∙ h)

  at_by : (o : RVA) (t : Bool) → leb base a ≡ t → pick (leb base a) (Some (rva (a - base))) None ≡ Some o → (leb base a ≡ true) × (Some o ≡ Some (rva (a - base)))
  unfolding pick
  at_by o true q h = (q, sym (rw q at h))
  at_by o false q h = let z : None ≡ Some o = rw q at h in cc

  pub offset_above : (o : RVA) → x ≡ Some o → (leb base a ≡ true) × (Some o ≡ Some (rva (a - base)))
  unfolding offset_of
  offset_above o h = at_by o (leb base a) refl (sym e ∙ h)

pub offset_past : (base a n : ℕ) → 2 ^ 64 < a + max n 1 → reached base a n ≡ false
unfolding reached
offset_past base a n h = rw (lt-leb (a + max n 1) (2 ^ 64) h, and-false (leb base a))

pub offset_in : (base a n : ℕ) → leb base a ≡ true → a + max n 1 ≤ 2 ^ 64 → reached base a n ≡ true
unfolding reached
offset_in base a n e h = rw (e, le-leb (a + max n 1) (2 ^ 64) h)

-- ---- n bytes at a place: its offset is none, or what is there is mapped or not
module _ (r : Bool) (size : ℕ) (marks : List ℕ) (o n : ℕ) (x : Option RVA) where
  pub found_out : (y : Option RVA) → x ≡ pick r (Some (rva o)) None → x ≡ None → y ≡ None → y ≡ pick (span_there r size marks o n) (Some (rva o)) None
  unfolding span_there pick
  found_out y e h q = rw (none_picked o r (sym e ∙ h)) q

  module _ (p : RVA) (m : Bool) (e : x ≡ pick r (Some (rva o)) None) (h : x ≡ Some p) (q : m ≡ span_mapped size marks p.0 n) where
    pub found_in : m ≡ true → Some p ≡ pick (span_there r size marks o n) (Some (rva o)) None
    unfolding span_there pick
    found_in z = let k = some_picked o r p (sym e ∙ h) in let s : span_mapped size marks o n ≡ true = rw k.1 at (sym q ∙ z) in rw (k.0, s, k.1)

    pub found_no : m ≡ false → None ≡ pick (span_there r size marks o n) (Some (rva o)) None
    unfolding span_there pick
    found_no z = let k = some_picked o r p (sym e ∙ h) in let s : span_mapped size marks o n ≡ false = rw k.1 at (sym q ∙ z) in rw (k.0, s)

pub ruleset finds = (found_out, found_in, found_no)

-- ---- they may be read, or not
module _ (r : Bool) (size : ℕ) (marks : List ℕ) (o n : ℕ) (ok : Bool) (is : ok ≡ storage_ok size (length marks)) where
  pub read_bad : ok ≡ false → read_code_there r size marks o n ≡ STORAGE
  unfolding read_code_there pick
  read_bad e = rw (← is, e)

  module _ (x : Option RVA) (yes : ok ≡ true) (e : x ≡ pick (span_there r size marks o n) (Some (rva o)) None) where
    pub read_nowhere : x ≡ None → read_code_there r size marks o n ≡ NOT_MAPPED
    unfolding read_code_there pick
    read_nowhere h = rw (← is, yes, none_picked o (span_there r size marks o n) (sym e ∙ h))

    pub read_there : (p : RVA) → x ≡ Some p → read_code_there r size marks o n ≡ PASSES
    unfolding read_code_there pick
    read_there p h = rw (← is, yes, (some_picked o (span_there r size marks o n) p (sym e ∙ h)).0)

    pub read_at : (p : RVA) → x ≡ Some p → p ≡ rva o
    read_at p h = (some_picked o (span_there r size marks o n) p (sym e ∙ h)).1

    -- and they lie within the image
    pub read_inside : (p : RVA) → x ≡ Some p → p.0 + n ≤ size
    unfolding span_there
    read_inside p h =
        let k = some_picked o (span_there r size marks o n) p (sym e ∙ h) in
        let w = span_in_lem size marks o n (and_right r (span_mapped size marks o n) k.0) in
        let q : p.0 ≡ o = ap (λ (z : RVA). z.0) k.1 in
        omega arith

pub ruleset reads = (read_bad, read_nowhere, read_there, read_at, read_inside)

-- the part that is lent
pub part_there : (l : List ℕ) (i n o : ℕ) → i ≡ o → take (i + n - i) (drop i l) ≡ part l o n
unfolding part
part_there l i n o q = let z : i + n - i ≡ n = omega arith in rw (z, q)

-- ---- the number that a reader answers, by the code
module _ (code : Code) where
  pub number_refused : (v : ℕ) (r : Refusal) (y : Result ℕ Refusal) → code ≡ Err r → y ≡ Err r → y ≡ answer_of code v
  unfolding answer_of
  number_refused v r y e q = rw e q

  pub number_read : (v : ℕ) (y : ℕ) → code ≡ PASSES → y ≡ v → Ok y ≡ answer_of code v
  unfolding answer_of
  number_read v y e q = rw (e, q)

-- with a buffer that is long enough, or short
module _ (r : Bool) (size : ℕ) (marks : List ℕ) (o n room : ℕ) where
  pub bytes_fit : n ≤ room → (code : Code) → read_code_there r size marks o n ≡ code → bytes_code_there r size marks o n room ≡ code
  unfolding bytes_code_there pick
  bytes_fit h code e = rw (le-leb n room h) e

  pub bytes_short : room < n → bytes_code_there r size marks o n room ≡ STORAGE
  unfolding bytes_code_there pick
  bytes_short h = rw (lt-leb n room h)

-- ---- a number of fewer bytes is one of eight whose last are 0
get_none : (n : ℕ) (l : List ℕ) (i : ℕ) → length l ≤ i → get n l i ≡ 0
unfolding get
get_none zero l i h = refl
get_none (suc n) l i h = let a : get_or l i 0 ≡ 0 = get_or_past l i 0 h in let b = get_none n l (suc i) (omega arith) in omega arith

get_more : (n k : ℕ) (l : List ℕ) (i : ℕ) → length l ≤ i + n → get (n + k) l i ≡ get n l i
unfolding get
get_more zero k l i h = rw zero-add (get_none k l i (omega arith))
get_more (suc n) k l i h = rw suc-add (let z = get_more n k l (suc i) (omega arith) in omega arith)

pub number_of_part : (n : ℕ) (l : List ℕ) (i : ℕ) → n ≤ 8 → get 8 (part l i n) 0 ≡ get n l i
number_of_part n l i h =
    let e : n + (8 - n) ≡ 8 = omega arith in
    let s = part_most l i n in
    rw e at (get_more n (8 - n) (part l i n) 0 (omega arith)) ∙ get_same n (part l i n) l 0 i (λ k p. rw zero-add (part_at l i n k p))
