-- A search in halves for a key among sections that stand in order, whatever the key is: it ends where the lower keys do, and there stands the first of
-- those that have the key.
use Rattle.std.proofs.Common.{Ordering, Less, Equal, Greater}
use Rattle.std.specs.Prelude.{◌≡◌, Bool, List, ℕ, ◌+◌, ◌-◌, ◌/◌, ◌≤◌, ◌<◌, length, get_or}
use Rattle.std.proofs.Math.Path.{refl, sym, ap}
use Rattle.std.proofs.Common.{◌∙◌, ⊎_elim}
use Rattle.std.proofs.Math.Bool.{true, false}
use native.Mathlib.Omega.{arith}
use Rattle.util.specs.Pick.{yes_no, le_or_lt, not_both}
use Rattle.names.specs.Bytes.{compare_bytes}
use Rattle.names.specs.Name.{section_text}
use Rattle.names.specs.OrderLaws.{equal_same, same_equal, less_less}
use Rattle.object.specs.declared.Header.{Header}
use Rattle.ranks.specs.Rank.{by_keys, tie_before, precedes, lateness, section_ranks, RankOf, InOrder}
use Rattle.ranks.specs.RankLaws.{sections_in_order}

-- a first key is lower
unfoldable pub is_lower : Ordering → Bool
is_lower Less = true
is_lower Equal = false
is_lower Greater = false

-- section x's key is lower than the one that is looked for
abbrev pub lower_than : (ℕ → List ℕ) → List ℕ → ℕ → Bool
lower_than key sought x = is_lower (compare_bytes (key x) sought)

-- of a list's places the n from lo are left: those before them are lower, those behind them are not
pub record Halved (low : ℕ → Bool) (list : List ℕ) (lo n : ℕ) : Type 0 where
  pub room : lo + n ≤ length list
  pub before : (p : ℕ) → p < lo → low (get_or list p 0) ≡ true
  pub behind : (p : ℕ) → lo + n ≤ p → p < length list → low (get_or list p 0) ≡ false

-- what is behind one that is not lower is not lower
abbrev pub LowFirst : (ℕ → Bool) → List ℕ → Type 0
LowFirst low list = (p q : ℕ) → p ≤ q → q < length list → low (get_or list q 0) ≡ true → low (get_or list p 0) ≡ true

module _ (low : ℕ → Bool) (list : List ℕ) where
  pub halved_begin : (n : ℕ) → n ≡ length list → Halved low list 0 n
  halved_begin n e = record { room = omega arith; before = λ p q. absurd (omega arith); behind = λ p q r. absurd (omega arith) }

  module _ (first : LowFirst low list) (lo n : ℕ) (x : Halved low list lo n) (more : 0 < n) where
    -- the middle one is lower: what is left stands behind it
    pub halved_right : (t : Bool) → t ≡ low (get_or list (lo + n / 2) 0) → t ≡ true → Halved low list (lo + n / 2 + 1) (n - n / 2 - 1)
    halved_right t e y =
        let room = x.room in
        record {
          room = omega arith;
          before = λ p q. first p (lo + n / 2) (omega arith) (omega arith) (sym e ∙ y);
          behind = λ p q r. x.behind p (omega arith) r;
        }

    -- it is not: what is left stands before it
    pub halved_left : (t : Bool) → t ≡ low (get_or list (lo + n / 2) 0) → t ≡ false → Halved low list lo (n / 2)
    halved_left t e y =
        let room = x.room in
        record {
          room = omega arith;
          before = x.before;
          behind = λ p q r. ⊎_elim (λ z. not_both (low (get_or list (lo + n / 2) 0)) (first (lo + n / 2) p q r z) (sym e ∙ y)) (λ z. z) (yes_no (low (get_or list p 0)));
        }

-- ---- where the sections stand in order
module _ (key : ℕ → List ℕ) (late : ℕ → ℕ) (n : ℕ) (list sought : List ℕ) (ord : InOrder key late n list) where
  low_by : (x y : ℕ) (o : Ordering) → compare_bytes (key x) (key y) ≡ o → by_keys o (tie_before late x y) ≡ true → lower_than key sought y ≡ true → lower_than key sought x ≡ true
  unfolding by_keys is_lower
  low_by x y Less e t l = by_second (compare_bytes (key y) sought) refl l
    where
      by_second : (o : Ordering) → compare_bytes (key y) sought ≡ o → is_lower o ≡ true → lower_than key sought x ≡ true
      by_second Less q r = ap is_lower (less_less (key x) (key y) sought e q)
      by_second Equal q r = cc
      by_second Greater q r = cc
  low_by x y Equal e t l = let same : key x ≡ key y = equal_same (key x) (key y) e in rw same l
  low_by x y Greater e t l = cc

  -- lower keys stand first
  pub low_first : LowFirst (lower_than key sought) list
  unfolding precedes
  low_first p q k r t =
      low_by (get_or list p 0) (get_or list q 0) (compare_bytes (key (get_or list p 0)) (key (get_or list q 0))) refl (ord.rises p q k (let e = ord.long in omega arith)) t

  not_lower : (x : ℕ) → key x ≡ sought → lower_than key sought x ≡ true → ⊥
  unfolding is_lower
  not_lower x e t =
      let z : lower_than key sought x ≡ false = ap is_lower (same_equal (key x) sought e) in
      not_both (lower_than key sought x) t z

  module _ (p : ℕ) (ends : Halved (lower_than key sought) list p 0) where
    -- one that has the key stands there or behind
    from_there : (m : ℕ) (s : RankOf list n m) → key m ≡ sought → p ≤ s.index
    from_there m s e =
        ⊎_elim (λ q. q)
        (λ q. absurd (not_lower m e (ap (lower_than key sought) (sym s.there) ∙ ends.before s.index q)))
        (le_or_lt p s.index)

    tie_by : (x m : ℕ) (o : Ordering) → compare_bytes (key x) (key m) ≡ o → key x ≡ sought → key m ≡ sought → by_keys o (tie_before late x m) ≡ true → tie_before late x m ≡ true
    unfolding by_keys
    tie_by x m o c e d t =
        let z : Equal ≡ o = sym (same_equal (key x) (key m) (e ∙ sym d)) ∙ c in
        rw (← z) at t

    -- if the one that stands there has the key, it is the first of all that have it
    pub first_there : key (get_or list p 0) ≡ sought → (m : ℕ) → m < n → key m ≡ sought → tie_before late (get_or list p 0) m ≡ true
    unfolding precedes
    first_there e m k d =
        let s = ord.each m k in
        let r : precedes key late (get_or list p 0) m ≡ true = rw s.there at (ord.rises p s.index (from_there m s d) s.inside) in
        tie_by (get_or list p 0) m (compare_bytes (key (get_or list p 0)) (key m)) refl e d r

    above_by : (x m : ℕ) (o : Ordering) → compare_bytes (key x) (key m) ≡ o → key m ≡ sought → by_keys o (tie_before late x m) ≡ true → lower_than key sought x ≡ false → key x ≡ sought
    unfolding by_keys is_lower
    above_by x m Less c d t l =
        let z : lower_than key sought x ≡ true = ap is_lower (ap (compare_bytes (key x)) (sym d) ∙ c) in
        not_both (lower_than key sought x) z l
    above_by x m Equal c d t l = equal_same (key x) (key m) c ∙ d
    above_by x m Greater c d t l = cc

    -- if none stands there that has the key, none has it
    pub none_there : (p < n → key (get_or list p 0) ≡ sought → ⊥) → (m : ℕ) → m < n → key m ≡ sought → ⊥
    unfolding precedes
    none_there other m k d =
        let s = ord.each m k in
        let at = from_there m s d in
        let inside : p < n = let z = s.inside in omega arith in
        let r : precedes key late (get_or list p 0) m ≡ true = rw s.there at (ord.rises p s.index at s.inside) in
        let l : lower_than key sought (get_or list p 0) ≡ false = ends.behind p (omega arith) (let z = ord.long in omega arith) in
        other inside (above_by (get_or list p 0) m (compare_bytes (key (get_or list p 0)) (key m)) refl d r l)

-- ---- the turns of a loop over a file's sections
module _ (f : List ℕ) (h : Header) (sought ranks : List ℕ) (is : ranks ≡ section_ranks f h) where
  pub ranks_in_order : InOrder (section_text f h) (lateness f h) h.sections ranks
  ranks_in_order = rw is (sections_in_order f h)

  pub ranks_low : LowFirst (lower_than (section_text f h) sought) ranks
  ranks_low = low_first (section_text f h) (lateness f h) h.sections ranks sought ranks_in_order

  module _ (lo n : ℕ) (t : Bool) (x : Halved (lower_than (section_text f h) sought) ranks lo n) (more : 0 < n) (e : t ≡ lower_than (section_text f h) sought (get_or ranks (lo + n / 2) 0)) where
    pub from_right : t ≡ true → Halved (lower_than (section_text f h) sought) ranks (lo + n / 2 + 1) (n - n / 2 - 1)
    from_right y = halved_right (lower_than (section_text f h) sought) ranks ranks_low lo n x more t e y

    pub from_left : t ≡ false → Halved (lower_than (section_text f h) sought) ranks lo (n / 2)
    from_left y = halved_left (lower_than (section_text f h) sought) ranks ranks_low lo n x more t e y

pub from_end : (low : ℕ → Bool) (list : List ℕ) (lo n : ℕ) → Halved low list lo n → n ≤ 0 → Halved low list lo 0
from_end low list lo n x k = let z : n ≡ 0 = omega arith in rw z at x

pub ruleset halves_loop = (halved_begin, from_right, from_left, from_end)
