-- The sections of a file in order of their names. A search for a name (01, "Layout, slots and fixups") takes the first loaded section that has it, so of
-- equal ones the loaded stand first, and of those the lower number.
use Rattle.std.proofs.Common.{Ordering, Less, Equal, Greater}
use Rattle.std.specs.Prelude.{◌≡◌, Bool, true, false, List, [], ◌∷◌, ℕ, ◌<◌, ◌≤◌, eqb, ltb, leb, length, get_or}
use Rattle.util.specs.Pick.{pick}
use Rattle.util.specs.Prefix.{list_to}
use Rattle.object.specs.declared.Header.{Header}
use Rattle.object.specs.Section.{loaded}
use Rattle.names.specs.Bytes.{compare_bytes}
use Rattle.names.specs.Name.{section_text}

-- by the order of two keys, and of equal ones by `tie`
unfoldable pub by_keys : Ordering → Bool → Bool
by_keys Less tie = true
by_keys Equal tie = tie
by_keys Greater tie = false

-- of equal keys: the lower `late` stands first, then the lower number
unfoldable pub tie_before : (ℕ → ℕ) → ℕ → ℕ → Bool
tie_before late x y = pick (eqb (late x) (late y)) (leb x y) (ltb (late x) (late y))

module _ (key : ℕ → List ℕ) (late : ℕ → ℕ) where
  -- x does not stand behind y
  unfoldable pub precedes : ℕ → ℕ → Bool
  precedes x y = by_keys (compare_bytes (key x) (key y)) (tie_before late x y)

  -- x put into a list that is in that order
  unfoldable pub rank_in : ℕ → List ℕ → List ℕ
  rank_in x [] = x ∷ []
  rank_in x (y ∷ ys) = pick (precedes x y) (x ∷ y ∷ ys) (y ∷ rank_in x ys)

  -- a list brought into that order
  unfoldable pub ranked : List ℕ → List ℕ
  ranked [] = []
  ranked (x ∷ xs) = rank_in x (ranked xs)

-- 0 for a loaded section, 1 for another
unfoldable pub lateness : List ℕ → Header → ℕ → ℕ
lateness f h i = pick (loaded f h i) 0 1

-- all sections, by their numbers from 0, in that order
abbrev pub section_ranks : List ℕ → Header → List ℕ
section_ranks f h = ranked (section_text f h) (lateness f h) (list_to (λ (i : ℕ). i) h.sections)

-- where x stands among the n of a list
pub record RankOf (list : List ℕ) (n x : ℕ) : Type 0 where
  pub index : ℕ
  pub inside : index < n
  pub there : get_or list index 0 ≡ x

-- what a search in halves uses of such a list: the numbers below n, each once, none behind one that it should precede
pub record InOrder (key : ℕ → List ℕ) (late : ℕ → ℕ) (n : ℕ) (list : List ℕ) : Type 0 where
  pub long : length list ≡ n
  pub below : (p : ℕ) → p < n → get_or list p 0 < n
  pub each : (x : ℕ) → x < n → RankOf list n x
  pub rises : (p q : ℕ) → p ≤ q → q < n → precedes key late (get_or list p 0) (get_or list q 0) ≡ true
