-- Two lists in order as one, and a list in runs of one width that are in order.
use Rattle.std.specs.Prelude.{◌≡◌, Bool, true, false, List, [], ◌∷◌, ℕ, ◌+◌, ◌*◌, length}
use Rattle.le.specs.Le.{part}
use Rattle.ranks.specs.Rank.{precedes, rank_in, ranked}
use Rattle.ranks.specs.RankLaws.{Climbs}

module _ (key : ℕ → List ℕ) (late : ℕ → ℕ) where
  -- all of a list put into one that is in order
  unfoldable pub rank_all : List ℕ → List ℕ → List ℕ
  rank_all [] ys = ys
  rank_all (x ∷ xs) ys = rank_in key late x (rank_all xs ys)

  -- of what is left of two lists, the first of the left one is next
  unfoldable pub left_next : List ℕ → List ℕ → Bool
  left_next [] ys = false
  left_next (x ∷ xs) [] = true
  left_next (x ∷ xs) (y ∷ ys) = precedes key late x y

-- so many whole runs stand before `at`
pub record RunStart (w at : ℕ) : Type 0 where
  pub before : ℕ
  pub is : at ≡ before * w

module _ (key : ℕ → List ℕ) (late : ℕ → ℕ) (w : ℕ) where
  -- each run of a is in order
  pub record RunsClimb (a : List ℕ) : Type 0 where
    pub climbs : (at : ℕ) → RunStart w at → Climbs key late (part a at w)

  -- each two runs of a are one of b
  pub record RunsJoin (a b : List ℕ) : Type 0 where
    pub long : length b ≡ length a
    pub joins : (at : ℕ) → RunStart (2 * w) at → part b at (2 * w) ≡ rank_all key late (part a at w) (part a (at + w) w)

  -- each run of a is that of l, brought into order
  pub record RunsRanked (l a : List ℕ) : Type 0 where
    pub long : length a ≡ length l
    pub runs : (at : ℕ) → RunStart w at → part a at w ≡ ranked key late (part l at w)
