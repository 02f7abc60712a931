-- What the parts of `collect` promise: the list of externs is the first n numbers of a buffer.
use Rattle.std.proofs.Common.{Equal}
use Rattle.std.specs.Prelude.{◌≡◌, List, ◌∷◌, ◌++◌, ℕ, suc, ◌+◌, ◌≤◌, ◌<◌, min, get_or, take, drop, Err, Ok, Result}
use Rattle.object.specs.declared.Header.{Header}
use Rattle.externs.specs.Externs.{order_of, insert_name}

-- the first n of l
unfoldable pub held : ℕ → List ℕ → List ℕ
held n l = take n l

-- xs with j put at p, what stands from there on one place further
unfoldable pub put_at : ℕ → ℕ → List ℕ → List ℕ
put_at p j xs = take p xs ++ j ∷ drop p xs

-- xs with the lower of j and what stands at p
unfoldable pub lower_at : ℕ → ℕ → List ℕ → List ℕ
lower_at p j xs = take p xs ++ min j (get_or xs p 0) ∷ drop (suc p) xs

-- where j goes among the n of xs
unfoldable pub Placed : List ℕ → Header → ℕ → ℕ → List ℕ → Result ℕ ℕ → Type 0
Placed f h j n xs (Err p) = (p ≤ n) × (insert_name f h j xs ≡ put_at p j xs)
Placed f h j n xs (Ok p) = (p < n) × (insert_name f h j xs ≡ lower_at p j xs) × (order_of f h j (get_or xs p 0) ≡ Equal)

-- after an insertion of j in the first n: the first r are what they should be
pub record Inserted (f : List ℕ) (h : Header) (j : ℕ) (before : List ℕ) (n : ℕ) (after : List ℕ) (r : ℕ) : Type 0 where
  pub room : r ≤ n + 1
  pub list : held r after ≡ insert_name f h j (held n before)
