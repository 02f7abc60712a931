-- The listed symbol that an address belongs to (02, N1): of those whose home is the section that holds it, the one with the greatest address not above it;
-- among several there the last in file order.
use Rattle.nearest.specs.declared.Routine.{Routine}
use Rattle.refusal.specs.declared.Refusal.{Refusal}
use Rattle.std.specs.Prelude.{Bool, ◌&&◌, ◌||◌, not, List, ℕ, ◌-◌, leb, eqb, Result, Ok, Err}
use Rattle.util.specs.Prefix.{all_to}
use Rattle.arch.specs.declared.VA.{VA}
use Rattle.refusal.specs.declared.Refusal.TheVariants.{NoRoutine}
use Rattle.words.specs.Words.{word_of}
use Rattle.limits.specs.Records.{SYMBOL_WORDS, ADDRESS, SYMBOL_HOME}
use Rattle.symbols.specs.Symbol.{symbol_count, last_to}

-- the address of record k of the symbol table
abbrev pub row_address : List ℕ → ℕ → ℕ
row_address symbols k = word_of SYMBOL_WORDS symbols k ADDRESS

-- its home, a record of the section table
abbrev pub row_home : List ℕ → ℕ → ℕ
row_home symbols k = word_of SYMBOL_WORDS symbols k SYMBOL_HOME

-- record k qualifies: its home is record r, and its address is not above x
unfoldable pub qualifies : List ℕ → ℕ → VA → ℕ → Bool
qualifies symbols r x k = eqb (row_home symbols k) r && leb (row_address symbols k) x.0

-- k is one that p takes, and none of the first n that p takes has a greater address
unfoldable pub is_greatest : (ℕ → Bool) → (ℕ → ℕ) → ℕ → ℕ → Bool
is_greatest p at n k = p k && all_to (λ j. not (p j) || leb (at j) (at k)) n

-- the last such of the first n; 21 where p takes none
abbrev pub last_greatest : (ℕ → Bool) → (ℕ → ℕ) → ℕ → Result ℕ Refusal
last_greatest p at n = last_to NoRoutine (is_greatest p at n) n

-- the number of the nearest symbol of record r, over the whole list
abbrev pub nearest_symbol : List ℕ → ℕ → VA → Result ℕ Refusal
nearest_symbol symbols r x = last_greatest (qualifies symbols r x) (row_address symbols) (symbol_count symbols)

-- with the distance to it
unfoldable pub with_distance : List ℕ → VA → Result ℕ Refusal → Result Routine Refusal
with_distance symbols x (Ok k) = Ok (record { symbol = k; distance = x.0 - row_address symbols k })
with_distance symbols x (Err n) = Err n

-- the answer
abbrev pub nearest : List ℕ → ℕ → VA → Result Routine Refusal
nearest symbols r x = with_distance symbols x (nearest_symbol symbols r x)

-- ---- the walk from the front: record k takes the place of what was found before it, whose address is `top`
unfoldable pub comes_next : List ℕ → ℕ → VA → ℕ → ℕ → Bool
comes_next symbols r x top k = qualifies symbols r x k && leb top (row_address symbols k)
