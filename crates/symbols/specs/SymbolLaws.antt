-- What the questions to the tables of symbols and of extern names promise.
use Rattle.refusal.specs.declared.Refusal.TheVariants.{NoEntry}
use Rattle.refusal.specs.declared.Refusal.{Refusal}
use Rattle.std.specs.Prelude.{◌≡◌, Bool, List, Result, Ok, Err}
use Rattle.std.proofs.Math.Path.{refl, ap}
use Rattle.std.proofs.Common.{◌∙◌, not-suc-le-zero, le_of_suc-le-suc, eq-or-lt_of_le}
use Rattle.std.proofs.Math.Bool.{true, false}
use Rattle.std.proofs.Math.Logic.{⊎_elim}
use Prim.Native.Nat.{ℕ, zero, suc, ◌+◌, ◌-◌, ◌<◌, ◌≤◌}
use native.Mathlib.Omega.{arith}
use Rattle.util.specs.Pick.{pick}
use Rattle.arch.specs.declared.VA.{VA}
use Rattle.limits.specs.Records.{SYMBOL_WORDS, EXTERN_WORDS}
use Rattle.symbols.specs.Symbol.{count, symbol_count, extern_count, symbol_record, extern_record, entry, symbol_entry, extern_entry, has_name, last_to, last_named, symbol_named, extern_named, first_from, lies_at, symbol_at}

-- ---- the last below n of which p holds
module _ (c : Refusal) (p : ℕ → Bool) where
  pub last_is : (n k : ℕ) → k < n → p k ≡ true → ((j : ℕ) → k < j → j < n → p j ≡ false) → last_to c p n ≡ Ok k
  unfolding last_to pick
  last_is zero k l h n = absurd (not-suc-le-zero l)
  last_is (suc m) k l h n =
      ⊎_elim
      (λ e. rw (← e, h))
      (λ q. let f : p m ≡ false = n m q (omega arith) in rw f (last_is m k q h (λ j a b. n j a (omega arith))))
      (eq-or-lt_of_le (le_of_suc-le-suc l))

  pub last_none : (n : ℕ) → ((j : ℕ) → j < n → p j ≡ false) → last_to c p n ≡ Err c
  unfolding last_to pick
  last_none zero n = refl
  last_none (suc m) n = let f : p m ≡ false = n m (omega arith) in rw f (last_none m (λ j q. n j (omega arith)))

-- ---- the first from i on of n
module _ (p : ℕ → Bool) where
  pub first_is : (n i k : ℕ) → i ≤ k → k < i + n → p k ≡ true → ((j : ℕ) → i ≤ j → j < k → p j ≡ false) → first_from p i n ≡ Ok k
  unfolding first_from pick
  first_is zero i k a b h n = absurd (let w : k < k = omega arith in omega arith)
  first_is (suc m) i k a b h n =
      ⊎_elim
      (λ e. let f : p i ≡ true = ap p e ∙ h in rw f (ap Ok e))
      (λ q. let f : p i ≡ false = n i (omega arith) q in rw f (first_is m (suc i) k q (omega arith) h (λ j c d. n j (omega arith) d)))
      (eq-or-lt_of_le a)

  pub first_none : (n i : ℕ) → ((j : ℕ) → i ≤ j → j < i + n → p j ≡ false) → first_from p i n ≡ Err NoEntry
  unfolding first_from pick
  first_none zero i n = refl
  first_none (suc m) i n = let f : p i ≡ false = n i (omega arith) (omega arith) in rw f (first_none m (suc i) (λ j c d. n j (omega arith) (omega arith)))

-- ---- a name finds the last record in file order that has it, and is refused by 20 if none has; of symbols and of extern names
module _ (W n : ℕ) (file table name : List ℕ) where
  pub name_finds_the_last : (k : ℕ) → k < n → has_name W n file table name k ≡ true → ((j : ℕ) → k < j → j < n → has_name W n file table name j ≡ false) → last_named W n file table name ≡ Ok k
  name_finds_the_last k l h o = last_is NoEntry (has_name W n file table name) n k l h o

  pub no_such_name : ((j : ℕ) → j < n → has_name W n file table name j ≡ false) → last_named W n file table name ≡ Err NoEntry
  no_such_name o = last_none NoEntry (has_name W n file table name) n o

-- ---- the questions to any table are those to the symbols and to the extern names
module _ (table : List ℕ) where
  pub count_of_symbols : count SYMBOL_WORDS table ≡ symbol_count table
  count_of_symbols = refl

  pub count_of_externs : count EXTERN_WORDS table ≡ extern_count table
  count_of_externs = refl

module _ (table : List ℕ) (k : ℕ) where
  pub entry_of_symbols : entry SYMBOL_WORDS symbol_record table k ≡ symbol_entry table k
  unfolding entry symbol_entry
  entry_of_symbols = refl

  pub entry_of_externs : entry EXTERN_WORDS extern_record table k ≡ extern_entry table k
  unfolding entry extern_entry
  entry_of_externs = refl

module _ (file table name : List ℕ) where
  pub named_of_symbols : last_named SYMBOL_WORDS (count SYMBOL_WORDS table) file table name ≡ symbol_named file table name
  named_of_symbols = refl

  pub named_of_externs : last_named EXTERN_WORDS (count EXTERN_WORDS table) file table name ≡ extern_named file table name
  named_of_externs = refl

-- ---- an address finds all: asked again from one more than the last answer, it gives each in turn, and then 20
module _ (table : List ℕ) (x : VA) (from : ℕ) where
  pub address_finds_the_next : (k : ℕ) → from ≤ k → k < symbol_count table → lies_at table x k ≡ true → ((j : ℕ) → from ≤ j → j < k → lies_at table x j ≡ false)
      → symbol_at table x from ≡ Ok k
  address_finds_the_next k a l h n = first_is (lies_at table x) (symbol_count table - from) from k a (omega arith) h n

  pub no_more_at_address : ((j : ℕ) → from ≤ j → j < symbol_count table → lies_at table x j ≡ false) → symbol_at table x from ≡ Err NoEntry
  no_more_at_address n = first_none (lies_at table x) (symbol_count table - from) from (λ j a b. n j a (omega arith))
