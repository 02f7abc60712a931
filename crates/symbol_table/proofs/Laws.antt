-- The loop over the symbols. Assumes nothing.
use Rattle.names.specs.declared.Name.{Name}
use Rattle.std.specs.Prelude.{Option, None}
use Rattle.std.proofs.Common.{◌≡◌, ℕ, ◌+◌, ◌*◌, ◌%◌, ◌^◌, ◌≤◌, Bool, true, false, ◌&&◌, eqb, List, [], ◌∷◌, length, refl, ap, ◌∙◌, arith}
use Rattle.limits.specs.Records.{SYMBOL_BYTES}
use Rattle.arch.specs.declared.RVA.{RVA}
use Rattle.arch.specs.Address.{rva}
use Rattle.le.specs.Le.{splice}
use Rattle.object.specs.declared.Header.{Header}
use Rattle.kinds.specs.declared.SymbolKind.{SymbolKind}
use Rattle.kinds.specs.declared.Place.{Place}
use Rattle.object.specs.declared.Symbol.{Symbol}
use Rattle.object.specs.Symbol.{symbol_of, kind_of, place_of, listed_of, kind, symbol_place, auxiliaries_left}
use Rattle.object.specs.SymbolLaws.{left_none, left_past}
use Rattle.kinds.specs.Symbol.{kind_number}
use Rattle.names.specs.Name.{symbol_name, name_start, name_length}
use Rattle.stops.specs.Stops.{stops_of}
use Rattle.stops.specs.Names.{symbol_name_by}
use Rattle.stops.specs.NameLaws.{symbol_name_is}
use Rattle.homes.specs.Listed.{of_place, place_home, is_some, listed, offset_from, listed_offset, listed_is}
use Rattle.words.specs.Words.{word_bytes, word_low}
use Rattle.words.specs.Picked.{picked, Standing, picked_none, picked_more, picked_same, standing_long}
use Rattle.symbol_table.specs.Symbols.{symbol_words, symbol_table}

-- a symbol's record from what was read of it
pub symbol_put : (f : List ℕ) (h : Header) (base : ℕ) (home : ℕ → Option RVA) (row : ℕ → ℕ) (stops b c : List ℕ) (s : Symbol) (j k x v kn ns nl rec n own : ℕ) (at : RVA) (name : Option Name) (sk : SymbolKind) (p : Place)
    → c ≡ splice b k (word_bytes (x ∷ kn ∷ ns ∷ nl ∷ n ∷ own ∷ [])) → n ≡ j → own ≡ rec → x ≡ (base + at.0) % 2 ^ 64 → at ≡ rva (offset_from (place_home home p) v) → v ≡ listed_of s → kn ≡ kind_number sk → sk ≡ kind_of s
    → ns ≡ name_start name → nl ≡ name_length name → name ≡ symbol_name_by f h stops j → stops ≡ stops_of false f h → rec ≡ of_place row 0 p → p ≡ place_of s → s ≡ symbol_of f h j
    → c ≡ splice b k (word_bytes (symbol_words f h base home row j))
unfolding symbol_words
symbol_put f h base home row stops b c s j k x v kn ns nl rec n own at name sk p d0 nj oh lo e1 e0 e2 e3 e4 e5 e w e7 e8 is =
    let d : c ≡ splice b k (word_bytes (x ∷ kn ∷ ns ∷ nl ∷ j ∷ rec ∷ [])) = rw (nj, oh) at d0 in
    let e6 : name ≡ symbol_name f h j = e ∙ symbol_name_is f h stops w j in
    let z : at.0 ≡ listed_offset f h home j = ap (λ (o : RVA). o.0) (rw (e8, e0, is) at e1) in
    let y : sk ≡ kind f h j = rw is at e3 in
    let q : p ≡ symbol_place f h j = rw is at e8 in
    rw (← z, ← y, ← e2, ← e6, ← e4, ← e5, ← q, ← e7) (d ∙ ap (splice b k) (rw lo (word_low (base + at.0) (kn ∷ ns ∷ nl ∷ j ∷ rec ∷ []))))

symbol_long : (f : List ℕ) (h : Header) (base : ℕ) (home : ℕ → Option RVA) (row : ℕ → ℕ) (j : ℕ) → 8 * length (symbol_words f h base home row j) ≡ SYMBOL_BYTES
unfolding symbol_words
symbol_long f h base home row j = refl

-- ---- the loop, with `left` auxiliary records from j on
module _ (f : List ℕ) (h : Header) (base : ℕ) (home : ℕ → Option RVA) (row : ℕ → ℕ) where
  abbrev pub Written : List ℕ → List ℕ → ℕ → ℕ → Type 0
  Written l b n j = Standing SYMBOL_BYTES (picked (listed f h home) (symbol_words f h base home row) j) l b n j

  pub symbols_none : (l : List ℕ) → Written l l 0 0
  symbols_none l = picked_none (listed f h home) (symbol_words f h base home row) SYMBOL_BYTES l

  module _ (l b : List ℕ) (n j left : ℕ) (s : Symbol) (t : Bool) where
    pub symbols_more : (c : List ℕ) → Written l b n j → t ≡ (eqb left 0 && is_some (place_home home (place_of s))) → left ≡ auxiliaries_left f h j → s ≡ symbol_of f h j → t ≡ true
        → c ≡ splice b (SYMBOL_BYTES * n) (word_bytes (symbol_words f h base home row j)) → Written l c (n + 1) (j + 1)
    symbols_more c o e a q y d =
        picked_more (listed f h home) (symbol_words f h base home row) SYMBOL_BYTES j n l b t (listed_is f h home j left s e a q) o (symbol_long f h base home row j) c y d

    pub symbols_same : Written l b n j → t ≡ (eqb left 0 && is_some (place_home home (place_of s))) → left ≡ auxiliaries_left f h j → s ≡ symbol_of f h j → t ≡ false → Written l b n (j + 1)
    symbols_same o e a q y = picked_same (listed f h home) (symbol_words f h base home row) SYMBOL_BYTES j n l b t (listed_is f h home j left s e a q) o y

  pub symbols_end : (l b : List ℕ) (j n m : ℕ) → Written l b n j → j ≤ m → m ≤ j → m ≡ h.symbols → b ≡ splice l 0 (symbol_table f h base home row)
  symbols_end l b j n m o a k z =
      let w : j ≡ h.symbols = omega arith in
      o.bytes ∙ ap (λ (i : ℕ). splice l 0 (picked (listed f h home) (symbol_words f h base home row) i)) w

pub ruleset symbols_loop = (symbols_none, symbols_more, symbols_same, symbols_end, standing_long, left_none, left_past)
