-- Which symbols are listed, and where (01, "Layout, slots and fixups"): those with a positive section number whose section has a home, in file
-- order, at the home's start plus their value. `home` says where a section's home starts.
use Rattle.arch.specs.declared.RVA.{RVA}
use Rattle.std.specs.Prelude.{◌≡◌, refl, Bool, true, false, ◌&&◌, List, ℕ, ◌+◌, eqb, None, Option, Some}
use Rattle.util.specs.Prefix.{count_to}
use Rattle.object.specs.declared.Header.{Header}
use Rattle.object.specs.declared.Symbol.{Symbol}
use Rattle.kinds.specs.Symbol.{place_section}
use Rattle.kinds.specs.declared.Place.{Place}
use Rattle.kinds.specs.declared.Place.TheVariants.{In, Undefined, Common, Absolute, Nowhere, Other}
use Rattle.object.specs.Symbol.{symbol_of, place_of, symbol_place, listed_value, auxiliaries_left, primary}
use Rattle.homes.specs.Home.{by_number}

-- what is found for the section of a place: `none` outside the sections
unfoldable pub of_place : {A : Type 0} → (ℕ → A) → A → Place → A
of_place of none (In n) = by_number of none n
of_place of none Undefined = none
of_place of none Common = none
of_place of none Absolute = none
of_place of none Nowhere = none
of_place of none Other = none

-- where a place's home starts
abbrev pub place_home : (ℕ → Option RVA) → Place → Option RVA
place_home home p = of_place home None p

-- there is a home
abbrev pub is_some : Option RVA → Bool
is_some (Some o) = true
is_some None = false

-- record j is a listed symbol's: its own, and its place has a home
unfoldable pub listed : List ℕ → Header → (ℕ → Option RVA) → ℕ → Bool
listed f h home j = primary f h j && is_some (place_home home (symbol_place f h j))

-- as far behind a home's start as a value says
unfoldable pub offset_from : Option RVA → ℕ → ℕ
offset_from (Some o) value = o.0 + value
offset_from None value = value

-- where listed symbol j is, from the base
abbrev pub listed_offset : List ℕ → Header → (ℕ → Option RVA) → ℕ → ℕ
listed_offset f h home j = offset_from (place_home home (symbol_place f h j)) (listed_value f h j)

-- how many there are
abbrev pub listed_total : List ℕ → Header → (ℕ → Option RVA) → ℕ
listed_total f h home = count_to (listed f h home) h.symbols

-- what is found for a place is what is found for its section's number
pub of_section : {A : Type 0} (of : ℕ → A) (none : A) (p : Place) → of_place of none p ≡ by_number of none (place_section p)
unfolding of_place by_number
of_section of none (In n) = refl
of_section of none Undefined = refl
of_section of none Common = refl
of_section of none Absolute = refl
of_section of none Nowhere = refl
of_section of none Other = refl

-- ---- as a loop tells it that counts how many auxiliary records are left
pub listed_is : (f : List ℕ) (h : Header) (home : ℕ → Option RVA) (j left : ℕ) (s : Symbol) {r : Bool} → r ≡ (eqb left 0 && is_some (place_home home (place_of s))) → left ≡ auxiliaries_left f h j → s ≡ symbol_of f h j
    → r ≡ listed f h home j
unfolding listed primary
listed_is f h home j left s e a c = rw (c, a) at e
