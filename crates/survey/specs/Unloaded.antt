-- Unloaded sections (02, N3), in every file: their relocations are passed, and what goes to a symbol in one is skipped by K2.
use Rattle.std.specs.Prelude.{◌≡◌, refl, true, false, List, ℕ, suc, ◌<◌}
use Rattle.std.proofs.lemmas.Bool.{lt-leb}
use Rattle.util.specs.Pick.{pick}
use Rattle.object.specs.declared.Header.{Header}
use Rattle.object.specs.Section.{loaded}
use Rattle.object.specs.Symbol.{primary, kind, symbol_place}
use Rattle.object.specs.Relocation.{relocation_symbol, relocation_in}
use Rattle.kinds.specs.declared.SymbolKind.{SymbolKind}
use Rattle.kinds.specs.declared.SymbolKind.TheVariants as kinds
use Rattle.kinds.specs.declared.Place.TheVariants.{In}
use Rattle.homes.specs.Home.{by_number}
use Rattle.homes.specs.HomeLaws.{loaded_home, unloaded_none}
use Rattle.rules.specs.declared.Rule.TheVariants as rules
use Rattle.rules.specs.Rule.{rule_of}
use Rattle.codes.specs.Code.{symbol_rule}
use Rattle.targets.specs.declared.Skip.TheVariants.{NoHome}
use Rattle.targets.specs.declared.Target.TheVariants.{Missing}
use Rattle.targets.specs.Target.{home_target, rule_target, target_of, targets}
use Rattle.fixups.specs.declared.Outcome.TheVariants.{Passed, Skipped}
use Rattle.fixups.specs.Outcome.{resolved, outcome_at, outcome}
use Rattle.survey.specs.Survey.{outcomes}

-- data, text, label and section kind: in a section they are looked for by its number
abbrev pub ByNumber : SymbolKind → Type 0
ByNumber kinds.Data = Unit {0}
ByNumber kinds.Text = Unit {0}
ByNumber kinds.Section = Unit {0}
ByNumber kinds.Label = Unit {0}
ByNumber kinds.Unknown = ⊥
ByNumber kinds.File = ⊥

in_number : (k : SymbolKind) (n : ℕ) → ByNumber k → rule_of k (In n) ≡ rules.Section n
in_number kinds.Data n b = refl
in_number kinds.Text n b = refl
in_number kinds.Section n b = refl
in_number kinds.Label n b = refl
in_number kinds.Unknown n b = absurd b
in_number kinds.File n b = absurd b

-- symbol j's own record, of one of those kinds, is in section n, counted from 0, which is not loaded
pub record InUnloaded (f : List ℕ) (h : Header) (j n : ℕ) : Type 0 where
  pub inside : j < h.symbols
  pub own : primary f h j ≡ true
  pub by_number : ByNumber (kind f h j)
  pub place : symbol_place f h j ≡ In (suc n)
  pub unloaded : loaded f h n ≡ false

module _ (f : List ℕ) (h : Header) where
  -- a relocation of an unloaded section is passed, whatever it names and whatever its type
  pub unloaded_passed : (i k : ℕ) → loaded f h i ≡ false → outcomes f h i k ≡ Passed
  unfolding outcome outcome_at
  unloaded_passed i k t = rw (unloaded_none f h i t)

  -- such a symbol comes to K2
  pub unloaded_target : (j n : ℕ) → InUnloaded f h j n → targets f h j ≡ Missing NoHome
  unfolding target_of rule_target home_target by_number pick
  unloaded_target j n s =
      let e : symbol_rule f h j ≡ rules.Section (suc n) = rw s.place (in_number (kind f h j) (suc n) s.by_number) in
      rw (lt-leb h.symbols j s.inside, s.own, e, unloaded_none f h n s.unloaded)

  -- and so does every relocation of a loaded section that names it, whatever its type
  pub unloaded_skipped : (i k n : ℕ) → i < h.sections → loaded f h i ≡ true → InUnloaded f h (relocation_symbol f h i k) n → outcomes f h i k ≡ Skipped NoHome
  unfolding outcome outcome_at resolved relocation_in
  unloaded_skipped i k n q t s = rw (loaded_home f h i q t, unloaded_target (relocation_symbol f h i k) n s)
