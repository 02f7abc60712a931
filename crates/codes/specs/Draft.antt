-- The codes in two passes: first a draft that leaves out which section has a symbol's name, then the codes of those symbols, by a search in halves.
use Rattle.std.specs.Prelude.{◌≡◌, Bool, List, ℕ, ◌+◌, ◌%◌, eqb, get_or}
use Rattle.std.proofs.Math.Path.{refl}
use Rattle.std.proofs.Common.{sym, ◌∙◌, arith, ne_eqb}
use Rattle.std.proofs.Math.Bool.{true, false}
use Rattle.util.specs.Pick.{pick}
use Rattle.util.specs.Prefix.{any_to, list_to}
use Rattle.object.specs.declared.Header.{Header}
use Rattle.object.specs.Section.{loaded}
use Rattle.object.specs.Symbol.{primary}
use Rattle.rules.specs.declared.Rule.{Rule}
use Rattle.rules.specs.declared.Rule.TheVariants.{Section, Extern, Slot, Name, Refused}
use Rattle.names.specs.Bytes.{are_same_bytes, UNDEF}
use Rattle.names.specs.Name.{symbol_text}
use Rattle.ranks.specs.Named.{TableRecord, Loaded, Undef, Nowhere, section_is_named}
use Rattle.codes.specs.Code.{AUXILIARY, SPAN, HOMES, symbol_rule, named_code, rule_code, code_by_name, code_of}

-- the code for the time being of a symbol whose section is looked for by name
abbrev pub NAMED : ℕ
NAMED = 8

-- what has a name that no loaded section has: UNDEF, or nothing
abbrev pub undef_named : List ℕ → TableRecord
undef_named name = pick (are_same_bytes name UNDEF) Undef Nowhere

module _ (f : List ℕ) (h : Header) where
  -- of a name by section i: if it is not that section's, then no section's; else by the section, which stands before all others of the name
  unfoldable pub code_there : List ℕ → ℕ → ℕ
  code_there name i =
      pick (section_is_named f h name i)
      (pick (loaded f h i) (named_code (Loaded i) true) (named_code (undef_named name) true))
      (named_code (undef_named name) false)

  -- of record j in the first pass
  unfoldable pub draft_of : ℕ → ℕ
  draft_of j = pick (primary f h j) (rule_code (symbol_rule f h j) NAMED) AUXILIARY

  -- of the records below n
  abbrev pub drafts_to : ℕ → List ℕ
  drafts_to n = list_to draft_of n

  -- for some of them a section is looked for
  abbrev pub some_drafts : ℕ → Bool
  some_drafts n = any_to (λ j. eqb (draft_of j) NAMED) n

  -- the code of record j from its draft
  unfoldable pub final_code : ℕ → ℕ → ℕ
  final_code c j = pick (eqb c NAMED) (code_by_name f h (symbol_text f h j)) c

  -- those of the records below n
  abbrev pub final_codes : List ℕ → ℕ → List ℕ
  final_codes drafts n = list_to (λ j. final_code (get_or drafts j 0) j) n

  rule_named : (r : Rule) (j : ℕ) → final_code (rule_code r NAMED) j ≡ rule_code r (code_by_name f h (symbol_text f h j))
  unfolding rule_code final_code pick
  rule_named (Section n) j = rw (ne_eqb (HOMES + n % SPAN) NAMED (λ e. omega arith))
  rule_named Extern j = refl
  rule_named Slot j = refl
  rule_named Name j = refl
  rule_named Refused j = refl

  own_named : (b : Bool) (j : ℕ) → final_code (pick b (rule_code (symbol_rule f h j) NAMED) AUXILIARY) j ≡ pick b (rule_code (symbol_rule f h j) (code_by_name f h (symbol_text f h j))) AUXILIARY
  unfolding final_code pick
  own_named true j = rule_named (symbol_rule f h j) j
  own_named false j = refl

  -- the two passes give the code
  pub draft_named : (j : ℕ) → final_code (draft_of j) j ≡ code_of f h j
  unfolding draft_of
  draft_named j = own_named (primary f h j) j

  plain_case : (b : Bool) (j : ℕ) → eqb (draft_of j) NAMED ≡ b → b ≡ false → final_code (draft_of j) j ≡ draft_of j
  unfolding final_code pick
  plain_case b j e z = rw (e, z)

  -- and the first alone where no section is looked for
  pub draft_plain : (j : ℕ) → eqb (draft_of j) NAMED ≡ false → draft_of j ≡ code_of f h j
  draft_plain j e = sym (plain_case (eqb (draft_of j) NAMED) j refl e) ∙ draft_named j
