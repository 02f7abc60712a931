-- Which symbols' names a relocation puts among the externs (01, "Layout, slots and fixups").
use Rattle.std.specs.Prelude.{◌≡◌, Bool, false, ◌&&◌, not, ℕ, ◌+◌, ◌%◌, ◌≤◌, ltb, replicate}
use Rattle.std.proofs.Math.Path.{refl, sym, ap, fun_ext}
use Rattle.std.proofs.Common.{◌∙◌, arith}
use Rattle.std.proofs.Math.Bool.{true}
use mathlib.Core.List.{List}
use Rattle.std.proofs.Math.Logic.{⊎_elim}
use Rattle.std.proofs.Math.ListN.{length, get_or, length-replicate, get_or-eq_default}
use Rattle.std.proofs.lemmas.List.{get_or-replicate}
use borrow.Author.Tests.{ne_eqb, lt-ltb, le-ltb}
use Rattle.util.specs.Pick.{pick, le_or_lt, and_right}
use Rattle.util.specs.Prefix.{any_out, length_list, list_at}
use Rattle.le.specs.Le.{splice, splice_long, splice_above, front_at}
use Rattle.object.specs.declared.Header.{Header}
use Rattle.object.specs.Section.{loaded}
use Rattle.object.specs.Symbol.{primary, is_symbol}
use Rattle.rules.specs.declared.Rule.{Rule}
use Rattle.rules.specs.declared.Rule.TheVariants.{Section, Extern, Slot, Name, Refused}
use Rattle.names.specs.Bytes.{are_same_bytes, UNDEF}
use Rattle.names.specs.Name.{symbol_text}
use Rattle.ranks.specs.Named.{TableRecord, Loaded, Undef, Nowhere, section_is_named, some_section_named, loaded_named, named_record}
use Rattle.ranks.specs.FirstLaws.{found_at}
use Rattle.codes.specs.Code.{AUXILIARY, EXTERN, UNDEF_EXTERN, SPAN, HOMES, RECORDS, symbol_rule, named_code, rule_code, symbol_code, code_of, codes_to, is_extern, puts_in}

-- by the rule; `taken`: some file section has the name
unfoldable pub puts_by : Rule → Bool → Bool
puts_by (Section n) taken = false
puts_by Extern taken = true
puts_by Slot taken = false
puts_by Name taken = not taken
puts_by Refused taken = false

-- symbol j's name, if a relocation names it
abbrev pub puts_name : List ℕ → Header → ℕ → Bool
puts_name f h j = puts_by (symbol_rule f h j) (some_section_named f h (symbol_text f h j))

-- a relocation to number j puts its name, whatever the type; one that names no symbol's own record puts none
unfoldable pub puts : List ℕ → Header → ℕ → Bool
puts f h j = is_symbol f h j && puts_name f h j

-- ---- and so say the codes
-- a number behind HOMES or RECORDS is none of those two
high : (c : ℕ) → is_extern (HOMES + c) ≡ false
high c = rw (ne_eqb (HOMES + c) EXTERN (λ e. omega arith), ne_eqb (HOMES + c) UNDEF_EXTERN (λ e. omega arith))

higher : (c : ℕ) → is_extern (RECORDS + c) ≡ false
higher c = rw (ne_eqb (RECORDS + c) EXTERN (λ e. omega arith), ne_eqb (RECORDS + c) UNDEF_EXTERN (λ e. omega arith))

named_puts : (x : TableRecord) (taken : Bool) → ((i : ℕ) → x ≡ Loaded i → taken ≡ true) → is_extern (named_code x taken) ≡ not taken
unfolding named_code pick
named_puts (Loaded i) taken t = rw (higher (i % SPAN), t i refl)
named_puts Undef true t = refl
named_puts Undef false t = refl
named_puts Nowhere true t = refl
named_puts Nowhere false t = refl

rule_puts : (r : Rule) (x : TableRecord) (taken : Bool) → ((i : ℕ) → x ≡ Loaded i → taken ≡ true) → is_extern (rule_code r (named_code x taken)) ≡ puts_by r taken
unfolding rule_code puts_by
rule_puts (Section n) x taken t = high (n % SPAN)
rule_puts Extern x taken t = refl
rule_puts Slot x taken t = refl
rule_puts Name x taken t = named_puts x taken t
rule_puts Refused x taken t = refl

own_puts : (b : Bool) (c : ℕ) → is_extern (pick b c AUXILIARY) ≡ (b && is_extern c)
unfolding pick
own_puts true c = refl
own_puts false c = refl

module _ (f : List ℕ) (h : Header) where
  -- a record of a loaded section is one of some section
  taken_loaded : (name : List ℕ) (i : ℕ) → named_record f h name ≡ Loaded i → some_section_named f h name ≡ true
  unfolding loaded_named
  taken_loaded name i e =
      let r = found_at (loaded_named f h name) (are_same_bytes name UNDEF) h.sections i e in
      sym (any_out (section_is_named f h name) i h.sections h.sections true r.inside refl (sym (and_right (loaded f h i) (section_is_named f h name i) r.passes)) refl)

  code_puts : (j : ℕ) → is_extern (code_of f h j) ≡ (primary f h j && puts_name f h j)
  code_puts j =
      rw (own_puts (primary f h j) (symbol_code f h j), rule_puts (symbol_rule f h j) (named_record f h (symbol_text f h j)) (some_section_named f h (symbol_text f h j)) (taken_loaded (symbol_text f h j)))

zeros : (size j : ℕ) → get_or {A = ℕ} (replicate size 0) j 0 ≡ 0
zeros size j =
    ⊎_elim (λ p. get_or-eq_default (replicate {A = ℕ} size 0) 0 {n = j} (rw (length-replicate {A = ℕ} size 0) p)) (λ p. get_or-replicate {A = ℕ} size j 0 0 p) (le_or_lt size j)

-- the codes of all records, and zeros behind them
pub record CodesKept (f : List ℕ) (h : Header) (codes : List ℕ) : Type 0 where
  pub long : h.symbols ≤ length codes
  pub each : (j : ℕ) → get_or codes j 0 ≡ pick (ltb j h.symbols) (code_of f h j) 0

module _ (f : List ℕ) (h : Header) (codes : List ℕ) where
  -- so is an array of zeros once it is filled
  pub filled_kept : (size : ℕ) → h.symbols ≤ size → codes ≡ splice (replicate size 0) 0 (codes_to f h h.symbols) → CodesKept f h codes
  unfolding pick
  filled_kept size k e =
      let l : length (codes_to f h h.symbols) ≡ h.symbols = length_list (code_of f h) h.symbols in
      let z : length {A = ℕ} (replicate size 0) ≡ size = length-replicate {A = ℕ} size 0 in
      record {
        long = rw (splice_long (replicate size 0) codes 0 (codes_to f h h.symbols) e) (omega arith);
        each = λ j. ap (λ (x : List ℕ). get_or x j 0) e ∙ ⊎_elim
            (λ p. rw (le-ltb j h.symbols p) (splice_above (replicate size 0) 0 (codes_to f h h.symbols) j (omega arith) ∙ zeros size j))
            (λ p. rw (lt-ltb j h.symbols p)
            (front_at (replicate size 0) (codes_to f h h.symbols) j (omega arith) (omega arith) ∙ list_at (code_of f h) 0 h.symbols j p))
            (le_or_lt h.symbols j);
      }

  -- it says which symbols put their names
  pub puts_kept : CodesKept f h codes → puts_in codes ≡ puts f h
  unfolding puts is_symbol pick
  puts_kept k =
      fun_ext (λ j. ⊎_elim (λ p. rw (k.each j, le-ltb j h.symbols p)) (λ p. rw (k.each j, lt-ltb j h.symbols p) (code_puts f h j)) (le_or_lt h.symbols j))
