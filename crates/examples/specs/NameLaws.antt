-- The names of `names_object` are good, and they rise with the numbers of their symbols.
use Rattle.names.specs.declared.Name.{Name}
use Rattle.names.specs.Name.{good_name}
use Rattle.std.specs.declared.cmp.Ordering.TheVariants.{Less, Greater}
use Rattle.std.specs.Prelude.{◌≡◌, true, false, List, ℕ, ◌+◌, ◌*◌, ◌/◌, ◌%◌, ◌≤◌, ◌<◌, eqb, length, get_or, Option, None}
use Rattle.std.proofs.Common.{sym, ◌∙◌, ⊎_elim, ext_get_or}
use Rattle.std.proofs.Math.Path.{ap}
use native.Mathlib.Omega.{arith}
use Rattle.std.proofs.Math.ListN.{get_or-append}
use borrow.Author.Tests.{ne_eqb, le-leb, lt-ltb, le-ltb}
use Rattle.util.specs.Pick.{pick, le_or_lt}
use Rattle.util.specs.Prefix.{all_to}
use Rattle.le.specs.Le.{get, part, part_at, length_part}
use Rattle.object.specs.declared.Header.{Header}
use Rattle.object.specs.Format.{symbol_record_at}
use Rattle.chars.specs.Chars.{good_section_name, good_symbol_name}
use Rattle.chars.specs.GoodLaws.{visible_good}
use Rattle.names.specs.Bytes.{run, up_to_zero, compare_bytes}
use Rattle.names.specs.Name.{symbol_run, checked, span_at, symbol_text, symbol_name}
use Rattle.names.specs.NameLaws.{run_long, text_run}
use Rattle.names.specs.OrderLaws.{less_greater}
use Rattle.externs.specs.Externs.{order_of}
use Rattle.examples.specs.NamesObject.{MAX_NAMES, name_text, name_field, behind_name, symbols_at, names_object, names_header}
use Rattle.examples.specs.FieldLaws.{length_names, symbol_byte, symbol_number}

-- ---- texts
-- each comes before those of greater numbers
texts_rise : (j k : ℕ) → j < k → compare_bytes (name_text j) (name_text k) ≡ Less
unfolding compare_bytes pick
texts_rise j k h =
    ⊎_elim
    (λ q.
    let e : j / 64 ≡ k / 64 = omega arith in
    rw (e, le-ltb (0x30 + k / 64) (0x30 + k / 64) (omega arith), lt-ltb (0x30 + j % 64) (0x30 + k % 64) (omega arith)))
    (λ q. rw (lt-ltb (0x30 + j / 64) (0x30 + k / 64) (omega arith)))
    (le_or_lt (k / 64) (j / 64))

-- each is a good symbol name
text_good : (k : ℕ) → k < MAX_NAMES → good_symbol_name (name_text k) ≡ true
unfolding good_section_name all_to
text_good k h =
    visible_good (name_text k) (omega arith)
    (rw (
      le-leb 0x21 (0x30 + k / 64) (omega arith),
      le-leb (0x30 + k / 64) 0x7E (omega arith),
      le-leb 0x21 (0x30 + k % 64) (omega arith),
      le-leb (0x30 + k % 64) 0x7E (omega arith),
    ))

-- and what its field says
field_text : (k : ℕ) → up_to_zero (name_field k) ≡ name_text k
unfolding up_to_zero pick
field_text k = rw (ne_eqb (0x30 + k / 64) 0 (λ e. omega arith), ne_eqb (0x30 + k % 64) 0 (λ e. omega arith))

-- ---- symbol k's
module _ (n m : ℕ) (names : n ≤ MAX_NAMES) where
  abbrev f : List ℕ
  f = names_object n m

  abbrev h : Header
  h = names_header n m

  abbrev at : ℕ → ℕ
  at k = symbol_record_at h k

  module _ (k : ℕ) (below : k < n) where
    field_is : part f (at k) 8 ≡ name_field k
    field_is =
        let l : length (part f (at k) 8) ≡ 8 = length_part f (at k) 8 (let e = length_names n m in omega arith) in
        ext_get_or 0 (part f (at k) 8) (name_field k) l
        (λ i q. part_at f (at k) 8 i (omega arith) ∙ symbol_byte n m k i below (omega arith) ∙ get_or-append (name_field k) behind_name 0 i (omega arith))

    not_long : eqb (get 4 f (at k)) 0 ≡ false
    unfolding get
    not_long =
        let e : at k ≡ at k + 0 = omega arith in
        let d = ap (get 4 f) e ∙ symbol_number n m 4 k 0 below (omega arith) in
        ne_eqb (get 4 f (at k)) 0 (λ z. omega arith)

    not_zero : eqb (get_or f (at k) 0) 0 ≡ false
    not_zero =
        let e : at k ≡ at k + 0 = omega arith in
        let d = ap (λ (t : ℕ). get_or f t 0) e ∙ symbol_byte n m k 0 below (omega arith) in
        ne_eqb (get_or f (at k) 0) 0 (λ z. omega arith)

    pub text_is : symbol_text f h k ≡ name_text k
    unfolding span_at pick
    text_is = rw not_long (ap up_to_zero field_is ∙ field_text k)

    run_text : part f (at k) (run f (at k) 8) ≡ name_text k
    run_text = text_run f (at k) 8 ∙ ap up_to_zero field_is ∙ field_text k

    run_is : run f (at k) 8 ≡ 3
    run_is = sym (run_long f (at k) 8) ∙ ap (λ (l : List ℕ). length l) run_text

    -- it is good: three bytes at the record's start
    pub name_is : symbol_name f h k ≡ good_name (symbols_at m + 18 * k) 3
    unfolding symbol_run checked pick
    name_is = let p : part f (at k) 3 ≡ name_text k = rw run_is at run_text in rw (not_long, not_zero, run_is, p, text_good k (omega arith))

  -- it comes behind those of lower numbers
  pub names_rise : (j k : ℕ) → j < k → k < n → order_of f h k j ≡ Greater
  names_rise j k q p = rw (text_is j (omega arith), text_is k p) (less_greater (name_text j) (name_text k) (texts_rise j k q))
