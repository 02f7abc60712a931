-- Laws of sections' names that rest on what a slash's digits come to, and so cannot stand beside that definition: an edit of it must stay readable there.
use Rattle.std.specs.Prelude.{◌≡◌, refl, Bool, ◌&&◌, List, ℕ, eqb, get_or, None, Option, Some, Err}
use Rattle.std.proofs.Common.{sym, ap, ◌∙◌}
use Rattle.refusal.specs.declared.Refusal.{Refusal}
use Rattle.std.proofs.Math.Bool.{true, false}
use Rattle.std.proofs.Math.Dec.{leb}
use borrow.Author.Tests.{eq-eqb}
use Rattle.util.specs.Pick.{pick}
use Rattle.le.specs.Le.{part}
use Rattle.chars.specs.Chars.{good_section_name}
use Rattle.object.specs.declared.Header.{Header}
use Rattle.object.specs.Format.{NAME_SIZE, section_header_at}
use Rattle.names.specs.Bytes.{run, all_digits, decimal}
use Rattle.names.specs.Name.{good_name, name_bytes, name_start, name_length, short_run, long_run, slash_run, slash_offset, slash_by, slash_digits, section_run, checked, section_name_at, section_name, SLASH, slash_span, section_span_at, span_text, section_text, name_refusal, digits_refusal}
use Rattle.names.specs.NameLaws.{checked_is, slash_text, text_run}

-- a section's that begins with a slash goes by the offset
slash_picked : (f : List ℕ) (h : Header) (c : Bool) (o : ℕ) → pick c (long_run f h o) None ≡ slash_by f h (pick c (Some o) None)
unfolding pick slash_by
slash_picked f h true o = refl
slash_picked f h false o = refl

pub slash_is : (f : List ℕ) (h : Header) (at : ℕ) → slash_run f h at ≡ slash_by f h (slash_offset f at)
unfolding slash_run slash_offset
slash_is f h at = slash_picked f h (leb 2 (run f at NAME_SIZE) && all_digits (slash_digits f at)) (decimal (slash_digits f at))

-- where its digits are refused, so is the name, as they are
module _ (f : List ℕ) (h : Header) (r : Refusal) where
  by_digits : (d : Option ℕ) → digits_refusal d ≡ Err r → name_refusal (checked good_section_name f (slash_by f h d)) ≡ Err r
  unfolding checked slash_by
  by_digits (Some o) e = cc
  by_digits None e = e

  pub slash_refused : (at : ℕ) → get_or f at 0 ≡ SLASH → digits_refusal (slash_offset f at) ≡ Err r → name_refusal (section_name_at f h at) ≡ Err r
  unfolding section_run pick
  slash_refused at s e = rw (eq-eqb (get_or f at 0) SLASH s, slash_is f h at) (by_digits (slash_offset f at) e)

-- ---- a section's good name is what stands there
module _ (f : List ℕ) (h : Header) (at n : ℕ) where
  section_run_text : (field : ℕ) → section_run f h field ≡ good_name at n → span_text f (section_span_at f h field) ≡ part f at n
  unfolding section_run section_span_at pick
  section_run_text field e = by_slash (eqb (get_or f field 0) SLASH) e
    where
      by_slash : (b : Bool) → pick b (slash_run f h field) (short_run f field) ≡ good_name at n
          → span_text f (pick b (slash_span f h (slash_offset f field)) (record { at = field; most = NAME_SIZE })) ≡ part f at n
      by_slash true q = slash_text f h at n (slash_offset f field) (sym (slash_is f h field) ∙ q)
      by_slash false q =
          let a : field ≡ at = ap name_start q in
          let r : run f field NAME_SIZE ≡ n = ap name_length q in
          rw (← a, ← r) (sym (text_run f field NAME_SIZE))

-- wherever a section's name is good, it is the bytes that it is looked for by
pub section_name_text : (f : List ℕ) (h : Header) (i at n : ℕ) → section_name f h i ≡ good_name at n → section_text f h i ≡ name_bytes f (section_name f h i)
unfolding name_bytes
section_name_text f h i at n e =
    rw e (section_run_text f h at n (section_header_at h i) (checked_is good_section_name f (section_run f h (section_header_at h i)) at n e))
