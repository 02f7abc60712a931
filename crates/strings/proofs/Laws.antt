-- The ways through the strings, as the code asks them.
use Rattle.refusal.specs.declared.Refusal.TheVariants.{Storage, NotMapped}
use Rattle.std.specs.Prelude.{◌≡◌, Bool, true, false, List, ℕ, suc, ◌+◌, ◌-◌, ◌<◌, ◌≤◌, max, length, get_or, Option, Some, None, Ok, Err}
use Rattle.std.proofs.Common.{sym, ap, ◌∙◌, arith, le-leb}
use Rattle.std.proofs.Math.Bool.{and-false}
use Rattle.std.proofs.lemmas.Bool.{lt-leb}
use Rattle.util.specs.Pick.{pick}
use Rattle.arch.specs.declared.RVA.{RVA}
use Rattle.arch.specs.Address.{rva}
use Rattle.pagemap.specs.Pages.{storage_ok, probed}
use Rattle.aspace.specs.SpaceLaws.{some_picked, none_picked}
use Rattle.strings.specs.Ascii.{is_text, text_in, text_length, ascii_of, ascii_there}

left_suc : (i l : ℕ) → i < l → l - i ≡ suc (l - (i + 1))
left_suc i l h = omega arith

module _ (image marks : List ℕ) (at i : ℕ) where
  pub text_more : (m t : Bool) → i < length image → m ≡ probed (length image) marks i → m ≡ true → t ≡ is_text (get_or image i 0) → t ≡ true
      → at ≤ i → text_length image marks at ≡ (i - at) + text_in image marks i (length image - i) → text_length image marks at ≡ (i + 1 - at) + text_in image marks (i + 1) (length image - (i + 1))
  unfolding text_in pick
  text_more m t h p q r s k e = rw (e, left_suc i (length image) h, ← p, q, ← r, s) (omega arith)

  pub text_unmapped : (m : Bool) → i < length image → m ≡ probed (length image) marks i → m ≡ false → text_length image marks at ≡ (i - at) + text_in image marks i (length image - i)
      → i - at ≡ text_length image marks at
  unfolding text_in pick
  text_unmapped m h p q e = rw (e, left_suc i (length image) h, ← p, q) (omega arith)

  pub text_other : (t : Bool) → i < length image → t ≡ is_text (get_or image i 0) → t ≡ false → text_length image marks at ≡ (i - at) + text_in image marks i (length image - i)
      → i - at ≡ text_length image marks at
  unfolding text_in pick
  text_other t h p q e = rw (e, left_suc i (length image) h, ← p, q, and-false (probed (length image) marks i)) (omega arith)

  pub text_end : length image ≤ i → at ≤ i → i ≤ max at (length image) → text_length image marks at ≡ (i - at) + text_in image marks i (length image - i)
      → length image - at ≡ text_length image marks at
  unfolding text_in
  text_end h a k e = let d : length image - i ≡ 0 = omega arith in rw (e, d) (omega arith)

pub text_begin : (image marks : List ℕ) (at : ℕ) → text_length image marks at ≡ (at - at) + text_in image marks at (length image - at)
unfolding text_length
text_begin image marks at = let d : at - at ≡ 0 = omega arith in rw d (omega arith)

-- ---- the answers of a string's reader
module _ (r : Bool) (image marks : List ℕ) (o minimum : ℕ) (ok : Bool) (is : ok ≡ storage_ok (length image) (length marks)) where
  bad_by : (t : Bool) → ok ≡ false → Err Storage ≡ pick t (ascii_of image marks o minimum) (Err (pick (storage_ok (length image) (length marks)) NotMapped Storage))
  unfolding ascii_of pick
  bad_by true e = rw (← is, e)
  bad_by false e = rw (← is, e)

  pub ascii_bad : ok ≡ false → Err Storage ≡ ascii_there r image marks o minimum
  unfolding ascii_there
  ascii_bad e = bad_by r e

  module _ (x : Option RVA) (yes : ok ≡ true) (e : x ≡ pick r (Some (rva o)) None) where
    pub ascii_nowhere : x ≡ None → Err NotMapped ≡ ascii_there r image marks o minimum
    unfolding ascii_there pick
    ascii_nowhere h = rw (← is, yes, none_picked o r (sym e ∙ h))

    module _ (p : RVA) (n : ℕ) (h : x ≡ Some p) (q : n ≡ text_length image marks p.0) where
      length_by : n ≡ text_length image marks o
      length_by = let k : p.0 ≡ o = ap (λ (z : RVA). z.0) (some_picked o r p (sym e ∙ h)).1 in cc

      pub ascii_short : n < minimum → Ok None ≡ ascii_there r image marks o minimum
      unfolding ascii_there ascii_of pick
      ascii_short z = rw (← is, yes, (some_picked o r p (sym e ∙ h)).0, ← length_by, lt-leb minimum n z)

      pub ascii_text : minimum ≤ n → Ok (Some (record { start = p; length = n })) ≡ ascii_there r image marks o minimum
      unfolding ascii_there ascii_of pick
      ascii_text z = rw (← is, yes, (some_picked o r p (sym e ∙ h)).0, ← length_by, le-leb minimum n z, (some_picked o r p (sym e ∙ h)).1)

pub ruleset asciis = (ascii_bad, ascii_nowhere)
