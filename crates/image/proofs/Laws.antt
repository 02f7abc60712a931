-- The ways through the code. Assumes nothing.
use Rattle.std.specs.Prelude.{None, Option, Some}
use Rattle.std.proofs.Common.{◌≡◌, ℕ, ◌+◌, ◌-◌, ◌*◌, ◌%◌, ◌^◌, ◌<◌, ◌≤◌, Bool, true, false, List, length, sym, refl, ap, ◌∙◌, ⊎_elim, add-one, arith}
use Rattle.util.specs.Pick.{pick, yes_no}
use Rattle.limits.specs.Limits.{SLOT_SIZE}
use Rattle.arch.specs.declared.RVA.{RVA}
use Rattle.arch.specs.Address.{rva, offset_plus, plus_tells, plus_past}
use Rattle.le.specs.Le.{le, part, splice, le_low, splice_past}
use Rattle.object.specs.declared.Header.{Header}
use Rattle.object.specs.Format.{raw_pointer, raw_size}
use Rattle.object.specs.Section.{loaded, uninitialized, file_start, file_end}
use Rattle.homes.specs.Home.{start_of}
use Rattle.image.specs.Laid.{zeroed, section_bytes, section_step, sections_laid, slot_step, slots_laid, laid}
use Rattle.image.specs.LaidLaws.{length_sections, length_slots}

-- ---- sections
module _ (f : List ℕ) (h : Header) (home : ℕ → Option RVA) (image : List ℕ) where
  pub section_laid : (i : ℕ) (at : RVA) (l : Bool) (s b : List ℕ) → l ≡ loaded f h i → l ≡ true → at ≡ rva (start_of (home i)) → s ≡ section_bytes f h i → b ≡ splice image at.0 s → b ≡ section_step f h home image i
  unfolding section_step pick
  section_laid i at l s b q t e d w = rw (← q, t, ← d) (rw e at w)

  pub section_not : (i : ℕ) (l : Bool) → l ≡ loaded f h i → l ≡ false → image ≡ section_step f h home image i
  unfolding section_step pick
  section_not i l q t = rw (← q, t)

  pub sections_none : image ≡ sections_laid f h home image 0
  unfolding sections_laid
  sections_none = refl

  pub sections_again : (i : ℕ) (b c : List ℕ) → b ≡ sections_laid f h home image i → c ≡ section_step f h home b i → c ≡ sections_laid f h home image (i + 1)
  unfolding sections_laid
  sections_again i b c e q = rw (add-one i, ← e) q

  pub sections_end : (i n m : ℕ) (b : List ℕ) → b ≡ sections_laid f h home image i → i ≤ n → n ≤ i → n ≡ m → b ≡ sections_laid f h home image m
  sections_end i n m b e a c q = let z : i ≡ m = omega arith in cc

  -- no byte more or less
  pub sections_same : (n : ℕ) (b : List ℕ) → b ≡ sections_laid f h home image n → length b ≡ length image
  sections_same n b e = rw e (length_sections f h home image n)

pub range_up : (f : List ℕ) (h : Header) (i a b : ℕ) → a ≡ file_start f h i → b ≡ file_end f h i → a ≤ b
unfolding file_start file_end pick
range_up f h i a b p q =
    ⊎_elim (λ t. let x : a ≡ 0 = rw t at p in omega arith)
    (λ t. let x : a ≡ raw_pointer f h i = rw t at p in let y : b ≡ raw_pointer f h i + raw_size f h i = rw t at q in omega arith)
    (yes_no (uninitialized f h i))

pub ruleset section_ways = (section_laid, section_not)

pub ruleset sections_loop = (sections_none, sections_again, sections_end, sections_same)

-- ---- slots
module _ (base undef : ℕ) (image : List ℕ) where
  pub slot_laid : (e v n : ℕ) (x : Option RVA) (o : RVA) (b : List ℕ) → x ≡ offset_plus undef (SLOT_SIZE * n) → n ≡ e → x ≡ Some o → b ≡ splice image o.0 (le SLOT_SIZE v) → v ≡ (base + o.0) % 2 ^ 64 → b ≡ slot_step base undef image e
  unfolding slot_step
  slot_laid e v n x o b q0 ne t d w =
      let q : x ≡ offset_plus undef (SLOT_SIZE * e) = rw ne at q0 in
      let p : undef + SLOT_SIZE * e ≡ o.0 = plus_tells undef (SLOT_SIZE * e) o (sym q ∙ t) in
      let z : base + undef + SLOT_SIZE * e ≡ base + o.0 = omega arith in
      let low : v % 256 ^ 4 ≡ (base + o.0) % 256 ^ 4 = omega arith in
      let y : le SLOT_SIZE v ≡ le SLOT_SIZE (base + o.0) = sym (le_low SLOT_SIZE v) ∙ ap (le SLOT_SIZE) low ∙ le_low SLOT_SIZE (base + o.0) in
      rw (z, p, ← y) d

  pub slot_past : (e n : ℕ) (x : Option RVA) → x ≡ offset_plus undef (SLOT_SIZE * n) → n ≡ e → x ≡ None → length image < 2 ^ 64 → image ≡ slot_step base undef image e
  unfolding slot_step
  slot_past e n x q0 ne t k =
      let q : x ≡ offset_plus undef (SLOT_SIZE * e) = rw ne at q0 in
      let p : 2 ^ 64 ≤ undef + SLOT_SIZE * e = plus_past undef (SLOT_SIZE * e) (sym q ∙ t) in
      sym (splice_past image (undef + SLOT_SIZE * e) _ (omega arith))

  pub slots_none : image ≡ slots_laid base undef image 0
  unfolding slots_laid
  slots_none = refl

  pub slots_again : (e : ℕ) (b c : List ℕ) → b ≡ slots_laid base undef image e → c ≡ slot_step base undef b e → c ≡ slots_laid base undef image (e + 1)
  unfolding slots_laid
  slots_again e b c q d = rw (add-one e, ← q) d

  pub slots_end : (e n : ℕ) (b : List ℕ) → b ≡ slots_laid base undef image e → e ≤ n → n ≤ e → b ≡ slots_laid base undef image n
  slots_end e n b q a c = let z : e ≡ n = omega arith in cc

  pub slots_same : (n : ℕ) (b : List ℕ) → b ≡ slots_laid base undef image n → length b ≡ length image
  slots_same n b e = rw e (length_slots base undef image n)

pub ruleset slots_loop = (slots_none, slots_again, slots_end, slots_same)

-- ---- the three writes, one behind another
pub laid_is : (f : List ℕ) (h : Header) (home : ℕ → Option RVA) (image a b c : List ℕ) (pages base undef n : ℕ) → a ≡ zeroed pages image → b ≡ sections_laid f h home a h.sections → c ≡ slots_laid base undef b n → c ≡ laid f h home pages base undef n image
laid_is f h home image a b c pages base undef n p q r = rw (← p, ← q) r

-- ---- bytes that are known by equations
pub bytes_by : (f : List ℕ) (h : Header) (i a b : ℕ) {r : List ℕ} → r ≡ part f a (b - a) → a ≡ file_start f h i → b ≡ file_end f h i → r ≡ section_bytes f h i
bytes_by f h i a b p q e = rw (← q, ← e) p
