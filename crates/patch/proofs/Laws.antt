-- The ways through the code. Assumes nothing.
use Rattle.patch.specs.declared.answer.Progress.{Progress}
use Rattle.refusal.specs.declared.Refusal.{Refusal}
use Rattle.std.specs.Prelude.{Result, Ok, Err}
use Rattle.std.proofs.Common.{◌≡◌, ℕ, suc, ◌+◌, ◌-◌, ◌*◌, ◌%◌, ◌^◌, ◌<◌, ◌≤◌, Bool, true, false, not, ◌&&◌, eqb, leb, List, length, take, drop, sym, refl, ap, ◌∙◌, zero-add, arith, ne_eqb, le-leb, leb-true}
use Rattle.std.specs.Int.{bytes_low_first}
use borrow.Rule.Slice.PartMut.{put_mid}
use Rattle.util.specs.Pick.{pick, head_passes, rest_passes, both_ways, and_left, and_right, and_both}
use Rattle.util.specs.Prefix.{all_at}
use Rattle.le.specs.Le.{get, part, le_low, get_same, part_at}
use Rattle.le.proofs.Laws.{number_set}
use Rattle.limits.specs.Records.{WORD, FIXUP_WORDS}
use Rattle.words.specs.Words.{word_of}
use Rattle.arch.specs.Page.{PAGE_SIZE}
use Rattle.refusal.specs.Refusal.{Code, PASSES, STORAGE, NOT_MAPPED, POSITION, answer_of, new_is, old_is}
use Rattle.pagemap.specs.Pages.{storage_ok}
use Rattle.pagemap.specs.PageLaws.{storage_whole}
use Rattle.patch.specs.Fixes.{NARROW, NARROW_BYTES, WIDE_BYTES, fix_count, place_at, bits_at, value_at, width_of, known_bits, fixed, fixed_from, length_from}
use Rattle.patch.specs.Inside.{span_in, fix_in, portion_in, all_mapped, portion_inside, mapped_room, mapped_below, portion_same}
use Rattle.patch.specs.Patch.{portion, portion_ok, patch_code, Patches}

-- ---- a part of a known length: what is read of it is so in the whole
pub word_read : (l : List ℕ) (k w r : ℕ) → r ≡ get WORD (take (WORD * (FIXUP_WORDS * k + w) + WORD - WORD * (FIXUP_WORDS * k + w)) (drop (WORD * (FIXUP_WORDS * k + w)) l)) 0 → r ≡ word_of FIXUP_WORDS l k w
unfolding word_of part
word_read l k w r e =
    let at : ℕ = WORD * (FIXUP_WORDS * k + w) in
    let z : at + WORD - at ≡ WORD = omega arith in
    (rw z at e) ∙ get_same WORD (take WORD (drop at l)) l 0 at (λ j h. rw zero-add (part_at l at WORD j h))

-- ---- the short test
pub span_is : (size base a n r : ℕ) → n ≤ size → base + size < 2 ^ 64 → r < 2 ^ 64 → a < 2 ^ 64 → (r + base) % 2 ^ 64 ≡ a → leb r (size - n) ≡ span_in size base a n
unfolding span_in
span_is size base a n r h f x y e =
    both_ways (leb r (size - n)) (leb base a && leb (a + n) (base + size))
    (λ t.
    let l = leb-true r (size - n) t in
    and_both (leb base a) (leb (a + n) (base + size)) (le-leb base a (omega arith)) (le-leb (a + n) (base + size) (omega arith)))
    (λ t.
    let l = leb-true base a (and_left (leb base a) (leb (a + n) (base + size)) t) in
    let m = leb-true (a + n) (base + size) (and_right (leb base a) (leb (a + n) (base + size)) t) in
    le-leb r (size - n) (omega arith))

module _ (size : ℕ) (marks : List ℕ) (base : ℕ) (ok : Bool) (is : ok ≡ all_mapped size marks base) (yes : ok ≡ true) where
  pub quick_room : WIDE_BYTES ≤ size
  quick_room = mapped_room size marks base (sym is ∙ yes)

  pub quick_below : base + size < 2 ^ 64
  quick_below = mapped_below size marks base (sym is ∙ yes)

  pub quick_is : (fixes : List ℕ) (p n : ℕ) (r : Bool) → size % PAGE_SIZE ≡ 0 → r ≡ portion_in size base fixes p n → r ≡ portion_ok size marks base fixes p n
  quick_is fixes p n r whole e = e ∙ portion_same size marks base fixes whole (sym is ∙ yes) p n

pub ruleset quick_ways = (quick_room, quick_below, quick_is)

-- ---- a fixup that lies in the image
module _ (size base : ℕ) (fixes : List ℕ) (k place : ℕ) (at : place ≡ place_at fixes k) (inside : fix_in size base fixes k ≡ true) where
  lies : span_in size base place (width_of (bits_at fixes k)) ≡ true
  unfolding fix_in
  lies = rw at (and_right (known_bits (bits_at fixes k)) (span_in size base (place_at fixes k) (width_of (bits_at fixes k))) inside)

  pub in_above : base ≤ place
  unfolding span_in
  in_above = leb-true base place (and_left (leb base place) (leb (place + width_of (bits_at fixes k)) (base + size)) lies)

  in_below : place + width_of (bits_at fixes k) ≤ base + size
  unfolding span_in
  in_below = leb-true (place + width_of (bits_at fixes k)) (base + size) (and_right (leb base place) (leb (place + width_of (bits_at fixes k)) (base + size)) lies)

  module _ (bits : ℕ) (wide : bits ≡ bits_at fixes k) where
    pub room_narrow : bits ≡ NARROW → place - base + NARROW_BYTES ≤ size
    unfolding pick
    room_narrow e = let a = in_above in let b = rw (← wide, e) at in_below in omega arith

    pub room_wide : (bits ≡ NARROW → ⊥) → place - base + WIDE_BYTES ≤ size
    unfolding pick
    room_wide e = let a = in_above in let b = rw (← wide, ne_eqb bits NARROW e) at in_below in omega arith

module _ (base : ℕ) (fixes : List ℕ) (k : ℕ) (image bytes : List ℕ) (place value bits : ℕ)
    (at : place ≡ place_at fixes k) (is : value ≡ value_at fixes k) (wide : bits ≡ bits_at fixes k) where
  pub applied_narrow : bits ≡ NARROW → place - base + NARROW_BYTES ≤ length image → bytes ≡ bytes_low_first 0 NARROW_BYTES (value % 2 ^ 32)
      → put_mid (place - base) (place - base + NARROW_BYTES - (place - base)) image bytes ≡ fixed base fixes image k
  unfolding fixed pick
  applied_narrow e h x = rw (← wide, e, ← is, ← at, ← le_low NARROW_BYTES value) (number_set image (place - base) NARROW_BYTES (value % 2 ^ 32) bytes h x)

  pub applied_wide : (bits ≡ NARROW → ⊥) → place - base + WIDE_BYTES ≤ length image → bytes ≡ bytes_low_first 0 WIDE_BYTES value
      → put_mid (place - base) (place - base + WIDE_BYTES - (place - base)) image bytes ≡ fixed base fixes image k
  unfolding fixed pick
  applied_wide e h x = rw (← wide, ne_eqb bits NARROW e, ← is, ← at) (number_set image (place - base) WIDE_BYTES value bytes h x)

pub ruleset apply_ways = (in_above, room_narrow, room_wide, applied_narrow, applied_wide)

-- ---- the loop over a portion
module _ (base : ℕ) (fixes image : List ℕ) (p : ℕ) where
  pub from_none : image ≡ fixed_from base fixes image p 0
  unfolding fixed_from
  from_none = refl

  pub from_again : (k : ℕ) (now after : List ℕ) → now ≡ fixed_from base fixes image p k → after ≡ fixed base fixes now (p + k) → after ≡ fixed_from base fixes image p (k + 1)
  unfolding fixed_from
  from_again k now after e q =
      let z : k + 1 ≡ suc k = omega arith in
      rw (z, ← e) q

  from_long : (n : ℕ) (now : List ℕ) → now ≡ fixed_from base fixes image p n → length now ≡ length image
  from_long n now e = rw e (length_from base fixes image p n)

  pub from_in : (k n : ℕ) (now : List ℕ) → now ≡ fixed_from base fixes image p k → portion_in (length image) base fixes p n ≡ true → k < n → fix_in (length now) base fixes (p + k) ≡ true
  from_in k n now q e h = rw (from_long k now q) (all_at (λ k. fix_in (length image) base fixes (p + k)) n k e h)

pub ruleset from_loop = (from_none, from_again, from_in)

-- ---- 14, 13, 15
module _ (count number position n total : ℕ) (is : count ≡ total) (many : n ≡ portion count number position) where
  pub portion_fits : position ≤ count → position + n ≤ total
  portion_fits k = omega arith

pub whole_is : (size marks : ℕ) (ok : Bool) → ok ≡ storage_ok size marks → not ok ≡ false → size % PAGE_SIZE ≡ 0
whole_is size marks true e t = storage_whole size marks (sym e)
whole_is size marks false e t = cc

module _ (size : ℕ) (marks : List ℕ) (base : ℕ) (fixes : List ℕ) (number position count n : ℕ) (all : Bool)
    (is : count ≡ fix_count fixes) (many : n ≡ portion count number position) (checked : all ≡ portion_ok size marks base fixes position n) where
  pub all_checked : all ≡ portion_ok size marks base fixes position (portion (fix_count fixes) number position)
  all_checked = rw (← is, ← many) checked

pub ruleset code_ways = (portion_fits, whole_is, all_checked)

-- ---- the answer
module _ (marks : List ℕ) (base : ℕ) (fixes image : List ℕ) (number position : ℕ) (code : Code) (is : code ≡ patch_code (length image) marks base fixes number position) where
  pub inside_is : (u : Unit) → code ≡ Ok u → (count : ℕ) → count ≡ fix_count fixes → position ≤ count
  unfolding patch_code
  inside_is u z count e = rw e (leb-true position (fix_count fixes) (head_passes (leb position (fix_count fixes)) _ POSITION (sym is ∙ z) (λ q. cc)))

  pub inside_all : (u : Unit) → code ≡ Ok u → (count n : ℕ) → count ≡ fix_count fixes → n ≡ portion count number position → portion_in (length image) base fixes position n ≡ true
  unfolding patch_code
  inside_all u z count n e q =
      let m : ℕ = portion (fix_count fixes) number position in
      let all : Bool = portion_ok (length image) marks base fixes position m in
      let w : n ≡ m = q ∙ ap (λ (m : ℕ). portion m number position) e in
      let stored = rest_passes (leb position (fix_count fixes)) (pick (storage_ok (length image) (length marks)) (pick all PASSES NOT_MAPPED) STORAGE) POSITION (sym is ∙ z) (λ q. cc) in
      let mapped = rest_passes (storage_ok (length image) (length marks)) (pick all PASSES NOT_MAPPED) STORAGE stored (λ q. cc) in
      rw w (portion_inside (length image) marks base fixes position m (head_passes all PASSES NOT_MAPPED mapped (λ q. cc)))

  pub patch_yes : (u : Unit) → code ≡ Ok u → (count n : ℕ) (after : List ℕ) → count ≡ fix_count fixes → n ≡ portion count number position → after ≡ fixed_from base fixes image position n
      → Patches base marks fixes number position image after (Ok (record { position = position + n; done = eqb (position + n) count }))
  unfolding answer_of
  patch_yes u z count n after e q x =
      let c : patch_code (length image) marks base fixes number position ≡ PASSES = sym is ∙ z in
      let w : n ≡ portion (fix_count fixes) number position = q ∙ ap (λ (m : ℕ). portion m number position) e in
      record { says = rw (c, e, w); leaves = new_is code _ u _ _ after is z (rw w at x) }

  pub patch_no : (r : Refusal) (a : Result Progress Refusal) → code ≡ Err r → a ≡ Err r → Patches base marks fixes number position image image a
  unfolding answer_of
  patch_no r a z q =
      let c : patch_code (length image) marks base fixes number position ≡ Err r = sym is ∙ z in
      record { says = rw (c, q); leaves = old_is code _ r _ image is z }

pub ruleset patch_ways = (portion_fits, inside_is, inside_all, patch_yes, patch_no)
