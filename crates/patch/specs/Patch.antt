-- Patch: a portion of the fix list over the image (01, "Patch").
use Rattle.refusal.specs.declared.Refusal.{Refusal}
use Rattle.std.specs.Prelude.{◌≡◌, ℕ, zero, suc, ◌+◌, ◌-◌, min, Bool, List, length, ◌==◌, nat_le, Result, Ok, Err}
use Rattle.util.specs.Pick.{pick}
use Rattle.util.specs.Prefix.{all_to}
use Rattle.refusal.specs.Refusal.{Code, PASSES, POSITION, STORAGE, NOT_MAPPED, unless_refused, answer_of}
use Rattle.pagemap.specs.Pages.{storage_ok}
use Rattle.patch.specs.declared.answer.Progress.{Progress}
use Rattle.patch.specs.Fixes.{fix_count, fix_ok, fixed_from}

-- how many fixups a portion has: as many as asked for, or all that are left
abbrev pub portion : ℕ → ℕ → ℕ → ℕ
portion count number position = min number (count - position)

-- each of n fixups from p on can be applied
abbrev pub portion_ok : ℕ → List ℕ → ℕ → List ℕ → ℕ → ℕ → Bool
portion_ok size marks base fixes p n = all_to (λ k. fix_ok size marks base fixes (p + k)) n

-- what a portion is refused by: 14, 13, 15
unfoldable pub patch_code : ℕ → List ℕ → ℕ → List ℕ → ℕ → ℕ → Code
patch_code size marks base fixes number position =
    pick (nat_le position (fix_count fixes))
    (pick (storage_ok size (length marks))
    (pick (portion_ok size marks base fixes position (portion (fix_count fixes) number position)) PASSES NOT_MAPPED)
    STORAGE)
    POSITION

-- where a portion ends, and whether the list ends there
abbrev pub progress : ℕ → ℕ → Progress
progress count p = record { position = p; done = (p == count) }

-- the answer of a portion, by the code
abbrev pub patch_answer : Code → ℕ → ℕ → ℕ → Result Progress Refusal
patch_answer code count number position = answer_of code (progress count (position + portion count number position))

-- the image after it, which a refusal leaves as it was
abbrev pub patched : Code → ℕ → List ℕ → List ℕ → ℕ → ℕ → List ℕ
patched code base fixes image number position =
    unless_refused code (fixed_from base fixes image position (portion (fix_count fixes) number position)) image

-- the two in one
pub record PatchIs (code : Code) (base : ℕ) (fixes : List ℕ) (number position : ℕ) (image image' : List ℕ) (r : Result Progress Refusal) : Type 0 where
  pub says : r ≡ patch_answer code (fix_count fixes) number position
  pub leaves : image' ≡ patched code base fixes image number position

-- patch's answer, and the image at exit
abbrev pub Patches : ℕ → List ℕ → List ℕ → ℕ → ℕ → List ℕ → List ℕ → Result Progress Refusal → Type 0
Patches base marks fixes number position image image' r =
    PatchIs (patch_code (length image) marks base fixes number position) base fixes number position image image' r
