-- The two machines (01, "arch.rs, lib.rs"; PE/COFF, "Machine Types").
use Rattle.std.specs.Prelude.{◌≡◌, refl, ℕ, eqb, None, Option, Some}
use Rattle.util.specs.Pick.{pick}
use Rattle.refusal.specs.Refusal.{Code, PASSES, MACHINE}
use Rattle.arch.specs.declared.Arch.{Arch}
use Rattle.arch.specs.declared.Arch.TheVariants.{X32, X64}

-- how many bytes a pointer has
abbrev pub pointer_size : Arch → ℕ
pointer_size X32 = 4
pointer_size X64 = 8

-- the number that the file header has for it
abbrev pub machine_of : Arch → ℕ
machine_of X32 = 0x014C
machine_of X64 = 0x8664

-- the machine of a number, where there is one
unfoldable pub arch_of : ℕ → Option Arch
arch_of n = pick (eqb n (machine_of X32)) (Some X32) (pick (eqb n (machine_of X64)) (Some X64) None)

-- the machine of a number that is known; of any other, which is refused before this is asked, the first
abbrev pub arch_by : Option Arch → Arch
arch_by (Some a) = a
arch_by None = X32

-- the refusal of each case (01, "Survey")
abbrev pub machine_refusal : Option Arch → Code
machine_refusal (Some a) = PASSES
machine_refusal None = MACHINE

-- there and back
pub machine_back : (a : Arch) → arch_of (machine_of a) ≡ Some a
unfolding arch_of pick
machine_back X32 = refl
machine_back X64 = refl
