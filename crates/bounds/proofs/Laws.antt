-- The ways through the checks. Assumes nothing.
use Rattle.std.specs.Prelude.{◌≡◌, refl, Option, Some, None, is_some, is_ok}
use Rattle.arch.specs.declared.Arch.{Arch}
use Rattle.arch.specs.Machine.{machine_refusal}

-- 2: a machine that is known is not refused
pub machine_is : (m : Option Arch) → is_some m ≡ is_ok (machine_refusal m)
machine_is (Some a) = refl
machine_is None = refl
