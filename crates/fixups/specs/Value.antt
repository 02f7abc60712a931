-- The value of a fixup once the base is known (01, "Layout, slots and fixups"): target + addend, minus the place if it is relative. In two's
-- complement of 64 bits; the base of target and place cancels in a relative value.
use Rattle.std.specs.Prelude.{ℕ, ◌+◌, ◌-◌, ◌%◌, ◌^◌, Bool, true, false}
use Rattle.util.specs.Pick.{pick}
use Rattle.kinds.specs.declared.RelocationKind.{RelocationKind}
use Rattle.kinds.specs.declared.RelocationKind.TheVariants.{Absolute, ImageOffset, SectionOffset, Relative, NotCarried, Unknown}
use Rattle.fixups.specs.declared.Fix.{Fix}

-- the place is taken from a relative value
abbrev pub is_relative : RelocationKind → Bool
is_relative Absolute = false
is_relative ImageOffset = false
is_relative SectionOffset = false
is_relative Relative = true
is_relative NotCarried = false
is_relative Unknown = false

-- what is added to target and addend: the place taken away, or the base
abbrev pub shift : ℕ → Fix → ℕ
shift base x = pick (is_relative x.kind) (2 ^ 64 - x.place.0) base

-- the value of a fixup at a base
unfoldable pub value_of : ℕ → Fix → ℕ
value_of base x = (x.target.0 + x.addend + shift base x) % 2 ^ 64
