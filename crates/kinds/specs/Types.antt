-- The relocation types of both machines (01, "Records"; PE/COFF, "COFF Relocations").
use Rattle.std.specs.Prelude.{◌≡◌, refl, ◌&&◌, ◌||◌, ℕ, ◌-◌, ◌^◌, leb, eqb}
use Rattle.util.specs.Pick.{pick}
use Rattle.arch.specs.declared.Arch.{Arch}
use Rattle.arch.specs.declared.Arch.TheVariants.{X32, X64}
use Rattle.kinds.specs.declared.RelocationKind.{RelocationKind}
use Rattle.kinds.specs.declared.RelocationKind.TheVariants.{Absolute, ImageOffset, SectionOffset, Relative, NotCarried, Unknown}
use Rattle.kinds.specs.declared.RelocationType.{RelocationType}

-- ---- the types of each machine
-- kind, bits and addend; the addend is in two's complement of 64 bits
abbrev pub row : RelocationKind → ℕ → ℕ → RelocationType
row kind bits addend = record { kind = kind; bits = bits; addend = addend }

-- -n, as an addend
abbrev pub minus : ℕ → ℕ
minus n = 2 ^ 64 - n

-- a relocation of such a type that is neither passed nor skipped is refused (10)
abbrev pub not_carried : RelocationType
not_carried = row NotCarried 0 0

-- a type that no row names: a relocation of it is skipped (K4) where no earlier reason applies
abbrev pub unknown : RelocationType
unknown = row Unknown 0 0

-- of i386
unfoldable pub type32 : ℕ → RelocationType
type32 t =
    pick (eqb t 6) (row Absolute 32 0)
    (pick (eqb t 7) (row ImageOffset 32 0)
    (pick (eqb t 0xB) (row SectionOffset 32 0)
    (pick (eqb t 0x14) (row Relative 32 (minus 4))
    (pick (eqb t 1 || (eqb t 2 || (eqb t 0xA || eqb t 0xD))) not_carried
    unknown))))

-- of x64
unfoldable pub type64 : ℕ → RelocationType
type64 t =
    pick (eqb t 2) (row Absolute 32 0)
    (pick (eqb t 1) (row Absolute 64 0)
    (pick (eqb t 3) (row ImageOffset 32 0)
    (pick (eqb t 0xB) (row SectionOffset 32 0)
    (pick (leb 4 t && leb t 9) (row Relative 32 (minus t))
    (pick (eqb t 0xA || eqb t 0xC) not_carried
    unknown)))))

-- of a machine
unfoldable pub type_of : Arch → ℕ → RelocationType
type_of X32 t = type32 t
type_of X64 t = type64 t

-- the number that the code's tables of types have for a kind
abbrev pub relocation_kind_number : RelocationKind → ℕ
relocation_kind_number Absolute = 0
relocation_kind_number ImageOffset = 1
relocation_kind_number SectionOffset = 2
relocation_kind_number Relative = 3
relocation_kind_number NotCarried = 4
relocation_kind_number Unknown = 5

-- the kind of such a number; any number above 4 is unknown
unfoldable pub kind_of_number : ℕ → RelocationKind
kind_of_number n =
    pick (eqb n 0) Absolute (pick (eqb n 1) ImageOffset (pick (eqb n 2) SectionOffset (pick (eqb n 3) Relative (pick (eqb n 4) NotCarried Unknown))))

pub kind_back : (k : RelocationKind) → kind_of_number (relocation_kind_number k) ≡ k
unfolding kind_of_number pick
kind_back Absolute = refl
kind_back ImageOffset = refl
kind_back SectionOffset = refl
kind_back Relative = refl
kind_back NotCarried = refl
kind_back Unknown = refl
