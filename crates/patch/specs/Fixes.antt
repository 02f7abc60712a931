-- The fix list as bytes (docs/HOST.md), and what a fixup of it does to an image at a base (01, "Patch").
use Rattle.std.specs.Prelude.{◌≡◌, ℕ, zero, suc, ◌+◌, ◌-◌, ◌*◌, ◌/◌, Bool, ◌&&◌, ◌||◌, List, length, ◌==◌, refl}
use Rattle.std.proofs.Common.{◌∙◌}
use Rattle.util.specs.Pick.{pick}
use Rattle.limits.specs.Records.{FIXUP_WORDS, FIXUP_BYTES, FIXUP_PLACE, FIXUP_BITS, FIXUP_VALUE}
use Rattle.words.specs.Words.{word_of}
use Rattle.le.specs.Le.{le, splice, length_splice}
use Rattle.aspace.specs.Space.{span_mapped_at}

-- the bits of a fixup of 4 bytes
abbrev pub NARROW : ℕ
NARROW = 32

-- of one of 8; no other width is applied (15)
abbrev pub WIDE : ℕ
WIDE = 64

-- the bytes that a narrow one covers
abbrev pub NARROW_BYTES : ℕ
NARROW_BYTES = 4

-- and a wide one
abbrev pub WIDE_BYTES : ℕ
WIDE_BYTES = 8

-- whole records; what is left behind the last one is none
abbrev pub fix_count : List ℕ → ℕ
fix_count fixes = length fixes / FIXUP_BYTES

-- record k: the address of its place
abbrev pub place_at : List ℕ → ℕ → ℕ
place_at fixes k = word_of FIXUP_WORDS fixes k FIXUP_PLACE

-- its width in bits
abbrev pub bits_at : List ℕ → ℕ → ℕ
bits_at fixes k = word_of FIXUP_WORDS fixes k FIXUP_BITS

-- its value, in two's complement of 64 bits
abbrev pub value_at : List ℕ → ℕ → ℕ
value_at fixes k = word_of FIXUP_WORDS fixes k FIXUP_VALUE

-- the bytes that it covers
abbrev pub width_of : ℕ → ℕ
width_of bits = pick (bits == NARROW) NARROW_BYTES WIDE_BYTES

-- a width that there is
abbrev pub known_bits : ℕ → Bool
known_bits bits = bits == NARROW || bits == WIDE

-- it can be applied: its width is known, and all its bytes are mapped
unfoldable pub fix_ok : ℕ → List ℕ → ℕ → List ℕ → ℕ → Bool
fix_ok size marks base fixes k =
    known_bits (bits_at fixes k) && span_mapped_at size marks base (place_at fixes k) (width_of (bits_at fixes k))

-- the image once it is applied: the low bytes of its value stand at its place
unfoldable pub fixed : ℕ → List ℕ → List ℕ → ℕ → List ℕ
fixed base fixes image k = splice image (place_at fixes k - base) (le (width_of (bits_at fixes k)) (value_at fixes k))

-- and once the n fixups from p on are, in list order
unfoldable pub fixed_from : ℕ → List ℕ → List ℕ → ℕ → ℕ → List ℕ
fixed_from base fixes image p zero = image
fixed_from base fixes image p (suc n) = fixed base fixes (fixed_from base fixes image p n) (p + n)

-- fixups change no length
pub length_from : (base : ℕ) (fixes image : List ℕ) (p n : ℕ) → length (fixed_from base fixes image p n) ≡ length image
unfolding fixed_from fixed
length_from base fixes image p zero = refl
length_from base fixes image p (suc n) = length_splice _ _ _ ∙ length_from base fixes image p n
