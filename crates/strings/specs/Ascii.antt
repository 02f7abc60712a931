-- A string in the image: the mapped text bytes from an offset on, up to the first that is none.
use Rattle.std.specs.Prelude.{Bool, ◌&&◌, ◌||◌, List, [], ℕ, zero, suc, ◌+◌, ◌-◌, ◌^◌, length, get_or, leb, ltb, eqb, Option, Some, None, Result, Ok, Err}
use Rattle.util.specs.Pick.{pick}
use Rattle.arch.specs.Address.{rva}
use Rattle.le.specs.Le.{part}
use Rattle.refusal.specs.declared.Refusal.{Refusal}
use Rattle.refusal.specs.declared.Refusal.TheVariants.{Storage, NotMapped}
use Rattle.pagemap.specs.Pages.{storage_ok, probed}
use Rattle.strings.specs.declared.Text.{Text}

-- what is found: nothing that is as long as was asked for, or the string; or a refusal
abbrev pub Ascii : Type 0
Ascii = Result (Option Text) Refusal

-- a byte of a string: 0x20 to 0x7E, or a tab, a line feed or a carriage return
unfoldable pub is_text : ℕ → Bool
is_text b = (leb 0x20 b && ltb b 0x7F) || (eqb b 0x9 || (eqb b 0xA || eqb b 0xD))

-- how many of the n bytes from i are mapped text before the first that is not
unfoldable pub text_in : List ℕ → List ℕ → ℕ → ℕ → ℕ
text_in image marks i zero = 0
text_in image marks i (suc n) = pick (probed (length image) marks i && is_text (get_or image i 0)) (suc (text_in image marks (i + 1) n)) 0

-- the string at o: it may reach to the end of the image
unfoldable pub text_length : List ℕ → List ℕ → ℕ → ℕ
text_length image marks o = text_in image marks o (length image - o)

-- `read_ascii` at o: 13, or shorter than the caller's minimum, or the string's place and length
unfoldable pub ascii_of : List ℕ → List ℕ → ℕ → ℕ → Ascii
ascii_of image marks o minimum =
    pick (storage_ok (length image) (length marks))
    (pick (leb minimum (text_length image marks o)) (Ok (Some (record { start = rva o; length = text_length image marks o }))) (Ok None))
    (Err Storage)

-- the same at an address: below the base it is 15
unfoldable pub ascii_at : List ℕ → List ℕ → ℕ → ℕ → ℕ → Ascii
ascii_at image marks base a minimum =
    pick (leb base a) (ascii_of image marks (a - base) minimum) (Err (pick (storage_ok (length image) (length marks)) NotMapped Storage))

-- the same `offset` past the start of a slice; past 64 bits it is 15
unfoldable pub ascii_from : List ℕ → List ℕ → ℕ → ℕ → ℕ → Ascii
ascii_from image marks start offset minimum =
    pick (ltb (start + offset) (2 ^ 64)) (ascii_of image marks (start + offset) minimum) (Err (pick (storage_ok (length image) (length marks)) NotMapped Storage))

-- the same at any place, where `reached` says whether a byte there is reached and o is its offset where it is
unfoldable pub ascii_there : Bool → List ℕ → List ℕ → ℕ → ℕ → Ascii
ascii_there reached image marks o minimum = pick reached (ascii_of image marks o minimum) (Err (pick (storage_ok (length image) (length marks)) NotMapped Storage))

-- the bytes of an answer: that part of the image, or none
unfoldable pub text_of : {E : Type 0} → List ℕ → Result (Option Text) E → List ℕ
text_of image (Ok (Some t)) = part image t.start.0 t.length
text_of image (Ok None) = []
text_of image (Err r) = []
