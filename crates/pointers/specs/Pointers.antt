-- What a number that was read says as an address or an offset; a refusal stays what it is.
use Rattle.arch.specs.declared.RVA.{RVA}
use Rattle.arch.specs.declared.VA.{VA}
use Rattle.refusal.specs.declared.Refusal.{Refusal}
use Rattle.std.specs.Prelude.{ℕ, Result, Ok, Err}
use Rattle.arch.specs.Address.{va, rva}

-- as an address
abbrev pub as_address : Result ℕ Refusal → Result VA Refusal
as_address (Ok v) = Ok (va v)
as_address (Err k) = Err k

-- as an offset from the base
abbrev pub as_offset : Result ℕ Refusal → Result RVA Refusal
as_offset (Ok v) = Ok (rva v)
as_offset (Err k) = Err k
