-- What becomes of relocation k of section i: passed, skipped for a reason, refused by 10, or a fixup (01, "Layout, slots and fixups").
use Rattle.std.specs.Prelude.{◌≡◌, ℕ, ◌+◌, List, slice_index, refl, None, Option, Some}
use Rattle.std.proofs.Common.{ap, ◌∙◌}
use Rattle.refusal.specs.Refusal.{Code, PASSES, TARGET}
use Rattle.util.specs.Pick.{pick}
use Rattle.arch.specs.declared.Arch.{Arch}
use Rattle.arch.specs.declared.RVA.{RVA}
use Rattle.arch.specs.Address.{rva}
use Rattle.object.specs.declared.Header.{Header}
use Rattle.kinds.specs.declared.RelocationKind.{RelocationKind}
use Rattle.kinds.specs.declared.RelocationKind.TheVariants.{Absolute, ImageOffset, SectionOffset, Relative, NotCarried, Unknown}
use Rattle.kinds.specs.declared.RelocationType.{RelocationType}
use Rattle.object.specs.declared.Relocation.{Relocation}
use Rattle.object.specs.declared.Records.{Records}
use Rattle.object.specs.Relocation.{relocation_in, relocation, records_of, record_at, relocation_read}
use Rattle.homes.specs.Home.{word_home, home_in}
use Rattle.kinds.specs.Types.{type_of}
use Rattle.targets.specs.declared.Skip.TheVariants.{NoType}
use Rattle.targets.specs.declared.Target.{Target}
use Rattle.targets.specs.declared.Target.TheVariants as target
use Rattle.targets.specs.declared.Target.TheVariants.{Home, Named, Slot, Missing}
use Rattle.fixups.specs.declared.Fix.{Fix}
use Rattle.fixups.specs.declared.Outcome.{Outcome}
use Rattle.fixups.specs.declared.Outcome.TheVariants.{Passed, Skipped, Refused, Fixup}

-- the refusal of each case (01, "Survey"); it passes where there is none
abbrev pub outcome_refusal : Outcome → Code
outcome_refusal Passed = PASSES
outcome_refusal (Skipped k) = PASSES
outcome_refusal Refused = TARGET
outcome_refusal (Fixup x) = PASSES

-- with place and target known, the type decides: an unknown one is skipped, one that is not carried is refused
unfoldable pub by_kind : RelocationKind → Fix → Outcome
by_kind Absolute x = Fixup x
by_kind ImageOffset x = Fixup x
by_kind SectionOffset x = Fixup x
by_kind Relative x = Fixup x
by_kind NotCarried x = Refused
by_kind Unknown x = Skipped NoType

-- the fixup of a type at a place
abbrev pub fix_of : RelocationType → RVA → RVA → Fix
fix_of t place target = record { place = place; bits = t.bits; kind = t.kind; target = target; addend = t.addend }

-- its outcome, where its symbol has a target
abbrev pub fix_at : RelocationType → RVA → RVA → Outcome
fix_at t place target = by_kind t.kind (fix_of t place target)

-- a target that is refused, or missing, is so whatever the type
unfoldable pub resolved : Target → RelocationType → RVA → Outcome
resolved (Home o) t place = fix_at t place o
resolved (Named o) t place = fix_at t place o
resolved (Slot o) t place = fix_at t place o
resolved (Missing k) t place = Skipped k
resolved target.Refused t place = Refused

-- a relocation by its section's home, its address field, its type and what its symbol comes to: without a home it is passed; its place is the home's start and
-- the address field
unfoldable pub outcome_at : Option RVA → ℕ → RelocationType → Target → Outcome
outcome_at (Some start) address t g = resolved g t (rva (start.0 + address))
outcome_at None address t g = Passed

-- by its record; `target` says what each number of a symbol comes to
abbrev pub by_home : Arch → (ℕ → Target) → Option RVA → Relocation → Outcome
by_home arch target home r = outcome_at home r.address (type_of arch r.typ) (target r.symbol)

-- what is found part by part is what its record comes to
pub by_record : (arch : Arch) (target : ℕ → Target) (home : Option RVA) (r s : Relocation) (t : RelocationType) (g : Target) (x : Outcome) → r ≡ s → t ≡ type_of arch r.typ
    → g ≡ target r.symbol → x ≡ outcome_at home r.address t g → x ≡ by_home arch target home s
by_record arch target home r s t g x e q p z = rw (← e, ← q, ← p) z

-- relocation k of section i; `home` says where a section's home starts. Refusal 10's cases are in two places: the symbol's in `target_of`, the
-- type that is not carried in `by_kind`
unfoldable pub outcome : Arch → List ℕ → Header → (ℕ → Option RVA) → (ℕ → Target) → ℕ → ℕ → Outcome
outcome arch f h home target i k = by_home arch target (home i) (relocation f h i k)

-- by the words that are kept of the homes: in a section without one every relocation is passed
pub no_home : (a : Arch) (f : List ℕ) (h : Header) (homes : List ℕ) (target : ℕ → Target) (i w : ℕ) → w ≡ slice_index homes i → w ≡ 0 → (k : ℕ) → outcome a f h (home_in homes) target i k ≡ Passed
unfolding outcome outcome_at word_home pick
no_home a f h homes target i w e z k = rw (← e, z)

-- the same by what is found once for a section: where its records are, and its home (`read_outcome_lem`)
unfoldable pub read_outcome : Arch → List ℕ → (ℕ → Target) → Records → Option RVA → ℕ → ℕ → Outcome
read_outcome arch f target records home i k = by_home arch target home (relocation_in f (record_at records k))

pub read_outcome_lem : (arch : Arch) (f : List ℕ) (h : Header) (homes : List ℕ) (target : ℕ → Target) (i : ℕ) (records : Records) (w : ℕ) → records ≡ records_of f h i
    → w ≡ slice_index homes i → (k : ℕ) → read_outcome arch f target records (word_home w) i k ≡ outcome arch f h (home_in homes) target i k
unfolding outcome read_outcome
read_outcome_lem arch f h homes target i records w e q k =
    ap (λ (x : ℕ). by_home arch target (word_home x) (relocation_in f (record_at records k))) q
    ∙ ap (by_home arch target (home_in homes i)) (relocation_read f h i records (relocation_in f (record_at records k)) k e refl)
