-- Refusals, and what is said where one may apply.
use Rattle.std.specs.Prelude.{◌≡◌, refl, ℕ, List, [], ◌∷◌, slice_index_or, Result, Ok, Err}
use Rattle.std.proofs.Common.{sym, ◌∙◌}
use Rattle.refusal.specs.declared.Refusal.{Refusal}
use Rattle.refusal.specs.declared.Refusal.TheVariants.{FileSize, Machine, SectionTable, SymbolTable, SectionData, Name, SectionNumber, Pages, Externs, Target, Place, Base, Storage, Position, NotMapped, NotOnAPage, NotWholePages, TooLong, NoSection, NoEntry, NoRoutine, RawData, Overlap}

-- the number of each (01, "The operations and what they turn down"; 02, N1 and N6)
abbrev pub refusal_number : Refusal → ℕ
refusal_number FileSize = 1
refusal_number Machine = 2
refusal_number SectionTable = 3
refusal_number SymbolTable = 4
refusal_number SectionData = 5
refusal_number Name = 6
refusal_number SectionNumber = 7
refusal_number Pages = 8
refusal_number Externs = 9
refusal_number Target = 10
refusal_number Place = 11
refusal_number Base = 12
refusal_number Storage = 13
refusal_number Position = 14
refusal_number NotMapped = 15
refusal_number NotOnAPage = 16
refusal_number NotWholePages = 17
refusal_number TooLong = 18
refusal_number NoSection = 19
refusal_number NoEntry = 20
refusal_number NoRoutine = 21
refusal_number RawData = 22
refusal_number Overlap = 23

-- what the checks of an operation come to: nothing is refused, or the first refusal that applies
abbrev pub Code : Type 0
Code = Result Unit Refusal

-- as a number: 0 where nothing is refused
abbrev pub code_number : {A : Type 0} → Result A Refusal → ℕ
code_number (Ok _) = 0
code_number (Err r) = refusal_number r

-- an answer without what it hands out
abbrev pub code_of : {A : Type 0} → Result A Refusal → Code
code_of (Ok _) = Ok tt
code_of (Err r) = Err r

-- nothing is refused
abbrev pub PASSES : Code
PASSES = Ok tt

-- and back: no two refusals have one number, and none has 0
abbrev NUMBERED : List Code
NUMBERED =
    PASSES
    ∷ Err FileSize
    ∷ Err Machine
    ∷ Err SectionTable
    ∷ Err SymbolTable
    ∷ Err SectionData
    ∷ Err Name
    ∷ Err SectionNumber
    ∷ Err Pages
    ∷ Err Externs
    ∷ Err Target
    ∷ Err Place
    ∷ Err Base
    ∷ Err Storage
    ∷ Err Position
    ∷ Err NotMapped
    ∷ Err NotOnAPage
    ∷ Err NotWholePages
    ∷ Err TooLong
    ∷ Err NoSection
    ∷ Err NoEntry
    ∷ Err NoRoutine
    ∷ Err RawData
    ∷ Err Overlap
    ∷ []

unfoldable pub code_numbered : ℕ → Code
code_numbered n = slice_index_or NUMBERED n PASSES

pub code_back : (k : Code) → code_numbered (code_number k) ≡ k
unfolding code_numbered
code_back (Ok u) = refl
code_back (Err FileSize) = refl
code_back (Err Machine) = refl
code_back (Err SectionTable) = refl
code_back (Err SymbolTable) = refl
code_back (Err SectionData) = refl
code_back (Err Name) = refl
code_back (Err SectionNumber) = refl
code_back (Err Pages) = refl
code_back (Err Externs) = refl
code_back (Err Target) = refl
code_back (Err Place) = refl
code_back (Err Base) = refl
code_back (Err Storage) = refl
code_back (Err Position) = refl
code_back (Err NotMapped) = refl
code_back (Err NotOnAPage) = refl
code_back (Err NotWholePages) = refl
code_back (Err TooLong) = refl
code_back (Err NoSection) = refl
code_back (Err NoEntry) = refl
code_back (Err NoRoutine) = refl
code_back (Err RawData) = refl
code_back (Err Overlap) = refl

-- the answer of an operation that hands out a value
unfoldable pub answer_of : {A : Type 0} → Code → A → Result A Refusal
answer_of (Ok _) v = Ok v
answer_of (Err r) v = Err r

-- what a lent buffer holds at exit: the new contents, or on a refusal what it held before
unfoldable pub unless_refused : {A : Type 0} → Code → A → A → A
unless_refused (Ok _) new old = new
unless_refused (Err r) new old = old

-- ---- the refusals (01, "The operations and what they turn down")
-- survey: the file is shorter than a header or longer than the limit
abbrev pub FILE_SIZE : Code
FILE_SIZE = Err FileSize

-- the machine is neither i386 nor x64
abbrev pub MACHINE : Code
MACHINE = Err Machine

-- too many sections, or their table does not lie in the file
abbrev pub SECTION_TABLE : Code
SECTION_TABLE = Err SectionTable

-- too many symbol records, an auxiliary record past their end, the symbols or strings not in the file, or a string length under 4
abbrev pub SYMBOL_TABLE : Code
SYMBOL_TABLE = Err SymbolTable

-- a loaded section has a virtual address or bytes past the file, relocations lie past the file or their extended count is 0, or there are too many
abbrev pub SECTION_DATA : Code
SECTION_DATA = Err SectionData

-- a section's or symbol's name has a byte or a form that is not allowed, or does not end in the string table
abbrev pub NAME : Code
NAME = Err Name

-- a symbol's section number is above the file's count
abbrev pub SECTION_NUMBER : Code
SECTION_NUMBER = Err SectionNumber

-- more mapped pages than MAX-PAGES
abbrev pub PAGES : Code
PAGES = Err Pages

-- more extern names than MAX-EXTERNS
abbrev pub EXTERNS : Code
EXTERNS = Err Externs

-- a relocation names an auxiliary record or a symbol whose kind and place have no target, or its type is not carried
abbrev pub TARGET : Code
TARGET = Err Target

-- a fixup has a byte outside the mapped pages
abbrev pub PLACE : Code
PLACE = Err Place

-- load: the base is no page multiple, or above the highest
abbrev pub BASE : Code
BASE = Err Base

-- a lent buffer is too short; of later calls also an image that is no page multiple, or too few marks
abbrev pub STORAGE : Code
STORAGE = Err Storage

-- patch: the position is above the list's count
abbrev pub POSITION : Code
POSITION = Err Position

-- read, write, patch and the page writes: an address, fixup or page that is not mapped or not lent, or a fixup of an unknown width
abbrev pub NOT_MAPPED : Code
NOT_MAPPED = Err NotMapped

-- a page write, an empty map or a padded write does not start on a page
abbrev pub NOT_ON_A_PAGE : Code
NOT_ON_A_PAGE = Err NotOnAPage

-- a page write or an empty map is not of whole pages
abbrev pub NOT_WHOLE_PAGES : Code
NOT_WHOLE_PAGES = Err NotWholePages

-- write: more than a page of bytes
abbrev pub TOO_LONG : Code
TOO_LONG = Err TooLong

-- questions to the tables: no section holds the address or the file offset
abbrev pub NO_SECTION : Code
NO_SECTION = Err NoSection

-- no record has that name, address or number
abbrev pub NO_ENTRY : Code
NO_ENTRY = Err NoEntry

-- no listed symbol of the section that holds the address lies at it or below (02, N1)
abbrev pub NO_ROUTINE : Code
NO_ROUTINE = Err NoRoutine

-- survey, behind 11: a fixup is not wholly inside its own section's raw data (02, N6)
abbrev pub RAW_DATA : Code
RAW_DATA = Err RawData

-- two fixups share a byte (02, N6)
abbrev pub OVERLAP : Code
OVERLAP = Err Overlap

-- what an operation says and leaves that writes one lent buffer: `code` is the definition's, and on a refusal nothing has changed
pub record Leaves {A : Type 0} (code : Code) (old new at_exit : A) (r : Code) : Type 0 where
  pub says : r ≡ code
  pub leaves : at_exit ≡ unless_refused code new old

-- the same of one that writes two
pub record LeavesBoth {A B : Type 0} (code : Code) (old new at_exit : A) (old₂ new₂ at-exit₂ : B) (r : Code) : Type 0 where
  pub says : r ≡ code
  pub leaves : at_exit ≡ unless_refused code new old
  pub leaves₂ : at-exit₂ ≡ unless_refused code new₂ old₂

-- ---- the two ways of an operation that checks first: nothing is refused and it has written, or it refuses and has not
pub value_is : {A : Type 0} (k code : Code) (v x : A) (u : Unit) → k ≡ code → k ≡ Ok u → x ≡ v → Ok x ≡ answer_of code v
unfolding answer_of
value_is k code v x u e z q = rw (← e, z, q)

pub refusal_is : {A : Type 0} (k code : Code) (v : A) (r : Refusal) → k ≡ code → k ≡ Err r → Err r ≡ answer_of code v
unfolding answer_of
refusal_is k code v r e z = rw (← e, z)

pub new_is : {A : Type 0} (k code : Code) (u : Unit) (new old x : A) → k ≡ code → k ≡ Ok u → x ≡ new → x ≡ unless_refused code new old
unfolding unless_refused
new_is k code u new old x e z q = rw (← e, z, q)

pub old_is : {A : Type 0} (k code : Code) (r : Refusal) (new old : A) → k ≡ code → k ≡ Err r → old ≡ unless_refused code new old
unfolding unless_refused
old_is k code r new old e z = rw (← e, z)

module _ {A : Type 0} (k code : Code) (old new x : A) where
  pub leaves_done : (u : Unit) → k ≡ code → k ≡ Ok u → x ≡ new → Leaves code old new x (Ok tt)
  leaves_done u e z q = record { says = sym z ∙ e; leaves = new_is k code u new old x e z q }

  pub leaves_refused : (r : Refusal) → k ≡ code → k ≡ Err r → Leaves code old new old (Err r)
  leaves_refused r e z = record { says = sym z ∙ e; leaves = old_is k code r new old e z }

  module _ {B : Type 0} (old₂ new₂ x₂ : B) where
    pub both_done : (u : Unit) → k ≡ code → k ≡ Ok u → x ≡ new → x₂ ≡ new₂ → LeavesBoth code old new x old₂ new₂ x₂ (Ok tt)
    both_done u e z q q₂ = record { says = sym z ∙ e; leaves = new_is k code u new old x e z q; leaves₂ = new_is k code u new₂ old₂ x₂ e z q₂ }

    pub both_refused : (r : Refusal) → k ≡ code → k ≡ Err r → LeavesBoth code old new old old₂ new₂ old₂ (Err r)
    both_refused r e z = record { says = sym z ∙ e; leaves = old_is k code r new old e z; leaves₂ = old_is k code r new₂ old₂ e z }

pub ruleset answers = (value_is, refusal_is, leaves_done, leaves_refused, both_done, both_refused)
