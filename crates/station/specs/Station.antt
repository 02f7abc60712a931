-- What the host is told: 0 or the number of a refusal, and results as words at the front of a lent buffer (docs/HOST.md, "Calling from C").
use Rattle.nearest.specs.declared.Routine.{Routine}
use Rattle.patch.specs.declared.answer.Progress.{Progress}
use Rattle.survey.specs.declared.answer.Counts.{Counts}
use Rattle.refusal.specs.declared.Refusal.{Refusal}
use Rattle.std.specs.Prelude.{◌≡◌, List, [], ℕ, ◌+◌, ◌-◌, leb, eqb, length, Ok, Err, Result}
use Rattle.util.specs.Pick.{pick}
use Rattle.le.specs.Le.{splice, part}
use Rattle.arch.specs.Address.{va}
use Rattle.refusal.specs.Refusal.{Code, PASSES, BASE, STORAGE, POSITION, code_number, code_of, unless_refused}
use Rattle.object.specs.Format.{header_of}
use Rattle.checks.specs.Checks.{base_ok}
use Rattle.survey.specs.Survey.{first_failed, checks, counts, survey_of}
use Rattle.words.specs.Words.{word_bytes}
use Rattle.results.specs.Results.{COUNTS_BYTES, counts_words, PROGRESS_BYTES, progress_words, ROUTINE_BYTES, routine_words}
use Rattle.storage.specs.Storage.{Storage, stored}
use Rattle.loading.specs.Load.{load_checks}
use Rattle.patch.specs.Fixes.{fix_count, fixed_from}
use Rattle.patch.specs.Patch.{portion, patch_code}
use Rattle.aspace.specs.Space.{read_code_at}
use Rattle.module.specs.Routine.{table_sections, routine}

-- the operation's own refusals, 1 to 13; then 13, where a buffer has no room for n bytes of results
unfoldable pub code_with : ℕ → List ℕ → Code → Code
code_with n out (Ok _) = pick (leb n (length out)) PASSES STORAGE
code_with n out (Err r) = Err r

-- patch's: 14; 13, where progress has no room or the image's storage is not right; 15
abbrev pub patch_code_with : ℕ → List ℕ → ℕ → List ℕ → ℕ → ℕ → List ℕ → Code
patch_code_with size marks base fixes number position out =
    pick (leb position (fix_count fixes)) (pick (leb PROGRESS_BYTES (length out)) (patch_code size marks base fixes number position) STORAGE) POSITION

-- the buffer with words at its front
abbrev pub told_in : List ℕ → List ℕ → List ℕ
told_in out words = splice out 0 (word_bytes words)

-- the answer is the code's number; a lent buffer holds the new contents, or on a refusal what it held before
pub record Told {A : Type 0} (code : Code) (new old at_exit : A) (r : ℕ) : Type 0 where
  pub says : r ≡ code_number code
  pub leaves : at_exit ≡ unless_refused code new old

-- the same with two things lent
pub record ToldBoth {A B : Type 0} (code : Code) (new old at_exit : A) (new₂ old₂ at-exit₂ : B) (r : ℕ) : Type 0 where
  pub says : r ≡ code_number code
  pub leaves : at_exit ≡ unless_refused code new old
  pub leaves₂ : at-exit₂ ≡ unless_refused code new₂ old₂

-- survey: the counts of the file
abbrev pub Surveyed : List ℕ → List ℕ → List ℕ → ℕ → Type 0
Surveyed f out out' r =
    Told (code_with COUNTS_BYTES out (first_failed (checks f (header_of f)))) (told_in out (counts_words (counts f (header_of f)))) out out' r

-- load: the seven buffers, and the counts of the file
abbrev pub Loaded : List ℕ → ℕ → Storage → Storage → List ℕ → List ℕ → ℕ → Type 0
Loaded f base s s' out out' r =
    ToldBoth
    (code_with COUNTS_BYTES out (first_failed (load_checks f (header_of f) base s)))
    (stored f (header_of f) base s)
    s
    s'
    (told_in out (counts_words (counts f (header_of f))))
    out
    out'
    r

-- the position behind a portion
abbrev pub portion_end : List ℕ → ℕ → ℕ → ℕ
portion_end fixes number position = position + portion (fix_count fixes) number position

-- patch: the image, that position and whether it is the list's end
abbrev pub Patched : ℕ → List ℕ → List ℕ → ℕ → ℕ → List ℕ → List ℕ → List ℕ → List ℕ → ℕ → Type 0
Patched base marks fixes number position image image' out out' r =
    ToldBoth
    (patch_code_with (length image) marks base fixes number position out)
    (fixed_from base fixes image position (portion (fix_count fixes) number position))
    image
    image'
    (told_in out (progress_words (portion_end fixes number position) (eqb (portion_end fixes number position) (fix_count fixes))))
    out
    out'
    r

-- read: the image's bytes from the address on, as many as the buffer takes
abbrev pub Read : ℕ → List ℕ → List ℕ → ℕ → List ℕ → List ℕ → ℕ → Type 0
Read base image marks address out out' r =
    Told (read_code_at (length image) marks base address (length out)) (part image (address - base) (length out)) out out' r

-- the refusal of the question for an address's routine, if there is one
abbrev pub routine_code : Result Routine Refusal → Code
routine_code = code_of

-- its two words; of a refusal there are none
unfoldable pub nearest_words : Result Routine Refusal → List ℕ
nearest_words (Ok a) = routine_words a.symbol a.distance
nearest_words (Err r) = []

-- routine: 13, where the result has no room; 19; 21. Both tables are taken by their whole records
abbrev pub Traced : List ℕ → List ℕ → ℕ → List ℕ → List ℕ → ℕ → Type 0
Traced sections symbols address out out' r =
    Told
    (pick (leb ROUTINE_BYTES (length out)) (routine_code (routine (table_sections sections) symbols (va address))) STORAGE)
    (told_in out (nearest_words (routine (table_sections sections) symbols (va address))))
    out
    out'
    r

-- ---- the answers of the operations themselves, told
-- survey's answer, told: 13 if the counts that it has cannot be
unfoldable pub survey_code : Result Counts Refusal → List ℕ → Code
survey_code (Ok c) out = pick (leb COUNTS_BYTES (length out)) PASSES STORAGE
survey_code (Err r) out = Err r

-- the buffer then: the counts where they are told, else what it held
unfoldable pub counts_in : Result Counts Refusal → List ℕ → List ℕ
counts_in (Ok c) out = pick (leb COUNTS_BYTES (length out)) (told_in out (counts_words c)) out
counts_in (Err r) out = out

-- what the host is told of a survey's or a load's answer
pub record CountsTold (answer : Result Counts Refusal) (out out' : List ℕ) (r : Code) : Type 0 where
  pub says : r ≡ survey_code answer out
  pub result : out' ≡ counts_in answer out

-- ---- load without room for its counts
-- survey's refusal, else 13
unfoldable pub untold : Result Counts Refusal → Code
untold (Ok c) = STORAGE
untold (Err r) = Err r

-- the same, by the file
abbrev pub unstored_code : List ℕ → Code
unstored_code f = untold (survey_of f)

-- 12 comes before those
abbrev pub unlaid_code : List ℕ → ℕ → Code
unlaid_code f base = pick (base_ok base) (unstored_code f) BASE

-- without room for its progress, patch: 14; 13
abbrev pub untold_patch_code : List ℕ → ℕ → Code
untold_patch_code fixes position = pick (leb position (fix_count fixes)) STORAGE POSITION

-- the buffer then: how far patch came, or what it held
unfoldable pub progress_in : Result Progress Refusal → List ℕ → List ℕ
progress_in (Ok p) out = told_in out (progress_words p.position p.done)
progress_in (Err r) out = out

-- what the host is told of a patch's answer
pub record ProgressTold (answer : Result Progress Refusal) (out out' : List ℕ) (r : Code) : Type 0 where
  pub says : r ≡ code_of answer
  pub result : out' ≡ progress_in answer out

-- what the host is told of a routine's answer
pub record RoutineTold (answer : Result Routine Refusal) (out out' : List ℕ) (r : Code) : Type 0 where
  pub says : r ≡ code_of answer
  pub result : out' ≡ told_in out (nearest_words answer)
