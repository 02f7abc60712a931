-- The extern list: symbol numbers in the order of their names, each name once, with the lowest number that put it there (01, "Layout, slots and fixups").
use Rattle.refusal.specs.declared.Refusal.{Refusal}
use Rattle.std.proofs.Common.{Ordering, Less, Equal, Greater}
use Rattle.std.specs.Prelude.{Bool, List, [], ◌∷◌, ◌++◌, ◌≡◌, ℕ, ◌-◌, ◌≤◌, ◌<◌, min, leb, length, take, replicate, Result, Ok, Err, Option, Some, None}
use Rattle.util.specs.Pick.{pick}
use Rattle.util.specs.Fold.{fold_records, fold_sections}
use Rattle.object.specs.declared.Header.{Header}
use Rattle.object.specs.Section.{relocation_count}
use Rattle.object.specs.Relocation.{relocation_symbol}
use Rattle.names.specs.Bytes.{compare_bytes}
use Rattle.names.specs.Name.{symbol_text}
use Rattle.limits.specs.Limits.{MAX_EXTERNS, EXTERN_ROOM}
use Rattle.refusal.specs.Refusal.{Code, PASSES, EXTERNS}
use Rattle.codes.specs.Puts as Puts

-- the order of two symbols' names
abbrev pub order_of : List ℕ → Header → ℕ → ℕ → Ordering
order_of f h j x = compare_bytes (symbol_text f h j) (symbol_text f h x)

-- one of three lists, by the order of two names
abbrev pub by_order : Ordering → List ℕ → List ℕ → List ℕ → List ℕ
by_order Less a b c = a
by_order Equal a b c = b
by_order Greater a b c = c

-- j goes before the first name that is not smaller; a name that is there keeps the lower number
unfoldable pub insert_name : List ℕ → Header → ℕ → List ℕ → List ℕ
insert_name f h j [] = j ∷ []
insert_name f h j (x ∷ xs) = by_order (order_of f h j x) (j ∷ x ∷ xs) (min j x ∷ xs) (x ∷ insert_name f h j xs)

-- the list after record k of section i; `puts` says which numbers of symbols a relocation puts there
unfoldable pub extern_step : List ℕ → Header → (ℕ → Bool) → List ℕ → ℕ → ℕ → List ℕ
extern_step f h puts xs i k = pick (puts (relocation_symbol f h i k)) (insert_name f h (relocation_symbol f h i k) xs) xs

-- after the first k records of section i, which found xs
abbrev pub extern_records : List ℕ → Header → (ℕ → Bool) → ℕ → List ℕ → ℕ → List ℕ
extern_records f h puts i xs k = fold_records (extern_step f h puts) i xs k

-- after the first n sections: the relocations of all sections, loaded or not, in section and record order
abbrev pub externs_to : List ℕ → Header → (ℕ → Bool) → ℕ → List ℕ
externs_to f h puts n = fold_sections (extern_step f h puts) (relocation_count f h) [] n

-- the list after all sections
abbrev pub externs_by : List ℕ → Header → (ℕ → Bool) → List ℕ
externs_by f h puts = externs_to f h puts h.sections

-- the extern list of a file
abbrev pub externs : List ℕ → Header → List ℕ
externs f h = externs_by f h (Puts.puts f h)

-- how many names there are; none where there are too many (refusal 9)
abbrev pub names_of : List ℕ → Option ℕ
names_of ys = pick (leb (length ys) MAX_EXTERNS) (Some (length ys)) None

-- the words that keep the list: zeros behind it, and nothing of one that is too long
unfoldable pub slot_words : List ℕ → List ℕ
slot_words ys = pick (leb (length ys) MAX_EXTERNS) (ys ++ replicate (EXTERN_ROOM - length ys) 0) (replicate EXTERN_ROOM 0)

-- the refusal of each case (01, "Survey"); it passes where there is none
abbrev pub names_refusal : Option ℕ → Code
names_refusal None = EXTERNS
names_refusal (Some n) = PASSES

-- what a buffer that holds at most as many numbers as there may be names says of the list: too many, or its first n are the list
unfoldable pub Holds : List ℕ → List ℕ → Option ℕ → Type 0
Holds ys slots None = MAX_EXTERNS < length ys
Holds ys slots (Some n) = (n ≤ MAX_EXTERNS) × (take n slots ≡ ys)
