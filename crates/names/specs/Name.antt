-- The names of sections and symbols: a part of the file's bytes, good or bad (01, "Records"; PE/COFF, "Section Table", "Symbol Name Representation", "COFF String Table").
use Rattle.names.specs.declared.Name.{Name}
use Rattle.std.specs.Prelude.{Bool, ◌&&◌, List, [], ℕ, ◌+◌, ◌-◌, get_or, ltb, leb, eqb, is_ok, None, Option, Some}
use Rattle.refusal.specs.Refusal.{Code, PASSES, NAME}
use Rattle.util.specs.Pick.{pick}
use Rattle.le.specs.Le.{get, part}
use Rattle.chars.specs.Chars.{good_section_name, good_symbol_name}
use Rattle.object.specs.declared.Header.{Header}
use Rattle.object.specs.Format.{NAME_SIZE, LONG_OFFSET_AT, LENGTH_SIZE, section_header_at, symbol_record_at, string_table, string_length}
use Rattle.names.specs.declared.Span.{Span}
use Rattle.names.specs.Bytes.{run, up_to_zero, all_digits, decimal}

-- a good name of n bytes, at a place of the file
abbrev pub good_name : ℕ → ℕ → Option Name
good_name at n = Some (record { at = at; length = n })

-- the bytes of a name: that part of the file; of a bad one none
unfoldable pub name_bytes : List ℕ → Option Name → List ℕ
name_bytes f (Some n) = part f n.at n.length
name_bytes f None = []

-- where a name starts in the file; a bad name has no place, and counts as 0
abbrev pub name_start : Option Name → ℕ
name_start (Some n) = n.at
name_start None = 0

-- how many bytes it has; a bad name none
abbrev pub name_length : Option Name → ℕ
name_length (Some n) = n.length
name_length None = 0

-- ---- where a name stands
-- in the field itself: up to the first zero, or all eight bytes
abbrev pub short_run : List ℕ → ℕ → Option Name
short_run f at = good_name at (run f at NAME_SIZE)

-- in the string table at an offset of at least 4, up to a zero that lies within the table
unfoldable pub long_run : List ℕ → Header → ℕ → Option Name
long_run f h offset =
    pick (leb LENGTH_SIZE offset && ltb (run f (string_table h + offset) (string_length f h - offset)) (string_length f h - offset))
    (good_name (string_table h + offset) (run f (string_table h + offset) (string_length f h - offset)))
    None

-- a symbol's: with the first four bytes zero the next four are the offset; else a first byte of zero is bad, and the name is in the field
unfoldable pub symbol_run : List ℕ → Header → ℕ → Option Name
symbol_run f h at = pick (eqb (get 4 f at) 0) (long_run f h (get 4 f (at + LONG_OFFSET_AT))) (pick (eqb (get_or f at 0) 0) None (short_run f at))

-- ---- a section's name that begins with a slash: one to seven digits behind it are the offset; any other form is bad
-- the byte `/`
abbrev pub SLASH : ℕ
SLASH = 0x2F

-- what stands behind the slash, up to the first zero or the field's end
abbrev pub slash_digits : List ℕ → ℕ → List ℕ
slash_digits f at = part f (at + 1) (run f at NAME_SIZE - 1)

-- the offset that they say, where there is at least one and all are digits
unfoldable pub slash_offset : List ℕ → ℕ → Option ℕ
slash_offset f at = pick (leb 2 (run f at NAME_SIZE) && all_digits (slash_digits f at)) (Some (decimal (slash_digits f at))) None

-- the name at that offset
unfoldable pub slash_by : List ℕ → Header → Option ℕ → Option Name
slash_by f h (Some o) = long_run f h o
slash_by f h None = None

-- the name that a field with a slash stands for
unfoldable pub slash_run : List ℕ → Header → ℕ → Option Name
slash_run f h at = pick (leb 2 (run f at NAME_SIZE) && all_digits (slash_digits f at)) (long_run f h (decimal (slash_digits f at))) None

-- any section's: by the field's first byte
unfoldable pub section_run : List ℕ → Header → ℕ → Option Name
section_run f h at = pick (eqb (get_or f at 0) SLASH) (slash_run f h at) (short_run f at)

-- ---- and the rule on its bytes: a name that breaks it is bad
unfoldable pub checked : (List ℕ → Bool) → List ℕ → Option Name → Option Name
checked good f (Some n) = pick (good (part f n.at n.length)) (Some n) None
checked good f None = None

-- the name of a section whose name field stands at a place of the file
abbrev pub section_name_at : List ℕ → Header → ℕ → Option Name
section_name_at f h at = checked good_section_name f (section_run f h at)

-- the same of a symbol
abbrev pub symbol_name_at : List ℕ → Header → ℕ → Option Name
symbol_name_at f h at = checked good_symbol_name f (symbol_run f h at)

-- the name of section i
abbrev pub section_name : List ℕ → Header → ℕ → Option Name
section_name f h i = section_name_at f h (section_header_at h i)

-- of symbol record j
abbrev pub symbol_name : List ℕ → Header → ℕ → Option Name
symbol_name f h j = symbol_name_at f h (symbol_record_at h j)

-- ---- where a name stands and the most bytes that it may take, whether they obey the rule or not: what names are compared by once 6 has passed
-- what a string table has from an offset of at least 4 on; below 4 it has none
unfoldable pub left_from : ℕ → ℕ → ℕ
left_from length offset = pick (leb LENGTH_SIZE offset) (length - offset) 0

-- the bytes of the string table that a name at an offset may take
unfoldable pub long_span : List ℕ → Header → ℕ → Span
long_span f h offset = record { at = string_table h + offset; most = left_from (string_length f h) offset }

-- a symbol's: with the first four bytes zero the next four are the offset; else the field itself
unfoldable pub span_at : List ℕ → Header → ℕ → Span
span_at f h at = pick (eqb (get 4 f at) 0) (long_span f h (get 4 f (at + LONG_OFFSET_AT))) (record { at = at; most = NAME_SIZE })

-- of symbol record j
abbrev pub symbol_span : List ℕ → Header → ℕ → Span
symbol_span f h j = span_at f h (symbol_record_at h j)

-- no bytes
abbrev pub no_span : Span
no_span = record { at = 0; most = 0 }

-- by the digits behind a slash: in the string table, if they lead into it
unfoldable pub slash_span : List ℕ → Header → Option ℕ → Span
slash_span f h (Some o) = pick (ltb o (string_length f h)) (long_span f h o) no_span
slash_span f h None = no_span

-- a section's: by the field's first byte
unfoldable pub section_span_at : List ℕ → Header → ℕ → Span
section_span_at f h at = pick (eqb (get_or f at 0) SLASH) (slash_span f h (slash_offset f at)) (record { at = at; most = NAME_SIZE })

-- of section i
abbrev pub section_span : List ℕ → Header → ℕ → Span
section_span f h i = section_span_at f h (section_header_at h i)

-- up to the first zero there, or the span's end
abbrev pub span_text : List ℕ → Span → List ℕ
span_text f s = up_to_zero (part f s.at s.most)

-- the bytes of section i's name, which it is looked for by
abbrev pub section_text : List ℕ → Header → ℕ → List ℕ
section_text f h i = span_text f (section_span f h i)

-- the bytes of symbol j's name, which externs are ordered and found by
abbrev pub symbol_text : List ℕ → Header → ℕ → List ℕ
symbol_text f h j = span_text f (symbol_span f h j)

-- ---- the refusal of each case (01, "Survey")
-- of a name
abbrev pub name_refusal : Option Name → Code
name_refusal (Some n) = PASSES
name_refusal None = NAME

-- of the digits behind a slash, which is the name's (`slash_refused`)
abbrev pub digits_refusal : Option ℕ → Code
digits_refusal (Some o) = PASSES
digits_refusal None = NAME

-- it is not refused
abbrev pub is_good : Option Name → Bool
is_good name = is_ok (name_refusal name)
