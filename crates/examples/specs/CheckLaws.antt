-- Where `names_object` is laid, and that its records pass survey's checks 1 to 8.
use Rattle.std.specs.Prelude.{◌≡◌, true, false, List, ℕ, ◌+◌, ◌*◌, ◌/◌, ◌≤◌, eqb, Some}
use Rattle.std.proofs.Math.Path.{refl}
use Rattle.std.proofs.Common.{arith}
use borrow.Author.Tests.{ne_eqb, le-leb}
use Rattle.util.specs.Pick.{pick}
use Rattle.util.specs.Prefix.{all_to, sum_to, all_of}
use Rattle.util.specs.Align.{round_up}
use Rattle.arch.specs.Address.{rva}
use Rattle.arch.specs.Machine.{arch_of}
use Rattle.arch.specs.Page.{PAGE_SIZE}
use Rattle.le.specs.Le.{le, part}
use Rattle.limits.specs.Limits.{MAX_FILE, MAX_SYMBOLS, MAX_RELOCATIONS, MAX_PAGES}
use Rattle.kinds.specs.Flags.{loaded_by, align_of}
use Rattle.object.specs.declared.Header.{Header}
use Rattle.object.specs.Format.{HEADER_SIZE, string_length}
use Rattle.object.specs.Section.{loaded, range_length}
use Rattle.object.specs.Symbol.{ok_at}
use Rattle.chars.specs.Chars.{good_section_name}
use Rattle.names.specs.Bytes.{run}
use Rattle.names.specs.Name.{section_run, checked}
use Rattle.layout.specs.Layout.{next_start, start_at, undef_start, mapped_pages}
use Rattle.homes.specs.Home.{section_home}
use Rattle.bounds.specs.Bounds.{size_ok, section_table_ok, strings_ok, symbol_table_ok, bytes_ok, data_ok, relocations_ok, sections_ok}
use Rattle.good_names.specs.GoodNames.{name_ok, section_name_ok, names_ok}
use Rattle.checks.specs.Checks.{number_ok, numbers_ok, pages_ok}
use Rattle.survey.specs.SurveyLaws.{Ordered}
use Rattle.examples.specs.NamesObject.{MAX_NAMES, relocations_at, symbols_at, names_object, names_header, text_pages}
use Rattle.examples.specs.FieldLaws.{length_names, strings_number, text_address, text_size, text_pointer, text_relocations, text_flags, text_extended, text_records, text_count}
use Rattle.examples.specs.NameLaws.{name_is}
use Rattle.examples.specs.ExternLaws.{none_left, is_primary, place_is}

module _ (n m : ℕ) (names : n ≤ MAX_NAMES) (most : m ≤ MAX_RELOCATIONS) where
  abbrev f : List ℕ
  f = names_object n m

  abbrev h : Header
  h = names_header n m

  -- ---- layout
  pub text_loaded : loaded f h 0 ≡ true
  unfolding loaded_by
  text_loaded = rw (text_flags n m names most)

  text_range : range_length f h 0 ≡ (4 * m + 15) / 16 * 16
  unfolding range_length round_up align_of pick
  text_range = rw (text_flags n m names most, text_size n m names most)

  -- UNDEF starts behind the pages of .text
  pub undef_is : undef_start f h ≡ PAGE_SIZE * text_pages m
  unfolding start_at next_start round_up pick
  undef_is = rw (text_loaded, text_range) (omega arith)

  pub pages_are : mapped_pages f h ≡ text_pages m + 2
  pages_are = let e = undef_is in omega arith

  -- .text is its own home, at the base
  pub home_is : section_home f h 0 ≡ Some (rva 0)
  unfolding section_home start_at pick
  home_is = rw text_loaded

  -- ---- checks
  -- the file ends with the string table
  abbrev end : ℕ
  end = symbols_at m + 18 * n + 4

  size_ok_lem : size_ok f ≡ true
  unfolding size_ok
  size_ok_lem = rw (length_names n m, le-leb HEADER_SIZE end (omega arith), le-leb end MAX_FILE (omega arith))

  section_table_ok_lem : section_table_ok f h ≡ true
  unfolding section_table_ok
  section_table_ok_lem = rw (length_names n m) (le-leb 60 end (omega arith))

  not_zero : eqb (symbols_at m) 0 ≡ false
  not_zero = ne_eqb (symbols_at m) 0 (λ e. omega arith)

  strings_are : string_length f h ≡ 4
  unfolding string_length pick
  strings_are = rw not_zero (strings_number n m)

  strings_ok_lem : strings_ok f h ≡ true
  unfolding strings_ok
  strings_ok_lem = rw (strings_are, length_names n m, le-leb end end (omega arith))

  symbol_table_ok_lem : symbol_table_ok f h ≡ true
  unfolding symbol_table_ok
  symbol_table_ok_lem = rw (not_zero, le-leb n MAX_SYMBOLS (omega arith), strings_ok_lem, none_left n m names most n (omega arith))

  data_ok_lem : data_ok f h 0 ≡ true
  unfolding data_ok bytes_ok
  data_ok_lem =
      rw (text_loaded, text_address n m names most, text_flags n m names most, text_pointer n m names most, text_size n m names most, length_names n m)
      (le-leb (60 + 4 * m) end (omega arith))

  relocations_ok_lem : relocations_ok f h 0 ≡ true
  unfolding relocations_ok
  relocations_ok_lem =
      rw (
        text_relocations n m names most,
        text_records n m names most,
        length_names n m,
        text_extended n m names most,
        le-leb (relocations_at m + 10 * m) end (omega arith),
      )

  sections_ok_lem : sections_ok f h ≡ true
  unfolding sections_ok all_to sum_to
  sections_ok_lem = rw (data_ok_lem, relocations_ok_lem, text_count n m names most) (le-leb (0 + m) MAX_RELOCATIONS (omega arith))

  section_name_ok_lem : section_name_ok f h 0 ≡ true
  unfolding section_run checked run good_section_name part all_to pick le
  section_name_ok_lem = refl

  names_ok_lem : names_ok f h ≡ true
  unfolding names_ok ok_at all_to
  names_ok_lem = rw section_name_ok_lem (all_of (ok_at name_ok f h) n (λ k q. rw (is_primary n m names most k q, name_is n m names k q)))

  numbers_ok_lem : numbers_ok f h ≡ true
  unfolding ok_at
  numbers_ok_lem = all_of (ok_at number_ok f h) n (λ k q. rw (is_primary n m names most k q, place_is n m names most k q))

  pages_ok_lem : pages_ok f h ≡ true
  pages_ok_lem = rw pages_are (le-leb (text_pages m + 2) MAX_PAGES (omega arith))

  pub names_ordered : Ordered f h
  unfolding arch_of pick
  names_ordered =
      record {
        size = size_ok_lem;
        machine = refl;
        section_table = section_table_ok_lem;
        symbol_table = symbol_table_ok_lem;
        sections = sections_ok_lem;
        names = names_ok_lem;
        numbers = numbers_ok_lem;
        pages = pages_ok_lem;
      }
