-- How long a line is: no more than its name and 120 bytes.
use Rattle.std.specs.Prelude.{List, ℕ, ◌+◌, ◌^◌, ◌≤◌, ◌<◌, length}
use Rattle.std.proofs.Common.{arith, length-append}
use Rattle.kinds.specs.declared.SymbolKind.{SymbolKind}
use Rattle.kinds.specs.declared.SymbolKind.TheVariants.{Unknown, Text, Data, Section, File, Label}
use Rattle.kinds.specs.Words.{kind_word}
use Rattle.text.specs.Text.{permissions_text}
use Rattle.text.specs.TextLaws.{hex_long, decimal_long, signed_long}
use Rattle.lines.specs.Lines.{image_line, section_places, section_line, symbol_line, extern_line, fix_line, skip_line, skipped_line, refused_line}

kind_long : (k : SymbolKind) → length (kind_word k) ≤ 7
kind_long Unknown = omega arith
kind_long Text = omega arith
kind_long Data = omega arith
kind_long Section = omega arith
kind_long File = omega arith
kind_long Label = omega arith

pub image_long : (base pages : ℕ) → base < 2 ^ 64 → pages < 2 ^ 64 → length (image_line base pages) ≤ 120
unfolding image_line
image_long base pages a b = simp length-append (omega (arith, hex_long base a, decimal_long pages b))

pub section_long : (start end from to allowed : ℕ) (name : List ℕ) → start < 2 ^ 64 → end < 2 ^ 64 → from < 2 ^ 64 → to < 2 ^ 64
    → length (section_line start end from to allowed name) ≤ 120 + length name
unfolding section_line section_places permissions_text
section_long start end from to allowed name a b c d =
    simp length-append (omega (arith, hex_long start a, hex_long end b, decimal_long from c, decimal_long to d))

pub symbol_long : (address : ℕ) (kind : SymbolKind) (name : List ℕ) → address < 2 ^ 64 → length (symbol_line address kind name) ≤ 120 + length name
unfolding symbol_line
symbol_long address kind name a = simp length-append (omega (arith, hex_long address a, kind_long kind))

pub extern_long : (slot : ℕ) (name : List ℕ) → slot < 2 ^ 64 → length (extern_line slot name) ≤ 120 + length name
unfolding extern_line
extern_long slot name a = simp length-append (omega (arith, hex_long slot a))

pub fix_long : (place bits value : ℕ) → place < 2 ^ 64 → bits < 2 ^ 64 → value < 2 ^ 64 → length (fix_line place bits value) ≤ 120
unfolding fix_line
fix_long place bits value a b c = simp length-append (omega (arith, hex_long place a, decimal_long bits b, signed_long value c))

pub skip_long : (section relocation reason : ℕ) → section < 2 ^ 64 → relocation < 2 ^ 64 → reason < 2 ^ 64 → length (skip_line section relocation reason) ≤ 120
unfolding skip_line
skip_long section relocation reason a b c = simp length-append (omega (arith, decimal_long section a, decimal_long relocation b, decimal_long reason c))

pub skipped_long : (skips passed : ℕ) → skips < 2 ^ 64 → passed < 2 ^ 64 → length (skipped_line skips passed) ≤ 120
unfolding skipped_line
skipped_long skips passed a b = simp length-append (omega (arith, decimal_long skips a, decimal_long passed b))

pub refused_long : (n : ℕ) → n < 2 ^ 64 → length (refused_line n) ≤ 120
unfolding refused_line
refused_long n a = simp length-append (omega (arith, decimal_long n a))
