-- The lines as the code puts them: one premise a writer, in the code's order. Assumes nothing.
use mathlib.Core.List.{List, ◌++◌}
use Prim.Native.Nat.{ℕ}
use Rattle.kinds.specs.declared.SymbolKind.{SymbolKind}
use Rattle.kinds.specs.Words.{SECTION, kind_word}
use Rattle.text.specs.Text.{decimal_text, hex_text, signed_text, permissions_text, word, newline, Puts}
use Rattle.text.specs.TextLaws.{then_three, then_four}
use Rattle.lines.specs.Lines.{IMAGE_WORD, PAGES_WORD, SYMBOL_WORD, EXTERN_WORD, FIX_WORD, SKIP_WORD, K_WORD, SKIPPED_WORD, PASSED_WORD, REFUSED_WORD, image_line, section_places, section_line, symbol_line, extern_line, fix_line, skip_line, skipped_line, refused_line}

module _ (l a b c d : List ℕ) (at h i j k : ℕ) where
  pub image_put : (base pages : ℕ) → Puts l at (word IMAGE_WORD ++ word (hex_text base)) a h → Puts a h (word PAGES_WORD) b i → Puts b i (decimal_text pages) c j → Puts c j newline d k → Puts l at (image_line base pages) d k
  unfolding image_line
  image_put base pages p q r s = then_four l a b c d at h i j k (word IMAGE_WORD ++ word (hex_text base)) (word PAGES_WORD) (decimal_text pages) newline p q r s

  pub places_put : (start end from to : ℕ) → Puts l at (word SECTION ++ word (hex_text start)) a h → Puts a h (word (hex_text end)) b i → Puts b i (word (decimal_text from)) c j → Puts c j (word (decimal_text to)) d k → Puts l at (section_places start end from to) d k
  unfolding section_places
  places_put start end from to p q r s = then_four l a b c d at h i j k (word SECTION ++ word (hex_text start)) (word (hex_text end)) (word (decimal_text from)) (word (decimal_text to)) p q r s

  pub section_put : (start end from to allowed : ℕ) (name : List ℕ) → Puts l at (section_places start end from to) a h → Puts a h (word (permissions_text allowed)) b i → Puts b i name c j → Puts c j newline d k → Puts l at (section_line start end from to allowed name) d k
  unfolding section_line
  section_put start end from to allowed name p q r s = then_four l a b c d at h i j k (section_places start end from to) (word (permissions_text allowed)) name newline p q r s

  pub symbol_put : (address : ℕ) (kind : SymbolKind) (name : List ℕ) → Puts l at (word SYMBOL_WORD ++ word (hex_text address)) a h → Puts a h (word (kind_word kind)) b i → Puts b i name c j → Puts c j newline d k → Puts l at (symbol_line address kind name) d k
  unfolding symbol_line
  symbol_put address kind name p q r s = then_four l a b c d at h i j k (word SYMBOL_WORD ++ word (hex_text address)) (word (kind_word kind)) name newline p q r s

  pub fix_put : (place bits value : ℕ) → Puts l at (word FIX_WORD ++ word (hex_text place)) a h → Puts a h (word (decimal_text bits)) b i → Puts b i (signed_text value) c j → Puts c j newline d k → Puts l at (fix_line place bits value) d k
  unfolding fix_line
  fix_put place bits value p q r s = then_four l a b c d at h i j k (word FIX_WORD ++ word (hex_text place)) (word (decimal_text bits)) (signed_text value) newline p q r s

  pub skip_put : (section relocation reason : ℕ) → Puts l at (word SKIP_WORD ++ word (decimal_text section)) a h → Puts a h (word (decimal_text relocation)) b i → Puts b i (K_WORD ++ decimal_text reason) c j → Puts c j newline d k → Puts l at (skip_line section relocation reason) d k
  unfolding skip_line
  skip_put section relocation reason p q r s = then_four l a b c d at h i j k (word SKIP_WORD ++ word (decimal_text section)) (word (decimal_text relocation)) (K_WORD ++ decimal_text reason) newline p q r s

  pub skipped_put : (skips passed : ℕ) → Puts l at (word SKIPPED_WORD ++ word (decimal_text skips)) a h → Puts a h (word PASSED_WORD) b i → Puts b i (decimal_text passed) c j → Puts c j newline d k → Puts l at (skipped_line skips passed) d k
  unfolding skipped_line
  skipped_put skips passed p q r s = then_four l a b c d at h i j k (word SKIPPED_WORD ++ word (decimal_text skips)) (word PASSED_WORD) (decimal_text passed) newline p q r s

module _ (l a b c : List ℕ) (at h i j : ℕ) where
  pub extern_put : (slot : ℕ) (name : List ℕ) → Puts l at (word EXTERN_WORD ++ word (hex_text slot)) a h → Puts a h name b i → Puts b i newline c j → Puts l at (extern_line slot name) c j
  unfolding extern_line
  extern_put slot name p q r = then_three l a b c at h i j (word EXTERN_WORD ++ word (hex_text slot)) name newline p q r

  pub refused_put : (n : ℕ) → Puts l at (word REFUSED_WORD) a h → Puts a h (decimal_text n) b i → Puts b i newline c j → Puts l at (refused_line n) c j
  unfolding refused_line
  refused_put n p q r = then_three l a b c at h i j (word REFUSED_WORD) (decimal_text n) newline p q r
