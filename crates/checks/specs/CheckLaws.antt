-- Refusal 8 as the code asks it, by UNDEF's start.
use Rattle.std.specs.Prelude.{◌≡◌, Bool, true, List, ℕ, ◌≤◌, leb}
use Rattle.std.proofs.Common.{sym, ◌∙◌, leb-true}
use Rattle.limits.specs.Limits.{MAX_PAGES}
use Rattle.arch.specs.declared.RVA.{RVA}
use Rattle.arch.specs.Address.{rva}
use Rattle.object.specs.declared.Header.{Header}
use Rattle.layout.specs.Layout.{undef_start, pages_to, mapped_pages}
use Rattle.checks.specs.Checks.{pages_ok}

module _ (f : List ℕ) (h : Header) (b : Bool) (u : RVA) (q : b ≡ leb (pages_to u.0) MAX_PAGES) (start : u ≡ rva (undef_start f h)) where
  pub pages_are : b ≡ pages_ok f h
  pages_are = rw start at q

  pub pages_few : b ≡ true → mapped_pages f h ≤ MAX_PAGES
  pages_few e = leb-true (mapped_pages f h) MAX_PAGES (sym pages_are ∙ e)
