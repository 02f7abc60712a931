-- Another base: what lies at the same distance from it has the same origin.
use Rattle.std.specs.Prelude.{◌≡◌, ℕ, ◌+◌, ◌-◌, ◌*◌, leb, ltb}
use Rattle.std.proofs.Math.Path.{refl, fun_ext}
use Rattle.std.proofs.Common.{ap, ◌∙◌, arith}
use mathlib.Core.List.{List, [], ◌∷◌}
use Rattle.std.proofs.Math.Option.{Option, none, some}
use Rattle.util.specs.Pick.{leb_same, ltb_same}
use Rattle.object.specs.declared.Header.{Header}
use Rattle.object.specs.Format.{header_of}
use Rattle.object.specs.Section.{range_length}
use Rattle.layout.specs.Layout.{start_at, undef_start}
use Rattle.demands.specs.Origin.{first_below, fixup_at, fixup_width, slots_of, covers, latest, in_slots, in_section, file_origin, laid_origin, origin_by, origin}

module _ (f : List ℕ) (b₁ b₂ d : ℕ) where
  abbrev h : Header
  h = header_of f

  -- addresses that are ordered at one base are so at the other
  below_same : (p : ℕ) → leb (b₁ + p) (b₁ + d) ≡ leb (b₂ + p) (b₂ + d)
  below_same p = leb_same (b₁ + p) (b₁ + d) (b₂ + p) (b₂ + d) (λ k. omega arith) (λ k. omega arith)

  above_same : (p w : ℕ) → ltb (b₁ + d) (b₁ + p + w) ≡ ltb (b₂ + d) (b₂ + p + w)
  above_same p w = ltb_same (b₁ + d) (b₁ + p + w) (b₂ + d) (b₂ + p + w) (λ k. omega arith) (λ k. omega arith)

  apart_same : (p : ℕ) → b₁ + d - (b₁ + p) ≡ b₂ + d - (b₂ + p)
  apart_same p = omega arith

  covers_same : (k : ℕ) → covers f b₁ (b₁ + d) k ≡ covers f b₂ (b₂ + d) k
  unfolding covers
  covers_same k = rw (below_same (fixup_at f k).place.0, above_same (fixup_at f k).place.0 (fixup_width f b₁ k))

  latest_same : (ks : List ℕ) → latest f b₁ (b₁ + d) ks ≡ latest f b₂ (b₂ + d) ks
  unfolding latest
  latest_same [] = refl
  latest_same (k ∷ ks) = rw (covers_same k, latest_same ks)

  slots_same : in_slots f b₁ (b₁ + d) ≡ in_slots f b₂ (b₂ + d)
  unfolding in_slots
  slots_same = rw (below_same (undef_start f h), above_same (undef_start f h) (4 * slots_of f))

  section_same : (i : ℕ) → in_section f b₁ (b₁ + d) i ≡ in_section f b₂ (b₂ + d) i
  unfolding in_section
  section_same i = rw (below_same (start_at f h i), above_same (start_at f h i) (range_length f h i))

  file_same : (o : Option ℕ) → file_origin f b₁ (b₁ + d) o ≡ file_origin f b₂ (b₂ + d) o
  unfolding file_origin
  file_same none = refl
  file_same (some i) = rw (apart_same (start_at f h i))

  laid_same : laid_origin f b₁ (b₁ + d) ≡ laid_origin f b₂ (b₂ + d)
  unfolding laid_origin
  laid_same =
      let s : in_section f b₁ (b₁ + d) ≡ in_section f b₂ (b₂ + d) = fun_ext section_same in
      rw (slots_same, apart_same (undef_start f h), s, file_same (first_below (in_section f b₂ (b₂ + d)) h.sections))

  by_same : (o : Option ℕ) → origin_by f b₁ (b₁ + d) o ≡ origin_by f b₂ (b₂ + d) o
  unfolding origin_by
  by_same none = laid_same
  by_same (some k) = rw (apart_same (fixup_at f k).place.0)

  pub origin_same : (ks : List ℕ) → origin f b₁ ks (b₁ + d) ≡ origin f b₂ ks (b₂ + d)
  origin_same ks = ap (origin_by f b₁ (b₁ + d)) (latest_same ks) ∙ by_same (latest f b₂ (b₂ + d) ks)
