-- What the questions to the section table promise. These rest on the first record that a test takes, and so cannot stand beside that definition: an edit of it must stay readable there.
use Rattle.refusal.specs.declared.Refusal.TheVariants.{NoSection}
use Rattle.refusal.specs.declared.Refusal.{Refusal}
use Rattle.std.specs.Prelude.{◌≡◌, ℕ, zero, suc, ◌+◌, ◌-◌, ◌%◌, ◌^◌, ◌<◌, ◌≤◌, Bool, true, false, List, [], ◌∷◌, length, nat_le, nat_lt, Result, Ok, Err}
use Rattle.std.proofs.Math.Path.{refl, ap}
use Rattle.std.proofs.Common.{◌∙◌, ⊎_elim, not-suc-le-zero, le_of_suc-le-suc, mod-eq_of_lt, zero-add, leb-true, le-leb, lt-ltb}
use Rattle.std.proofs.Math.Bool.{and-false}
use native.Mathlib.Omega.{arith}
use Rattle.util.specs.Pick.{pick, yes_no, and_left, and_both}
use Rattle.arch.specs.declared.VA.{VA}
use Rattle.arch.specs.Address.{va}
use Rattle.section.specs.declared.Section.{Section}
use Rattle.section.specs.declared.Probe.{Probe}
use Rattle.section.specs.Section.{holds, file_holds, intersects, grants, intersects_none}
use Rattle.module.specs.Questions.{first_of, offset_in, address_in, numbered, NONE_HOLDS, NO_ADDRESS, file_offset, virtual_address, section_of, probe_va, nth}

-- ---- every question: the first record that the test takes answers, and none where there is none
module _ {A : Type 0} (p : Section → Bool) (a : ℕ → Section → A) (z : A) where
  first_at : (t : List Section) (i k : ℕ) → i < length t → p (nth t i) ≡ true → ((j : ℕ) → j < i → p (nth t j) ≡ false) → first_of p a z t k ≡ a (k + i) (nth t i)
  unfolding first_of pick
  first_at [] i k l h n = absurd (not-suc-le-zero l)
  first_at (s ∷ t) zero k l h n = let e : k + 0 ≡ k = omega arith in rw (h, e)
  first_at (s ∷ t) (suc i) k l h n =
      let m : p s ≡ false = n 0 (omega arith) in
      let e : suc k + i ≡ k + suc i = omega arith in
      rw m (first_at t i (suc k) (le_of_suc-le-suc l) h (λ j q. n (suc j) (omega arith)) ∙ ap (λ (x : ℕ). a x (nth t i)) e)

  pub first_is : (t : List Section) (i : ℕ) → i < length t → p (nth t i) ≡ true → ((j : ℕ) → j < i → p (nth t j) ≡ false) → first_of p a z t 0 ≡ a i (nth t i)
  first_is t i l h n = first_at t i 0 l h n ∙ rw zero-add

  none_at : (t : List Section) (k : ℕ) → ((j : ℕ) → j < length t → p (nth t j) ≡ false) → first_of p a z t k ≡ z
  unfolding first_of pick
  none_at [] k n = refl
  none_at (s ∷ t) k n = let m : p s ≡ false = n 0 (omega arith) in rw m (none_at t (suc k) (λ j q. n (suc j) (omega arith)))

  pub none_is : (t : List Section) → ((j : ℕ) → j < length t → p (nth t j) ≡ false) → first_of p a z t 0 ≡ z
  none_is t n = none_at t 0 n

-- an address that no section holds is refused by 19
pub refused_outside : (t : List Section) (x : VA) → ((j : ℕ) → j < length t → holds x (nth t j) ≡ false) → (file_offset t x ≡ Err NoSection) × (section_of t x ≡ Err NoSection)
refused_outside t x n = (none_is (holds x) (offset_in x) NONE_HOLDS t n, none_is (holds x) numbered NONE_HOLDS t n)

-- ---- there and back: section i is the first that holds the address, its file range reaches so far, and no earlier section has that byte of the file
module _ (t : List Section) (x : VA) (i : ℕ) (l : i < length t) (h : holds x (nth t i) ≡ true) (first : (j : ℕ) → j < i → holds x (nth t j) ≡ false) where
  abbrev s : Section
  s = nth t i

  abbrev place : ℕ
  place = s.file_start + (x.0 - s.start.0)

  pub offset_of_address : place < 2 ^ 64 → file_offset t x ≡ Ok place
  offset_of_address f = first_is (holds x) (offset_in x) NONE_HOLDS t i l h first ∙ ap Ok (mod-eq_of_lt f)

  pub address_of_offset : place < s.file_end → x.0 < 2 ^ 64 → ((j : ℕ) → j < i → file_holds place (nth t j) ≡ false) → virtual_address t place ≡ Ok x
  address_of_offset raw f none =
      let low : s.start.0 ≤ x.0 = leb-true s.start.0 x.0 (and_left (nat_le s.start.0 x.0) (nat_lt x.0 s.end.0) h) in
      let back : s.start.0 + (place - s.file_start) ≡ x.0 = omega arith in
      let inside : file_holds place s ≡ true = and_both (nat_le s.file_start place) (nat_lt place s.file_end) (le-leb s.file_start place (omega arith)) (lt-ltb place s.file_end raw) in
      first_is (file_holds place) (address_in place) NO_ADDRESS t i l inside none ∙ ap (λ (v : ℕ). Ok (va v)) (ap (λ (v : ℕ). v % 2 ^ 64) back ∙ mod-eq_of_lt f)

-- ---- permissions
-- an address in a section with one of the permissions that are asked for
some_at : (p : Section → Bool) (t : List Section) (i k : ℕ) → i < length t → p (nth t i) ≡ true → first_of p (λ _ _. true) false t k ≡ true
unfolding first_of pick
some_at p [] i k l h = absurd (not-suc-le-zero l)
some_at p (s ∷ t) zero k l h = rw h
some_at p (s ∷ t) (suc i) k l h =
    ⊎_elim (λ e. rw e) (λ e. rw e (some_at p t i (suc k) (le_of_suc-le-suc l) h)) (yes_no (p s))

pub probe_yes : (t : List Section) (q : Probe) (i : ℕ) → i < length t → holds q.va (nth t i) ≡ true → intersects (nth t i).permissions q.permissions ≡ true → probe_va t q ≡ true
probe_yes t q i l h e = some_at (grants q) t i 0 l (and_both (holds q.va (nth t i)) (intersects (nth t i).permissions q.permissions) h e)

-- with no permission asked for it is no
pub probe_none : (t : List Section) (x : VA) → probe_va t (record { va = x; permissions = 0 }) ≡ false
probe_none t x =
    none_is (grants (record { va = x; permissions = 0 })) (λ _ _. true) false t
    (λ j q. rw (intersects_none (nth t j).permissions) (and-false (holds x (nth t j))))
