-- The steps of a scan and of filling, as the code asks them.
use Rattle.refusal.specs.declared.Refusal.{Refusal}
use Rattle.std.specs.Prelude.{Result, Ok, Err}
use Rattle.std.proofs.Common.{◌≡◌, ℕ, ◌+◌, ◌*◌, ◌/◌, ◌<◌, ◌≤◌, Bool, true, false, List, length, drop, set, sym, refl, ap, ◌∙◌, add-one, drop_of_length-le, drop-cons}
use Rattle.std.specs.Prelude.{Option, Some, None, cond, ◌||◌, suc, [], ◌∷◌}
use Rattle.std.specs.List.{find, list_any, position, position_from}
use Rattle.std.specs.Option.{option_map, ok_or}
use Rattle.std.proofs.lemmas.Iterator.Adapters.{position_from-zero}
use Rattle.limits.specs.Records.{SECTION_BYTES}
use Rattle.util.specs.Pick.{pick}
use Rattle.util.specs.Prefix.{length_list, list_at}
use Rattle.arch.specs.declared.VA.{VA}
use Rattle.section.specs.declared.Section.{Section}
use Rattle.section.specs.Section.{holds}
use Rattle.module.specs.Questions.{first_of, numbered, NONE_HOLDS, section_of, section_at, fill_to, blank, nth}
use Rattle.module.specs.Routine.{table_sections}

-- ---- the searches of std: the first record that a test takes, its number, and whether there is one
number_at : (p : Section → Bool) (z : Refusal) (t : List Section) (i : ℕ) → first_of p numbered (Err z) t i ≡ ok_or (position_from p i t) z
unfolding first_of pick numbered
number_at p z [] i = refl
number_at p z (s ∷ t) i = elim (p s) as (λ b. pick b (Ok i) (first_of p numbered (Err z) t (suc i)) ≡ ok_or (cond b (Some i) (position_from p (i + 1) t)) z) [ true ↦ refl | false ↦ rw add-one (number_at p z t (suc i)) ]

pub position_is : (p : Section → Bool) (z : Refusal) (t : List Section) → first_of p numbered (Err z) t 0 ≡ ok_or (position p t) z
position_is p z t = number_at p z t 0 ∙ ap (λ o. ok_or o z) (sym (position_from-zero p t))

pub any_is : (p : Section → Bool) (t : List Section) (i : ℕ) → first_of p (λ _ _. true) false t i ≡ list_any p t
unfolding first_of pick
any_is p [] i = refl
any_is p (s ∷ t) i = elim (p s) as (λ b. pick b true (first_of p (λ _ _. true) false t (suc i)) ≡ b || list_any p t) [ true ↦ refl | false ↦ any_is p t (suc i) ]

pub find_is : {A : Type 0} (p : Section → Bool) (a : Section → A) (z : Refusal) (t : List Section) (i : ℕ) → first_of p (λ _ s. Ok (a s)) (Err z) t i ≡ ok_or (option_map a (find p t)) z
unfolding first_of pick
find_is p a z [] i = refl
find_is p a z (s ∷ t) i = elim (p s) as (λ b. pick b (Ok (a s)) (first_of p (λ _ s. Ok (a s)) (Err z) t (suc i)) ≡ ok_or (option_map a (cond b (Some s) (find p t))) z) [ true ↦ refl | false ↦ find_is p a z t (suc i) ]

-- as the code says the answer
module _ (p : Section → Bool) (t : List Section) (z : Refusal) where
  pub number_told : {answer : Result ℕ Refusal} {r : Option ℕ} → answer ≡ ok_or r z → r ≡ position p t → answer ≡ first_of p numbered (Err z) t 0
  number_told told e = told ∙ ap (λ o. ok_or o z) e ∙ sym (position_is p z t)

  pub found_told : {A B : Type 0} (v : B → Section) (a : Section → A) {answer : Result A Refusal} (r : Option B) → answer ≡ ok_or (option_map (λ y. a (v y)) r) z → option_map v r ≡ find p t
      → answer ≡ first_of p (λ _ s. Ok (a s)) (Err z) t 0
  found_told v a None told e = told ∙ ap (λ o. ok_or (option_map a o) z) e ∙ sym (find_is p a z t 0)
  found_told v a (Some y) told e = told ∙ ap (λ o. ok_or (option_map a o) z) e ∙ sym (find_is p a z t 0)

-- ---- a scan by index: the answer of the whole is that of the records from i on
pub record Left {A : Type 0} (p : Section → Bool) (a : ℕ → Section → A) (z : A) (t : List Section) (i : ℕ) : Type 0 where
  pub same : first_of p a z (drop i t) i ≡ first_of p a z t 0

module _ {A : Type 0} {p : Section → Bool} {a : ℕ → Section → A} {z : A} {t : List Section} where
  pub left_all : Left p a z t 0
  left_all = record { same = refl }

  module _ {i : ℕ} (l : Left p a z t i) where
    pub left_next : {b : Bool} → i < length t → b ≡ p (nth t i) → b ≡ false → Left p a z t (i + 1)
    unfolding first_of pick
    left_next {b = b} below tested fails =
        let missed : p (nth t i) ≡ false = cc in
        let step : first_of p a z (drop i t) i ≡ first_of p a z (drop (i + 1) t) (i + 1) = rw (add-one, drop-cons t i blank below, missed) in
        record { same = sym step ∙ l.same }

    pub left_found : {b : Bool} → i < length t → b ≡ p (nth t i) → b ≡ true → first_of p a z t 0 ≡ a i (nth t i)
    unfolding first_of pick
    left_found {b = b} below tested holds_there =
        let hit : p (nth t i) ≡ true = cc in
        let step : first_of p a z (drop i t) i ≡ a i (nth t i) = rw (drop-cons t i blank below, hit) in
        sym l.same ∙ step

    pub left_none : {r : A} → length t ≤ i → r ≡ z → r ≡ first_of p a z t 0
    unfolding first_of
    left_none {r = r} past answers =
        let step : first_of p a z (drop i t) i ≡ z = rw (drop_of_length-le t past) in
        answers ∙ sym step ∙ l.same

-- ---- filling by index
pub fill_to_zero : (table : List ℕ) (t : List Section) → fill_to table 0 t ≡ t
unfolding fill_to
fill_to_zero table t = refl

pub fill_to_next : (table : List ℕ) (n : ℕ) (t : List Section) → fill_to table (n + 1) t ≡ set (fill_to table n t) n (section_at table n)
unfolding fill_to
fill_to_next table n t = rw add-one

pub ruleset fill_steps = (fill_to_zero, fill_to_next)

-- ---- a scan of the table that load wrote
pub record LeftRecords (table : List ℕ) (x : VA) (i : ℕ) : Type 0 where
  pub left : Left (holds x) numbered NONE_HOLDS (table_sections table) i

pub records_all : (table : List ℕ) (x : VA) → LeftRecords table x 0
records_all table x = record { left = left_all }

module _ (table : List ℕ) (n : ℕ) (counted : n ≡ length table / SECTION_BYTES) where
  long : length (table_sections table) ≡ n
  long = length_list (section_at table) (length table / SECTION_BYTES) ∙ sym counted

  there : (i : ℕ) → i < n → nth (table_sections table) i ≡ section_at table i
  there i below = list_at (section_at table) blank (length table / SECTION_BYTES) i (rw (← counted) below)

module _ {table : List ℕ} {x : VA} {n i : ℕ} (l : LeftRecords table x i) (counted : n ≡ length table / SECTION_BYTES) where
  pub record_next : {s : Section} {b : Bool} → i < n → s ≡ section_at table i → b ≡ holds x s → b ≡ false → LeftRecords table x (i + 1)
  record_next below is test fails = record { left = left_next l.left (rw (long table n counted) below) (test ∙ ap (holds x) (is ∙ sym (there table n counted i below))) fails }

  pub record_found : {s : Section} {b : Bool} {r : Result ℕ Refusal} → i < n → s ≡ section_at table i → b ≡ holds x s → b ≡ true → r ≡ Ok i → r ≡ section_of (table_sections table) x
  record_found below is test found answers = answers ∙ sym (left_found l.left (rw (long table n counted) below) (test ∙ ap (holds x) (is ∙ sym (there table n counted i below))) found)

  pub record_none : {r : Result ℕ Refusal} → n ≤ i → r ≡ NONE_HOLDS → r ≡ section_of (table_sections table) x
  record_none past answers = left_none l.left (rw (long table n counted) past) answers

pub ruleset record_steps = (records_all, record_next, record_found, record_none)
