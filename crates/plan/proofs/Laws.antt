-- The ways through the code. Assumes nothing.
use Rattle.refusal.specs.declared.Refusal.TheVariants.{Place, Base, Externs, Pages, Storage}
use Rattle.refusal.specs.declared.Refusal.TheVariants as refusals
use Rattle.refusal.specs.declared.Refusal.{Refusal}
use Rattle.std.specs.Prelude.{Result, Ok, Err, Option, Some, None, ok_or}
use mathlib.Core.Path.{◌≡◌, refl, sym, ap, ◌∙◌}
use mathlib.Core.Bool.{Bool, true, false, ◌&&◌}
use mathlib.Core.List.{List, [], ◌∷◌, ◌++◌}
use mathlib.Core.Logic.{⊎_elim}
use Prim.Native.Nat.{ℕ, zero, suc, ◌+◌, ◌-◌, ◌*◌, ◌/◌, ◌≤◌, ◌<◌}
use native.Mathlib.Omega.{arith}
use native.Mathlib.Nat.{mul_comm, suc-mul, mul-le-mul_left, div-mul-le_self, lt-div-mul-add}
use lib.Dec.{eqb, leb}
use lib.ListN.{length, length-take}
use borrow.Author.Tests.{le-leb, lt-leb, ne_eqb, leb-true}
use Rattle.limits.specs.Limits.{MAX_SECTIONS, MAX_PAGES, MAX_EXTERNS}
use Rattle.limits.specs.Records.{SECTION_BYTES, SYMBOL_BYTES, EXTERN_BYTES, FIXUP_BYTES, SKIP_BYTES}
use Rattle.refusal.specs.Refusal.{Code, PASSES, PAGES, PLACE, BASE, STORAGE, answer_of}
use Rattle.util.specs.Pick.{pick, le_or_lt, leb_same}
use Rattle.arch.specs.declared.RVA.{RVA}
use Rattle.arch.specs.Address.{rva}
use Rattle.arch.specs.Page.{PAGE_SIZE}
use Rattle.le.specs.Le.{splice}
use Rattle.marks.specs.Marks.{WORD_BYTES, words_for}
use Rattle.object.specs.declared.Header.{Header}
use Rattle.object.specs.Format.{header_of}
use Rattle.layout.specs.Layout.{pages_to, mapped_pages, undef_start}
use Rattle.homes.specs.Home.{homes_to, home_in, section_home}
use Rattle.checks.specs.Checks.{pages_ok, base_ok}
use Rattle.checks.specs.CheckLaws.{pages_are, pages_few}
use Rattle.codes.specs.Code.{codes_to}
use Rattle.externs.specs.Externs.{externs, names_of, slot_words, Holds}
use Rattle.externs.specs.Slotted.{slotted, CodesAfter}
use Rattle.externs.specs.ExternLaws.{kept_holds, over_length, count_room, count_list}
use Rattle.targets.specs.declared.Target.{Target}
use Rattle.targets.specs.Target.{targets}
use Rattle.targets.specs.Table.{target_in}
use Rattle.fixups.specs.declared.Tally.{Tally}
use Rattle.survey.specs.declared.answer.Counts.{Counts}
use Rattle.survey.specs.Survey.{Check, check, first_failed, early_checks, page_checks, extern_checks, target_checks, counts, tally, tally_by, answer_by}
use Rattle.survey.specs.Surveying.{Fits, behind_pages, planned_by, names_in, home_words, code_words, Cleared}
use Rattle.survey.specs.TableLaws.{homes_whole, records_whole, names_whole, targets_whole}
use Rattle.survey.specs.SurveyLaws.{check_holds, checks_hold, failed_first, Early, Ordered, early, early_rest, with_pages, records_rest, fits_is}
use Rattle.survey.proofs.Laws.{some_is, none_is}
use Rattle.plan.specs.declared.Lengths.{Lengths}
use Rattle.plan.specs.Plan.{layout_room, lists_room, room_for, room_check, plan_checks, plan_by, Blank, Found, Plans}
use Rattle.plan.specs.Planning.{first_checks, with_room, planned_counts, late_plan, PlannedIn}

-- ---- 13
-- a count fits the whole records of a length where its bytes fit the length
by_size : (s n len : ℕ) → 0 < s → leb n (len / s) ≡ leb (s * n) len
by_size s n len h =
    leb_same n (len / s) (s * n) len
    (λ k.
    let a : s * n ≤ s * (len / s) = mul-le-mul_left s k in
    let b : len / s * s ≤ len = div-mul-le_self _ _ in
    let c : s * (len / s) ≡ len / s * s = mul_comm _ _ in
    omega arith)
    (λ k.
    ⊎_elim (λ (l : n ≤ len / s). l)
    (λ (l : len / s < n).
    let a : s * suc (len / s) ≤ s * n = mul-le-mul_left s l in
    let b : len < len / s * s + s = lt-div-mul-add h in
    let c : s * suc (len / s) ≡ len / s * s + s = mul_comm s (suc (len / s)) ∙ suc-mul (len / s) s in
    absurd (omega arith))
    (le_or_lt n (len / s)))

module _ (c : Counts) (l : Lengths) where
  pub layout_is : layout_room c l ≡ (leb c.pages (l.image / PAGE_SIZE) && (leb (words_for c.pages) (l.marks / WORD_BYTES) && leb c.sections (l.sections / SECTION_BYTES)))
  unfolding layout_room
  layout_is = rw (by_size PAGE_SIZE c.pages l.image (omega arith), by_size WORD_BYTES (words_for c.pages) l.marks (omega arith), by_size SECTION_BYTES c.sections l.sections (omega arith))

  pub lists_are : lists_room c l
      ≡ (leb c.symbols (l.symbols / SYMBOL_BYTES) && (leb c.externs (l.externs / EXTERN_BYTES) && (leb c.fixups (l.fixups / FIXUP_BYTES) && leb c.skips (l.skips / SKIP_BYTES))))
  unfolding lists_room
  lists_are =
      rw (by_size SYMBOL_BYTES c.symbols l.symbols (omega arith), by_size EXTERN_BYTES c.externs l.externs (omega arith), by_size FIXUP_BYTES c.fixups l.fixups (omega arith), by_size SKIP_BYTES c.skips l.skips (omega arith))

-- ---- 13 behind survey's answer
module _ (s : Result Counts Refusal) (l : Lengths) (n : ℕ) where
  pub room_refused : (k : Refusal) → s ≡ Err k → Err k ≡ with_room s l n
  unfolding with_room
  room_refused k e = rw e

  module _ (c : Counts) (is : s ≡ Ok c) (b : Bool) (room : b ≡ room_for c l) where
    pub room_yes : b ≡ true → Ok (c, n) ≡ with_room s l n
    unfolding with_room pick
    room_yes e = rw (is, ← room, e)

    pub room_no : b ≡ false → Err Storage ≡ with_room s l n
    unfolding with_room pick
    room_no e = rw (is, ← room, e)

pub ruleset room_ways = (room_refused, room_yes, room_no)

-- ---- checks that pass hand on
targets_pass : (t : Tally) → first_failed (target_checks t) ≡ PASSES → (eqb t.refused 0 ≡ true) × (eqb t.outside 0 ≡ true)
targets_pass t e =
    let a : first_failed (check (eqb t.outside 0) PLACE ∷ []) ≡ PASSES = checks_hold _ refusals.Target (check (eqb t.outside 0) PLACE ∷ []) e in
    (check_holds _ refusals.Target (check (eqb t.outside 0) PLACE ∷ []) e, check_holds _ Place [] a)

targets_rest : (t : Tally) (cs : List Check) → first_failed (target_checks t) ≡ PASSES → first_failed (target_checks t ++ cs) ≡ first_failed cs
unfolding first_failed pick
targets_rest t cs e = let p = targets_pass t e in rw (p.0, p.1)

pages_pass : (f : List ℕ) (h : Header) (s : Result Counts Refusal) → mapped_pages f h ≤ MAX_PAGES → behind_pages f h s ≡ s
unfolding pick
pages_pass f h s k = rw (le-leb (mapped_pages f h) MAX_PAGES k)

plan_refused : (r : Refusal) (c : Counts) (n : ℕ) → Err r ≡ plan_by (Err r) c n
unfolding answer_of
plan_refused r c n = refl

by_room : (b : Bool) (c : Counts) (n : ℕ) → ◌≡◌ {A = Result (Counts × ℕ) Refusal} (pick b (Ok (c, n)) (Err Storage)) (plan_by (pick b PASSES STORAGE) c n)
unfolding answer_of pick
by_room true c n = refl
by_room false c n = refl

by_answer : (t : Tally) (c : Counts) (l : Lengths) (n : ℕ) (k : Code) → first_failed (target_checks t) ≡ k → with_room (answer_by k c) l n ≡ plan_by (first_failed (target_checks t ++ room_check c l)) c n
unfolding with_room answer_of first_failed pick
by_answer t c l n (Ok u) e = rw (targets_rest t (room_check c l) e) (by_room (room_for c l) c n)
by_answer t c l n (Err r) e = rw (failed_first (target_checks t) (room_check c l) r e) (plan_refused r c n)

count_of : Option ℕ → ℕ
count_of (Some n) = n
count_of None = 0

-- ---- 9 and what follows
module _ (f : List ℕ) (h : Header) (homes codes : List ℕ) (l : Lengths) (codes' buf : List ℕ) (r : Option ℕ) (says : r ≡ names_of (names_in f h codes))
    (words : buf ≡ slot_words (names_in f h codes)) (coded : CodesAfter f h codes (names_in f h codes) codes') (q : Result ℕ Refusal) (said : q ≡ ok_or r Externs) where
  abbrev ys : List ℕ
  ys = names_in f h codes

  abbrev target : ℕ → Target
  target = target_in homes (undef_start f h) (slotted f h ys codes)

  holds : Holds ys buf r
  holds = kept_holds ys buf r says words

  pub plan_over : (k : Refusal) → q ≡ Err k → PlannedIn f h homes codes l codes' buf (Err k)
  unfolding first_failed pick
  plan_over k e =
      let g = none_is r k (sym said ∙ e) in
      let z : leb (length ys) MAX_EXTERNS ≡ false = lt-leb (length ys) MAX_EXTERNS (over_length ys buf r holds g.0) in
      record { says = rw (g.1, z) (plan_refused Externs (planned_counts f h (home_in homes) target (length ys) l) (length ys)); words = words; coded = coded }

  pub plan_few : (n : ℕ) (u : RVA) (v : Result Counts Refusal) (x : Result (Counts × ℕ) Refusal) → mapped_pages f h ≤ MAX_PAGES → u ≡ rva (undef_start f h) → q ≡ Ok n
      → (u ≡ rva (undef_start f h) → v ≡ planned_by f h (home_in homes) (target_in homes (undef_start f h) codes') n) → x ≡ with_room v l n
      → PlannedIn f h homes codes l codes' buf x
  unfolding first_failed pick count_of
  plan_few n u v x room start e₀ d y =
      let e = some_is r n (sym said ∙ e₀) in
      let few = count_room ys buf r holds n e in
      let list = count_list ys buf r holds n e in
      let z : leb (length ys) MAX_EXTERNS ≡ true = le-leb (length ys) MAX_EXTERNS (rw (← list, length-take) (omega arith)) in
      let m : n ≡ length ys = ap count_of (sym e ∙ (rw z at says)) in
      let g : codes' ≡ slotted f h ys codes = coded.few z in
      let t = tally_by f h (home_in homes) target in
      let c = planned_counts f h (home_in homes) target (length ys) l in
      let a : v ≡ answer_by (first_failed (target_checks t)) c = rw (g, m) at (d start) ∙ pages_pass f h (answer_by (first_failed (target_checks t)) c) room in
      record { says = rw z (y ∙ ap (λ (u : Result Counts Refusal). with_room u l n) a ∙ by_answer t c l n (first_failed (target_checks t)) refl ∙ ap (plan_by (first_failed (target_checks t ++ room_check c l)) c) m); words = words; coded = coded }

pub ruleset naming = (plan_over, plan_few)

-- ---- 12, then 1 to 7
module _ (f : List ℕ) (h : Header) (base : ℕ) (b : Bool) (is : b ≡ base_ok base) where
  pub first_records : (r : Code) → r ≡ first_failed (early_checks f h) → b ≡ true → r ≡ first_failed (first_checks f h base)
  unfolding first_failed pick
  first_records r e t = rw (← is, t) e

  pub first_base : b ≡ false → BASE ≡ first_failed (first_checks f h base)
  unfolding first_failed pick
  first_base t = rw (← is, t)

pub ruleset first = (first_records, first_base)

module _ (f : List ℕ) (h : Header) (base : ℕ) (code : Code) (is : code ≡ first_failed (first_checks f h base)) (v : Unit) (z : code ≡ Ok v) where
  allowed : base_ok base ≡ true
  allowed = check_holds (base_ok base) Base (early_checks f h) (sym is ∙ z)

  seven : Early f h
  seven = early f h [] (checks_hold (base_ok base) Base (early_checks f h) (sym is ∙ z))

-- ---- the whole plan
module _ (f : List ℕ) (h : Header) (base : ℕ) (l : Lengths) (code : Code) (homes₀ codes₀ slots₀ : List ℕ) (is : code ≡ first_failed (first_checks f h base)) (head : h ≡ header_of f) where
  abbrev behind : List Check
  behind = extern_checks (length (externs f h)) ++ (target_checks (tally f h) ++ room_check (counts f h) l)

  abbrev whole : Code
  whole = first_failed (plan_checks f h base l)

  no_by : (homes codes slots : List ℕ) (r : Refusal) → whole ≡ Err r → Plans f (header_of f) base l homes codes slots (Err r)
  no_by homes codes slots r g =
      let p : Plans f h base l homes codes slots (Err r) =
      record { says = rw g (plan_refused r (counts f h) (length (externs f h))); found = λ e. let z : ◌≡◌ {A = Code} (Err r) PASSES = sym g ∙ e in absurd cc } in
      rw (← head) p

  pub plans_no : (r : Refusal) → code ≡ Err r → Blank (header_of f) homes₀ codes₀ slots₀ → Plans f (header_of f) base l homes₀ codes₀ slots₀ (Err r)
  plans_no r z blank = no_by homes₀ codes₀ slots₀ r (failed_first (first_checks f h base) (page_checks f h ++ behind) r (sym is ∙ z))

  -- 8
  whole_pages_lem : (v : Unit) → code ≡ Ok v → pages_ok f h ≡ false → whole ≡ PAGES
  unfolding first_failed pick
  whole_pages_lem v z t = rw (allowed f h base code is v z) (early_rest f h (page_checks f h ++ behind) (seven f h base code is v z) ∙ rw t)

  pub plans_large : (v : Unit) (homes : List ℕ) (b : Bool) (u : RVA) → code ≡ Ok v → b ≡ leb (pages_to u.0) MAX_PAGES → b ≡ false → u ≡ rva (undef_start f h)
      → Blank (header_of f) homes₀ codes₀ slots₀ → Plans f (header_of f) base l homes codes₀ slots₀ (Err Pages)
  plans_large v homes b u z q e start blank = no_by homes codes₀ slots₀ Pages (whole_pages_lem v z (sym (pages_are f h b u q start) ∙ e))

  -- with the words filled, the plan by them is the one by the rules, and where it is ready they say what the rules do
  module _ (ok : Ordered f h) (fits : Fits f h) (codes slots : List ℕ) (x : Result (Counts × ℕ) Refusal) (p : PlannedIn f h (home_words f h) (code_words f h) l codes slots x) where
    whole_plan : late_plan f h (home_in (home_words f h)) (target_in (home_words f h) (undef_start f h) (slotted f h (externs f h) (code_words f h))) (length (externs f h)) l
        ≡ late_plan f h (section_home f h) (targets f h) (length (externs f h)) l
    unfolding first_failed answer_of pick
    whole_plan =
        ⊎_elim (λ k. rw (targets_whole f h fits ok.numbers k, homes_whole f h fits)) (λ k. rw (lt-leb (length (externs f h)) MAX_EXTERNS k)) (le_or_lt (length (externs f h)) MAX_EXTERNS)

    whole_says : x ≡ plan_by (first_failed behind) (counts f h) (length (externs f h))
    whole_says = (rw (names_whole f h fits) at p.says) ∙ whole_plan

    whole_found : length (externs f h) ≤ MAX_EXTERNS → Found f h (home_words f h) codes slots
    whole_found few =
        let z : leb (length (externs f h)) MAX_EXTERNS ≡ true = le-leb (length (externs f h)) MAX_EXTERNS few in
        let c : codes ≡ slotted f h (externs f h) (code_words f h) = (rw (names_whole f h fits) at p.coded).few z in
        record {
          home = homes_whole f h fits;
          row = records_whole f h fits;
          target = rw c (targets_whole f h fits ok.numbers few);
          words = rw (names_whole f h fits) at p.words;
          sections = fits.sections;
          pages = fits.pages;
          names = few;
        }

    whole_yes : whole ≡ first_failed behind → Plans f h base l (home_words f h) codes slots x
    whole_yes g =
        record { says = rw g whole_says; found = λ w. whole_found (leb-true (length (externs f h)) MAX_EXTERNS (check_holds _ _ _ (sym g ∙ w))) }

  whole_is : base_ok base ≡ true → Ordered f h → whole ≡ first_failed behind
  unfolding first_failed pick
  whole_is a o = rw a (records_rest f h behind o)

  pub plans_yes : (v : Unit) (homes codes codes' slots : List ℕ) (x : Result (Counts × ℕ) Refusal) (b : Bool) (u : RVA) → code ≡ Ok v → b ≡ leb (pages_to u.0) MAX_PAGES → b ≡ true → u ≡ rva (undef_start f h) → homes ≡ splice homes₀ 0 (homes_to f h h.sections)
      → (h.sections ≤ MAX_SECTIONS → codes ≡ splice codes₀ 0 (codes_to f h h.symbols)) → PlannedIn f h homes codes l codes' slots x → Blank (header_of f) homes₀ codes₀ slots₀ → Plans f (header_of f) base l homes codes' slots x
  plans_yes v homes codes codes' slots x b u z t y start e w p blank =
      let o = with_pages f h (seven f h base code is v z) (sym (pages_are f h b u t start) ∙ y) in
      let fits = fits_is f h head o in
      let clear : Cleared h homes₀ codes₀ = rw (← head) at blank.zeros in
      let a : homes ≡ home_words f h = rw clear.no_homes at e in
      let c : codes ≡ code_words f h = rw clear.no_codes at (w fits.sections) in
      let q : Plans f h base l homes codes' slots x =
      rw a (whole_yes o fits codes' slots x (rw (a, c) at p) (whole_is (allowed f h base code is v z) o)) in
      rw (← head) q

pub ruleset planning = (plans_no, plans_large, plans_yes, pages_few)
