-- The targets by the codes that are kept of the symbols (crates `codes` and `externs`): each is what its symbol comes to (`target_kept`).
use Rattle.arch.specs.declared.RVA.{RVA}
use Rattle.std.specs.Prelude.{◌≡◌, Bool, List, ℕ, ◌+◌, ◌-◌, ◌*◌, ◌%◌, ◌≤◌, ◌<◌, eqb, leb, ltb, None, Option, Some}
use Rattle.std.proofs.Math.Path.{refl, ap}
use Rattle.std.proofs.Common.{◌∙◌}
use Rattle.std.proofs.Math.Bool.{true, false}
use Rattle.std.proofs.Math.Logic.{⊎_elim}
use native.Mathlib.Omega.{arith}
use Rattle.std.proofs.Math.ListN.{length, get_or}
use borrow.Author.Tests.{ne_eqb, lt-ltb, le-ltb, lt-leb, le-leb}
use Rattle.util.specs.Pick.{pick, le_or_lt, and_left}
use Rattle.util.specs.Prefix.{length_list, list_at}
use Rattle.le.specs.Le.{splice_above, front_at}
use Rattle.limits.specs.Limits.{SLOT_SIZE}
use Rattle.arch.specs.Address.{rva}
use Rattle.object.specs.declared.Header.{Header}
use Rattle.object.specs.Section.{loaded}
use Rattle.object.specs.Symbol.{primary}
use Rattle.names.specs.Bytes.{are_same_bytes, UNDEF}
use Rattle.names.specs.Name.{symbol_text}
use Rattle.rules.specs.declared.Rule.{Rule}
use Rattle.rules.specs.declared.Rule.TheVariants as rules
use Rattle.codes.specs.Code.{AUXILIARY, REFUSED, SLOT, EXTERN, UNDEF_RECORD, UNDEF_EXTERN, NO_SLOT, SPAN, HOMES, RECORDS, SLOTS, symbol_rule, named_code, rule_code, symbol_code, code_of}
use Rattle.codes.specs.Puts.{CodesKept}
use Rattle.layout.specs.Layout.{undef_start}
use Rattle.ranks.specs.Named.{TableRecord, Loaded, Undef, Nowhere, section_is_named, some_section_named, loaded_named, named_record}
use Rattle.ranks.specs.FirstLaws.{found_at}
use Rattle.homes.specs.Home.{section_home, record_start, by_number, start_of, home_in}
use Rattle.homes.specs.HomeLaws.{loaded_start}
use Rattle.externs.specs.Slot.{slot_of}
use Rattle.externs.specs.SlotLaws.{slot_inside}
use Rattle.externs.specs.Slotted.{found_code, takes_slot, settled, slotted_code, slotted_at, slotted_to, slotted}
use Rattle.targets.specs.declared.Skip.TheVariants.{NoSymbol, NoSlot}
use Rattle.targets.specs.declared.Target.{Target}
use Rattle.targets.specs.declared.Target.TheVariants.{Home, Named, Slot, Missing, Refused}
use Rattle.targets.specs.Target.{home_target, slot_target, named_target, rule_target, target_of}

-- a code that stands for one thing
unfoldable pub plain_target : ℕ → ℕ → Target
plain_target undef c =
    pick (eqb c 0) (Missing NoSymbol) (pick (leb c REFUSED) Refused (pick (eqb c UNDEF_RECORD) (Named (rva undef)) (Missing NoSlot)))

-- any code: `home` says where a section's home starts
unfoldable pub code_target : (ℕ → Option RVA) → ℕ → ℕ → Target
code_target home undef c =
    pick (ltb c HOMES) (plain_target undef c)
    (pick (ltb c RECORDS) (home_target (by_number home None (c - HOMES)))
    (pick (ltb c SLOTS) (Named (rva (start_of (home (c - RECORDS))))) (Slot (rva (undef + SLOT_SIZE * (c - SLOTS))))))

-- symbol j's, by the words that are kept
abbrev pub target_in : List ℕ → ℕ → List ℕ → ℕ → Target
target_in homes undef codes j = code_target (home_in homes) undef (get_or codes j 0)

-- ---- each code says what was coded
module _ (home : ℕ → Option RVA) (undef : ℕ) where
  of_home : (n : ℕ) → n < SPAN → code_target home undef (HOMES + n % SPAN) ≡ home_target (by_number home None n)
  unfolding code_target pick
  of_home n k =
      let m : n % SPAN ≡ n = omega arith in
      let d : HOMES + n - HOMES ≡ n = omega arith in
      rw (m, le-ltb (HOMES + n) HOMES (omega arith), lt-ltb (HOMES + n) RECORDS (omega arith), d)

  of_record : (i : ℕ) → i < SPAN → code_target home undef (RECORDS + i % SPAN) ≡ Named (rva (start_of (home i)))
  unfolding code_target pick
  of_record i k =
      let m : i % SPAN ≡ i = omega arith in
      let d : RECORDS + i - RECORDS ≡ i = omega arith in
      rw (m, le-ltb (RECORDS + i) HOMES (omega arith), le-ltb (RECORDS + i) RECORDS (omega arith), lt-ltb (RECORDS + i) SLOTS (omega arith), d)

  of_slot : (e : ℕ) → e < SPAN → code_target home undef (SLOTS + e % SPAN) ≡ Slot (rva (undef + SLOT_SIZE * e))
  unfolding code_target pick
  of_slot e k =
      let m : e % SPAN ≡ e = omega arith in
      let d : SLOTS + e - SLOTS ≡ e = omega arith in
      rw (m, le-ltb (SLOTS + e) HOMES (omega arith), le-ltb (SLOTS + e) RECORDS (omega arith), le-ltb (SLOTS + e) SLOTS (omega arith), d)

  -- those that stand for one thing
  of_none : code_target home undef NO_SLOT ≡ Missing NoSlot
  unfolding code_target plain_target pick
  of_none = refl

  of_undef : code_target home undef UNDEF_RECORD ≡ Named (rva undef)
  unfolding code_target plain_target pick
  of_undef = refl

  of_refused : code_target home undef REFUSED ≡ Refused
  unfolding code_target plain_target pick
  of_refused = refl

  of_auxiliary : code_target home undef AUXILIARY ≡ Refused
  unfolding code_target plain_target pick
  of_auxiliary = refl

  of_nothing : code_target home undef 0 ≡ Missing NoSymbol
  unfolding code_target plain_target pick
  of_nothing = refl

  -- where the slot is taken
  of_found : (x : Option ℕ) → ((e : ℕ) → x ≡ Some e → e < SPAN) → code_target home undef (found_code x) ≡ slot_target undef x
  unfolding found_code slot_target
  of_found (Some e) few = of_slot e (few e refl)
  of_found None few = of_none

high_left : (c : ℕ) (x : Option ℕ) → HOMES ≤ c → slotted_code c x ≡ c
unfolding slotted_code settled pick
high_left c x k = rw (ne_eqb c SLOT (λ e. omega arith), ne_eqb c EXTERN (λ e. omega arith), ne_eqb c UNDEF_EXTERN (λ e. omega arith))

-- ---- of a symbol's own record, and of any
module _ (f : List ℕ) (h : Header) (slot : List ℕ → Option ℕ) (j : ℕ) (few : (e : ℕ) → slot (symbol_text f h j) ≡ Some e → e < SPAN) where
  abbrev decoded : ℕ → Target
  decoded c = code_target (section_home f h) (undef_start f h) (slotted_code c (slot (symbol_text f h j)))

  abbrev slot_at : Target
  slot_at = slot_target (undef_start f h) (slot (symbol_text f h j))

  -- where it takes the slot of its name, and where not
  taken : (c : ℕ) → takes_slot c ≡ true → decoded c ≡ slot_at
  unfolding slotted_code pick
  taken c t = rw t (of_found (section_home f h) (undef_start f h) (slot (symbol_text f h j)) few)

  left : (c d : ℕ) → slotted_code c (slot (symbol_text f h j)) ≡ d → decoded c ≡ code_target (section_home f h) (undef_start f h) d
  left c d t = rw t

  -- a section that is found by name is one of the file's, and loaded
  record LoadedNamed (i : ℕ) : Type 0 where
    pub inside : i < h.sections
    pub loads : loaded f h i ≡ true

  module _ (small : h.sections ≤ SPAN) where
    by_name : (x : TableRecord) (b : Bool) → ((i : ℕ) → x ≡ Loaded i → LoadedNamed i) → decoded (named_code x b) ≡ named_target (record_start f h x) slot_at
    unfolding named_code named_target record_start slotted_code settled pick
    by_name (Loaded i) b within =
        let w = within i refl in
        let k : i < h.sections = w.inside in
        left (RECORDS + i % SPAN) (RECORDS + i % SPAN) (high_left (RECORDS + i % SPAN) (slot (symbol_text f h j)) (omega arith)) ∙ of_record (section_home f h) (undef_start f h) i (omega arith) ∙ ap (λ (s : ℕ). Named (rva s)) (loaded_start f h i k w.loads)
    by_name Undef true within = left UNDEF_RECORD UNDEF_RECORD refl ∙ of_undef (section_home f h) (undef_start f h)
    by_name Undef false within = left UNDEF_EXTERN UNDEF_RECORD refl ∙ of_undef (section_home f h) (undef_start f h)
    by_name Nowhere true within = taken SLOT refl
    by_name Nowhere false within = taken EXTERN refl

    named_within : (name : List ℕ) (i : ℕ) → named_record f h name ≡ Loaded i → LoadedNamed i
    unfolding loaded_named
    named_within name i e =
        let r = found_at (loaded_named f h name) (are_same_bytes name UNDEF) h.sections i e in
        record { inside = r.inside; loads = and_left (loaded f h i) (section_is_named f h name i) r.passes }

    by_rule_lem : (r : Rule) → ((n : ℕ) → r ≡ rules.Section n → n < SPAN)
        → decoded (rule_code r (named_code (named_record f h (symbol_text f h j)) (some_section_named f h (symbol_text f h j)))) ≡ rule_target f h (section_home f h) (undef_start f h) slot r j
    unfolding rule_code rule_target slotted_code settled pick
    by_rule_lem (rules.Section n) low =
        left (HOMES + n % SPAN) (HOMES + n % SPAN) (high_left (HOMES + n % SPAN) (slot (symbol_text f h j)) (omega arith)) ∙ of_home (section_home f h) (undef_start f h) n (low n refl)
    by_rule_lem rules.Extern low = taken EXTERN refl
    by_rule_lem rules.Slot low = taken SLOT refl
    by_rule_lem rules.Name low =
        by_name (named_record f h (symbol_text f h j)) (some_section_named f h (symbol_text f h j)) (named_within (symbol_text f h j))
    by_rule_lem rules.Refused low = left REFUSED REFUSED refl ∙ of_refused (section_home f h) (undef_start f h)

    by_record : (b : Bool) → ((n : ℕ) → b ≡ true → symbol_rule f h j ≡ rules.Section n → n < SPAN)
        → decoded (pick b (symbol_code f h j) AUXILIARY) ≡ pick b (rule_target f h (section_home f h) (undef_start f h) slot (symbol_rule f h j) j) Refused
    unfolding slotted_code settled pick
    by_record true low = by_rule_lem (symbol_rule f h j) (λ n e. low n refl e)
    by_record false low = left AUXILIARY AUXILIARY refl ∙ of_auxiliary (section_home f h) (undef_start f h)

-- what the file has to be: section numbers and sections that the codes have room for
pub record Coded (f : List ℕ) (h : Header) : Type 0 where
  pub sections : h.sections ≤ SPAN
  pub numbers : (j n : ℕ) → j < h.symbols → primary f h j ≡ true → symbol_rule f h j ≡ rules.Section n → n < SPAN

module _ (f : List ℕ) (h : Header) (ys codes : List ℕ) (fits : Coded f h) (kept : CodesKept f h codes) (names : length ys ≤ SPAN) where
  code_is : (j : ℕ) → j < h.symbols → get_or (slotted f h ys codes) j 0 ≡ slotted_code (code_of f h j) (slot_of f h ys (symbol_text f h j))
  unfolding slotted_at pick
  code_is j k =
      let l : length (slotted_to f h ys codes h.symbols) ≡ h.symbols = length_list (slotted_at f h ys codes) h.symbols in
      let o = kept.long in
      let c : get_or codes j 0 ≡ code_of f h j = rw (lt-ltb j h.symbols k) at (kept.each j) in
      front_at codes (slotted_to f h ys codes h.symbols) j (omega arith) (omega arith)
      ∙ list_at (slotted_at f h ys codes) 0 h.symbols j k
      ∙ ap (λ (x : ℕ). slotted_code x (slot_of f h ys (symbol_text f h j))) c

  code_past : (j : ℕ) → h.symbols ≤ j → get_or (slotted f h ys codes) j 0 ≡ 0
  unfolding pick
  code_past j k =
      let l : length (slotted_to f h ys codes h.symbols) ≡ h.symbols = length_list (slotted_at f h ys codes) h.symbols in
      splice_above codes 0 (slotted_to f h ys codes h.symbols) j (omega arith) ∙ rw (le-ltb j h.symbols k) at (kept.each j)

  -- so the codes say what each number comes to
  pub target_kept : (j : ℕ) → code_target (section_home f h) (undef_start f h) (get_or (slotted f h ys codes) j 0) ≡ target_of f h (section_home f h) (undef_start f h) (slot_of f h ys) j
  unfolding target_of pick
  target_kept j =
      ⊎_elim (λ k. rw (code_past j k, le-leb h.symbols j k) (of_nothing (section_home f h) (undef_start f h)))
      (λ k. rw (code_is j k, lt-leb h.symbols j k)
      (by_record f h (slot_of f h ys) j (λ e q. let i = slot_inside f h (symbol_text f h j) ys e q in omega arith) fits.sections (primary f h j)
      (λ n b e. fits.numbers j n k b e)))
      (le_or_lt h.symbols j)
