-- What acceptance gives: of every file that survey accepts, as the small object is (`demands: Table`).
use Rattle.refusal.specs.declared.Refusal.{Refusal}
use Rattle.refusal.specs.Refusal.{PASSES}
use Rattle.std.specs.Prelude.{◌≡◌, refl, false, not, List, ◌++◌, ◌⊎◌, ℕ, ◌+◌, ◌*◌, ◌/◌, ◌≤◌, ◌<◌, ◌^◌, ltb, length, get_or, Some, Result, Ok, Err}
use Rattle.std.proofs.Math.Bool.{true}
use Rattle.std.proofs.Common.{inl, inr, ⊎_elim, arith}
use borrow.Author.Tests.{leb-true, not-false, ltb-true, lt-leb, eqb-true}
use Rattle.util.specs.Pick.{pick, and_left, and_right}
use Rattle.object.specs.declared.Header.{Header}
use Rattle.object.specs.Format.{header_of}
use Rattle.object.specs.Section.{loaded, relocation_count}
use Rattle.object.specs.Symbol.{primary, is_symbol}
use Rattle.object.specs.Relocation.{relocation_symbol, relocation_type}
use Rattle.names.specs.Name.{symbol_text}
use Rattle.layout.specs.Layout.{undef_start, mapped_pages}
use Rattle.homes.specs.Home.{section_home}
use Rattle.homes.specs.HomeLaws.{loaded_home, section_most}
use Rattle.limits.specs.Limits.{MAX_PAGES, MAX_EXTERNS, SLOT_SIZE}
use Rattle.arch.specs.Address.{rva}
use Rattle.arch.specs.Page.{PAGE_SIZE}
use Rattle.rules.specs.declared.Rule.TheVariants as rules
use Rattle.codes.specs.Code.{symbol_rule}
use Rattle.codes.specs.Puts.{puts_by, puts}
use Rattle.externs.specs.Externs.{externs}
use Rattle.externs.specs.Slot.{slot_of}
use Rattle.externs.specs.SlotLaws.{Slot, slot_inside}
use Rattle.externs.specs.ExternLaws.{externs_slot}
use Rattle.fixups.specs.declared.Fix.{Fix}
use Rattle.targets.specs.declared.Skip.{Skip}
use Rattle.targets.specs.declared.Target.TheVariants as target
use Rattle.fixups.specs.declared.Outcome.{Outcome}
use Rattle.fixups.specs.declared.Outcome.TheVariants.{Passed, Skipped, Refused, Fixup}
use Rattle.targets.specs.Target.{slot_target, rule_target, target_of, targets}
use Rattle.fixups.specs.Tally.{is_passed, is_refused, is_mapped, is_outside, how_many, tally_of}
use Rattle.fixups.specs.Lists.{fix_list, skip_list}
use Rattle.fixups.specs.ListLaws.{Stands, fixup_listed, skip_listed, every_fixup}
use Rattle.fixups.specs.TallyLaws.{all_counted, fixups_counted, skips_counted, none_anywhere}
use Rattle.fixups.specs.OutcomeLaws.{fix_from, homed_not_passed}
use Rattle.survey.specs.declared.answer.Counts.{Counts}
use Rattle.survey.specs.Survey.{first_failed, extern_checks, target_checks, outcomes, tally, counts_by, counts, checks, survey_of}
use Rattle.survey.specs.SurveyLaws.{check_holds, checks_hold, Ordered, ordered, ordered_rest, tells_accepted}
use Rattle.arch.specs.Machine.{arch_of, arch_by}
use Rattle.layout.proofs.LayoutLaws.{undef_fits}
use Rattle.fixups.specs.TargetLaws.{target_near}
use Rattle.fixups.specs.ValueLaws.{Exact, type_addend}

-- ---- all checks pass, and the counts are the definition's
module _ (f : List ℕ) (c : Counts) (accepted : survey_of f ≡ Ok c) where
  abbrev header : Header
  header = header_of f

  no_failure : first_failed (checks f header) ≡ PASSES
  no_failure = (tells_accepted (first_failed (checks f header)) (counts f header) c accepted).0

  pub counts_are : counts f header ≡ c
  counts_are = (tells_accepted (first_failed (checks f header)) (counts f header) c accepted).1

  -- 1 to 8 do not apply
  pub records_ordered : Ordered f header
  records_ordered = ordered f header (extern_checks (length (externs f header)) ++ target_checks (tally f header)) no_failure

  rest : first_failed (extern_checks (length (externs f header)) ++ target_checks (tally f header)) ≡ PASSES
  rest = ordered_rest f header (extern_checks (length (externs f header)) ++ target_checks (tally f header)) no_failure

  -- no more than 1,024 names
  pub names_few : length (externs f header) ≤ MAX_EXTERNS
  names_few = leb-true (length (externs f header)) MAX_EXTERNS (check_holds _ _ _ rest)

  -- no more than 4,096 pages
  pub pages_few : mapped_pages f header ≤ MAX_PAGES
  pages_few = leb-true (mapped_pages f header) MAX_PAGES records_ordered.pages

  -- ---- the relocations
  abbrev o : ℕ → ℕ → Outcome
  o = outcomes f header

  abbrev count : ℕ → ℕ
  count = relocation_count f header

  none_refused_all : how_many is_refused o count header.sections ≡ 0
  unfolding tally_of
  none_refused_all = eqb-true (how_many is_refused o count header.sections) 0 (check_holds _ _ _ (checks_hold _ _ _ rest))

  none_outside_all : how_many (is_outside (mapped_pages f header)) o count header.sections ≡ 0
  unfolding tally_of
  none_outside_all = eqb-true (how_many (is_outside (mapped_pages f header)) o count header.sections) 0 (check_holds _ _ _ (checks_hold _ _ _ (checks_hold _ _ _ rest)))

  -- none is refused, so each is passed, skipped or a fixup, and the three counts are the file's relocations
  pub none_refused : (i k : ℕ) → i < header.sections → k < count i → is_refused (o i k) ≡ false
  none_refused i k a b = none_anywhere is_refused o count header.sections i k none_refused_all a b

  pub counts_add_up : c.passed + c.skips + c.fixups ≡ c.relocations
  unfolding counts_by tally_of
  counts_add_up = rw (← counts_are) (let e = all_counted o count header.sections in let z = none_refused_all in omega arith)

  -- the counts are the lengths of the lists
  pub fixups_listed : length (fix_list o count header.sections) ≡ c.fixups
  unfolding counts_by tally_of
  fixups_listed = rw (← counts_are) (fixups_counted o count header.sections)

  pub skips_listed : length (skip_list o count header.sections) ≡ c.skips
  unfolding counts_by tally_of
  skips_listed = rw (← counts_are) (skips_counted o count header.sections)

  -- ---- the request's rule: whatever relocation of a loaded section is passed over is listed by section, record and reason, so that the host may stop there
  -- a loaded section has a home, so none of its relocations is passed
  pub loaded_not_passed : (i k : ℕ) → i < header.sections → loaded f header i ≡ true → is_passed (o i k) ≡ false
  loaded_not_passed i k a t =
      homed_not_passed _ f header (section_home f header) (targets f header) i k _ (loaded_home f header i a t)

  -- so each is a fixup of the fix list
  pub record IsFixed (i k : ℕ) : Type 0 where
    pub fix : Fix
    pub is : o i k ≡ Fixup fix
    pub listed : Stands fix (fix_list o count header.sections)

  -- or it is skipped and stands in the skip list, with its section from 1, its record from 0 and the reason
  pub record IsSkipped (i k : ℕ) : Type 0 where
    pub reason : Skip
    pub is : o i k ≡ Skipped reason
    pub listed : Stands (record { section = i + 1; index = k; reason = reason }) (skip_list o count header.sections)

  either_way : (i k : ℕ) → i < header.sections → k < count i → (x : Outcome) → o i k ≡ x → is_passed x ≡ false → is_refused x ≡ false
      → IsFixed i k ⊎ IsSkipped i k
  either_way i k a b Passed e p q = absurd (let w : ◌≡◌ {A = ℕ} 0 1 = cc in omega arith)
  either_way i k a b (Skipped r) e p q = inr (record { reason = r; is = e; listed = skip_listed o count header.sections i k a b r e })
  either_way i k a b Refused e p q = absurd (let w : ◌≡◌ {A = ℕ} 0 1 = cc in omega arith)
  either_way i k a b (Fixup x) e p q = inl (record { fix = x; is = e; listed = fixup_listed o count header.sections i k a b x e })

  pub loaded_listed : (i k : ℕ) → i < header.sections → k < count i → loaded f header i ≡ true → IsFixed i k ⊎ IsSkipped i k
  loaded_listed i k a b t = either_way i k a b (o i k) refl (loaded_not_passed i k a t) (none_refused i k a b)

  -- a host that stops where the count of skips is not 0 lets by only files whose loaded sections have all their relocations in the fix list
  pub no_skips_all_fixed : c.skips ≡ 0 → (i k : ℕ) → i < header.sections → k < count i → loaded f header i ≡ true → IsFixed i k
  no_skips_all_fixed z i k a b t =
      ⊎_elim (λ x. x) (λ s. absurd (let l = s.listed.inside in let n = skips_listed in omega arith)) (loaded_listed i k a b t)

  -- every byte of a fixup lies in mapped pages, and its place is an offset below 2^24
  pub fixups_mapped : (i k : ℕ) (x : Fix) → i < header.sections → k < count i → o i k ≡ Fixup x → x.place.0 + x.bits / 8 ≤ PAGE_SIZE * mapped_pages f header
  fixups_mapped i k x a b e =
      let z : is_outside (mapped_pages f header) (o i k) ≡ false = none_anywhere (is_outside (mapped_pages f header)) o count header.sections i k none_outside_all a b in
      let w : not (is_mapped (mapped_pages f header) x) ≡ false = rw e at z in
      leb-true (x.place.0 + x.bits / 8) (PAGE_SIZE * mapped_pages f header) (not-false (is_mapped (mapped_pages f header) x) w)

  pub places_fit : (i k : ℕ) (x : Fix) → i < header.sections → k < count i → o i k ≡ Fixup x → x.place.0 < 2 ^ 24
  places_fit i k x a b e =
      let m = fixups_mapped i k x a b e in
      let p = pages_few in
      let r = fix_from _ f header (section_home f header) (targets f header) i k x e in
      ⊎_elim (λ n. let z : x.bits / 8 ≡ 4 = rw n in omega arith) (λ n. let z : x.bits / 8 ≡ 8 = rw n in omega arith) r.resolved.bits

  -- ---- slots
  -- each has its four bytes below 2^24
  pub slots_fit : (e : ℕ) → e < length (externs f header) → undef_start f header + SLOT_SIZE * e + SLOT_SIZE ≤ 2 ^ 24
  slots_fit e k = let n = names_few in let p = pages_few in omega arith

  -- a relocation that puts its symbol's name has its slot
  pub record SlotAt (name : List ℕ) : Type 0 where
    pub index : ℕ
    pub inside : index < length (externs f header)
    pub found : slot_of f header (externs f header) name ≡ Some index

  pub puts_a_slot : (i k : ℕ) → i < header.sections → k < count i → puts f header (relocation_symbol f header i k) ≡ true → SlotAt (symbol_text f header (relocation_symbol f header i k))
  puts_a_slot i k a b t =
      let s = externs_slot f header (puts f header) i k a b t in
      record { index = s.index; inside = s.inside; found = s.found }

  -- a symbol that goes among the externs by its kind and place always has its slot for a target: data and text that are undefined, common or of
  -- unknown place, and common symbols of unknown kind
  pub record SlotTarget (j : ℕ) : Type 0 where
    pub index : ℕ
    pub inside : index < length (externs f header)
    pub is : targets f header j ≡ target.Slot (rva (undef_start f header + SLOT_SIZE * index))

  puts_extern : (j : ℕ) → is_symbol f header j ≡ true → symbol_rule f header j ≡ rules.Extern → puts f header j ≡ true
  unfolding puts puts_by
  puts_extern j own e = rw (own, e)

  extern_target : (j e : ℕ) → is_symbol f header j ≡ true → symbol_rule f header j ≡ rules.Extern → slot_of f header (externs f header) (symbol_text f header j) ≡ Some e
      → targets f header j ≡ target.Slot (rva (undef_start f header + SLOT_SIZE * e))
  unfolding target_of rule_target slot_target is_symbol pick
  extern_target j e own r q =
      let l = ltb-true j header.symbols (and_left (ltb j header.symbols) (primary f header j) own) in
      let p : primary f header j ≡ true = and_right (ltb j header.symbols) (primary f header j) own in
      rw (lt-leb header.symbols j l, p, r, q)

  pub extern_has_slot : (i k : ℕ) → i < header.sections → k < count i → is_symbol f header (relocation_symbol f header i k) ≡ true
      → symbol_rule f header (relocation_symbol f header i k) ≡ rules.Extern → SlotTarget (relocation_symbol f header i k)
  extern_has_slot i k a b own e =
      let s = puts_a_slot i k a b (puts_extern (relocation_symbol f header i k) own e) in
      record { index = s.index; inside = s.inside; is = extern_target (relocation_symbol f header i k) s.index own e s.found }

  -- no slot is past UNDEF's page
  slots_few : (name : List ℕ) (e : ℕ) → slot_of f header (externs f header) name ≡ Some e → e < MAX_EXTERNS
  slots_few name e q = let i = slot_inside f header name (externs f header) e q in let m = names_few in omega arith

  -- ---- every fixup of the fix list: its value is exact at every base that load takes, and its bytes are mapped
  -- each fixup that a relocation comes to
  pub fixup_exact : (i k : ℕ) (x : Fix) → i < header.sections → k < count i → o i k ≡ Fixup x → Exact x
  fixup_exact i k x a b e =
      let r = fix_from (arch_by (arch_of header.machine)) f header (section_home f header) (targets f header) i k x e in
      let t = target_near f header (section_home f header) (slot_of f header (externs f header)) (section_most f header) slots_few (relocation_symbol f header i k) x.target r.resolved.reaches in
      let u = undef_fits f header pages_few in
      record {
        bits = r.resolved.bits;
        place = places_fit i k x a b e;
        target = omega arith;
        addend = rw r.resolved.is (type_addend (arch_by (arch_of header.machine)) (relocation_type f header i k));
      }

  -- ---- of the whole list, by position
  pub fixups_exact : (j : ℕ) (d : Fix) → j < length (fix_list o count header.sections) → Exact (get_or (fix_list o count header.sections) j d)
  fixups_exact = every_fixup Exact o count header.sections fixup_exact

  pub fixups_inside : (j : ℕ) (d : Fix) → j < length (fix_list o count header.sections)
      → (get_or (fix_list o count header.sections) j d).place.0 + (get_or (fix_list o count header.sections) j d).bits / 8 ≤ PAGE_SIZE * mapped_pages f header
  fixups_inside = every_fixup (λ x. x.place.0 + x.bits / 8 ≤ PAGE_SIZE * mapped_pages f header) o count header.sections fixups_mapped
