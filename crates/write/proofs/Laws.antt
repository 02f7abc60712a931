-- The ways through the writers, as the code asks them.
use Rattle.refusal.specs.declared.Refusal.{Refusal}
use Rattle.refusal.specs.declared.Refusal.TheVariants.{NotMapped}
use Rattle.std.specs.Prelude.{◌≡◌, refl, Bool, true, false, List, ℕ, ◌<◌, ◌≤◌, length, Option, Some, None, Result, Err, ok_or, IfOk, IfErr, OnOk}
use Rattle.std.proofs.Common.{le-leb}
use Rattle.std.proofs.lemmas.Bool.{lt-leb}
use Rattle.util.specs.Pick.{pick}
use Rattle.arch.specs.declared.RVA.{RVA}
use Rattle.arch.specs.Address.{rva}
use Rattle.refusal.specs.Refusal.{PASSES, STORAGE, TOO_LONG}
use Rattle.pagemap.specs.Pages.{storage_ok}
use Rattle.aspace.specs.Places.{span_there}
use Rattle.write.specs.Write.{MAX_WRITE, write_code_there}

module _ (r : Bool) (size : ℕ) (marks : List ℕ) (o n : ℕ) (ok : Bool) (is : ok ≡ storage_ok size (length marks)) where
  pub write_bad : ok ≡ false → write_code_there r size marks o n ≡ STORAGE
  unfolding write_code_there pick
  write_bad e = rw (← is, e)

  pub write_long : ok ≡ true → MAX_WRITE < n → write_code_there r size marks o n ≡ TOO_LONG
  unfolding write_code_there pick
  write_long e h = rw (← is, e, lt-leb n MAX_WRITE h)

  module _ (x : Option RVA) (y : Result RVA Refusal) (yes : ok ≡ true) (few : n ≤ MAX_WRITE) (e : x ≡ pick (span_there r size marks o n) (Some (rva o)) None) (q : y ≡ ok_or x NotMapped) where
    there_by : (t : Bool) → span_there r size marks o n ≡ t → OnOk (ok_or (pick t (Some (rva o)) None) NotMapped) (write_code_there r size marks o n ≡ PASSES)
    unfolding write_code_there pick
    there_by true h = rw (← is, yes, le-leb n MAX_WRITE few, h)
    there_by false h = tt

    pub write_there : OnOk y (write_code_there r size marks o n ≡ PASSES)
    write_there = rw (q, e) (there_by (span_there r size marks o n) refl)

    nowhere_by : (t : Bool) → span_there r size marks o n ≡ t → IfErr (ok_or (pick t (Some (rva o)) None) NotMapped) (λ k. write_code_there r size marks o n ≡ Err k)
    unfolding write_code_there pick
    nowhere_by true h = tt
    nowhere_by false h = rw (← is, yes, le-leb n MAX_WRITE few, h)

    pub write_nowhere : IfErr y (λ k. write_code_there r size marks o n ≡ Err k)
    write_nowhere = rw (q, e) (nowhere_by (span_there r size marks o n) refl)

at_by : (o : ℕ) (t : Bool) → IfOk (ok_or (pick t (Some (rva o)) None) NotMapped) (λ p. p.0 ≡ o)
unfolding pick
at_by o true = refl
at_by o false = tt

pub write_at : (t : Bool) (o : ℕ) (x : Option RVA) (y : Result RVA Refusal) → y ≡ ok_or x NotMapped → x ≡ pick t (Some (rva o)) None → IfOk y (λ p. p.0 ≡ o)
write_at t o x y q e = rw (q, e) (at_by o t)

pub ruleset codes = (write_bad, write_long, write_there, write_nowhere)
