-- What is against a length, and what it takes.
use Rattle.std.proofs.Common.{◌≡◌, ◌≢◌, ℕ, ◌≤◌, Bool, false, List, [], ◌∷◌, None, sym, ◌∙◌}
use Rattle.std.proofs.Common.{subst, eqb, ltb, if◌then◌else◌, arith}
use Rattle.std.specs.Prelude.{is_none, nat_lt}
use Rattle.std.proofs.lemmas.Bool.{cond-true, cond-false, eq-eqb, ne_eqb}
use Rattle.std.proofs.lemmas.Bool.Decides.{nat_tests}
use Rattle.page_entry.specs.declared.refusal.Refusal.{Refusal}
use Rattle.page_entry.specs.declared.refusal.Refusal.TheVariants as refusals
use Rattle.pager.specs.State.{file_length}
use Rattle.pager.specs.Calls.{first_reason, reason_if}
use Rattle.pager.proofs.Public.{other_reason, no_call}
use Rattle.log_files.specs.State.{LogFilesState, pages_put}
use Rattle.log_files.specs.Calls.{log_restaged, new_log_length_refusal, log_length_refusal, RefusesLogLength}
use Rattle.log_files.specs.Calls.{log_length_calls, log_resized_to, after_log_length}

module _ {D : Type 0} (s : LogFilesState D) (file to : ℕ) where
  abbrev from : ℕ
  from = file_length s.lengths file

  abbrev pub IsOverfull : Bool
  IsOverfull = nat_lt s.most (pages_put s.table (log_restaged s.table s.lengths file to [] s.pager.staged))

  -- what is left once a file may have the length
  abbrev pub IsLeft : Type 0
  IsLeft = log_length_refusal s file to
      ≡ first_reason ((if eqb to from then None else new_log_length_refusal s file to) ∷ [])

  pub same_after : (last : List ℕ) (device : D) → to ≡ from → s ≡ after_log_length s file to last device
  same_after last device same =
      sym (cond-true (eqb to from) s (log_resized_to s file to last device) (eq-eqb to from same))

  pub changed_after : (last : List ℕ) (device : D) → to ≢ from
      → log_resized_to s file to last device ≡ after_log_length s file to last device
  changed_after last device other =
      sym (cond-false (eqb to from) s (log_resized_to s file to last device) (ne_eqb to from other))

  pub changed_some : (new : LogFilesState D) (device : D) → to ≢ from
      → (last : List ℕ) × (new ≡ log_resized_to s file to last device)
      → (last : List ℕ) × (new ≡ after_log_length s file to last device)
  changed_some new device other is = (is.0, is.1 ∙ changed_after is.0 device other)

  pub changed_reason : IsLeft → to ≢ from → s.pager.store.tail.spent ≡ false
      → log_length_refusal s file to ≡ first_reason (reason_if IsOverfull refusals.NoFrame ∷ [])
  changed_reason left other whole =
      left ∙ other_reason (eqb to from) s.pager.store.tail.spent IsOverfull (ne_eqb to from other) whole

  pub no_calls : to ≤ from → log_length_calls s file to ≡ 0
  no_calls le = no_call (is_none (log_length_refusal s file to)) (ltb from to) _ _
      (let test : ltb from to ≡ false = grind (arith, nat_tests, le) in test)

  pub refuses_memory : log_length_refusal s file to ≡ None → to ≢ from → (why : Refusal)
      → why ≡ refusals.OutOfMemory → RefusesLogLength s file to why
  refuses_memory free other why is = subst (RefusesLogLength s file to) (sym is) (free, ne_eqb to from other)
