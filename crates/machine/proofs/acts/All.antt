-- What each act does, by its rule: the one place where acts are told apart.
use Rattle.machine.proofs.Names.{ℕ, ◌≡◌, Bool, true, false, cond, List, [], ◌∷◌, ◌++◌, length, Option, Some, None}
use Rattle.machine.proofs.Names.{Result, Ok, Err, refl, ap, Refusal, range_of_bytes, mapped_pages_of}
use Rattle.machine.proofs.Names.{is_user_space, judged_protection-ok, is_stalled, is_idle, Act, Reply, Step, State}
use Rattle.machine.proofs.Names.{Acts, Rules, Observed, Pending, Unmapping, Protecting, changed, mapped_in, begun_by}
use Rattle.machine.proofs.Names.{begun_unmap, begun_protect, IsSound, Silent, Storing, Ending, Leaving, Performed}
use Rattle.machine.proofs.Names.{Moved, Marked, Failed, Destroy, Store, FlushMade, HasStepped, reply_to, sym, subst}
use Rattle.page_entry.specs.declared.refusal.Refusal.TheVariants as refusals
use Rattle.machine.specs.declared.act.Act.TheVariants as acts
use Rattle.machine.specs.declared.act.Reply.TheVariants as replies
use Rattle.journal.specs.declared.flushed.Flushed.{Flushed as Answer}
use Rattle.journal.specs.declared.flushed.Flushed.TheVariants as flushed
use Rattle.machine.specs.inside.Moves.{Flushed, Resized}
use Rattle.machine.proofs.Names.{Resizing}
use Rattle.machine.proofs.sound.Admitted.{wait_admitted}
use Rattle.machine.proofs.moves.Silent.{no_moves, moved, moved_all, silently}
use Rattle.machine.proofs.acts.Accesses.{same_moves, fault_moves, load_moves, fill_moves, evict_moves}
use Rattle.machine.proofs.acts.Processors.{switch_moves, ack_moves, idle_moves, resume_moves}
use Rattle.machine.proofs.acts.Spaces.{create_moves, map_moves}
use Rattle.machine.proofs.acts.Begun.{unmap_moves, protect_moves, reclaim_moves, set_length_moves, msync_moves}
use Rattle.machine.proofs.acts.Changes.{unmapped_moves, protected_moves, reclaimed_moves, kept_moves}
use Rattle.machine.proofs.acts.Faults.{fix_moves}

-- what was judged fit
judged_so : {X : Type 0} (b : Bool) (r : Result X Refusal) (x : X) → cond b r (Err refusals.Einval) ≡ Ok x → r ≡ Ok x
judged_so true r x is = is
judged_so false r x is = absurd (cc)

-- the change that was begun takes effect on places alone
changed_history : (observed : Observed) (pending : Option Pending)
    → (changed observed pending).history ≡ observed.history
changed_history observed None = refl
changed_history observed (Some (Unmapping space range)) = refl
changed_history observed (Some (Protecting space range rights)) = refl
changed_history observed (Some (Resizing file to)) = refl

module _ (s : State) (disk : List ℕ) (p : ℕ) (new : State) (disk' : List ℕ) (sound : IsSound s) where
  stepped : (answer : Answer) → FlushMade s disk p answer new disk' → HasStepped s disk p (reply_to answer) new disk'
  stepped answer made = record {
    answered = ap reply_to (sym made.answered);
    made = subst (λ (a : Answer). FlushMade s disk p a new disk') (sym made.answered) made;
  }

  pub performed_act : (act : Act) (reply : Reply) → Acts s disk p act reply new disk'
      → Performed s disk p act reply new disk'
  performed_act (acts.Load va count) (replies.Bytes bytes) rule =
      silently (load_moves s p sound va count bytes rule.0.0 rule.0.1 rule.0.2) (λ observed. refl) refl rule.1
  performed_act (acts.Load va count) (replies.Refused (refusals.Fault code)) rule =
      silently (fault_moves s p sound va count false code rule.0.0 rule.0.1 rule.0.2) (λ observed. refl) refl rule.1
  performed_act (acts.Load va count) (replies.Refused why) rule =
      silently (same_moves s p sound rule.0.0 rule.0.1.1 rule.0.2) (λ observed. refl) refl rule.1
  performed_act (acts.Store va bytes) replies.Stored rule = Moved (record {
    effect = Storing p va bytes ∷ [];
    moves = (
      new,
      Store (record {
        p = p;
        va = va;
        bytes = bytes;
        hardware = rule.0.0;
        made = rule.0.1;
        effect_is = refl;
        done = rule.0.2;
      }),
      refl,
    );
    observes = λ observed. refl;
    no_work = refl;
    same_disk = rule.1;
  })
  performed_act (acts.Store va bytes) (replies.Refused (refusals.Fault code)) rule =
      silently (fault_moves s p sound va (length bytes) true code rule.0.0 rule.0.1 rule.0.2)
      (λ observed. refl) refl rule.1
  performed_act (acts.Store va bytes) (replies.Refused why) rule =
      silently (same_moves s p sound rule.0.0 rule.0.1.1 rule.0.2) (λ observed. refl) refl rule.1
  performed_act (acts.Fill page) replies.Filled rule =
      silently (fill_moves s p sound page true rule.0.0 rule.0.1.0 rule.0.1.1 rule.0.2) (λ observed. refl) refl rule.1
  performed_act (acts.Fill page) replies.Nothing rule =
      silently (fill_moves s p sound page false rule.0.0 rule.0.1.0 rule.0.1.1 rule.0.2) (λ observed. refl) refl rule.1
  performed_act (acts.Fill page) (replies.Refused why) rule =
      silently (same_moves s p sound rule.0.0 rule.0.1.2 rule.0.2) (λ observed. refl) refl rule.1
  performed_act (acts.Evict slot) replies.Evicted rule =
      silently (evict_moves s p sound slot rule.0.0 rule.0.1.0 rule.0.1.2 rule.0.2) (λ observed. refl) refl rule.1
  performed_act (acts.Evict slot) replies.Nothing rule =
      silently (evict_moves s p sound slot rule.0.0 rule.0.1.0 rule.0.1.2 rule.0.2) (λ observed. refl) refl rule.1
  performed_act (acts.Evict slot) (replies.Refused why) rule =
      silently (same_moves s p sound rule.0.0 rule.0.1.2 rule.0.2) (λ observed. refl) refl rule.1
  performed_act (acts.Switch space keep) replies.Switched rule =
      moved (switch_moves s p sound space keep rule.0.0 rule.0.1) (λ observed. refl) (λ observed. refl) refl rule.1
  performed_act acts.Idle replies.Idled rule =
      moved (idle_moves s p sound rule.0.0 rule.0.1) (λ observed. refl) (λ observed. refl) refl rule.1
  performed_act acts.Wake replies.Woken rule =
      moved (resume_moves s p sound (wait_admitted is_idle s.hardware.shootdown p rule.0.0 (ap is_idle rule.0.1.0))
      rule.0.1.1) (λ observed. refl) (λ observed. refl) refl rule.1
  performed_act acts.Wake replies.Nothing rule = silently (no_moves rule.0.1.1) (λ observed. refl) refl rule.1
  performed_act (acts.Fix va write) replies.Fixed rule =
      silently (fix_moves s disk sound p va write new rule.0.0 rule.0.1) (λ observed. refl) refl rule.1
  performed_act acts.Create (replies.Space pcid) rule =
      moved (create_moves s p pcid rule.0.0 rule.0.1.0 sound rule.0.1.1) (λ observed. refl)
      (λ observed. refl) refl rule.1
  performed_act (acts.Destroy space) replies.Destroyed rule =
      moved {effect = Leaving space}
      (Destroy (record { p = p; pcid = space; allowed = rule.0.0; made = rule.0.1; effect_is = refl }))
      (λ observed. refl)
      (λ observed. refl) refl rule.1
  performed_act (acts.Map space va len file offset prot access) replies.Mapped rule =
      moved (map_moves s p space va len file offset prot access rule.0.1.0 rule.0.0 rule.0.1.1 rule.0.1.2 sound)
      (λ observed. ap (λ r. record (mapped_in observed space file prot access r) { history = observed.history ++ [] })
      (judged_so (is_user_space s.hardware.spaces space) (mapped_pages_of va len offset) rule.0.1.0 rule.0.1.1))
      (λ observed. refl) refl rule.1
  performed_act (acts.Unmap space va len) replies.Begun rule =
      moved (unmap_moves s p space va len rule.0.1.0 rule.0.0 rule.0.1.1 rule.0.1.3)
      (λ observed. ap (λ r. record (begun_by observed p (begun_unmap space r)) { history = observed.history ++ [] })
      (judged_so (is_user_space s.hardware.spaces space) (range_of_bytes va len) rule.0.1.0 rule.0.1.1))
      (λ observed. refl) refl rule.1
  performed_act (acts.Unmap space va len) replies.Fine rule =
      silently (no_moves rule.0.1.3) (λ observed. refl) refl rule.1
  performed_act (acts.Protect space va len prot) replies.Begun rule =
      moved (protect_moves s p space va len prot rule.0.1.0 rule.0.0 rule.0.1.1 rule.0.1.2)
      (λ observed.
      ap (λ r. record (begun_by observed p (begun_protect space prot r)) { history = observed.history ++ [] })
      (judged_so (is_user_space s.hardware.spaces space) (range_of_bytes va len) rule.0.1.0 (judged_protection-ok
      s.hardware.spaces space va len prot rule.0.1.0 rule.0.1.1).0)) (λ observed. refl) refl rule.1
  performed_act (acts.Reclaim file page) replies.Begun rule =
      moved (reclaim_moves s p (record { file = file; page = page }) rule.0.0 rule.0.1.0 rule.0.1.1) (λ observed. refl)
      (λ observed. refl) refl rule.1
  performed_act (acts.Reclaim file page) replies.Nothing rule =
      silently (no_moves rule.0.1.1) (λ observed. refl) refl rule.1
  performed_act (acts.SetLength file to) replies.Begun rule =
      moved (set_length_moves s p file to rule.0.0 rule.0.1.0 rule.0.1.1) (λ observed. refl)
      (λ observed. refl) refl rule.1
  performed_act (acts.SetLength file to) replies.Fine rule =
      silently (no_moves rule.0.1.1) (λ observed. refl) refl rule.1
  performed_act (acts.Msync va len flags) replies.Begun rule =
      moved (msync_moves s p va len flags rule.0.0 rule.0.1) (λ observed. refl) (λ observed. refl) refl rule.1
  performed_act acts.Ack replies.Acked rule =
      moved (ack_moves s p sound rule.0.0 rule.0.1.0 rule.0.1.1) (λ observed. refl) (λ observed. refl) refl rule.1
  performed_act acts.Ack replies.Nothing rule = silently (no_moves rule.0.1.1) (λ observed. refl) refl rule.1
  performed_act acts.Change replies.Unmapped rule =
      moved (unmapped_moves disk s p new sound rule.0.1) (λ observed. refl)
      (λ observed. changed_history observed observed.pending) refl rule.1
  performed_act acts.Change replies.Protected rule =
      moved (protected_moves disk s p new sound rule.0.1) (λ observed. refl)
      (λ observed. changed_history observed observed.pending) refl rule.1
  performed_act acts.Change replies.Reclaimed rule =
      moved_all (Ending p ∷ Silent ∷ []) (reclaimed_moves disk s p new sound rule.0.1) (λ observed. refl)
      (λ observed. refl) refl rule.1
  performed_act acts.Change replies.Kept rule =
      moved (kept_moves disk s p new sound rule.0.1) (λ observed. refl) (λ observed. refl) refl rule.1
  performed_act acts.Change replies.Resized rule = Resized refl refl rule.0.1 rule.1
  performed_act acts.Change (replies.Marked number) rule = Marked number refl refl rule.0.1 rule.1
  performed_act acts.Change replies.Nothing rule = silently (no_moves rule.0.1.1) (λ observed. refl) refl rule.1
  performed_act acts.Resume replies.Resumed rule =
      moved (resume_moves s p sound (wait_admitted is_stalled s.hardware.shootdown p rule.0.0
      (ap is_stalled rule.0.1.0)) rule.0.1.1) (λ observed. refl) (λ observed. refl) refl rule.1
  performed_act acts.Resume replies.Nothing rule = silently (no_moves rule.0.1.1) (λ observed. refl) refl rule.1
  performed_act acts.Flush replies.Going rule = Flushed refl (stepped flushed.Going rule) (λ why e. cc)
  performed_act acts.Flush (replies.Committed number) rule =
      Flushed refl (stepped (flushed.Committed number) rule) (λ why e. cc)
  performed_act acts.Flush (replies.Done number) rule = Flushed refl (stepped (flushed.Done number) rule) (λ why e. cc)
  performed_act acts.Flush replies.Nothing rule = silently (no_moves rule.0.1.1) (λ observed. refl) refl rule.1
  performed_act acts.Flush (replies.Refused refusals.Device) rule = Failed refl refl rule
  performed_act act (replies.Refused why) rule = silently (no_moves rule.0.1) (λ observed. refl) refl rule.1
  performed_act act reply rule = absurd rule.0.1

pub performed : (s : State) (disk : List ℕ) (step : Step) (reply : Reply) (new : State) (disk' : List ℕ) → IsSound s
    → Rules s disk step reply new disk' → Performed s disk step.p step.act reply new disk'
performed s disk step reply new disk' sound rule = performed_act s disk step.p new disk' sound step.act reply rule
