use Rattle.std.proofs.Common.{◌≡◌, ℕ, List, IfOk, ap, sym, subst, ◌∙◌}
use Rattle.std.proofs.lemmas.Result.{IfOk-weaker}
use Rattle.device.specs.Memory.{Recorded, new_disk, seen_of, may_leave_of}
use Rattle.volume_codec.specs.Files.{File}
use Rattle.machine.specs.declared.act.Reply.{Reply}
use Rattle.log_volume.specs.Files.{RecoversToLog}
use Rattle.crash_states.specs.Calls.{ListedDisk, device_calls_of, listing}
use Rattle.crash_table.specs.Calls.{listing_memory}
use Rattle.crash_table.specs.Crashes.{IsStopped}
use Rattle.crash_table.specs.Trials.{TrialValue}
use Rattle.crash_table.specs.Runs.{HasEndedByLog}
use Rattle.crash_table.specs.LogTrials.{IsAtMarkByLog, LeavesByLog, LeavesMarkByLog}
use Rattle.crash_table.proofs.log_trial.LogTrial.left.Goals as goal

pub returns : goal.returns
returns g c =
    let inside = c.self.inside in
    let image = inside.twin.now.image in
    let shape = inside.shape in
    let steps = inside.steps.now in
    let fails = c.args.fails in
    let choice = c.args.choice.now in
    let after : ListedDisk = c.in_ok-after.after in
    let replies = c.in_ok-after.replies.items in
    let disk : Recorded = c.in_ok-disk.disk in
    let disk_is : c.in_ok-copy.copy ≡ listing (new_disk image) fails =
    c.in_ok-copy.ensures ∙ ap (λ (b : List ℕ). listing (new_disk b) fails) c.image.ensures in
    let calls = device_calls_of inside.listed.calls.items in
    let S : List Reply → Type 0 = λ l. IsStopped calls fails steps l choice after disk in
    let is : IsStopped calls fails steps replies choice after disk =
    subst S c.deref.ensures.value c.in_ok-disk.ensures in
    let E : ListedDisk → Type 0 = λ d. HasEndedByLog listing_memory d shape steps replies after in
    let L : Recorded → Type 0 = λ d. may_leave_of after.inner (seen_of d) in
    let P : ℕ → TrialValue → Type 0 = λ number t. (files : List File) × RecoversToLog t.image files
    × (found : List File) × RecoversToLog (seen_of disk) found
    × IsAtMarkByLog files t.shape t.steps replies found number in
    let Q : ℕ → List Reply → Type 0 = λ number l. (files : List File) × RecoversToLog c.args.self.now.image files
    × (found : List File) × RecoversToLog (seen_of disk) found
    × IsAtMarkByLog files c.args.self.now.shape c.args.self.now.steps l found number in
    let leaves : (number : ℕ) → Q number c.deref-2.result.now
    → LeavesMarkByLog image shape steps calls fails choice number = λ number has.
    let at = subst (P number) (sym c.self.view_is) (subst (Q number) c.deref-2.ensures.value has) in
    let F : Recorded → Type 0 = λ d. RecoversToLog (seen_of d) at.2 in
    record {
      replies = replies;
      after = after;
      ended = subst E disk_is c.in_ok-after.ensures;
      complete = is.complete;
      are_its = is.are_its;
      up_to_call = is.up_to_call;
      left = subst L is.stopped is.left;
      files = at.0;
      before = at.1;
      found = at.2;
      recovers = subst F is.stopped at.3;
      at_mark = at.4;
    } in
    subst (λ (t : TrialValue). IfOk c.mark_in.result (LeavesByLog t fails choice)) c.self.view_is
    (IfOk-weaker c.mark_in.result _ _ leaves c.mark_in.ensures)
