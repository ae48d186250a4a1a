-- What a run, and a crash after it, leave on its device.
use Rattle.std.proofs.Common.{◌≡◌, inl, inr, ℕ, ◌≤◌, Bool, true, false, not, List, [], length}
use Rattle.std.proofs.Common.{take, Result, IfOk, refl, sym, ap, subst, arith}
use Rattle.std.proofs.lemmas.List.{length-take}
use Rattle.std.proofs.lemmas.Result.{IfOk-weaker}
use Rattle.device.specs.declared.device.Device.{Ghosts}
use Rattle.device.specs.Device.{Only, LeavesOnly}
use Rattle.device.specs.Memory.{Recorded, new_disk, seen_of, may_leave_of}
use Rattle.crash_states.specs.Calls.{DeviceCall, ListedDisk, listing}
use Rattle.std.proofs.lemmas.List.{ext_get_or}
use Rattle.volume_codec.specs.Files.{File}
use Rattle.volume_codec.specs.Recovery.{RecoversTo}
use Rattle.machine.specs.declared.act.Reply.{Reply}
use Rattle.machine.specs.declared.act.Shape.{Shape}
use Rattle.machine.specs.declared.act.Step.{Step}
use Rattle.history.specs.History.{files_after}
use Rattle.history.specs.Reading.{ReadsBack}
use Rattle.machine.specs.Runs.{StepsTaken}
use Rattle.machine.specs.State.{Whole}
use Rattle.machine.specs.Observed.{Observed, observe_all}
use Rattle.engine.specs.Engine.{HasStarted}
use Rattle.crash_table.specs.Calls.{listing_memory}
use Rattle.crash_table.specs.Crashes.{history_of, HasEnded, IsStopped, LeavesMark}
use Rattle.crash_table.specs.declared.found.MarkFiles.{MarkFiles}
use Rattle.crash_table.specs.Marks.{contents_of, IsNewest}
use Rattle.crash_table.specs.inside.Kept.{AreKept, HasKept}
use Rattle.crash_table.proofs.Marks.{IsOneReading, ReadsBackLater}
use Rattle.engine.proofs.Public.{taken_length}
use Rattle.crash_table.proofs.Marks.{is_reached, observed_is}
use Rattle.crash_table.proofs.Newest.{at_mark}

-- a listing that was handed out was refused no memory
pub all_listed : (refused : Bool) → true ≡ not refused → refused ≡ false
all_listed true complete = complete
all_listed false complete = refl

-- as many steps were made as there are replies
pub few_replies : {D : Type 0} (disk : Ghosts D) (before : D) (shape : Shape) (steps : List Step) (replies : List Reply)
    (after : D) → HasEnded disk before shape steps replies after → length replies ≤ length steps
few_replies disk before shape steps replies after (inl run) =
    let same = taken_length disk run.start (take (length replies) steps) replies run.last run.made in
    omega (arith, same, length-take (length replies) steps)
few_replies disk before shape steps replies after (inr refused) =
    let none : length replies ≡ 0 = ap (λ (l : List Reply). length l) refused.0 in
    omega (arith, none)

module _ {D : Type 0} (disk : Ghosts D) (one : IsOneReading) (before : D)
    (shape : Shape) (honest : disk.is_honest before) (files : List File)
    (recovered : RecoversTo (disk.seen before) files) where
  -- after a run, by the law of a machine that it reached
  pub back_after_run : (start : Whole D) → HasStarted disk before shape start
      → (steps : List Step) (replies : List Reply) (now : Whole D) → StepsTaken disk start steps replies now
      → ReadsBackLater disk now → (c : List ℕ) → disk.may_leave now.device c
      → ReadsBack files (history_of files shape steps replies) c
  back_after_run start started steps replies now taken left c may =
      subst (λ (t : Observed). ReadsBack files (observe_all t steps replies).history c)
      (observed_is disk before shape start started files)
      (left files start steps replies c
      (is_reached disk one before shape start started honest files recovered steps replies now taken) may)

  -- after a refusal nothing was stored
  pub back_after_refusal : ((files : List File) → files_after files [] ≡ files)
      → ((device : D) (t : ℕ) (c : List ℕ) → t ≤ disk.moment device → disk.may_leave device c
      → disk.left_since device t c)
      → (after : D) → LeavesOnly disk.moment disk.left_since before after (λ c. RecoversTo c files)
      → (c : List ℕ) → disk.may_leave after c → ReadsBack files [] c
  back_after_refusal unchanged now_is_since after leaves c may = record {
    prefix = [];
    durable = record {
      rest = [];
      begins = refl;
      marked = inl refl;
      acknowledged = λ n has. absurd (omega (arith, has.1));
    };
    recovers = subst (λ (l : List File). RecoversTo c l) (sym (unchanged files))
        (leaves.each c (now_is_since after (disk.moment before) c leaves.later may));
  }

-- only the bytes that a disk in memory has may be left of a new one
pub only_first : (image : List ℕ) → Only (may_leave_of (new_disk image)) image
only_first image c left = ext_get_or 0 c image left.same_length (λ i lt. left.synced i refl)

-- a trial: what was left of it by a stop, and what was found
module _ {A : Type 0} (one : IsOneReading) (image : List ℕ) (shape : Shape) (steps : List Step) (first : List Reply)
    (marks : List (MarkFiles A)) (kept : HasKept image shape steps first marks) (calls : List DeviceCall)
    (fails : ℕ) (choice : List ℕ) (replies : List Reply) (after : ListedDisk)
    (ended : HasEnded listing_memory (listing (new_disk image) fails) shape steps replies after)
    (back : (files : List File) → RecoversTo image files → (c : List ℕ) → may_leave_of after.inner c
    → ReadsBack files (history_of files shape (take (length replies) steps) replies) c)
    (stopped : Recorded) (is : IsStopped calls fails steps replies choice after stopped)
    (read : List (List ℕ))
    (opened : (found : List File) × RecoversTo (seen_of stopped) found × (read ≡ contents_of found)) where
  leaves_mark : (number : ℕ) → IsNewest kept.files shape steps replies read number
      → LeavesMark image shape steps calls fails choice number
  leaves_mark number newest =
      let long = few_replies listing_memory (listing (new_disk image) fails) shape steps replies after ended in
      let P : Recorded → Type 0 = λ s. may_leave_of after.inner (seen_of s) in
      let Q : Recorded → Type 0 = λ s. RecoversTo (seen_of s) opened.0 in
      let N : List (List ℕ) → Type 0 = λ bytes. IsNewest kept.files shape steps replies bytes number in
      record {
        replies = replies;
        after = after;
        ended = ended;
        complete = is.complete;
        are_its = is.are_its;
        up_to_call = is.up_to_call;
        left = subst P is.stopped is.left;
        files = kept.files;
        before = kept.before;
        found = opened.0;
        recovers = subst Q is.stopped opened.1;
        at_mark = at_mark one kept.files shape steps replies long (seen_of stopped)
            (back kept.files kept.before (seen_of stopped) is.left) opened.0 opened.1 number (subst N opened.2 newest);
      }

  -- so it is of the newest mark that was looked for among the marks that were kept
  pub leaves_newest : {E : Type 0} (result : Result ℕ E) (kept_marks : List (MarkFiles A)) (replied again : List Reply)
      (bytes : List (List ℕ)) → kept_marks ≡ marks → replied ≡ first → again ≡ replies → bytes ≡ read
      → ((files : List File) (shape : Shape) (steps : List Step) → AreKept files shape steps replied kept_marks
      → IfOk result (IsNewest files shape steps again bytes))
      → IfOk result (LeavesMark image shape steps calls fails choice)
  leaves_newest {E} result kept_marks replied again bytes marks_are observed_are again_are bytes_are newest =
      let M : List (MarkFiles A) → Type 0 = λ l. AreKept kept.files shape steps replied l in
      let T : List Reply → Type 0 = λ l. AreKept kept.files shape steps l marks in
      IfOk-weaker result _ _
      (λ number has.
      let R : List Reply → Type 0 = λ l. IsNewest kept.files shape steps l bytes number in
      let B : List (List ℕ) → Type 0 = λ l. IsNewest kept.files shape steps replies l number in
      leaves_mark number (subst B bytes_are (subst R again_are has)))
      (newest kept.files shape steps (subst M (sym marks_are) (subst T (sym observed_are) kept.kept)))
