-- How a run ends, and what a crash leaves of its device then.
use Rattle.std.proofs.Common.{◌≡◌, ◌≤◌, inl, inr, ℕ, List, [], length, take, sym, subst}
use Rattle.device.specs.declared.device.Device.{Ghosts}
use Rattle.device.specs.Device.{Only, LeavesOnly}
use Rattle.page_entry.specs.declared.refusal.Refusal.{Refusal}
use Rattle.page_entry.specs.declared.refusal.Refusal.TheVariants.{Device}
use Rattle.volume_codec.specs.Files.{File}
use Rattle.volume_codec.specs.Recovery.{RecoversTo}
use Rattle.machine.specs.declared.act.Reply.{Reply}
use Rattle.machine.specs.declared.act.Shape.{Shape}
use Rattle.machine.specs.declared.act.Step.{Step}
use Rattle.history.specs.History.{files_after}
use Rattle.history.specs.Reading.{ReadsBack}
use Rattle.engine.specs.Engine.{HasRun, HasNotStarted}
use Rattle.crash_table.specs.Crashes.{history_of, HasEnded}
use Rattle.crash_table.proofs.Marks.{IsOneReading}
use Rattle.crash_table.proofs.Left.{back_after_refusal}

-- after the steps that have replies
pub ended_run : {D : Type 0} (disk : Ghosts D) (before : D) (shape : Shape) (steps : List Step) (replies : List Reply)
    (last after : D) → after ≡ last
    → HasRun disk before shape (take (length replies) steps) replies last
    → HasEnded disk before shape steps replies after
ended_run disk before shape steps replies last after same run =
    inl (subst (λ d. HasRun disk before shape (take (length replies) steps) replies d) (sym same) run)

-- where the device failed as it was opened, it is left without replies
abbrev pub IsLeft : {D : Type 0} → Refusal → D → D → List Reply → Type 0
IsLeft refusal device after replies = (refusal ≡ Device) × (after ≡ device) × (replies ≡ [])

pub ended_at_start : {D : Type 0} (disk : Ghosts D) (before : D) (shape : Shape) (steps : List Step) (refusal : Refusal)
    (device after : D) (replies : List Reply) → HasNotStarted disk before shape device refusal
    → IsLeft refusal device after replies → HasEnded disk before shape steps replies after
ended_at_start disk before shape steps refusal device after replies refused is =
    inr (
      is.2,
      subst (λ r. HasNotStarted disk before shape after r) is.0
          (subst (λ d. HasNotStarted disk before shape d refusal) (sym is.1) refused),
    )

pub back_at_start : {D : Type 0} (disk : Ghosts D) → IsOneReading
    → ((files : List File) → files_after files [] ≡ files)
    → ((device : D) (t : ℕ) (c : List ℕ) → t ≤ disk.moment device → disk.may_leave device c
    → disk.left_since device t c)
    → (before : D) (shape : Shape) (steps : List Step) (refusal : Refusal) (device after : D)
    (replies : List Reply) (files : List File)
    → (((c : List ℕ) → disk.may_leave before c → RecoversTo c files)
    → LeavesOnly disk.moment disk.left_since before device (λ c. RecoversTo c files))
    → IsLeft refusal device after replies → disk.is_honest before → Only (disk.may_leave before) (disk.seen before)
    → RecoversTo (disk.seen before) files
    → (c : List ℕ) → disk.may_leave after c
    → ReadsBack files (history_of files shape (take (length replies) steps) replies) c
back_at_start disk one unchanged now_is_since before shape steps refusal device after replies files since is
    honest only recovered c may =
    let all : (l : List ℕ) → disk.may_leave before l → RecoversTo l files =
    λ l left. subst (λ b. RecoversTo b files) (sym (only l left)) recovered in
    subst (λ r. ReadsBack files (history_of files shape (take (length r) steps) r) c) (sym is.2)
    (back_after_refusal disk one before shape honest files recovered unchanged now_is_since device (since all) c
    (subst (λ d. disk.may_leave d c) is.1 may))
