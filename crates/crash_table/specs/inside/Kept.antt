-- The files that are kept for each mark of a run.
use Rattle.std.specs.Prelude.{ℕ, ◌≡◌, ◌≢◌, ◌<◌, ◌+◌, ◌*◌, Bool, true, false, ◌⊎◌, List, [], ◌∷◌}
use Rattle.std.specs.Prelude.{◌++◌, length, take, map, slice_get, Some, Contains}
use Rattle.std.specs.List.{AllByRecursion}
use Rattle.device.specs.declared.device.Device.{Ghosts}
use Rattle.page_entry.specs.declared.refusal.Refusal.TheVariants.{Device}
use Rattle.volume_codec.specs.Files.{File}
use Rattle.volume_codec.specs.Layout.{GeometryValue, descriptor_blocks}
use Rattle.volume_codec.specs.Recovery.{RecoversTo}
use Rattle.volume_codec.specs.Super.{geometry_of}
use Rattle.machine.specs.declared.act.Act.TheVariants.{Flush}
use Rattle.machine.specs.declared.act.Reply.{Reply}
use Rattle.machine.specs.declared.act.Reply.TheVariants.{Marked, Going, Committed, Done, Refused}
use Rattle.machine.specs.declared.act.Shape.{Shape}
use Rattle.machine.specs.declared.act.Step.{Step}
use Rattle.machine.specs.Runs.{StepTaken, StepsTaken}
use Rattle.machine.specs.State.{Whole}
use Rattle.machine.specs.Unmarked.{unmarked_by}
use Rattle.crash_table.specs.declared.found.MarkFiles.{MarkFiles}
use Rattle.crash_table.specs.Marks.{bytes_at}

-- whether, after these replies, a store or a change of length was answered that belongs to no mark yet
abbrev pub unmarked_after : Bool → List Reply → Bool
unmarked_after before [] = before
unmarked_after before (reply ∷ replies) = unmarked_after (unmarked_by before reply) replies

-- Whether this reply of a step of the write-outs commits nothing: the write-outs go on, or an older one is finished.
abbrev pub is_under_way : Reply → Bool
is_under_way Going = true
is_under_way (Done number) = true
is_under_way reply = false

-- All steps were answered, or the last reply reports that the device failed.
abbrev pub EndsByFailure : List Step → List Reply → Type 0
EndsByFailure steps replies = (length replies ≡ length steps)
    ⊎ ((front : List Reply) × (replies ≡ front ++ Refused Device ∷ []))

-- a processor's step of the write-outs
abbrev pub flush_by : ℕ → Step
flush_by p = record { p = p; act = Flush }

-- A processor made steps of the write-outs, with these replies. No step committed anything.
abbrev pub GoesOn : {D : Type 0} → Ghosts D → Whole D → ℕ → List Reply → Whole D → Type 0
GoesOn disk old p going new = StepsTaken disk old (map (λ reply. flush_by p) going) going new
    × AllByRecursion (λ reply. is_under_way reply ≡ true) going

-- A mark was committed: after steps that committed nothing, one more step was answered that the mark is committed.
pub record HasCommitted {D : Type 0} (disk : Ghosts D) (old : Whole D) (p number : ℕ) (new : Whole D) : Type 0 where
  pub going : List Reply
  pub mid : Whole D
  pub earlier : GoesOn disk old p going mid
  pub last : StepTaken disk mid (flush_by p) (Committed number) new

-- The largest number of steps up to the step that commits a write-out, including that step. They write a record for
-- each slot, the blocks of the descriptor, a sync, the gate, and a sync. If write-outs share the first sync, earlier
-- steps write the previous write-out's home blocks, and the gate of the one before that.
abbrev pub most_flushes : GeometryValue → ℕ
most_flushes g = 2 * g.slots + descriptor_blocks g.slots + 4

-- The write-out of a mark was given up. Either `most_flushes` steps committed nothing. Or, after steps that committed
-- nothing, a step was answered that neither goes on nor commits the mark.
abbrev pub HasGivenUp : {D : Type 0} → Ghosts D → Whole D → ℕ → ℕ → Whole D → Type 0
HasGivenUp {D} disk old p number new =
    ((going : List Reply) × GoesOn disk old p going new × (length going ≡ most_flushes (geometry_of old.state.table)))
    ⊎ ((going : List Reply) × (mid : Whole D) × (reply : Reply) × GoesOn disk old p going mid
    × StepTaken disk mid (flush_by p) reply new × (is_under_way reply ≡ false) × (reply ≢ Committed number))

-- A mark that was made after these replies is acknowledged. A processor's steps committed it, or nothing had to be
-- committed.
abbrev pub IsAcknowledged : {D : Type 0} → Ghosts D → Whole D → ℕ → List Reply → ℕ → Whole D → Type 0
IsAcknowledged disk old p before number new = HasCommitted disk old p number new
    ⊎ ((unmarked_after false before ≡ false) × (new ≡ old))

-- The steps up to the step of index `at` were made, and answered as in a run with these replies. That step's mark, a
-- number that no earlier mark has, is acknowledged, by steps of the processor that made it.
pub record HasWrittenOut {D : Type 0} (disk : Ghosts D) (old : Whole D) (steps : List Step) (replies : List Reply)
    (at number : ℕ) (new : Whole D) : Type 0 where
  pub below : at < length steps
  pub is_new : (i : ℕ) → slice_get (take at replies) i ≡ Some (Marked number) → ⊥
  pub replied : List Reply
  pub marked : Whole D
  pub made : StepsTaken disk old (take (length replied) (take (at + 1) steps)) replied marked
  pub same : replied ≡ take (at + 1) replies
  pub step : Step
  pub there : slice_get steps at ≡ Some step
  pub acknowledged : IsAcknowledged disk marked step.p (take at replies) number new

-- The kept files are the files at the mark that the step of index `at` made, in a run with these replies.
abbrev pub IsKept : {A : Type 0} → List File → Shape → List Step → List Reply → ℕ → MarkFiles A → Type 0
IsKept files shape steps replies at kept = (number : ℕ) × (slice_get replies at ≡ Some (Marked number))
    × (at < length steps)
    × (map (λ v. v.items) kept.files.items ≡ bytes_at files shape steps replies at number)

-- The files that are kept for each of these marks are the files at it.
abbrev pub AreKept : {A : Type 0} → List File → Shape → List Step → List Reply → List (MarkFiles A) → Type 0
AreKept {A} files shape steps replies marks =
    (kept : MarkFiles A) → Contains marks kept → IsKept files shape steps replies kept.step kept

-- The bytes of the disk recover to files, and the kept files are those at the marks of a run over them.
pub record HasKept {A : Type 0} (image : List ℕ) (shape : Shape) (steps : List Step) (replies : List Reply)
    (marks : List (MarkFiles A)) : Type 0 where
  pub files : List File
  pub before : RecoversTo image files
  pub kept : AreKept files shape steps replies marks
