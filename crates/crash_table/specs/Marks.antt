-- The files at the marks of a run, which follow from its steps and replies.
use Rattle.std.specs.Prelude.{ℕ, ◌≡◌, ◌<◌, ◌≤◌, ◌+◌, ◌⊎◌, List, [], ◌∷◌, ◌++◌, length, take, map, slice_get, Some}
use Rattle.volume_codec.specs.Files.{File}
use Rattle.volume_codec.specs.Recovery.{RecoversTo}
use Rattle.machine.specs.declared.act.Reply.{Reply}
use Rattle.machine.specs.declared.act.Reply.TheVariants.{Marked}
use Rattle.machine.specs.declared.act.Shape.{Shape}
use Rattle.machine.specs.declared.act.Step.{Step}
use Rattle.history.specs.History.{Event, Mark, files_after}
use Rattle.crash_table.specs.Crashes.{history_of}
use Rattle.crash_table.specs.Trials.{TrialValue}

-- the history up to the mark that the step of this index made, with that mark
abbrev pub up_to_mark : List File → Shape → List Step → List Reply → ℕ → ℕ → List Event
up_to_mark files shape steps replies i number =
    history_of files shape (take i steps) (take i replies) ++ Mark number ∷ []

-- the bytes of each file; and the bytes of each file at that mark
abbrev pub contents_of : List File → List (List ℕ)
contents_of files = map (λ f. f.bytes) files

abbrev pub bytes_at : List File → Shape → List Step → List Reply → ℕ → ℕ → List (List ℕ)
bytes_at files shape steps replies i number =
    contents_of (files_after files (up_to_mark files shape steps replies i number))

-- No mark that the step of index `first` or a later step made has files with these bytes.
abbrev pub NoneFrom : List File → Shape → List Step → List Reply → List (List ℕ) → ℕ → Type 0
NoneFrom files shape steps replies bytes first = (i number : ℕ) → first ≤ i → slice_get replies i ≡ Some (Marked number)
    → bytes ≡ bytes_at files shape steps replies i number → ⊥

-- `number` is the newest mark whose files have these bytes, or 0 if no mark has.
abbrev pub IsNewest : List File → Shape → List Step → List Reply → List (List ℕ) → ℕ → Type 0
IsNewest files shape steps replies bytes number =
    ((number ≡ 0) × NoneFrom files shape steps replies bytes 0)
    ⊎ ((at : ℕ) × (slice_get replies at ≡ Some (Marked number)) × (at < length steps)
    × (bytes ≡ bytes_at files shape steps replies at number)
    × NoneFrom files shape steps replies bytes (at + 1))

-- Among the marks that these replies report, `number` is the newest whose files have these bytes, or 0 if none has. The
-- run starts with the files to which the trial's disk recovers.
abbrev pub IsMarkOf : TrialValue → List Reply → List (List ℕ) → ℕ → Type 0
IsMarkOf trial replies bytes number = (files : List File) → RecoversTo trial.image files
    → IsNewest files trial.shape trial.steps replies bytes number
