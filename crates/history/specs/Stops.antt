-- What a crash within a run leaves. It depends on the current write-out: that of the uncommitted batch, or else the
-- oldest. Until its gate is written, a crash leaves the old files, those at the last acknowledged mark. Once it is
-- committed, a crash leaves the new files, those at its mark. If no sync is shared, the current write-out makes the
-- next step.
use Rattle.std.specs.Prelude.{ℕ, ◌≡◌, ◌⊎◌, List, Option, Some, None, MatchBool, Contains}
use Rattle.std.specs.Option.{option_map_or}
use Rattle.volume_codec.specs.Files.{File}
use Rattle.volume_codec.specs.Recovery.{RecoversTo}
use Rattle.journal.specs.declared.stage.Stage.{Stage}
use Rattle.journal.specs.declared.stage.Stage.TheVariants.{Recording, Describing, SyncingRecords, Opening, Committing}
use Rattle.journal.specs.WriteOuts.{WriteOutsValue, current, current_stage}
use Rattle.history.specs.History.{Event, Mark, Acknowledge, files_after, IsDurablePrefix}

-- `c` recovers to the files after a durable prefix of the history whose marks are exactly the acknowledged ones.
pub record IsAcknowledged (files : List File) (history : List Event) (c : List ℕ) : Type 0 where
  pub prefix : List Event
  pub durable : IsDurablePrefix prefix history
  pub only : (number : ℕ) → Contains prefix (Mark number) → Contains history (Acknowledge number)
  pub recovers : RecoversTo c (files_after files prefix)

-- `c` recovers to these files, and the prefix doesn't contain the mark `number`.
pub record IsOld (files : List File) (history : List Event) (number : ℕ) (c : List ℕ) : Type 0 where
  pub confirmed : IsAcknowledged files history c
  pub lacks : Contains confirmed.prefix (Mark number) → ⊥

-- `c` recovers to the files after a durable prefix of the history that contains the mark `number`. Its other marks are
-- acknowledged ones.
pub record IsNew (files : List File) (history : List Event) (number : ℕ) (c : List ℕ) : Type 0 where
  pub prefix : List Event
  pub durable : IsDurablePrefix prefix history
  pub has : Contains prefix (Mark number)
  pub only : (other : ℕ) → Contains prefix (Mark other) → Contains history (Acknowledge other) ⊎ (other ≡ number)
  pub recovers : RecoversTo c (files_after files prefix)

-- What a crash leaves before the step of this stage, in the write-out of the mark `mark`. Until the gate is written:
-- the old files. Until the gate is durable: the old or the new files. Afterwards: the new files. Without a write-out:
-- the files at the last acknowledged mark.
abbrev pub StopsBefore : List File → List Event → ℕ → Option Stage → List ℕ → Type 0
StopsBefore files history mark (Some (Recording i)) c = IsOld files history mark c
StopsBefore files history mark (Some (Describing i)) c = IsOld files history mark c
StopsBefore files history mark (Some SyncingRecords) c = IsOld files history mark c
StopsBefore files history mark (Some Opening) c = IsOld files history mark c
StopsBefore files history mark (Some Committing) c = IsOld files history mark c ⊎ IsNew files history mark c
StopsBefore files history mark (Some stage) c = IsNew files history mark c
StopsBefore files history mark None c = IsAcknowledged files history c

-- What a crash leaves within that step, or after it if a device call failed. While the gate is written, it leaves the
-- old or the new files. Otherwise it leaves the same as before the step.
abbrev pub StopsWithin : List File → List Event → ℕ → Option Stage → List ℕ → Type 0
StopsWithin files history mark (Some Opening) c = IsOld files history mark c ⊎ IsNew files history mark c
StopsWithin files history mark stage c = StopsBefore files history mark stage c

-- The mark of the current write-out, or 0 if there is none.
abbrev pub mark_of_next : WriteOutsValue → ℕ
mark_of_next outs = option_map_or (λ w. w.batch.mark) (current outs.batches) 0

-- What a crash leaves within a step of a machine with these write-outs.
abbrev pub StopsInStep : List File → List Event → WriteOutsValue → List ℕ → Type 0
StopsInStep files history outs c = StopsWithin files history (mark_of_next outs) (current_stage outs) c

-- What a crash leaves between two steps. If the machine is broken, a crash leaves the same as within the step that
-- failed.
abbrev pub Stops : List File → List Event → WriteOutsValue → List ℕ → Type 0
Stops files history outs c =
    MatchBool outs.broken (StopsInStep files history outs c)
    (StopsBefore files history (mark_of_next outs) (current_stage outs) c)
