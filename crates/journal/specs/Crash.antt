-- What a crash leaves of a volume with unfinished write-outs. Old is what the volume recovers to without the
-- uncommitted batch. New is Old with that batch's blocks. If each batch is committed, the volume recovers to New.
use Rattle.std.specs.Prelude.{ℕ, ◌⊎◌, List, Option, Some}
use Rattle.volume_codec.specs.Super.{SuperValue}
use Rattle.volume_codec.specs.Recovery.{Recovers}
use Rattle.journal.specs.declared.stage.Stage.{Stage}
use Rattle.journal.specs.declared.stage.Stage.TheVariants.{Recording, Describing, SyncingRecords, Opening, Committing}

-- What a crash may leave before the step of this stage: Old until the gate is written, Old or New until the open gate
-- is durable, New afterwards.
abbrev pub LeftBefore : SuperValue → (ℕ → List ℕ) → (ℕ → List ℕ) → Option Stage → List ℕ → Type 0
LeftBefore v old new (Some (Recording i)) c = Recovers v old c
LeftBefore v old new (Some (Describing i)) c = Recovers v old c
LeftBefore v old new (Some SyncingRecords) c = Recovers v old c
LeftBefore v old new (Some Opening) c = Recovers v old c
LeftBefore v old new (Some Committing) c = Recovers v old c ⊎ Recovers v new c
LeftBefore v old new stage c = Recovers v new c

-- Rule: torn gate: A gate whose write is torn is either open or closed. So a crash leaves all of a commit, or nothing.
-- What a crash may leave within the step of this stage, or after the step if a device call failed.
abbrev pub LeftWithin : SuperValue → (ℕ → List ℕ) → (ℕ → List ℕ) → Option Stage → List ℕ → Type 0
LeftWithin v old new (Some Opening) c = Recovers v old c ⊎ Recovers v new c
LeftWithin v old new stage c = LeftBefore v old new stage c
