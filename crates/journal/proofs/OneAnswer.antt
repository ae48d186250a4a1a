-- What a shared sync answers: it commits none, and none but the oldest is done by it.
use Rattle.std.proofs.Common.{◌≡◌, List, ◌∷◌, Some, sym, ◌∙◌}
use Rattle.std.specs.List.{AllByRecursion}
use Rattle.journal.specs.declared.stage.Stage.{Stage}
use Rattle.journal.specs.declared.stage.Stage.TheVariants.{SyncingRecords, Committing, SyncingHomes, Finishing}
use Rattle.journal.specs.WriteOut.{WriteOut, next_stage}
use Rattle.journal.proofs.Moving.{AreSyncing, None_syncs, Homes_syncs, Records_syncs, Both_sync, AreShared, Ending}
use Rattle.journal.proofs.Moving.{Going_on}

abbrev IsNotAt : Stage → WriteOut → Type 0
IsNotAt s w = next_stage w ≡ Some s → ⊥

not_at : (w : WriteOut) (s t : Stage) → next_stage w ≡ Some s → (s ≡ t → ⊥) → IsNotAt t w
not_at w s t at apart e = apart (same (sym at ∙ e))
  where
    same : {a b : Stage} → Some a ≡ Some b → a ≡ b
    same e = cc

-- neither commits, nor ends
abbrev IsQuiet : WriteOut → Type 0
IsQuiet w = IsNotAt Committing w × IsNotAt Finishing w

quiet_homes : (h : WriteOut) → next_stage h ≡ Some SyncingHomes → IsQuiet h
quiet_homes h at =
    (not_at h SyncingHomes Committing at (λ e. cc), not_at h SyncingHomes Finishing at (λ e. cc))

quiet_records : (r : WriteOut) → next_stage r ≡ Some SyncingRecords → IsQuiet r
quiet_records r at =
    (not_at r SyncingRecords Committing at (λ e. cc), not_at r SyncingRecords Finishing at (λ e. cc))

syncing_quiet : (l : List WriteOut) → AreSyncing l → AllByRecursion IsQuiet l
syncing_quiet l None_syncs = tt
syncing_quiet l (Homes_syncs h at) = (quiet_homes h at, tt)
syncing_quiet l (Records_syncs r at) = (quiet_records r at, tt)
syncing_quiet l (Both_sync h r at_h at_r) = (quiet_homes h at_h, (quiet_records r at_r, tt))

-- those that follow the oldest are quiet, and the oldest isn't committed by it
pub one_answer : (oldest : WriteOut) (newer : List WriteOut) → AreShared (oldest ∷ newer)
    → IsNotAt Committing oldest × AllByRecursion IsQuiet newer
one_answer oldest newer (Ending e rest at is) =
    (not_at e Finishing Committing at (λ e. cc), syncing_quiet rest is)
one_answer oldest newer (Going_on w rest is) =
    let all = syncing_quiet (w ∷ rest) is in
    (all.0.0, all.1)
