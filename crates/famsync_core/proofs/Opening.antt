-- What an opening comes to where a disk has no volume with journals.
use Rattle.std.proofs.Common.{◌≡◌, ℕ, Bool, true, inr, subst}
use Rattle.std.specs.Prelude.{IsTrue, ◌↔◌, Result}
use Rattle.page_entry.specs.declared.refusal.Refusal.TheVariants.{NotAVolume}
use Rattle.deferred_disk.specs.Deferred.{Deferred}
use Rattle.embedded.specs.declared.reading.Unread.{Unread}
use Rattle.embedded.specs.declared.reading.Unread.TheVariants.{Refused}
use Rattle.famsync_core.specs.Opening.{OpensEither, OpensLog, RefusesJournals}
use Rattle.famsync_core.specs.declared.volume.OpenVolume.{OpenVolume}

pub opens_as_log : (disk left : Deferred) (most : ℕ) (why : Unread) (none : Bool)
    (outcome : Result OpenVolume (Unread × Deferred)) → IsTrue none ↔ (why ≡ Refused NotAVolume) → none ≡ true
    → RefusesJournals disk why left → OpensLog left most outcome → OpensEither disk most outcome
opens_as_log disk left most why none outcome iff is refused opens =
    inr (left, subst (λ (w : Unread). RefusesJournals disk w left) (iff.0 is) refused, opens)
