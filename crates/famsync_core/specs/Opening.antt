-- How a volume is opened.
use Rattle.std.specs.Prelude.{ℕ, ℤ, ◌≡◌, ◌≢◌, ◌⊎◌, ◌-◌, ◌^◌, ◌==◌, if◌then◌else◌, Some, Result, Ok, Err}
use Rattle.page_entry.specs.declared.refusal.Refusal.TheVariants.{NotAVolume}
use Rattle.deferred_disk.specs.Deferred.{Deferred, IsSuppliedWell}
use Rattle.pager.specs.Calls.{RefusesPagerOpening}
use Rattle.embedded.specs.declared.reading.Unread.{Unread}
use Rattle.embedded.specs.declared.reading.Unread.TheVariants.{Refused}
use Rattle.embedded.specs.Opening.{OpensVolume, KeepsForWanted}
use Rattle.embedded.specs.Reading.{pager_refusal}
use Rattle.embedded.specs.Recorded.{deferred_disk}
use Rattle.embedded_log.specs.Opening.{OpensLogVolume, RefusesEmbeddedLog}
use Rattle.famsync_core.specs.Codes.{ok_code, unread_block, unread_code}
use Rattle.famsync_core.specs.Held.{HeldVolume, holding}
use Rattle.famsync_core.specs.declared.volume.OpenVolume.{OpenVolume}
use Rattle.famsync_core.specs.declared.volume.OpenVolume.TheVariants.{Journals, Log}

-- The most pages of a commit. For 0, only the journals or the log limit them.
abbrev pub most_pages : ℕ → ℕ
most_pages pages = if pages == 0 then 2 ^ 32 - 1 else pages

-- The disk isn't opened as a volume with journals, or with a log, for this reason. If a block is wanted, the disk only
-- made a read that lacked it. If there are no journals, the disk is unchanged, provided that each block was supplied as
-- the disk had it.
abbrev pub RefusesJournals : Deferred → Unread → Deferred → Type 0
RefusesJournals disk why left =
    RefusesPagerOpening deferred_disk disk (pager_refusal why) left × KeepsForWanted disk why left
    × (IsSuppliedWell disk → why ≡ Refused NotAVolume → left ≡ disk)

abbrev pub RefusesLog : Deferred → Unread → Deferred → Type 0
RefusesLog disk why left = RefusesEmbeddedLog disk (pager_refusal why) left × KeepsForWanted disk why left

-- The disk is opened as a volume with journals, or not, though it may be one.
abbrev pub OpensJournals : Deferred → (most : ℕ) → Result OpenVolume (Unread × Deferred) → Type 0
OpensJournals disk most (Ok (Journals e)) = OpensVolume disk most e
OpensJournals disk most (Ok (Log e)) = ⊥
OpensJournals disk most (Err left) = (left.0 ≢ Refused NotAVolume) × RefusesJournals disk left.0 left.1

-- The disk is opened as a volume with a log, or not.
abbrev pub OpensLog : Deferred → (most : ℕ) → Result OpenVolume (Unread × Deferred) → Type 0
OpensLog disk most (Ok (Journals e)) = ⊥
OpensLog disk most (Ok (Log e)) = OpensLogVolume disk most e
OpensLog disk most (Err left) = RefusesLog disk left.0 left.1

-- The disk is opened as a volume with journals. If it isn't such a volume, it is opened as one with a log instead.
abbrev pub OpensEither : Deferred → (most : ℕ) → Result OpenVolume (Unread × Deferred) → Type 0
OpensEither disk most outcome =
    OpensJournals disk most outcome
    ⊎ ((asked : Deferred) × RefusesJournals disk (Refused NotAVolume) asked × OpensLog asked most outcome)

-- The reply to an opening. Either a volume was opened, and is held from now on. Or none was, for this reason, and the
-- remaining disk is kept.
abbrev pub TellsOpening : HeldVolume → Result OpenVolume (Unread × Deferred) → ℤ → (before wanted : ℕ) → HeldVolume
    → Type 0
TellsOpening held (Ok v) code before wanted held' = (code ≡ ok_code) × (wanted ≡ before) × (held' ≡ holding v)
TellsOpening held (Err left) code before wanted held' =
    (code ≡ unread_code left.0) × (wanted ≡ unread_block left.0 before)
    × (held' ≡ record held { disk = Some left.1 })

abbrev pub AnswersOpen : HeldVolume → Deferred → (most : ℕ) → ℤ → (before wanted : ℕ) → HeldVolume → Type 0
AnswersOpen held disk most code before wanted held' =
    (outcome : Result OpenVolume (Unread × Deferred)) × OpensEither disk most outcome
    × TellsOpening held outcome code before wanted held'
