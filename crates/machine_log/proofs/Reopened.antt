-- What openings find on a volume with a log after a crash that left files, and after other openings and crashes.
use Rattle.std.proofs.Common.{◌≡◌, ◌⊎◌, inl, inr, ℕ, zero, suc, ◌<◌, List, length, take, refl, sym, ap, subst}
use Rattle.std.proofs.Common.{◌∙◌, arith}
use Rattle.device.specs.Device.{Only}
use Rattle.device.specs.declared.device.Device.{Ghosts}
use Rattle.page_entry.specs.declared.refusal.Refusal.{Refusal}
use Rattle.page_entry.specs.declared.refusal.Refusal.TheVariants.{Broken, Busy, BadShape, BusAdrErr, Damaged, Device}
use Rattle.page_entry.specs.declared.refusal.Refusal.TheVariants.{Eacces, Einval, Enomem, Fault, Held, Locked, NoFile}
use Rattle.page_entry.specs.declared.refusal.Refusal.TheVariants.{NoFrame, NotAVolume, NotResident, NotYet, OutOfMemory}
use Rattle.page_entry.specs.declared.refusal.Refusal.TheVariants.{Overlap, SegvAccErr, SegvMapErr, Stalled, TraceFull}
use Rattle.volume_codec.specs.Files.{File}
use Rattle.volume_codec.specs.Layout.{block_at}
use Rattle.volume_codec.specs.Recovery.{files_from}
use Rattle.volume_codec.specs.Text.{numbers_in}
use Rattle.volume_codec.proofs.Recovered.{files_from-same}
use Rattle.history.specs.History.{Event, files_after, IsDurablePrefix}
use Rattle.log_codec.specs.declared.start.LogStart.{LogStart}
use Rattle.log_codec.specs.Log.{LogValue, IsLog, first_log_home, first_log_file_home}
use Rattle.log_codec.specs.Chain.{LogRecovers, IsLogHome}
use Rattle.log_volume.specs.Super.{LogSuperValue, IsLogSuper, log_magic, log_of}
use Rattle.log_volume.specs.Files.{RecoversToLog, log_files_in, log_lengths_in}
use Rattle.log_opening.specs.Opening.{RecoversAlike}
use Rattle.log_opening.specs.Volume.{HasOpenedVolume, LeftByOpeningVolume, RefusesVolume}
use Rattle.machine_log.specs.Openings.{FindsAfterLogCrash, FindsOnLog, IsReopened, KeepsOnLog}

-- ---- one reading

-- contents that agree on home blocks have the same files
same_files : (v : LogSuperValue) (contents others : ℕ → List ℕ)
    → ((b : ℕ) → IsLogHome (log_of v) b → contents b ≡ others b) → IsLog (log_of v)
    → log_files_in v contents ≡ log_files_in v others
same_files v contents others same log =
    let first : first_log_home v.ring < (log_of v).blocks = omega (arith, log.some_homes) in
    files_from-same contents others (first_log_file_home v.ring) v.files (log_lengths_in v contents)
    (λ b low high. same b (record { low = omega (arith, low); high = high }))
    ∙ ap (λ (block : List ℕ). files_from others (first_log_file_home v.ring) v.files
    (numbers_in 8 (length v.files) block))
    (same (first_log_home v.ring) (record { low = omega arith; high = first }))

module _ (one : (v w : LogSuperValue) (block : List ℕ) → IsLogSuper v block → IsLogSuper w block → v ≡ w)
    (agree : (g : LogValue) (contents others : ℕ → List ℕ) (bytes : List ℕ) (b : ℕ) → IsLog g
    → LogRecovers g contents bytes → LogRecovers g others bytes → IsLogHome g b → contents b ≡ others b) where
  -- bytes recover to one list of files
  pub one_files : (bytes : List ℕ) (files others : List File) → RecoversToLog bytes files → RecoversToLog bytes others
      → files ≡ others
  one_files bytes files others r s =
      let is : s.table ≡ r.table = one s.table r.table (block_at bytes 0) s.super_block r.super_block in
      let R : LogSuperValue → Type 0 = λ v. LogRecovers (log_of v) s.contents bytes in
      let log = r.super_block.fits.log in
      r.files_are
      ∙ same_files r.table r.contents s.contents
      (λ b home. agree (log_of r.table) r.contents s.contents bytes b log r.recovers (subst R is s.recovers) home) log
      ∙ sym (s.files_are ∙ ap (λ v. log_files_in v s.contents) is)

-- ---- openings, one after the other

-- these bytes recover to the files after a durable prefix of one of these histories
pub record ReadsBackOnLog (files : List File) (histories : List Event → Type 0) (c : List ℕ) : Type 0 where
  pub history : List Event
  pub is_one : histories history
  pub prefix : List Event
  pub durable : IsDurablePrefix prefix history
  pub recovers : RecoversToLog c (files_after files prefix)

module _ {D : Type 0} (disk : Ghosts D)
    (magic : (v : LogSuperValue) (block : List ℕ) → IsLogSuper v block → take 8 block ≡ log_magic v.sealing)
    (unique : (bytes : List ℕ) (files others : List File) → RecoversToLog bytes files → RecoversToLog bytes others
    → files ≡ others)
    (opens : (old new : D) (table : LogSuperValue) (lengths : List ℕ) (next : LogStart)
    → HasOpenedVolume disk old table lengths next new
    → (lengths ≡ log_lengths_in table (block_at (disk.seen new)))
    × RecoversToLog (disk.seen old) (log_files_in table (block_at (disk.seen new))))
    (crashed : (table : LogSuperValue) (old new : List ℕ) (files : List File) → IsLog (log_of table)
    → IsLogSuper table (block_at old 0) → RecoversAlike (log_of table) old new → RecoversToLog old files
    → RecoversToLog new files) where
  -- what a crash leaves of an opening recovers to the files to which everything recovers that one left before
  pub opened_left : (files : List File) (before : D) → ((c : List ℕ) → disk.may_leave before c → RecoversToLog c files)
      → RecoversToLog (disk.seen before) files → (c : List ℕ) → LeftByOpeningVolume disk before c
      → RecoversToLog c files
  opened_left files before all now c (inl may) = all c may
  opened_left files before all now c (inr (table, says, alike)) =
      crashed table (disk.seen before) c files says.fits.log says alike now

  -- the device reads as such bytes, and a crash leaves nothing else
  abbrev IsSettled : List File → D → Type 0
  IsSettled files d = Only (disk.may_leave d) (disk.seen d) × RecoversToLog (disk.seen d) files

  reopened : (files : List File) (n : ℕ) (first later : D) → IsSettled files first → IsReopened disk n first later
      → IsSettled files later
  reopened files zero first later settled is = subst (IsSettled files) (sym is) settled
  reopened files (suc n) first later settled (before, after, is, leaves, restarted) =
      let earlier = reopened files n first before settled is in
      let all : (c : List ℕ) → disk.may_leave before c → RecoversToLog c files =
      λ c may. subst (λ (l : List ℕ). RecoversToLog l files) (sym (earlier.0 c may)) earlier.1 in (
        restarted.only,
        opened_left files before all earlier.1 (disk.seen later) (leaves.each (disk.seen later) restarted.left),
      )

  -- a refused opening of bytes that recover isn't one of damaged bytes
  may_refuse : (files : List File) (bytes : List ℕ) (refusal : Refusal) → RecoversToLog bytes files
      → RefusesVolume bytes refusal → (refusal ≡ Device) ⊎ (refusal ≡ OutOfMemory) ⊎ (refusal ≡ Busy)
  may_refuse files bytes Device recovers refuses = inl refl
  may_refuse files bytes OutOfMemory recovers refuses = inr (inl refl)
  may_refuse files bytes Busy recovers refuses = inr (inr refl)
  may_refuse files bytes Damaged recovers refuses = absurd (refuses.2 files recovers)
  may_refuse files bytes NotAVolume recovers (inl short) =
      let some = recovers.super_block.fits.log.some_homes in
      let long = recovers.recovers.log.long in
      absurd (omega (arith, short, some, long))
  may_refuse files bytes NotAVolume recovers (inr none) =
      let table = recovers.table in
      absurd (none table.sealing (magic table (block_at bytes 0) recovers.super_block))
  may_refuse files bytes Stalled recovers refuses = absurd refuses
  may_refuse files bytes Locked recovers refuses = absurd refuses
  may_refuse files bytes (NotYet n) recovers refuses = absurd refuses
  may_refuse files bytes (Fault code) recovers refuses = absurd refuses
  may_refuse files bytes SegvMapErr recovers refuses = absurd refuses
  may_refuse files bytes SegvAccErr recovers refuses = absurd refuses
  may_refuse files bytes BusAdrErr recovers refuses = absurd refuses
  may_refuse files bytes Held recovers refuses = absurd refuses
  may_refuse files bytes NoFrame recovers refuses = absurd refuses
  may_refuse files bytes Broken recovers refuses = absurd refuses
  may_refuse files bytes Einval recovers refuses = absurd refuses
  may_refuse files bytes Enomem recovers refuses = absurd refuses
  may_refuse files bytes Eacces recovers refuses = absurd refuses
  may_refuse files bytes Overlap recovers refuses = absurd refuses
  may_refuse files bytes NoFile recovers refuses = absurd refuses
  may_refuse files bytes NotResident recovers refuses = absurd refuses
  may_refuse files bytes TraceFull recovers refuses = absurd refuses
  may_refuse files bytes BadShape recovers refuses = absurd refuses

  pub finds : (files : List File) (device : D) → RecoversToLog (disk.seen device) files → FindsOnLog disk files device
  finds files device recovers = record {
    recovers = recovers;
    opened = λ table lengths next after opened. unique (disk.seen device) files
        (log_files_in table (block_at (disk.seen after))) recovers (opens device after table lengths next opened).1;
    refused = λ refusal refuses. may_refuse files (disk.seen device) refusal recovers refuses;
  }

  pub keeps : (files : List File) (lists : List ℕ → Type 0) → ((c : List ℕ) → lists c → RecoversToLog c files)
      → KeepsOnLog disk files lists
  keeps files lists all = λ first later n restarted is.
      finds files later
      (reopened files n first later (restarted.only, all (disk.seen first) restarted.left) is).1

  pub found_after : (files : List File) (histories : List Event → Type 0) (lists : List ℕ → Type 0)
      → ((c : List ℕ) → lists c → ReadsBackOnLog files histories c) → FindsAfterLogCrash disk files histories lists
  found_after files histories lists all = λ first restarted.
      let read = all (disk.seen first) restarted.left in
      let found = files_after files read.prefix in (
        read.history,
        read.is_one,
        found,
        record { prefix = read.prefix; durable = read.durable; files_are = refl },
        λ n later is. finds found later
            (reopened found n first later (restarted.only, read.recovers) is).1,
      )
