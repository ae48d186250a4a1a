-- A device on which a volume with a log was laid out, and to which the files of a volume were copied: what a crash
-- leaves of it, and what it is once its super block is written.
use Rattle.std.proofs.Common.{◌≡◌, ◌≤◌, inl, inr, ℕ, ◌*◌, Bool, true, List, length, get_or}
use Rattle.std.proofs.Common.{Result, Ok, Err, sym, subst, ◌∙◌, arith}
use Rattle.std.specs.Prelude.{is_ok, OnOk}
use Rattle.std.proofs.lemmas.Bool.{cases_lt}
use Rattle.device.specs.Device.{Torn, TornFrom, LeavesOnly}
use Rattle.device.specs.declared.device.Device.{Ghosts}
use Rattle.device.proofs.Public.{leaves_weaker, leaves_then, torn_before, torn_after}
use Rattle.page_entry.specs.declared.refusal.Refusal.{Refusal}
use Rattle.volume_codec.specs.Super.{total_pages}
use Rattle.recovery.specs.Migration.{AreAccounted, Copies, AreCopied}
use Rattle.recovery.specs.Volume.{VolumeState, IsWellFormed, files_of, bytes_of}
use Rattle.recovery.proofs.Public.{accounts_then, copies_honest, kept_none}
use Rattle.new_volume.specs.Formatting.{IsZero, DidAll}
use Rattle.log_codec.specs.declared.sealing.Sealing.{Sealing}
use Rattle.log_codec.specs.Log.{first_log_file_home}
use Rattle.log_volume.specs.Super.{LogSuperValue, IsLogSuper, log_of, log_super_text}
use Rattle.volume_codec.specs.Layout.{block_at}
use Rattle.log_format.specs.Formatting.{laying_works, finishing_works}
use Rattle.log_format.specs.Fresh.{IsFreshBehind}
use Rattle.log_format.proofs.Crash.{IsBehind, StaysBehind, behind_torn, finishing_left}
use Rattle.log_format.proofs.Finished.{finished_is, finishing_same}
use Rattle.log_format.proofs.Laid.{laid_is, laid_fresh}
use Rattle.log_format.proofs.Fresh.{log_of_fresh, files_of_fresh}
use Rattle.log_format.specs.Migration.{IsFilledLog, IsWrittenByMigration, LeftByLogMigration, HasMigratedToLog}
use Rattle.log_format.specs.inside.Copying.{HasLaidAs}
use Rattle.log_format.proofs.Begun.{did_all_kept, laid_left, laid_blocks, laid_others, behind_left}
use Rattle.log_format.proofs.Filled.{asked_are, filled}

-- a device that was laid out is as honest and as long
module _ {D E : Type 0} (other : Ghosts E) (sealing : Sealing) (ring : ℕ) (volume : VolumeState D)
    (before laid : E) (table : LogSuperValue) (has : HasLaidAs other sealing volume ring before table true laid) where
  pub laid_stays_honest : other.is_honest before → other.is_honest laid
  laid_stays_honest honest = (laid_is other before laid table volume.lengths has.did honest).0

  pub laid_long : 4096 * (log_of table).blocks ≤ length (other.seen laid)
  laid_long =
      let same = (did_all_kept {X = Unit {0}} other (laying_works table volume.lengths) (Ok tt) before laid tt
      has.did).len in
      omega (arith, has.shape.long, same)

module _ {D E : Type 0} (disk : Ghosts D) (other : Ghosts E) (sealing : Sealing) (ring : ℕ) (volume : VolumeState D)
    (well_formed : IsWellFormed disk volume) (before laid : E) (table : LogSuperValue)
    (has : HasLaidAs other sealing volume ring before table true laid) {X : Type 0} {result : Result X Refusal}
    {after : VolumeState D} {copied : E}
    (copies : Copies disk other (4096 * first_log_file_home table.ring) (4096 * total_pages table.files) volume laid
    result after copied) where
  some : 1 ≤ (log_of table).blocks
  some = omega (arith, has.shape.asked.fits.log.some_homes)

  laid_honest : other.is_honest before → other.is_honest laid
  laid_honest honest = laid_stays_honest other sealing ring volume before laid table has honest

  -- the volume's files were copied behind the lengths
  abbrev HasEach : Type 0
  HasEach = AreCopied (first_log_file_home table.ring) volume.table.files volume.lengths
      (bytes_of (files_of volume.table (disk.seen volume.device))) (length volume.table.files) (other.seen laid)
      (other.seen copied)

  copied_honest : other.is_honest before → other.is_honest copied
  copied_honest honest = (copies_honest copies).1 (laid_honest honest)

  -- files are written behind the lengths, within the volume
  copied_behind : (c : List ℕ)
      → TornFrom (4096 * first_log_file_home table.ring) (4096 * total_pages table.files) (other.may_leave laid) c
      → IsBehind (log_of table).blocks (other.may_leave before) c
  copied_behind c torn =
      behind_torn other (log_of table).blocks (other.may_leave before) (4096 * first_log_file_home table.ring)
      (4096 * total_pages table.files) laid (omega arith) (omega arith)
      (laid_left disk other sealing ring volume before table true laid has).0 c torn

  copied_stays : StaysBehind other (log_of table).blocks (other.may_leave before) copied
  copied_stays c left = copied_behind c (copies.left c left)

  pub copied_crash : LeavesOnly other.moment other.left_since before copied
      (LeftByLogMigration disk other sealing ring volume before)
  copied_crash =
      leaves_weaker (leaves_then (laid_left disk other sealing ring volume before table true laid has).1
      (leaves_weaker copies.time copied_behind)) (behind_left disk other sealing ring volume before table true laid has)

  pub copied_others : other.is_honest before → (i : ℕ) → ¬ IsWrittenByMigration table i
      → get_or (other.seen copied) i 0 ≡ get_or (other.seen before) i 0
  copied_others honest i not =
      let torn = copies.torn (laid_honest honest) in
      let stays : get_or (other.seen copied) i 0 ≡ get_or (other.seen laid) i 0 =
      elim (cases_lt i (4096 * first_log_file_home table.ring)) [
        | inl low ↦ torn_before torn i low
        | inr from ↦ elim (cases_lt i (4096 * (log_of table).blocks)) [
          | inl within ↦ absurd (not (inr (inr (omega (arith, from), within))))
          | inr past ↦ torn_after torn i (omega (arith, past))
        ]
      ] in
      stays ∙ laid_others disk other sealing ring volume before table true laid has honest i not

  pub copied_kept : AreAccounted disk other volume.device before result after.device copied
  copied_kept =
      let first : AreAccounted {X = Unit {0}} disk other volume.device before (Ok tt) volume.device laid = inr (
        kept_none disk volume.device,
        did_all_kept other (laying_works table volume.lengths) (Ok tt) before laid tt has.did,
      ) in
      accounts_then first copies.accounts

  pub copied_long : 4096 * (log_of table).blocks ≤ length (other.seen copied)
  copied_long =
      omega (arith, laid_long other sealing ring volume before laid table has, (copies_honest copies).2)

  fresh_laid : other.is_honest before → IsZero (other.seen before)
      → IsFreshBehind table volume.lengths (other.seen laid)
  fresh_laid honest blank =
      let P : List ℕ → Type 0 = λ l. IsFreshBehind table volume.lengths l in
      subst P (sym (laid_is other before laid table volume.lengths has.did honest).1)
      (laid_fresh table volume.lengths (other.seen before) has.shape.asked.fits.log has.shape.long
      (laid_blocks disk other sealing ring volume before table true laid has) blank)

  filled_torn : other.is_honest before → IsZero (other.seen before)
      → (disk.is_honest volume.device → HasEach) → (c : List ℕ) → Torn 0 4096 (other.seen copied) c
      → IsFilledLog disk volume table c
  filled_torn honest blank each c torn =
      filled disk volume well_formed sealing ring table has.shape.asked (other.seen laid) (other.seen copied) c
      (fresh_laid honest blank) (copies.torn (laid_honest honest)) torn each

  module _ (whole : length (log_super_text table) ≡ 4096) (final : E) where
    pub final_others : (done : Bool) → DidAll other copied (finishing_works table) done final → other.is_honest before
        → (i : ℕ) → ¬ IsWrittenByMigration table i → get_or (other.seen final) i 0 ≡ get_or (other.seen before) i 0
    final_others done did honest i not =
        let past : 4096 ≤ i = elim (cases_lt i 4096) [
          | inl first ↦ absurd (not (inl first))
          | inr past ↦ past
        ] in
        finishing_same other table whole copied final (omega (arith, copied_long, some)) (copied_honest honest) done
        did i past ∙ copied_others honest i not

    pub final_crash : (done : Bool) → DidAll other copied (finishing_works table) done final → other.is_honest before
        → IsZero (other.seen before)
        → (disk.is_honest volume.device → HasEach) → LeavesOnly other.moment other.left_since before final
        (LeftByLogMigration disk other sealing ring volume before)
    final_crash done did honest blank each =
        leaves_then copied_crash (leaves_weaker (finishing_left other table (log_of table).blocks some
        (IsFilledLog disk volume table) (other.may_leave before) whole done copied final copied_stays
        (copied_honest honest) (filled_torn honest blank each) did) (λ c partly. inr (table, has.shape, partly)))

    migrated : DidAll other copied (finishing_works table) true final → disk.is_honest volume.device
        → other.is_honest before → IsZero (other.seen before) → HasEach
        → HasMigratedToLog disk other sealing ring volume before final
    migrated did honest on_other blank each =
        let end = finished_is other table whole copied final (omega (arith, copied_long, some))
        (copied_honest on_other) did in
        let rest : IsFilledLog disk volume table (other.seen final) =
        filled_torn on_other blank (λ h. each) (other.seen final) end.torn in
        let first : IsLogSuper table (block_at (other.seen final) 0) =
        record { fits = has.shape.asked.fits; spelled = end.table_is } in
        record {
          table = table;
          shape = has.shape;
          super_block = first;
          filled = rest;
          log = log_of_fresh table (other.seen final) has.shape.asked.fits.log rest.log;
          recovers = files_of_fresh table volume.lengths (other.seen final)
              (files_of volume.table (disk.seen volume.device)) first rest.log
              (asked_are disk volume well_formed sealing ring table has.shape.asked) rest.lengths_block
              (sym (rest.files honest));
          synced = end.synced;
        }

    pub final_migrated : {Y : Type 0} (last : Result Y Refusal)
        → DidAll other copied (finishing_works table) (is_ok last) final → disk.is_honest volume.device
        → other.is_honest before → IsZero (other.seen before) → HasEach
        → OnOk last (HasMigratedToLog disk other sealing ring volume before final)
    final_migrated (Ok y) did honest on_other blank each = migrated did honest on_other blank each
    final_migrated (Err e) did honest on_other blank each = tt
