-- A device on which a volume with a log was laid out, and to which the files of a volume were copied, is filled.
use Rattle.std.proofs.Common.{◌≡◌, ◌≤◌, ◌<◌, ℕ, ◌*◌, List, length, slice_get, Some, refl, sym, ap, subst, ◌∙◌, arith}
use Rattle.device.specs.Device.{Torn}
use Rattle.device.specs.declared.device.Device.{Ghosts}
use Rattle.volume_codec.specs.Files.{TableFile}
use Rattle.volume_codec.specs.Layout.{block_at}
use Rattle.volume_codec.specs.Lengths.{AreLengths}
use Rattle.volume_codec.specs.Recovery.{files_from}
use Rattle.volume_codec.specs.Super.{total_pages}
use Rattle.recovery.specs.Migration.{asked_of, AreCopied}
use Rattle.recovery.specs.Volume.{VolumeState, IsWellFormed, files_of, bytes_of}
use Rattle.recovery.proofs.Public.{again_files, block_at-before, block_at-after, copied_as, copied_part, copied_tail}
use Rattle.recovery.proofs.Public.{same_files}
use Rattle.log_codec.specs.declared.sealing.Sealing.{Sealing}
use Rattle.log_codec.specs.Log.{first_log_home, first_log_file_home}
use Rattle.log_volume.specs.Super.{LogSuperValue, table_of}
use Rattle.log_format.specs.Asked.{IsLogAsked}
use Rattle.log_format.specs.Fresh.{IsFreshLog, IsFreshBehind}
use Rattle.log_format.specs.Migration.{IsFilledLog}

module _ {D : Type 0} (disk : Ghosts D) (volume : VolumeState D) (well_formed : IsWellFormed disk volume)
    (sealing : Sealing) (ring : ℕ) (table : LogSuperValue) (asked : IsLogAsked sealing (asked_of volume) ring table)
  where
    pub asked_files : table.files ≡ volume.table.files
    asked_files =
        asked.files_are ∙ again_files volume.table.files volume.lengths well_formed.lengths.count

    pub asked_are : AreLengths (table_of table) volume.lengths
    asked_are =
        let P : List TableFile → Type 0 = λ fs. (i n : ℕ) (f : TableFile) → slice_get fs i ≡ Some f
        → slice_get volume.lengths i ≡ Some n → n ≤ f.capacity in
        record {
          count = well_formed.lengths.count ∙ sym (ap length asked_files);
          within = subst P (sym asked_files) well_formed.lengths.within;
        }

    module _ (laid copied final : List ℕ) (fresh : IsFreshBehind table volume.lengths laid)
        (torn : Torn (4096 * first_log_file_home table.ring) (4096 * total_pages table.files) laid copied)
        (first : Torn 0 4096 copied final) where
      -- a block between block 0 and the files
      kept_block : (b : ℕ) → 0 < b → b < first_log_file_home table.ring → block_at final b ≡ block_at laid b
      kept_block b some low =
          block_at-after first b (omega (arith, some)) ∙ block_at-before torn b (omega (arith, low))

      fresh_log_stays : IsFreshLog table final
      fresh_log_stays = record {
        long = omega (arith, fresh.log.long, torn.same_length, first.same_length);
        start = kept_block 2 (omega arith) (omega arith) ∙ fresh.log.start;
        blank = λ b some apart high. kept_block b some (omega (arith, high)) ∙ fresh.log.blank b some apart high;
      }

      pub filled : (disk.is_honest volume.device
          → AreCopied (first_log_file_home table.ring) volume.table.files volume.lengths
          (bytes_of (files_of volume.table (disk.seen volume.device))) (length volume.table.files) laid copied)
          → IsFilledLog disk volume table final
      filled each = record {
        log = fresh_log_stays;
        lengths_block = kept_block (first_log_home table.ring) (omega arith) (omega arith) ∙ fresh.lengths_block;
        files = λ honest.
            let home = first_log_file_home table.ring in
            ap (λ (fs : List TableFile). files_from (block_at final) home fs volume.lengths) asked_files
            ∙ same_files home volume.table volume.lengths final (disk.seen volume.device) well_formed.lengths
            (well_formed.at_rest honest).lengths_are
            (copied_part home (omega arith) volume.table volume.lengths _ laid copied final (each honest) first);
        tails = λ honest.
            let home = first_log_file_home table.ring in
            copied_tail home (omega arith) (table_of table) volume.lengths _ laid copied final
            (copied_as refl (sym asked_files) (each honest)) first asked_are fresh.homes;
      }
