-- A volume found on a device.
use Rattle.device.specs.declared.device.Device.{Ghosts}
use Rattle.volume_codec.specs.Layout.{block_at}
use Rattle.volume_codec.specs.Lengths.{IsLengths}
use Rattle.log_codec.specs.Log.{first_log_home}
use Rattle.log_codec.specs.Chain.{contents_of_log}
use Rattle.log_volume.specs.Super.{IsLogSuper, table_of, log_of}
use Rattle.log_recovery.specs.Reading.{chain_of}
use Rattle.log_opening.specs.declared.volume.FoundVolume.{FoundVolume}
use Rattle.log_opening.specs.inside.Keeping.{IsLookedAt}

-- The device's super block has this table, its log was found, and the recovered lengths block has these lengths.
pub record IsFoundVolume {D Z : Type 0} (disk : Ghosts D) (old : D) (found : FoundVolume Z) (new : D) : Type 0 where
  pub super_block : IsLogSuper found.table (block_at (disk.seen old) 0)
  pub looked : IsLookedAt disk (log_of found.table) found.looked.found found.looked.next new
  pub lengths_are : IsLengths (table_of found.table) found.lengths.items
      (contents_of_log (log_of found.table) found.looked.found.start.position
      (chain_of found.looked.found.commits.items) (disk.seen old) (first_log_home found.table.ring))
