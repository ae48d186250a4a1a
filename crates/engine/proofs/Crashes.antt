-- What a crash since an opening began leaves, where nothing was run after it.
use Rattle.std.proofs.Common.{inl, inr, ℕ, List}
use Rattle.device.specs.Device.{LeavesOnly}
use Rattle.device.specs.declared.device.Device.{Ghosts}
use Rattle.device.proofs.Public.{leaves_weaker}
use Rattle.volume_codec.specs.Files.{File}
use Rattle.volume_codec.specs.Recovery.{RecoversTo}
use Rattle.page_entry.specs.declared.refusal.Refusal.{Refusal}
use Rattle.recovery.specs.Opening.{LeftByOpening}
use Rattle.recovery.proofs.Reopened.{being_recovers}
use Rattle.machine.specs.declared.act.Shape.{Shape}
use Rattle.engine.specs.Engine.{HasNotStarted}

module _ {D : Type 0} (disk : Ghosts D)
    (seen_is_left : (device : D) → disk.is_honest device → disk.may_leave device (disk.seen device)) where
  -- what a crash leaves of an opening recovers to the files
  opening_recovers : (before : D) (files : List File) → RecoversTo (disk.seen before) files
      → ((c : List ℕ) → disk.may_leave before c → RecoversTo c files) → (c : List ℕ) → LeftByOpening disk before c
      → RecoversTo c files
  opening_recovers before files recovered all c (inl may) = all c may
  opening_recovers before files recovered all c (inr (table, batches, volume, being)) = record {
    table = recovered.table;
    contents = recovered.contents;
    recovers = being_recovers table recovered.table batches recovered.contents
        (disk.seen before) c volume being recovered.recovers;
    lengths = recovered.lengths;
    files_are = recovered.files_are;
  }

  pub since_refusal : (before after : D) (shape : Shape) (refusal : Refusal) (files : List File)
      → HasNotStarted disk before shape after refusal → disk.is_honest before
      → ((c : List ℕ) → disk.may_leave before c → RecoversTo c files)
      → LeavesOnly disk.moment disk.left_since before after (λ c. RecoversTo c files)
  since_refusal before after shape refusal files (inl opens) honest all =
      leaves_weaker (opens.within honest)
      (opening_recovers before files (all (disk.seen before) (seen_is_left before honest)) all)
  since_refusal before after shape refusal files (inr (table, opens, why)) honest all =
      leaves_weaker (opens.within honest)
      (opening_recovers before files (all (disk.seen before) (seen_is_left before honest)) all)
