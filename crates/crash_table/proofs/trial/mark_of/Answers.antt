use Rattle.std.proofs.Common.{subst, sym}
use Rattle.device.specs.Memory.{Recorded, seen_of}
use Rattle.volume_codec.specs.Recovery.{RecoversTo}
use Rattle.crash_table.proofs.trial.mark_of.Goals as goal

pub returns-clause-kept : goal.returns-clause-kept
returns-clause-kept g c = λ files recovered.
    let P : Recorded → Type 0 = λ disk. RecoversTo (seen_of disk) files in (
      c.args.number,
      c.requires,
      c.in_ok-files.ensures.made,
      c.in_ok-files.ensures.kept tt files (subst P (sym c.in_ok-disk.ensures) recovered),
    )
