use Rattle.std.proofs.Common.{ℕ, List, inl, inr, sym, ap, subst}
use Rattle.std.proofs.lemmas.Result.{IfErr-weaker}
use Rattle.device.specs.Memory.{Recorded, seen_of}
use Rattle.log_volume.specs.Files.{RecoversToLog}
use Rattle.machine_log.specs.Disk.{LogDiskValue}
use Rattle.machine_log.specs.Opening.{RefusesDisk}
use Rattle.crash_table.proofs.Counted.{if_same}
use Rattle.crash_table.proofs.twin.Twin.new.Goals as goal

pub shown_by-requires : goal.shown_by-requires
shown_by-requires g c = record {
  fresh = ap (λ (d : LogDiskValue Recorded). d.memory) c.in-Ok-open.ensures.fresh;
  files = λ files recovers.
      let R : List ℕ → Type 0 = λ bytes. RecoversToLog bytes files in
      let copy_is = ap (λ (d : Recorded). seen_of d) c.in-Ok.ensures in
      c.in-Ok-open.ensures.files tt files (subst R (sym copy_is) recovers);
}

pub returns-in-Ok-open-clause-made : goal.returns-in-Ok-open-clause-made
returns-in-Ok-open-clause-made g c =
    if_same c.shown_by.result c.memory_alone.result _ c.shown_by.ensures c.memory_alone.ensures.same

pub returns-in-Ok-open-clause-refused : goal.returns-in-Ok-open-clause-refused
returns-in-Ok-open-clause-refused g c =
    IfErr-weaker c.memory_alone.result _ _ (λ why is. inl is) c.memory_alone.ensures.memory

pub returns-in-Err-clause-refused : goal.returns-in-Err-clause-refused
returns-in-Err-clause-refused g c =
    let copy_is = ap (λ (d : Recorded). seen_of d) c.in-Ok.ensures in
    let R : List ℕ → Type 0 = λ bytes. RefusesDisk bytes c.in-Err.refused.0 in
    inr (c.in-Err.refused.0, c.why_refused.ensures, subst R copy_is (c.in-Err.ensures.refused tt))
