use Rattle.std.proofs.Common.{◌≡◌, ℕ, List, slice_get, Some, sym, subst}
use Rattle.volume_codec.specs.Files.{File}
use Rattle.volume_reading.specs.declared.any_volume.AnyVolume.{AnyVolume}
use Rattle.volume_reading.specs.Volume.{IsAny, any_files}
use Rattle.volume_reading.proofs.any_volume.AnyVolumeFoundFiles.name.Goals as goal

pub returns-in-Journals : goal.returns-in-Journals
returns-in-Journals g c =
    let P : AnyVolume g.row.A.Denot → Type 0 = λ volume. (bytes : List ℕ) (f : File) → IsAny volume bytes
    → slice_get (any_files volume bytes) c.args.file ≡ Some f → f.name ≡ c.name.result.now in
    record { named = subst P (sym c.in-Journals.is) c.name.ensures.named }

pub returns-in-Log : goal.returns-in-Log
returns-in-Log g c =
    let P : AnyVolume g.row.A.Denot → Type 0 = λ volume. (bytes : List ℕ) (f : File) → IsAny volume bytes
    → slice_get (any_files volume bytes) c.args.file ≡ Some f → f.name ≡ c.name-in-Log.result.now in
    record { named = subst P (sym c.in-Log.is) c.name-in-Log.ensures.named }
