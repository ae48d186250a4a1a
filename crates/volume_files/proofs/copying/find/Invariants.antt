use Rattle.std.proofs.Common.{◌≡◌, ◌≢◌, ℕ, List, ◌<◌, slice_get, Some}
use Rattle.volume_codec.specs.Files.{File}
use Rattle.volume_files.proofs.copying.find.Given as goal

abbrev pub invariant-loop-file : goal.invariant-loop-file
invariant-loop-file g l = (bytes : List ℕ) → g.V.FoundFiles.is_in l.volume bytes → (i : ℕ) → i < l.file → (f : File)
    → slice_get (g.V.FoundFiles.files l.volume bytes) i ≡ Some f → f.name ≢ l.name
