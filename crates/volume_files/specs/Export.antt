-- Copies of single files of a volume.
use Rattle.std.specs.Prelude.{ℕ, ◌≡◌, ◌≢◌, List, length, slice_get, Some}
use Rattle.volume_codec.specs.Files.{File}
use Rattle.volume_reading.specs.Volume.{RecoversToAny}
use Rattle.volume_files.specs.declared.copying.CopyFault.{CopyFault}
use Rattle.volume_files.specs.declared.copying.CopyFault.TheVariants.{NoFile, Pages}

-- The copy contains exactly the bytes of the file with this name. `count` is their number.
pub record IsCopied (files : List File) (name copy : List ℕ) (count : ℕ) : Type 0 where
  pub number : ℕ
  pub file : File
  pub there : slice_get files number ≡ Some file
  pub named : file.name ≡ name
  pub whole : copy ≡ file.bytes
  pub counted : count ≡ length file.bytes

-- A device with these bytes recovers to files, and the copy is that of the file with this name.
pub record IsExported (bytes name copy : List ℕ) (count : ℕ) : Type 0 where
  pub files : List File
  pub recovers : RecoversToAny bytes files
  pub copied : IsCopied files name copy count

-- No file has this name.
abbrev pub HasNone : List File → List ℕ → Type 0
HasNone files name = (i : ℕ) (file : File) → slice_get files i ≡ Some file → file.name ≢ name

-- `NoFile`: a device with these bytes recovers to files, and none of them has this name. Any other fault is possible
-- with any bytes.
abbrev pub IsNotExported : List ℕ → List ℕ → CopyFault → Type 0
IsNotExported bytes name NoFile = (files : List File) × RecoversToAny bytes files × HasNone files name
IsNotExported bytes name (Pages fault) = Unit {0}
