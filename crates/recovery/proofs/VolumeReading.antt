-- The files of a volume that was opened, and is only read since.
use Rattle.std.proofs.Common.{◌≡◌, ◌<◌, ◌≤◌, ℕ, zero, suc, ◌+◌, List, [], ◌∷◌, length, map}
use Rattle.std.proofs.Common.{slice_get, Some, refl, sym, ◌∙◌, ap, arith}
use Rattle.device.specs.declared.device.Device.{Ghosts}
use Rattle.volume_codec.specs.Files.{File, TableFile}
use Rattle.volume_codec.specs.Layout.{block_at, first_file_home}
use Rattle.volume_codec.specs.Super.{pages_of, total_pages}
use Rattle.volume_codec.specs.Lengths.{lengths_in}
use Rattle.volume_codec.specs.Recovery.{files_from}
use Rattle.volume_codec.proofs.Public.{length-block_at, length-file}
use Rattle.recovery.specs.Volume.{VolumeState, IsWellFormed, files_of, bytes_of}
use Rattle.recovery.specs.VolumeReading.{IsVolumeOnlyRead, HasLengthsOf}

lengths_from : (contents : ℕ → List ℕ) (b : ℕ) (fs : List TableFile) (lengths : List ℕ) → length lengths ≡ length fs
    → ((i n : ℕ) (f : TableFile) → slice_get fs i ≡ Some f → slice_get lengths i ≡ Some n → n ≤ f.capacity)
    → ((i : ℕ) → i < b + total_pages fs → length (contents i) ≡ 4096)
    → map (λ (f : File). length f.bytes) (files_from contents b fs lengths) ≡ lengths
lengths_from contents b [] [] count within whole = refl
lengths_from contents b [] (n ∷ ns) count within whole = absurd (omega (arith, count))
lengths_from contents b (f ∷ fs) [] count within whole = absurd (omega (arith, count))
lengths_from contents b (f ∷ fs) (n ∷ ns) count within whole =
    let first = length-file contents b n f.capacity (λ i low high. whole i (omega arith)) (within 0 n f refl refl) in
    let rest = lengths_from contents (b + pages_of f.capacity) fs ns (omega (arith, count))
    (λ i m g file size. within (suc i) m g file size) (λ i high. whole i (omega arith)) in
    λ i. first i ∷ rest i

-- a volume as it was opened
pub lengths_of_well_formed : {D : Type 0} (disk : Ghosts D) (volume : VolumeState D) → IsWellFormed disk volume
    → disk.is_honest volume.device → HasLengthsOf volume (disk.seen volume.device)
lengths_of_well_formed disk volume well_formed honest =
    let bytes = disk.seen volume.device in
    let b = first_file_home volume.table.layout volume.table.slots in
    let rest = well_formed.at_rest honest in
    let whole : (i : ℕ) → i < b + total_pages volume.table.files → length (block_at bytes i) ≡ 4096 =
    λ i high. length-block_at bytes i (let long = well_formed.long in omega arith) in
    lengths_from (block_at bytes) b volume.table.files (lengths_in volume.table (block_at bytes))
    rest.lengths_fit.are.count rest.lengths_fit.are.within whole ∙ sym rest.lengths_are

-- a volume that was only read has the same files
pub files_read : {D : Type 0} (disk : Ghosts D) (old new : VolumeState D) → IsVolumeOnlyRead disk old new
    → disk.is_honest old.device → files_of new.table (disk.seen new.device) ≡ files_of old.table (disk.seen old.device)
files_read disk old new only honest =
    ap (λ t. files_of t (disk.seen new.device)) only.table ∙ ap (files_of old.table) (only.same honest)

pub lengths_after_reading : {D : Type 0} (disk : Ghosts D) (old new : VolumeState D) → IsVolumeOnlyRead disk old new
    → disk.is_honest old.device → HasLengthsOf old (disk.seen old.device) → HasLengthsOf new (disk.seen new.device)
lengths_after_reading disk old new only honest are =
    ap (map (λ (f : File). length f.bytes)) (files_read disk old new only honest) ∙ are ∙ sym only.lengths

-- a volume that was only read, and then again
pub volume_read_then : {D : Type 0} (disk : Ghosts D) (old mid new : VolumeState D) → IsVolumeOnlyRead disk old mid
    → IsVolumeOnlyRead disk mid new → IsVolumeOnlyRead disk old new
volume_read_then disk old mid new first second = record {
  table = second.table ∙ first.table;
  lengths = second.lengths ∙ first.lengths;
  honest = (λ h. first.honest.0 (second.honest.0 h), λ h. second.honest.1 (first.honest.1 h));
  same = λ h. second.same (first.honest.1 h) ∙ first.same h;
}

-- the length of file i
length_at : (files : List File) (i n : ℕ) → slice_get (map (λ (f : File). length f.bytes) files) i ≡ Some n
    → length (bytes_of files i) ≡ n
length_at [] i n e = cc
length_at (f ∷ fs) zero n e = let same : Some (length f.bytes) ≡ Some n = e in cc
length_at (f ∷ fs) (suc i) n e = length_at fs i n e

pub length_of_file : {D : Type 0} (volume : VolumeState D) (bytes : List ℕ) (file n : ℕ) → HasLengthsOf volume bytes
    → slice_get volume.lengths file ≡ Some n → length (bytes_of (files_of volume.table bytes) file) ≡ n
length_of_file volume bytes file n are long =
    length_at (files_of volume.table bytes) file n (ap (λ lengths. slice_get lengths file) are ∙ long)
