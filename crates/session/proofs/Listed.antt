-- The files that are listed are those that the bytes of the device recover to.
use Rattle.std.proofs.Common.{◌≡◌, ℕ, zero, suc, ◌+◌, ◌*◌, ◌≤◌, arith, List, [], ◌∷◌, length, length-append}
use Rattle.std.proofs.Common.{length-take, length-drop, map, take, drop, Some, slice_get, refl, sym, ◌∙◌, ap}
use Rattle.device.specs.declared.device.Device.{Ghosts}
use Rattle.volume_codec.specs.Files.{File, TableFile}
use Rattle.volume_codec.specs.Layout.{block_at, first_file_home}
use Rattle.volume_codec.specs.Lengths.{AreLengths, lengths_in}
use Rattle.volume_codec.specs.Recovery.{RecoversTo, blocks_from, files_from}
use Rattle.volume_codec.specs.Super.{SuperValue, names_in, pages_of, total_pages}
use Rattle.recovery.specs.Opening.{HasOpened}
use Rattle.recovery.specs.Volume.{files_of}
use Rattle.machine.specs.declared.act.Shape.{Shape}
use Rattle.machine.specs.State.{Whole}
use Rattle.engine.specs.Engine.{HasStarted}
use Rattle.session.specs.declared.files.FileLine.{FileLine}
use Rattle.session.specs.Files.{AreFiles, AreListed}

long_block : (bytes : List ℕ) (b : ℕ) → 4096 * b + 4096 ≤ length bytes → length (block_at bytes b) ≡ 4096
long_block bytes b fits = omega (arith, length-take 4096 (drop (4096 * b) bytes), length-drop (4096 * b) bytes)

long_blocks : (bytes : List ℕ) (b n : ℕ) → 4096 * (b + n) ≤ length bytes
    → length (blocks_from (block_at bytes) b n) ≡ 4096 * n
long_blocks bytes b zero fits = refl
long_blocks bytes b (suc n) fits =
    let first = long_block bytes b (omega (arith, fits)) in
    let rest = long_blocks bytes (b + 1) n (omega (arith, fits)) in
    omega (arith, length-append (block_at bytes b) (blocks_from (block_at bytes) (b + 1) n), first, rest)

-- the names of the files in contents are those of the table
names_from : (contents : ℕ → List ℕ) (b : ℕ) (fs : List TableFile) (lengths : List ℕ) → length lengths ≡ length fs
    → map (λ (f : File). f.name) (files_from contents b fs lengths) ≡ map (λ (f : TableFile). f.name) fs
names_from contents b [] lengths same = refl
names_from contents b (f ∷ fs) [] same = absurd (omega (arith, same))
names_from contents b (f ∷ fs) (n ∷ lengths) same = ap (λ (l : List (List ℕ)). f.name ∷ l)
    (names_from contents (b + pages_of f.capacity) fs lengths (omega (arith, same)))

-- and each has as many bytes as its length says
lengths_from : (bytes : List ℕ) (b : ℕ) (fs : List TableFile) (lengths : List ℕ) → length lengths ≡ length fs
    → ((i n : ℕ) (f : TableFile) → slice_get fs i ≡ Some f → slice_get lengths i ≡ Some n → n ≤ f.capacity)
    → 4096 * (b + total_pages fs) ≤ length bytes
    → map (λ (f : File). length f.bytes) (files_from (block_at bytes) b fs lengths) ≡ lengths
lengths_from bytes b [] [] same within long = refl
lengths_from bytes b [] (n ∷ lengths) same within long = absurd (omega (arith, same))
lengths_from bytes b (f ∷ fs) [] same within long = absurd (omega (arith, same))
lengths_from bytes b (f ∷ fs) (n ∷ lengths) same within long =
    let pages = pages_of f.capacity in
    let blocks = long_blocks bytes b pages (omega (arith, long)) in
    let few : n ≤ f.capacity = within 0 n f refl refl in
    let first : length (take n (blocks_from (block_at bytes) b pages)) ≡ n =
    omega (arith, length-take n (blocks_from (block_at bytes) b pages), blocks, few) in
    let rest = lengths_from bytes (b + pages) fs lengths (omega (arith, same))
    (λ i m g here there. within (suc i) m g here there) (omega (arith, long)) in
    ap (λ (m : ℕ). m ∷ map (λ (g : File). length g.bytes) (files_from (block_at bytes) (b + pages) fs lengths)) first
    ∙ ap (λ (l : List ℕ). n ∷ l) rest

pub listed_from : {D A : Type 0} (disk : Ghosts D) (before : D) (shape : Shape) (start : Whole D)
    (lines : List (FileLine A)) → HasStarted disk before shape start
    → ((before after : D) (table : SuperValue) → HasOpened disk before table after
    → RecoversTo (disk.seen before) (files_of table (disk.seen after)))
    → AreFiles start.state.table start.state.lengths lines → disk.is_honest before
    → (files : List File) × RecoversTo (disk.seen before) files × AreListed files lines
listed_from {D} disk before shape start lines started recovers are honest =
    let volume = started.volume in
    let table = volume.table in
    let seen = disk.seen volume.device in
    let rest = started.well_formed.at_rest (started.opened.kept.honest.1 honest) in
    let opened = started.opened.ended honest in
    let lengths_are : start.state.lengths ≡ lengths_in table (block_at seen) =
    ap (λ (w : Whole D). w.state.lengths) started.booted ∙ rest.lengths_are in
    let table_is : start.state.table ≡ table = ap (λ (w : Whole D). w.state.table) started.booted in
    let fit : AreLengths table (lengths_in table (block_at seen)) = rest.lengths_fit.are in (
      files_of table seen,
      recovers before volume.device table opened,
      record {
        names_are = are.names_are ∙ ap names_in table_is ∙ sym (names_from (block_at seen)
            (first_file_home table.layout table.slots) table.files (lengths_in table (block_at seen)) fit.count);
        lengths_are = are.lengths_are ∙ lengths_are
            ∙ sym (lengths_from seen (first_file_home table.layout table.slots) table.files
            (lengths_in table (block_at seen)) fit.count fit.within rest.holds.long);
      },
    )
