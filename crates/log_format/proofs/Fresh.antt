-- A fresh volume has a log without commits, and recovers to files of zeros.
use Rattle.std.proofs.Common.{◌≡◌, ℕ, zero, suc, ◌+◌, ◌*◌, ◌%◌, ◌<◌, ◌≤◌, List, [], ◌∷◌, ◌++◌, length, take, drop}
use Rattle.std.proofs.Common.{map, replicate, slice_get, slice_index, get_or, Some, refl, sym, ap, subst, ◌∙◌, arith}
use Rattle.std.specs.List.{AllByRecursion}
use Rattle.std.proofs.lemmas.List.{get_or-take, get_or-drop, get_or-replicate, length-map}
use Rattle.std.proofs.lemmas.List.{take-replicate, replicate-append-replicate}
use Rattle.volume_codec.specs.Files.{File, TableFile, AskedFile, lengths_asked}
use Rattle.volume_codec.specs.Layout.{block_at}
use Rattle.volume_codec.specs.Lengths.{AreLengths, IsLengths, lengths_text}
use Rattle.volume_codec.specs.Recovery.{blocks_from, files_from}
use Rattle.volume_codec.specs.Super.{pages_of, total_pages}
use Rattle.volume_codec.specs.Text.{zeros, number_in}
use Rattle.volume_codec.proofs.Public.{reads_lengths}
use Rattle.recovery.specs.Format.{zero_files}
use Rattle.log_codec.specs.declared.broken.Broken.TheVariants.{Count}
use Rattle.log_codec.specs.declared.sealing.Sealing.{Sealing}
use Rattle.log_codec.specs.declared.sealing.Sealing.TheVariants.{ByByte, ByDigest}
use Rattle.log_codec.specs.Broken.{records_said}
use Rattle.log_codec.specs.Log.{IsLog, ring_block, first_log_home, first_log_file_home}
use Rattle.log_codec.specs.Start.{IsStartBlock, counts_second, start_block}
use Rattle.log_codec.specs.Chain.{HasLog, LogEndsAt}
use Rattle.log_codec.proofs.Public.{next_first}
use Rattle.log_volume.specs.Super.{LogSuperValue, IsLogSuper, table_of, log_of}
use Rattle.log_volume.specs.Files.{RecoversToLog, log_lengths_in}
use Rattle.log_format.specs.Asked.{IsLogAsked}
use Rattle.log_format.specs.Fresh.{IsFreshLog, IsFreshVolume, first_log_start}
use Rattle.log_format.proofs.Tables.{file_of}

zeros_are : (n : ℕ) → zeros n ≡ replicate n 0
unfolding zeros
zeros_are n = refl

pub zero_at : (n k : ℕ) → k < n → get_or (zeros n) k 0 ≡ 0
unfolding zeros
zero_at n k low = get_or-replicate n k 0 0 low

-- a block of zeros says no records
no_records : records_said (zeros 4096) ≡ 0
unfolding zeros number_in
no_records = refl

module _ (table : LogSuperValue) (bytes : List ℕ) (log : IsLog (log_of table))
    (long : 4096 * (log_of table).blocks ≤ length bytes)
    (first : block_at bytes (ring_block table.ring 0) ≡ zeros 4096) where
  -- the log ends at its first position
  ends : (sealing : Sealing) → LogEndsAt sealing (log_of table) 1 0 1 table.ring bytes
  ends ByByte = λ is.
      let none : slice_index (block_at bytes (ring_block table.ring 0)) 0 ≡ 0 =
      ap (λ (l : List ℕ). get_or l 0 0) first ∙ zero_at 4096 0 (omega arith) in
      omega (arith, none, is)
  ends (ByDigest key) = λ d next.
      let said = (next_first (log_of table) 1 0 1 table.ring d bytes Count log long next).0 in
      let none = sym said ∙ ap records_said first ∙ no_records in
      omega (arith, none, next.sealed.logged.size.some)

pub log_of_fresh : (table : LogSuperValue) (bytes : List ℕ) → IsLog (log_of table) → IsFreshLog table bytes
    → HasLog (log_of table) first_log_start [] bytes
log_of_fresh table bytes log fresh =
    let some = log.some_ring in
    let more = log.some_homes in
    let within : 0 % table.ring < table.ring = omega (arith, some) in
    let none : 0 % table.ring ≡ 0 = omega (arith, some) in
    let selecting : slice_index bytes 4096 ≡ 0 =
    sym (get_or-take 4096 (drop 4096 bytes) 0 0 (omega arith) ∙ get_or-drop 4096 bytes 0 0)
    ∙ ap (λ (l : List ℕ). get_or l 0 0) (fresh.blank 1 (omega arith) (λ is. omega (arith, is)) (omega (arith, some)))
    ∙ zero_at 4096 0 (omega arith) in
    let P : ℕ → Type 0 = λ byte. IsStartBlock table.ring first_log_start
    (block_at bytes (start_block (counts_second byte))) in
    record {
      long = fresh.long;
      start = subst P (sym selecting) (record {
        start = record {
          within = omega (arith, some);
          some_number = omega arith;
          small_number = omega arith;
          some_epoch = omega arith;
          small_epoch = omega arith;
        };
        spelled = fresh.start;
      });
      commits = ends table bytes log fresh.long
          (fresh.blank (ring_block table.ring 0) (omega (arith, none)) (λ is. omega (arith, none, is))
          (omega (arith, none, some)))
          table.sealing;
    }

pub fresh_log : (table : LogSuperValue) (lengths bytes : List ℕ) → IsFreshVolume table lengths bytes
    → HasLog (log_of table) first_log_start [] bytes
fresh_log table lengths bytes fresh = log_of_fresh table bytes fresh.super_block.fits.log fresh.rest.log

-- the files of a volume whose log has no commit are those in its home blocks
pub files_of_fresh : (table : LogSuperValue) (lengths bytes : List ℕ) (files : List File)
    → IsLogSuper table (block_at bytes 0) → IsFreshLog table bytes → AreLengths (table_of table) lengths
    → block_at bytes (first_log_home table.ring) ≡ lengths_text lengths
    → files ≡ files_from (block_at bytes) (first_log_file_home table.ring) table.files lengths
    → RecoversToLog bytes files
files_of_fresh table lengths bytes files first fresh are spelled has =
    let contents : ℕ → List ℕ = block_at bytes in
    let home = first_log_home table.ring in
    let is : IsLengths (table_of table) lengths (contents home) = record { are = are; spelled = spelled } in
    let said : log_lengths_in table contents ≡ lengths =
    reads_lengths (table_of table) lengths (contents home) first.fits.table is in
    let P : List ℕ → Type 0 = λ l. IsLengths (table_of table) l (contents home) in
    record {
      table = table;
      contents = contents;
      super_block = first;
      recovers = record {
        start = first_log_start;
        chain = [];
        log = log_of_fresh table bytes first.fits.log fresh;
        contents_are = λ b home. refl;
      };
      lengths = subst P (sym said) is;
      files_are = has ∙ ap (files_from contents (first_log_file_home table.ring) table.files) (sym said);
    }

-- home blocks of zeros are zeros
blank_blocks : (contents : ℕ → List ℕ) (b n : ℕ) → ((i : ℕ) → b ≤ i → i < b + n → contents i ≡ zeros 4096)
    → blocks_from contents b n ≡ replicate (4096 * n) 0
blank_blocks contents b zero blank = refl
blank_blocks contents b (suc n) blank =
    let rest = blank_blocks contents (b + 1) n (λ i low high. blank i (omega (arith, low)) (omega (arith, high))) in
    let size : 4096 + 4096 * n ≡ 4096 * suc n = omega arith in
    ap (λ (l : List ℕ). l ++ blocks_from contents (b + 1) n)
    (blank b (omega arith) (omega arith) ∙ zeros_are 4096)
    ∙ ap (λ (l : List ℕ). replicate 4096 0 ++ l) rest
    ∙ replicate-append-replicate 4096 (4096 * n) 0 ∙ ap (λ m. replicate m 0) size

-- files whose home blocks are zeros
blank_from : (contents : ℕ → List ℕ) (b : ℕ) (files : List AskedFile)
    → AllByRecursion (λ f. f.length ≤ f.capacity) files
    → ((i : ℕ) → b ≤ i → i < b + total_pages (map file_of files) → contents i ≡ zeros 4096)
    → zero_files files ≡ files_from contents b (map file_of files) (lengths_asked files)
blank_from contents b [] lengths blank = refl
blank_from contents b (f ∷ fs) lengths blank =
    let n = pages_of f.capacity in
    let le = lengths.0 in
    let bytes : replicate f.length 0 ≡ take f.length (blocks_from contents b n) =
    sym (ap (take f.length) (blank_blocks contents b n (λ i low high. blank i low (omega (arith, high))))
    ∙ take-replicate f.length (4096 * n) 0 (omega (arith, le))) in
    let rest = blank_from contents (b + n) fs lengths.1
    (λ i low high. blank i (omega (arith, low)) (omega (arith, high))) in
    ap (λ (x : List ℕ). let r : File = record { name = f.name; bytes = x; capacity = f.capacity } in
    r ∷ zero_files fs) bytes
    ∙ ap (λ (xs : List File). let r : File = record {
      name = f.name;
      bytes = take f.length (blocks_from contents b n);
      capacity = f.capacity;
    } in r ∷ xs) rest

-- no length is above the capacity
within_at : (files : List AskedFile) → AllByRecursion (λ f. f.length ≤ f.capacity) files → (i n : ℕ) (t : TableFile)
    → slice_get (map file_of files) i ≡ Some t → slice_get (lengths_asked files) i ≡ Some n → n ≤ t.capacity
within_at [] lengths i n t file size = cc
within_at (f ∷ fs) lengths zero n t file size =
    let row : file_of f ≡ t = cc in
    let said : f.length ≡ n = cc in
    omega (arith, lengths.0, ap (λ (x : TableFile). x.capacity) row, said)
within_at (f ∷ fs) lengths (suc i) n t file size = within_at fs lengths.1 i n t file size

pub asked_lengths : (sealing : Sealing) (ring : ℕ) (files : List AskedFile) (table : LogSuperValue)
    → IsLogAsked sealing files ring table → AreLengths (table_of table) (lengths_asked files)
asked_lengths sealing ring files table asked =
    let P : List TableFile → Type 0 = λ fs. (i n : ℕ) (t : TableFile) → slice_get fs i ≡ Some t
    → slice_get (lengths_asked files) i ≡ Some n → n ≤ t.capacity in
    record {
      count = length-map files (λ (f : AskedFile). f.length)
          ∙ sym (ap length asked.files_are ∙ length-map files file_of);
      within = subst P (sym asked.files_are) (within_at files asked.lengths);
    }

pub fresh_files : (sealing : Sealing) (ring : ℕ) (files : List AskedFile) (table : LogSuperValue) (bytes : List ℕ)
    → IsLogAsked sealing files ring table → IsFreshVolume table (lengths_asked files) bytes
    → RecoversToLog bytes (zero_files files)
fresh_files sealing ring files table bytes asked fresh =
    let Q : List TableFile → Type 0 = λ fs.
    (((i : ℕ) → first_log_file_home table.ring ≤ i → i < first_log_file_home table.ring + total_pages fs
    → block_at bytes i ≡ zeros 4096)
    → zero_files files ≡ files_from (block_at bytes) (first_log_file_home table.ring) fs (lengths_asked files)) in
    files_of_fresh table (lengths_asked files) bytes (zero_files files) fresh.super_block fresh.rest.log
    (asked_lengths sealing ring files table asked) fresh.rest.lengths_block
    (subst Q (sym asked.files_are) (blank_from (block_at bytes) (first_log_file_home table.ring) files asked.lengths)
    (λ i low high. fresh.rest.homes i low high))
