-- What was formatted recovers to files of zeros, and so after any number of openings.
use Rattle.std.proofs.Common.{◌≡◌, ◌<◌, ◌≤◌, ◌⊎◌, true, ℕ, ◌+◌, List, [], ◌∷◌, map, replicate}
use Rattle.std.proofs.Common.{Result, Ok, Err, MatchResult, refl, sym, ◌∙◌, ap, subst, arith}
use Rattle.std.specs.List.{AllByRecursion}
use Rattle.device.specs.declared.device.Device.{Ghosts}
use Rattle.page_entry.specs.declared.refusal.Refusal.{Refusal}
use Rattle.page_entry.specs.declared.refusal.Refusal.TheVariants.{Device, OutOfMemory}
use Rattle.volume_codec.specs.Files.{File, TableFile, AskedFile, lengths_asked}
use Rattle.volume_codec.specs.Layout.{first_file_home, block_at}
use Rattle.volume_codec.specs.Text.{zeros}
use Rattle.volume_codec.specs.Super.{SuperValue, IsAsked, pages_of, total_pages}
use Rattle.volume_codec.specs.Recovery.{Recovers, RecoversTo, files_from, files_in}
use Rattle.volume_codec.proofs.Batches.{one_contents}
use Rattle.volume_codec.proofs.Lengths.{table_file, asked_le, asked_lengths_in, asked_has_lengths}
use Rattle.volume_codec.proofs.Recovered.{blank_file, files_in-same}
use Rattle.recovery.specs.Volume.{files_of}
use Rattle.recovery.specs.Format.{zero_files, IsBlank, HasFormatted}
use Rattle.recovery.specs.Opening.{Opens}
use Rattle.recovery.specs.Openings.{IsMade, IsLater, AllRecover, FindsAmong}
use Rattle.recovery.proofs.Reopened.{later_as, finds}

zeros_are : (n : ℕ) → zeros n ≡ replicate n 0
unfolding zeros
zeros_are n = refl

-- files whose home blocks are zeros
blank_from : (contents : ℕ → List ℕ) (b : ℕ) (files : List AskedFile)
    → AllByRecursion (λ f. f.length ≤ f.capacity) files
    → ((i : ℕ) → b ≤ i → i < b + total_pages (map table_file files) → contents i ≡ zeros 4096)
    → files_from contents b (map table_file files) (lengths_asked files) ≡ zero_files files
blank_from contents b [] lengths blank = refl
blank_from contents b (f ∷ fs) lengths blank =
    let bytes = blank_file contents b f.length f.capacity
    (λ i low high. blank i low (omega (arith, high))) lengths.0 ∙ zeros_are f.length in
    let rest = blank_from contents (b + pages_of f.capacity) fs lengths.1
    (λ i low high. blank i (omega (arith, low)) (omega (arith, high))) in
    ap (λ (x : List ℕ). let r : File = record { name = f.name; bytes = x; capacity = f.capacity } in
    r ∷ files_from contents (b + pages_of f.capacity) (map table_file fs) (lengths_asked fs)) bytes
    ∙ ap (λ (xs : List File).
    let r : File = record { name = f.name; bytes = replicate f.length 0; capacity = f.capacity } in r ∷ xs) rest

blank_files : (table : SuperValue) (layout slots : ℕ) (files : List AskedFile) (bytes : List ℕ)
    → IsAsked layout files slots table → IsBlank table (lengths_asked files) bytes
    → files_of table bytes ≡ zero_files files
blank_files table layout slots files bytes asked blank =
    let P : List TableFile → Type 0 = λ fs.
    (((i : ℕ) → first_file_home table.layout table.slots ≤ i
    → i < first_file_home table.layout table.slots + total_pages fs → block_at bytes i ≡ zeros 4096)
    → files_from (block_at bytes) (first_file_home table.layout table.slots) fs
    (lengths_asked files) ≡ zero_files files) in
    ap (files_from (block_at bytes) (first_file_home table.layout table.slots) table.files)
    (asked_lengths_in layout slots files table (block_at bytes) asked blank.rest.lengths_block)
    ∙ subst P (sym asked.files_are) (blank_from (block_at bytes) (first_file_home table.layout table.slots) files
    (asked_le layout slots files table asked)) (λ i low high. blank.rest.homes i low high)

blank_recovers : (table : SuperValue) (lengths bytes : List ℕ) → IsBlank table lengths bytes
    → Recovers table (block_at bytes) bytes
blank_recovers table lengths bytes blank = record {
  batches = [];
  volume = record {
    super_block = blank.super_block;
    long = blank.rest.long;
    journals = record {
      each = tt;
      all = λ j there opens. let shut = blank.rest.gates j there in absurd (omega (arith, shut, opens));
      falling = tt;
    };
  };
  contents_are = λ b home. refl;
}

module _ {D : Type 0} (disk : Ghosts D)
    (seen_is_left : (device : D) → disk.is_honest device → disk.may_leave device (disk.seen device))
    (now_is_since : (device : D) (t : ℕ) (c : List ℕ) → t ≤ disk.moment device → disk.may_leave device c
    → disk.left_since device t c) where
  pub after_formatting : (layout slots n : ℕ) (files : List AskedFile) (old new later after : D)
      (result : Result SuperValue Refusal) → disk.is_honest new → HasFormatted disk layout files slots old new
      → IsLater disk n new later → Opens disk later result after
      → MatchResult result (λ table. IsAsked layout files slots table × (files_of table (disk.seen after)
      ≡ zero_files files)) (λ refusal. (refusal ≡ Device) ⊎ (refusal ≡ OutOfMemory))
  after_formatting layout slots n files old new later after result honest formatted is opens =
      by result (finds disk seen_is_left now_is_since new later after result (λ _. true)
      (later_as disk seen_is_left now_is_since n new later honest is) all opens).0
    where
      table : SuperValue
      table = formatted.table

      own : Recovers table (block_at (disk.seen new)) (disk.seen new)
      own = blank_recovers table (lengths_asked files) (disk.seen new) formatted.blank

      all : AllRecover (λ _. true) (disk.may_leave new)
      all c may =
          let P : List ℕ → Type 0 = λ bytes. RecoversTo bytes (files_of table (disk.seen new)) in (
            files_of table (disk.seen new),
            subst P (sym (formatted.synced c may)) (record {
              table = table;
              contents = block_at (disk.seen new);
              recovers = own;
              lengths = asked_has_lengths layout slots files table
                  (block_at (disk.seen new)) formatted.shape.asked formatted.blank.rest.lengths_block;
              files_are = refl;
            }),
            refl,
          )

      by : (r : Result SuperValue Refusal) → FindsAmong (disk.may_leave new) r (disk.seen after)
          → MatchResult r (λ t. IsAsked layout files slots t × (files_of t (disk.seen after) ≡ zero_files files))
          (λ refusal. (refusal ≡ Device) ⊎ (refusal ≡ OutOfMemory))
      by (Ok t) (d, may, r) =
          let P : List ℕ → Type 0 = λ bytes. Recovers t (block_at (disk.seen after)) bytes in
          let one = one_contents table t (block_at (disk.seen new)) (block_at (disk.seen after)) (disk.seen new) own
          (subst P (formatted.synced d may) r) in
          let Q : SuperValue → Type 0 = λ v. IsAsked layout files slots v in (
            subst Q one.0 formatted.shape.asked,
            ap (λ (v : SuperValue). files_in v (block_at (disk.seen after))) (sym one.0)
                ∙ sym (files_in-same table (block_at (disk.seen new)) (block_at (disk.seen after)) one.1)
                ∙ blank_files table layout slots files (disk.seen new) formatted.shape.asked formatted.blank,
          )
      by (Err refusal) why = why

-- what was formatted was made
pub formatted_made : {D : Type 0} (disk : Ghosts D) (layout slots : ℕ) (files : List AskedFile) (old new : D)
    → disk.is_honest new → HasFormatted disk layout files slots old new → IsMade disk (zero_files files) new
formatted_made disk layout slots files old new honest formatted = record {
  honest = honest;
  synced = formatted.synced;
  recovers = record {
    table = formatted.table;
    contents = block_at (disk.seen new);
    recovers = blank_recovers formatted.table (lengths_asked files) (disk.seen new) formatted.blank;
    lengths = asked_has_lengths layout slots files formatted.table
        (block_at (disk.seen new)) formatted.shape.asked formatted.blank.rest.lengths_block;
    files_are =
        sym (blank_files formatted.table layout slots files (disk.seen new) formatted.shape.asked formatted.blank);
  };
}

module _ {D : Type 0} (disk : Ghosts D)
    (seen_is_left : (device : D) → disk.is_honest device → disk.may_leave device (disk.seen device))
    (now_is_since : (device : D) (t : ℕ) (c : List ℕ) → t ≤ disk.moment device → disk.may_leave device c
    → disk.left_since device t c) where
  pub after_making : (n : ℕ) (files : List File) (made later after : D) (result : Result SuperValue Refusal)
      → IsMade disk files made → IsLater disk n made later → Opens disk later result after
      → MatchResult result (λ table. files_of table (disk.seen after) ≡ files)
      (λ refusal. (refusal ≡ Device) ⊎ (refusal ≡ OutOfMemory))
  after_making n files made later after result is is_later opens =
      by result (finds disk seen_is_left now_is_since made later after result (λ _. true)
      (later_as disk seen_is_left now_is_since n made later is.honest is_later) all opens).0
    where
      all : AllRecover (λ _. true) (disk.may_leave made)
      all c may =
          let P : List ℕ → Type 0 = λ bytes. RecoversTo bytes files in
          (files, subst P (sym (is.synced c may)) is.recovers, refl)

      by : (r : Result SuperValue Refusal) → FindsAmong (disk.may_leave made) r (disk.seen after)
          → MatchResult r (λ t. files_of t (disk.seen after) ≡ files)
          (λ refusal. (refusal ≡ Device) ⊎ (refusal ≡ OutOfMemory))
      by (Ok t) (d, may, r) =
          let P : List ℕ → Type 0 = λ bytes. Recovers t (block_at (disk.seen after)) bytes in
          let v = is.recovers.table in
          let one = one_contents v t is.recovers.contents (block_at (disk.seen after))
          (disk.seen made) is.recovers.recovers (subst P (is.synced d may) r) in
          ap (λ (u : SuperValue). files_in u (block_at (disk.seen after))) (sym one.0)
          ∙ sym (files_in-same v is.recovers.contents (block_at (disk.seen after)) one.1)
          ∙ sym is.recovers.files_are
      by (Err refusal) why = why
