-- A device that was laid out, to which the files of a volume were copied and whose table was written is migrated.
use Rattle.std.proofs.Common.{◌≡◌, ◌≤◌, ◌<◌, ◌⊎◌, inl, inr, Result, ℕ, zero, suc, ◌+◌, ◌-◌, ◌*◌}
use Rattle.std.proofs.Common.{List, [], ◌∷◌, ◌++◌, length, take, drop, get_or, map, set}
use Rattle.std.proofs.Common.{slice_get, slice_index, Some, refl, sym, ◌∙◌, ap, subst, add-one, arith}
use Rattle.std.proofs.lemmas.List.{take-take, take_all, take_more_set, map_push}
use Rattle.device.specs.Device.{written, Torn, TornFrom, LeavesOnly, Only}
use Rattle.device.specs.declared.device.Device.{Ghosts}
use Rattle.device.proofs.Moments.{leaves_weaker, leaves_on}
use Rattle.device.proofs.Ranges.{torn_before, torn_after, torn_twice, torn_wider}
use Rattle.page_entry.specs.declared.refusal.Refusal.{Refusal}
use Rattle.volume_codec.specs.declared.file_spec.FileSpec.{FileSpec}
use Rattle.volume_codec.specs.Files.{File, TableFile, AskedFile, asked_by, lengths_asked}
use Rattle.volume_codec.specs.Layout.{journals_of, gate_block, first_home, first_file_home, lengths_blocks, block_at}
use Rattle.volume_codec.specs.Lengths.{AreLengths, lengths_in, lengths_text}
use Rattle.volume_codec.specs.Super.{SuperValue, Fits, IsAsked, super_text, pages_of}
use Rattle.volume_codec.specs.Super.{total_pages, first_home_of, block_count}
use Rattle.volume_codec.specs.Recovery.{IsVolume, blocks_from, files_from}
use Rattle.volume_codec.proofs.Layouts.{gate_block-low}
use Rattle.volume_codec.proofs.Lengths.{table_file, asked_are, asked_lengths_in, asked_has_lengths, index_is, there_is}
use Rattle.volume_codec.proofs.Recovered.{blocks_from-device}
use Rattle.recovery.specs.Format.{HasShape, IsEmptied}
use Rattle.recovery.specs.Migration.{asked_again, asked_of, home_at, Copies, AreCopied, IsFilled}
use Rattle.recovery.specs.Migration.{IsPartlyMigrated, LeftByMigration, HasMigrated}
use Rattle.recovery.specs.Openings.{IsMade}
use Rattle.recovery.specs.Volume.{VolumeState, IsWellFormed, files_of, bytes_of}
use Rattle.recovery.specs.inside.Copying.{LeftByLaying}
use Rattle.recovery.specs.inside.Writing.{HasFinished}
use Rattle.recovery.proofs.BlockRanges.{block_at-before, block_at-after}
use Rattle.recovery.proofs.Copied.{copied_as, copied_part, copied_tail}
use Rattle.recovery.proofs.FileBytes.{file_bytes}
use Rattle.recovery.proofs.Formatted.{first_block}

-- the table and the lengths that are asked for again
pub again_files : (fs : List TableFile) (lengths : List ℕ) → length lengths ≡ length fs
    → map table_file (asked_again fs lengths) ≡ fs
again_files [] lengths count = refl
again_files (f ∷ fs) [] count = absurd (omega (arith, count))
again_files (f ∷ fs) (n ∷ lengths) count =
    ap (λ (r : List TableFile). f ∷ r) (again_files fs lengths (omega (arith, count)))

pub again_lengths : (fs : List TableFile) (lengths : List ℕ) → length lengths ≡ length fs
    → lengths_asked (asked_again fs lengths) ≡ lengths
again_lengths [] [] count = refl
again_lengths [] (n ∷ lengths) count = absurd (omega (arith, count))
again_lengths (f ∷ fs) [] count = absurd (omega (arith, count))
again_lengths (f ∷ fs) (n ∷ lengths) count =
    ap (λ (r : List ℕ). n ∷ r) (again_lengths fs lengths (omega (arith, count)))

pub length-again : (fs : List TableFile) (lengths : List ℕ) → length lengths ≡ length fs
    → length (asked_again fs lengths) ≡ length fs
length-again [] lengths count = refl
length-again (f ∷ fs) [] count = absurd (omega (arith, count))
length-again (f ∷ fs) (n ∷ lengths) count = omega (arith, length-again fs lengths (omega (arith, count)))

-- one file more
again_suc : (fs : List TableFile) (lengths name : List ℕ) (i n k : ℕ)
    → slice_get (map (λ (f : TableFile). f.name) fs) i ≡ Some name → slice_get lengths i ≡ Some n
    → slice_get (map (λ (f : TableFile). f.capacity) fs) i ≡ Some k
    → take (suc i) (asked_again fs lengths) ≡ take i (asked_again fs lengths)
    ++ (let f : AskedFile = record { name = name; length = n; capacity = k } in f) ∷ []
again_suc [] lengths name i n k named long sized = cc
again_suc (f ∷ fs) [] name i n k named long sized = cc
again_suc (f ∷ fs) (m ∷ lengths) name zero n k named long sized =
    let e : f.name ≡ name = cc in
    let l : m ≡ n = cc in
    let s : f.capacity ≡ k = cc in
    ap (λ (x : List ℕ). (let r : AskedFile = record { name = x; length = m; capacity = f.capacity } in r) ∷ []) e
    ∙ ap (λ (x : ℕ). (let r : AskedFile = record { name = name; length = x; capacity = f.capacity } in r) ∷ []) l
    ∙ ap (λ (x : ℕ). (let r : AskedFile = record { name = name; length = n; capacity = x } in r) ∷ []) s
again_suc (f ∷ fs) (m ∷ lengths) name (suc i) n k named long sized =
    ap (λ (r : List AskedFile). (let x : AskedFile = record { name = f.name; length = m; capacity = f.capacity } in x)
    ∷ r) (again_suc fs lengths name i n k named long sized)

pub again_more : (fs : List TableFile) (lengths name : List ℕ) (i n k : ℕ)
    → slice_get (map (λ (f : TableFile). f.name) fs) i ≡ Some name → slice_get lengths i ≡ Some n
    → slice_get (map (λ (f : TableFile). f.capacity) fs) i ≡ Some k
    → take (i + 1) (asked_again fs lengths) ≡ take i (asked_again fs lengths)
    ++ (let f : AskedFile = record { name = name; length = n; capacity = k } in f) ∷ []
again_more fs lengths name i n k named long sized =
    ap (λ j. take j (asked_again fs lengths)) (add-one i) ∙ again_suc fs lengths name i n k named long sized

-- files of the same bytes, each at its place
pub files_from-each : (f g : ℕ → List ℕ) (a b : ℕ) (fs : List TableFile) (lengths : List ℕ)
    → ((i n : ℕ) (s : TableFile) → slice_get fs i ≡ Some s → slice_get lengths i ≡ Some n
    → take n (blocks_from f (a + total_pages (take i fs)) (pages_of s.capacity))
    ≡ take n (blocks_from g (b + total_pages (take i fs)) (pages_of s.capacity)))
    → files_from f a fs lengths ≡ files_from g b fs lengths
files_from-each f g a b [] lengths each = refl
files_from-each f g a b (s ∷ fs) [] each = refl
files_from-each f g a b (s ∷ fs) (n ∷ lengths) each =
    let at_a : a + 0 ≡ a = omega arith in
    let at_b : b + 0 ≡ b = omega arith in
    let first : take n (blocks_from f a (pages_of s.capacity)) ≡ take n (blocks_from g b (pages_of s.capacity)) =
    ap (λ x. take n (blocks_from f x (pages_of s.capacity))) (sym at_a) ∙ each 0 n s refl refl
    ∙ ap (λ x. take n (blocks_from g x (pages_of s.capacity))) at_b in
    let rest = files_from-each f g (a + pages_of s.capacity) (b + pages_of s.capacity) fs lengths (λ i m t file size.
    let on_a : a + pages_of s.capacity + total_pages (take i fs)
    ≡ a + total_pages (take (suc i) (s ∷ fs)) = omega arith in
    let on_b : b + total_pages (take (suc i) (s ∷ fs))
    ≡ b + pages_of s.capacity + total_pages (take i fs) = omega arith in
    ap (λ x. take m (blocks_from f x (pages_of t.capacity))) on_a ∙ each (suc i) m t file size
    ∙ ap (λ x. take m (blocks_from g x (pages_of t.capacity))) on_b) in
    ap (λ (x : List ℕ). let r : File = record { name = s.name; bytes = x; capacity = s.capacity } in
    r ∷ files_from f (a + pages_of s.capacity) fs lengths) first
    ∙ ap (λ (r : List File). (let x : File = record {
      name = s.name;
      bytes = take n (blocks_from g b (pages_of s.capacity));
      capacity = s.capacity;
    } in x) ∷ r) rest

-- the files of a volume, where each has the same bytes in other blocks
pub same_files : (first : ℕ) (table : SuperValue) (lengths bytes others : List ℕ) → AreLengths table lengths
    → lengths ≡ lengths_in table (block_at others)
    → ((file : ℕ) → file < length table.files
    → take (slice_index lengths file) (drop (4096 * home_at first table.files file) bytes)
    ≡ bytes_of (files_of table others) file)
    → files_from (block_at bytes) first table.files lengths ≡ files_of table others
same_files first table lengths bytes others are has each =
    files_from-each (block_at bytes) (block_at others) first (first_file_home table.layout table.slots) table.files
    lengths at
    ∙ ap (files_from (block_at others) (first_file_home table.layout table.slots) table.files) has
  where
    -- the first bytes of blocks
    part : (xs : List ℕ) (b n : ℕ) (s : TableFile) → n ≤ s.capacity
        → take n (blocks_from (block_at xs) b (pages_of s.capacity)) ≡ take n (drop (4096 * b) xs)
    part xs b n s le = ap (take n) (blocks_from-device xs b (pages_of s.capacity))
        ∙ take-take n (4096 * pages_of s.capacity) (drop (4096 * b) xs) (omega (arith, le))

    at : (i n : ℕ) (s : TableFile) → slice_get table.files i ≡ Some s → slice_get lengths i ≡ Some n
        → take n (blocks_from (block_at bytes) (first + total_pages (take i table.files)) (pages_of s.capacity))
        ≡ take n (blocks_from (block_at others)
        (first_file_home table.layout table.slots + total_pages (take i table.files)) (pages_of s.capacity))
    at i n s file size =
        let le = are.within i n s file size in
        let here = index_is lengths i n size in
        let there : i < length table.files = omega (arith, there_is lengths i n size, are.count) in
        part bytes (home_at first table.files i) n s le
        ∙ ap (λ k. take k (drop (4096 * home_at first table.files i) bytes)) (sym here)
        ∙ each i there ∙ file_bytes table lengths are others i there has
        ∙ ap (λ k. take k (drop (4096 * first_home_of table i) others)) here
        ∙ sym (part others (first_home_of table i) n s le)

-- files were copied to what was laid out, whatever block 0 holds
module _ (table : SuperValue) (lengths laid copied final : List ℕ) (are : AreLengths table lengths)
    (rest : IsEmptied table lengths laid)
    (torn : Torn (4096 * first_file_home table.layout table.slots) (4096 * total_pages table.files) laid copied)
    (first : Torn 0 4096 copied final) where
  pub gates_shut : (j : ℕ) → j < journals_of table.layout → get_or final (4096 * gate_block table.slots j) 0 ≡ 0
  gates_shut j there =
      let low = gate_block-low table.layout table.slots j there in
      torn_after first (4096 * gate_block table.slots j) (omega arith)
      ∙ torn_before torn (4096 * gate_block table.slots j) (omega (arith, low)) ∙ rest.gates j there

  pub says_lengths : 0 < lengths_blocks table.layout
      → block_at final (first_home table.layout table.slots) ≡ lengths_text lengths
  says_lengths some =
      block_at-after first (first_home table.layout table.slots) (omega arith)
      ∙ block_at-before torn (first_home table.layout table.slots) (omega (arith, some))
      ∙ rest.lengths_block some

-- and block 0 was written
module _ (table : SuperValue) (lengths laid copied final : List ℕ) (fits : Fits table) (are : AreLengths table lengths)
    (rest : IsEmptied table lengths laid)
    (torn : Torn (4096 * first_file_home table.layout table.slots) (4096 * total_pages table.files) laid copied)
    (is : final ≡ written copied 0 (super_text table)) where
  first : Torn 0 4096 copied final
  first = (first_block table copied final fits (omega (arith, rest.long, torn.same_length)) is).1

  pub held : IsVolume table [] final
  held = record {
    super_block = (first_block table copied final fits (omega (arith, rest.long, torn.same_length)) is).0;
    long = omega (arith, rest.long, torn.same_length, first.same_length);
    journals = record {
      each = tt;
      all = λ j there opens.
          let shut = gates_shut table lengths laid copied final are rest torn first j there in
          absurd (omega (arith, shut, opens));
      falling = tt;
    };
  }

-- what is asked for of a volume
module _ {D : Type 0} (disk : Ghosts D) (volume : VolumeState D) (well_formed : IsWellFormed disk volume)
    (layout slots : ℕ) (table : SuperValue) (asked : IsAsked layout (asked_of volume) slots table) where
  pub asked_files : table.files ≡ volume.table.files
  asked_files = asked.files_are ∙ again_files volume.table.files volume.lengths well_formed.lengths.count

  pub asked_lengths : lengths_asked (asked_of volume) ≡ volume.lengths
  asked_lengths = again_lengths volume.table.files volume.lengths well_formed.lengths.count

  pub asked_lengths_are : AreLengths table volume.lengths
  asked_lengths_are = let P : List ℕ → Type 0 = λ l. AreLengths table l in
      subst P asked_lengths (asked_are layout slots (asked_of volume) table asked)

-- all of it but its block 0
module _ {D : Type 0} (disk : Ghosts D) (volume : VolumeState D) (well_formed : IsWellFormed disk volume)
    (layout slots : ℕ) (table : SuperValue) (asked : IsAsked layout (asked_of volume) slots table)
    (laid copied final : List ℕ) (rest : IsEmptied table volume.lengths laid)
    (torn : Torn (4096 * first_file_home table.layout table.slots) (4096 * total_pages table.files) laid copied)
    (first : Torn 0 4096 copied final)
    (each : disk.is_honest volume.device
    → AreCopied (first_file_home table.layout table.slots) volume.table.files volume.lengths
    (bytes_of (files_of volume.table (disk.seen volume.device))) (length volume.table.files) laid copied) where
  abbrev home : ℕ
  home = first_file_home table.layout table.slots

  abbrev named : table.files ≡ volume.table.files
  named = asked_files disk volume well_formed layout slots table asked

  abbrev are : AreLengths table volume.lengths
  are = asked_lengths_are disk volume well_formed layout slots table asked

  pub spelled : 0 < lengths_blocks table.layout
      → block_at final (first_home table.layout table.slots) ≡ lengths_text (lengths_asked (asked_of volume))
  spelled some = says_lengths table volume.lengths laid copied final are rest torn first some
      ∙ ap lengths_text (sym (asked_lengths disk volume well_formed layout slots table asked))

  pub filled : IsFilled disk volume table final
  filled = record {
    gates = gates_shut table volume.lengths laid copied final are rest torn first;
    lengths_block = says_lengths table volume.lengths laid copied final are rest torn first;
    files = λ honest.
        ap (λ (fs : List TableFile). files_from (block_at final) home fs (lengths_in table (block_at final))) named
        ∙ ap (files_from (block_at final) home volume.table.files) (asked_lengths_in layout slots (asked_of volume)
        table (block_at final) asked spelled ∙ asked_lengths disk volume well_formed layout slots table asked)
        ∙ same_files home volume.table volume.lengths final (disk.seen volume.device) well_formed.lengths
        (well_formed.at_rest honest).lengths_are
        (copied_part home (omega arith) volume.table volume.lengths _ laid copied final (each honest) first);
    tails = λ honest. copied_tail home (omega arith) table volume.lengths _ laid copied final
        (copied_as refl (sym named) (each honest)) first are rest.homes;
  }

pub migrated : {D E : Type 0} (disk : Ghosts D) (other : Ghosts E) (layout slots : ℕ) (volume : VolumeState D)
    (before laid copied after : E) (table : SuperValue)
    → HasShape layout (asked_of volume) slots (length (other.seen before)) table
    → IsWellFormed disk volume → disk.is_honest volume.device → IsEmptied table volume.lengths (other.seen laid)
    → Torn 4096 (4096 * block_count table - 4096) (other.seen before) (other.seen laid)
    → Torn (4096 * first_file_home table.layout table.slots) (4096 * total_pages table.files)
    (other.seen laid) (other.seen copied)
    → AreCopied (first_file_home table.layout table.slots) volume.table.files volume.lengths
    (bytes_of (files_of volume.table (disk.seen volume.device))) (length volume.table.files)
    (other.seen laid) (other.seen copied)
    → other.seen after ≡ written (other.seen copied) 0 (super_text table)
    → Only (other.may_leave after) (other.seen after) → HasMigrated disk other layout slots volume before after
migrated disk other layout slots volume before laid copied after table shape well_formed honest rest laying
    torn each is only = record {
      table = table;
      shape = shape;
      holds = held table volume.lengths (other.seen laid) (other.seen copied) (other.seen after) shape.asked.fits
          (asked_lengths_are disk volume well_formed layout slots table shape.asked) rest torn is;
      lengths_fit = asked_has_lengths layout slots (asked_of volume) table (block_at (other.seen after)) shape.asked
          (spelled disk volume well_formed layout slots table shape.asked (other.seen laid) (other.seen copied)
          (other.seen after) rest torn zeroth (λ h. each));
      files = rests.files honest;
      tails = rests.tails honest;
      synced = only;
      past = λ i past. torn_after zeroth i (omega (arith, past)) ∙ torn_after torn i (omega (arith, past))
          ∙ torn_after laying i (omega (arith, past));
    }
  where
    zeroth : Torn 0 4096 (other.seen copied) (other.seen after)
    zeroth = (first_block table (other.seen copied) (other.seen after) shape.asked.fits
        (omega (arith, rest.long, torn.same_length)) is).1

    rests : IsFilled disk volume table (other.seen after)
    rests = filled disk volume well_formed layout slots table shape.asked (other.seen laid) (other.seen copied)
        (other.seen after) rest torn zeroth (λ h. each)

-- ---- what a crash leaves of it

module _ {D : Type 0} (disk : Ghosts D) (volume : VolumeState D) (table : SuperValue) (some : 1 ≤ block_count table)
    (lists : List ℕ → Type 0) where
  -- block 0 is as before while what is torn lies past it
  pub partly_filling : (c : List ℕ) → TornFrom 4096 (4096 * block_count table - 4096) lists c
      → IsPartlyMigrated disk volume table lists c
  partly_filling c torn = record {
    before = torn.0;
    left = torn.1;
    within = torn_wider torn.2 0 (4096 * block_count table) (omega arith) (omega (arith, some));
    first = inl (block_at-before torn.2 0 (omega arith));
  }

  -- once the rest is filled and synced, block 0 may be torn
  pub partly_filled : (copied c : List ℕ) → TornFrom 4096 (4096 * block_count table - 4096) lists copied
      → Torn 0 4096 copied c → IsFilled disk volume table c → IsPartlyMigrated disk volume table lists c
  partly_filled copied c was torn rest = record {
    before = was.0;
    left = was.1;
    within = torn_twice (torn_wider was.2 0 (4096 * block_count table) (omega arith) (omega (arith, some)))
        (torn_wider torn 0 (4096 * block_count table) (omega arith) (omega (arith, some)));
    first = inr rest;
  }

module _ {D E : Type 0} (disk : Ghosts D) (other : Ghosts E) (layout slots : ℕ)
    (volume : VolumeState D) (before : E) where
  -- while it is laid out
  pub laying_left : (c : List ℕ) → LeftByLaying other layout (asked_of volume) slots before c
      → LeftByMigration disk other layout slots volume before c
  laying_left c (inl was) = inl was
  laying_left c (inr laying) =
      inr (laying.0, laying.1, partly_filling disk volume laying.0 (omega arith) (other.may_leave before) c laying.2)

  module _ (laid : E) (table : SuperValue)
      (shape : HasShape layout (asked_of volume) slots (length (other.seen before)) table)
      (time : LeavesOnly other.moment other.left_since before laid
      (LeftByLaying other layout (asked_of volume) slots before))
      (left : (c : List ℕ) → other.may_leave laid c
      → TornFrom 4096 (4096 * block_count table - 4096) (other.may_leave before) c)
      {X : Type 0} {result : Result X Refusal} {after : VolumeState D} {copied : E}
      (copies : Copies disk other (4096 * first_file_home table.layout table.slots)
      (4096 * total_pages table.files) volume laid result after copied) where
    -- the files are written past the lengths block, within the volume
    copied_within : (c : List ℕ) → TornFrom (4096 * first_file_home table.layout table.slots)
        (4096 * total_pages table.files) (other.may_leave laid) c
        → TornFrom 4096 (4096 * block_count table - 4096) (other.may_leave before) c
    copied_within c torn =
        let was = left torn.0 torn.1 in (
          was.0,
          was.1,
          torn_twice was.2 (torn_wider torn.2 4096 (4096 * block_count table - 4096) (omega arith) (omega arith)),
        )

    filling_left : (c : List ℕ) → TornFrom 4096 (4096 * block_count table - 4096) (other.may_leave before) c
        → LeftByMigration disk other layout slots volume before c
    filling_left c torn = inr
        (table, shape, partly_filling disk volume table (omega arith) (other.may_leave before) c torn)

    -- while the files are copied
    pub time_of_copying : LeavesOnly other.moment other.left_since before copied
        (LeftByMigration disk other layout slots volume before)
    time_of_copying = leaves_on (leaves_weaker time laying_left) copies.time
        (λ c torn. filling_left c (copied_within c torn))

    -- while the table is written
    pub time_of_filling : {Y : Type 0} {last : Result Y Refusal} {final : E} {block : List ℕ} → IsWellFormed disk volume
        → IsEmptied table volume.lengths (other.seen laid)
        → (disk.is_honest volume.device
        → AreCopied (first_file_home table.layout table.slots) volume.table.files volume.lengths
        (bytes_of (files_of volume.table (disk.seen volume.device)))
        (length volume.table.files) (other.seen laid) (other.seen copied))
        → other.is_honest laid → other.is_honest copied → HasFinished other block copied last final → LeavesOnly
        other.moment other.left_since before final (LeftByMigration disk other layout slots volume before)
    time_of_filling {Y} {last} {final} {block} well_formed rest each honest honest_1 finishing =
        leaves_on time_of_copying (finishing.time honest_1) by
      where
        by : (c : List ℕ) → other.may_leave copied c
            ⊎ (other.may_leave copied (other.seen copied) × Torn 0 4096 (other.seen copied) c)
            → LeftByMigration disk other layout slots volume before c
        by c (inl may) = filling_left c (copied_within c (copies.left c may))
        by c (inr torn) = inr (
          table,
          shape,
          partly_filled disk volume table (omega arith) (other.may_leave before) (other.seen copied) c
              (copied_within (other.seen copied) (copies.left (other.seen copied) torn.0)) torn.1
              (filled disk volume well_formed layout slots table shape.asked (other.seen laid)
              (other.seen copied) c rest (copies.torn honest) torn.1 each),
        )

-- what was migrated was made
pub migrated_made : {D E : Type 0} (disk : Ghosts D) (other : Ghosts E) (layout slots : ℕ) (volume : VolumeState D)
    (before after : E) → other.is_honest after → HasMigrated disk other layout slots volume before after
    → IsMade other (files_of volume.table (disk.seen volume.device)) after
migrated_made disk other layout slots volume before after honest has = record {
  honest = honest;
  synced = has.synced;
  recovers = record {
    table = has.table;
    contents = block_at (other.seen after);
    recovers = record { batches = []; volume = has.holds; contents_are = λ b home. refl };
    lengths = has.lengths_fit;
    files_are = sym has.files;
  };
}

-- one file more is asked for
pub specs_more : (files : List FileSpec) (fs : List TableFile) (lengths : List ℕ) (i : ℕ) (f : FileSpec)
    → i < length files → asked_by (take i files) ≡ take i (asked_again fs lengths)
    → slice_get (map (λ (f : TableFile). f.name) fs) i ≡ Some f.name.now → slice_get lengths i ≡ Some f.length
    → slice_get (map (λ (f : TableFile). f.capacity) fs) i ≡ Some f.capacity
    → asked_by (take (i + 1) (set files i f)) ≡ take (i + 1) (asked_again fs lengths)
specs_more files fs lengths i f there was named long sized =
    ap (λ (r : List FileSpec). asked_by r) (take_more_set files i f there)
    ∙ map_push (λ (f : FileSpec). let r : AskedFile =
    record { name = f.name.now; length = f.length; capacity = f.capacity } in r) (take i files) f
    ∙ ap (λ (r : List AskedFile).
    r ++ (let x : AskedFile = record { name = f.name.now; length = f.length; capacity = f.capacity } in x) ∷ []) was
    ∙ sym (again_more fs lengths f.name.now i f.length f.capacity named long sized)

-- all of them
pub specs_all : (files : List FileSpec) (fs : List TableFile) (lengths : List ℕ) (i : ℕ) → length lengths ≡ length fs
    → i ≡ length fs → asked_by (take i files) ≡ take i (asked_again fs lengths)
    → asked_by (take (length fs) files) ≡ asked_again fs lengths
specs_all files fs lengths i count all was =
    ap (λ n. asked_by (take n files)) (sym all) ∙ was
    ∙ take_all i (asked_again fs lengths) (omega (arith, length-again fs lengths count, all))

-- what was asked for again is one table, on which the lengths are laid out
pub shape_again : (layout slots bytes size : ℕ) (asked others : List AskedFile) (table : SuperValue) → asked ≡ others
    → bytes ≡ size → HasShape layout asked slots bytes table → HasShape layout others slots size table
shape_again layout slots bytes size asked others table same long shape =
    let P : List AskedFile → Type 0 = λ files. IsAsked layout files slots table in
    record { asked = subst P same shape.asked; long = omega (arith, long, shape.long) }

pub laid_again : {D : Type 0} (disk : Ghosts D) (volume : VolumeState D) → IsWellFormed disk volume
    → (asked : List AskedFile) (table : SuperValue) (bytes : List ℕ) → asked ≡ asked_of volume
    → IsEmptied table (lengths_asked asked) bytes → IsEmptied table volume.lengths bytes
laid_again disk volume well_formed asked table bytes same laid =
    let P : List ℕ → Type 0 = λ lengths. IsEmptied table lengths bytes in
    subst P (ap (λ (files : List AskedFile). lengths_asked files) same
    ∙ again_lengths volume.table.files volume.lengths well_formed.lengths.count) laid
