-- A fresh machine is as is observed at the start of a run, and its device recovers to the files with which the run
-- begins.
use Rattle.machine.proofs.Names.{ℕ, zero, suc, ◌≡◌, ◌-◌, ◌*◌, ◌<◌, true, false, eqb, List, [], ◌∷◌, ◌++◌, length, take}
use Rattle.machine.proofs.Names.{drop, map, replicate, get_or, Option, None, is_some, unwrap_or, refl, sym, ap, ◌∙◌}
use Rattle.machine.proofs.Names.{subst, inl, inr, arith, ◌+◌, ◌≤◌, nat_cmp, cases_lt, cond-false, ne_eqb, false≢true}
use Rattle.machine.proofs.Names.{length-replicate, get_or-replicate, length-take, length-drop, take_all}
use Rattle.machine.proofs.Names.{take_at, drop_at, drop-drop, drop-take, take-take, take-append_seam, FilePage}
use Rattle.machine.proofs.Names.{all_free, File, TableFile, SuperValue, pages_of, total_pages, geometry_of}
use Rattle.machine.proofs.Names.{zeros, padded, length-padded, length-block_at, length-file, fits_geometry}
use Rattle.machine.proofs.Names.{Places, AddressSpace, first_spaces, empty_space, Processor, fresh_processor}
use Rattle.machine.proofs.Names.{is_running, fresh_shootdown, processor_at, Holds, CheckpointState, Shape, file_bytes}
use Rattle.machine.proofs.Names.{Mark, Acknowledge, memory_of, State, length_of, Whole, home_of, cut_at_end, IsFresh}
use Rattle.machine.proofs.Names.{fresh, Observed, observed_at_start, observed_first}
use Rattle.machine.proofs.Names.{IsArranged, HasFiles, HasParts, AreContentsOf}
use Rattle.machine.proofs.Names.{block_at, first_file_home, IsVolume, files_from, files_in, lengths_in, blocks_from}
use Rattle.machine.proofs.Names.{Contains, All, WriteOut, WriteOutsValue, none_of, has_uncommitted, IsConsistent}
use Rattle.machine.proofs.Names.{consistent_first, bytes_at_mark, IsSound, Ghosts, Begins, IsInFile, within_file}
use Rattle.std.specs.FinMap as maps
use Rattle.frames.specs.Frames.{page_of as page_held}
use Rattle.history.specs.History.{page_of}
use Rattle.machine.proofs.refining.ObservedSpaces.{AreProcessorsObserved, AreSpacesObserved, spaces_made}
use Rattle.machine.proofs.refining.Arranged.{arranged_from}
use Rattle.machine.proofs.Names.{HasPages, IsDurable}
use Rattle.machine.proofs.sound.Lists.{get_or-replicate-same}
use Rattle.history.proofs.Public.{contains_none}
use Rattle.machine.proofs.sound.Homes.{page_below}
use Rattle.history.proofs.Public.{capacity_at, total_pages-within}
use Rattle.machine.proofs.durable.Homes.{home_is, within_cut}
use Rattle.history.proofs.Public.{nothing_padded}
use Rattle.history.proofs.Public.{length-file_bytes, length-page_of, plain_page, named_from, lengths_from}
use Rattle.history.proofs.Public.{file_bytes-from, page_in_blocks}

-- ---- what is observed of processors and spaces

no_spaces : AreSpacesObserved maps.empty maps.empty
no_spaces = record {
  same_spaces = λ pcid. ap is_some (maps.get-empty nat_cmp pcid) ∙ sym (ap is_some (maps.get-empty nat_cmp pcid));
  same_places = λ pcid.
      ap (λ (o : Option Places). unwrap_or o maps.empty) (maps.get-empty nat_cmp pcid)
      ∙ sym (ap (λ (o : Option AddressSpace). (unwrap_or o empty_space).places) (maps.get-empty nat_cmp pcid));
}

first_space : AreSpacesObserved (maps.insert maps.empty 0 maps.empty) first_spaces
first_space = spaces_made maps.empty 0 maps.empty empty_space no_spaces

first_processors : (cpus tlb : ℕ)
    → AreProcessorsObserved (replicate cpus 0) (replicate cpus true) (fresh_shootdown cpus tlb)
first_processors cpus tlb =
    let at : (p : ℕ) → p < cpus → processor_at (fresh_shootdown cpus tlb) p ≡ fresh_processor tlb =
    λ p within. get_or-replicate cpus p (fresh_processor tlb) (fresh_processor 1) within in
    let processors = length-replicate cpus (fresh_processor tlb) in
    record {
      processors = length-replicate {A = ℕ} cpus 0 ∙ sym processors;
      same_current = λ p within.
          let below : p < cpus = (let many = length-replicate {A = ℕ} cpus 0 in omega (arith, many)) in
          get_or-replicate cpus p 0 0 below ∙ sym (ap (λ (x : Processor). x.space) (at p below));
      as_many = length-replicate cpus true ∙ sym processors;
      same_running = λ p within.
          let below : p < cpus = (let many = length-replicate cpus true in omega (arith, many)) in
          get_or-replicate cpus p true false below ∙ sym (ap (λ (x : Processor). is_running x.state) (at p below));
    }

-- ---- what is observed of pages

none_held : (frames copies frame : ℕ) (owner : FilePage) → Holds (all_free frames copies) frame owner → ⊥
none_held frames copies frame owner holds = let none = ap page_held (get_or-replicate-same frames frame None) in cc

module _ (files : List File) (table : SuperValue) (lengths : List ℕ) (shape : Shape)
    (has : HasFiles files [] (fresh table lengths shape)) where
  abbrev start : State
  start = fresh table lengths shape

  abbrev observed : Observed
  observed = observed_at_start files shape.cpus

  arranged_fresh : IsArranged observed start
  arranged_fresh = arranged_from observed start first_space (first_processors shape.cpus shape.tlb)
      (record { same_locked = refl; same_pending = refl }) has.lengths

  pages_fresh : HasPages files observed start
  pages_fresh = record {
    files_are = has;
    latest = record {
      whole = λ file page. length-page_of (file_bytes files file) page;
      latest = λ frame owner holds. absurd (none_held shape.frames shape.copies frame owner holds);
    };
    touched = record {
      each = λ owner. (λ is. absurd (false≢true is.1), λ d. absurd (none_held shape.frames shape.copies d.0 owner d.1));
      inside = λ unset owner is. absurd (false≢true is);
    };
    plain = λ owner is absent.
        plain_page (file_bytes files owner.file) owner.page (length_of start owner.file)
        (ap (λ l. get_or l owner.file 0) (sym has.lengths) ∙ length-file_bytes files owner.file);
  }

-- so is each fresh machine
pub arranged_at_start : (files : List File) (s : State) → IsFresh s → HasFiles files [] s
    → IsArranged (observed_first files s) s
arranged_at_start files s is has =
    let same = is.as_booted in
    let cpus : length s.hardware.shootdown.processors ≡ is.shape.cpus = ap (λ (x : State).
    length x.hardware.shootdown.processors) same ∙ length-replicate is.shape.cpus (fresh_processor is.shape.tlb) in
    subst (λ n. IsArranged (observed_at_start files n) s) (sym cpus)
    (subst (λ (x : State). HasFiles files [] x → IsArranged (observed_at_start files is.shape.cpus) x) (sym same)
    (arranged_fresh files s.table s.lengths is.shape) has)

pub pages_at_start : (files : List File) (s : State) → IsFresh s → HasFiles files [] s
    → HasPages files (observed_first files s) s
pages_at_start files s is has =
    let same = is.as_booted in
    let cpus : length s.hardware.shootdown.processors ≡ is.shape.cpus = ap (λ (x : State).
    length x.hardware.shootdown.processors) same ∙ length-replicate is.shape.cpus (fresh_processor is.shape.tlb) in
    subst (λ n. HasPages files (observed_at_start files n) s) (sym cpus)
    (subst (λ (x : State). HasFiles files [] x → HasPages files (observed_at_start files is.shape.cpus) x) (sym same)
    (pages_fresh files s.table s.lengths is.shape) has)

-- ---- the files of a volume at rest are those of its table, with its lengths

pub files_at_start : (files : List File) (s : State) (disk : List ℕ) → IsSound s → s.resized ≡ false → IsVolume s.table
    [] disk → files ≡ files_in s.table (block_at disk) → s.lengths ≡ lengths_in s.table (block_at disk)
    → HasFiles files [] s
files_at_start files s disk sound unset volume files_are lengths_are =
    let b = first_file_home s.table.layout s.table.slots in
    let whole : (i : ℕ) → i < b + total_pages s.table.files → length (block_at disk i) ≡ 4096 =
    λ i high. length-block_at disk i (let long = volume.long in omega arith) in
    let files_of : files ≡ files_from (block_at disk) b s.table.files s.lengths =
    files_are ∙ ap (files_from (block_at disk) b s.table.files) (sym lengths_are) in
    record {
      named = ap (map (λ (f : File). let t : TableFile = record { name = f.name; capacity = f.capacity } in t)) files_of
          ∙ named_from (block_at disk) b s.table.files s.lengths sound.lengths;
      lengths = ap (map (λ (f : File). length f.bytes)) files_of
          ∙ lengths_from (block_at disk) b s.table.files s.lengths sound.lengths sound.within whole;
      resized = sym unset;
    }

-- the memory of the files that a volume has
module _ (s : State) (sound : IsSound s) (seen : List ℕ) (files : List File) (volume : IsVolume s.table [] seen)
    (files_are : files ≡ files_in s.table (block_at seen))
    (lengths_are : s.lengths ≡ lengths_in s.table (block_at seen)) where
  page_first : (owner : FilePage) → IsInFile s owner
      → memory_of files owner.file owner.page ≡ cut_at_end s owner (block_at seen (home_of s.table owner))
  page_first owner is =
      let b = first_file_home s.table.layout s.table.slots + total_pages (take owner.file s.table.files) in
      let n = pages_of (capacity_at s.table.files owner.file) in
      let bytes : file_bytes files owner.file ≡ take (length_of s owner.file) (blocks_from (block_at seen) b n) =
      ap (λ (l : List File). file_bytes l owner.file) (files_are ∙ ap
      (files_from (block_at seen) (first_file_home s.table.layout s.table.slots) s.table.files) (sym lengths_are))
      ∙ file_bytes-from (block_at seen)
      (first_file_home s.table.layout s.table.slots) s.table.files s.lengths owner.file is.there sound.lengths in
      let before = total_pages-within s.table.files owner.file is.there in
      let inside = is.inside in
      ap (λ (l : List ℕ). padded 4096 (take 4096 (drop (4096 * owner.page) l))) bytes
      ∙ ap (padded 4096) (page_in_blocks (block_at seen) b n (length_of s owner.file) owner.page
      (λ i low high. length-block_at seen i (let long = volume.long in omega (arith, long, before, high)))
      (page_below s sound.within owner is) (omega (arith, inside)))

  first_parts : HasParts s.table s.lengths (block_at seen) (memory_of files)
  first_parts owner there inside =
      let is : IsInFile s owner = record { there = there; inside = inside } in
      sym (ap (within_file s owner) (page_first owner is)
      ∙ within_cut s owner (block_at seen (home_of s.table owner)) (length-block_at seen (home_of s.table owner)
      (let long = volume.long in let below = (home_is s sound owner is).high in omega (arith, long, below))))

pub durable_at_start : {D : Type 0} (ghosts : Ghosts D) (files : List File) (start : Whole D) → IsSound start.state
    → Begins ghosts files start
    → IsDurable files (observed_first files start.state) start.state (ghosts.seen start.device)
    (ghosts.may_leave start.device)
durable_at_start ghosts files start sound begins =
    let s = start.state in
    let disk = ghosts.seen start.device in
    let outs : s.write_outs ≡ none_of (geometry_of s.table) = ap (λ (x : State). x.write_outs) begins.fresh.as_booted in
    let parts = first_parts s sound disk files begins.volume begins.files_are begins.lengths_are in
    let has = files_at_start files s disk sound
    (ap (λ (x : State). x.resized) begins.fresh.as_booted) begins.volume begins.files_are begins.lengths_are in
    let are : AreContentsOf files [] s.table (block_at disk) [] = record {
      rest = [];
      begins = refl;
      marked = inl refl;
      whole = λ file page. length-page_of (file_bytes files file) page;
      fits = begins.fit;
      same_lengths = sym begins.lengths_are ∙ sym has.lengths;
      parts = subst (λ (l : List ℕ). HasParts s.table l (block_at disk) (memory_of files)) (sym has.lengths) parts;
    } in
    record {
      old = block_at disk;
      new = block_at disk;
      consistent = subst (λ (o : WriteOutsValue).
          IsConsistent s.table o (block_at disk) (block_at disk) disk (ghosts.may_leave start.device)) (sym outs)
          (consistent_first s.table disk (ghosts.may_leave start.device)
          (fits_geometry s.table begins.volume.super_block.fits) begins.volume begins.synced);
      written = record {
        before = [];
        old_are = are;
        acknowledged = λ n has. absurd (contains_none (Acknowledge n) has);
        marked = [];
        new_are = are;
        grown = λ n has. absurd (contains_none (Acknowledge n) has);
        marks = subst (λ (o : WriteOutsValue). All (λ (w : WriteOut). Contains [] (Mark w.batch.mark)) o.batches)
            (sym outs) (λ k d lt. absurd (omega arith));
        fresh = λ y there early has. contains_none (Mark y.batch.mark) has;
        only = record {
          each = λ n has. absurd (contains_none (Mark n) has);
          in_before = λ n has. absurd (contains_none (Mark n) has);
          in_marked = λ n has. absurd (contains_none (Mark n) has);
        };
        numbered = λ n has. absurd (contains_none (Mark n) has);
        ready = λ broken held. ap (λ (o : WriteOutsValue). has_uncommitted o.batches) outs;
        clean = inr (λ owner is untouched. parts owner is.there is.inside);
        same_lengths = λ none. sym begins.lengths_are;
        frozen = subst (λ (c : CheckpointState). All (λ owner. block_at disk (home_of s.table owner)
            ≡ cut_at_end s owner (bytes_at_mark s.hardware.memory owner)) c.frozen)
            (sym (ap (λ (x : State). x.checkpoint) begins.fresh.as_booted)) (λ k d lt. absurd (omega arith));
      };
    }
