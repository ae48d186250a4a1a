-- The groups of facts of a sound machine by what they depend on, so that an act that leaves a group alone keeps it.
use Rattle.machine.proofs.Names.{arith, List, Fits, AreSpacesSound, ℕ, ◌≡◌, ◌+◌, ◌^◌, ◌<◌, true, false, length, map}
use Rattle.machine.proofs.Names.{get_or, Some, IsSome, refl, sym, ap, ◌∙◌, subst, All, list_any, Contains-get_or}
use Rattle.machine.proofs.Names.{FilePage, protect_refusal, Places, SuperValue, WriteOutsValue, is_busy, HasBlock}
use Rattle.machine.proofs.Names.{Change, Unmap, Protect, Reclaim, Checkpoint, Spaces, has_space, space_at}
use Rattle.machine.proofs.Names.{◌-◌, ◌/◌, ◌%◌, ◌≤◌, ◌&&◌, not, ltb, eqb, is_none}
use Rattle.machine.proofs.Names.{count_by, Bool, [], pages_of, lengths_blocks}
use Rattle.spaces.specs.declared.change.Change.TheVariants.{SetLength}
use Rattle.machine.proofs.Names.{is_user_space, Lock, ShootdownState, IsShootdown, current, Coheres, CheckpointState}
use Rattle.machine.proofs.Names.{is_noted, same_page, AreRising, AreBacked, frame_at, is_in_memory, Hardware, State}
use Rattle.machine.proofs.Names.{home_of, pages_in_file, with_shootdown, IsPrepared, IsMemorySound, AreWriteOutsSound}
use Rattle.machine.proofs.Names.{IsSound, FramesState, SamePlaces}
use Rattle.machine.proofs.sound.Sources.{source_stays}
use Rattle.std.proofs.Common.{Contains}

pub unchanged_sound : (s new : State) → new ≡ s → IsSound s → IsSound new
unchanged_sound s new same sound = subst IsSound (sym same) sound

-- the facts of each group, of a machine with the same table and lengths
pub still_sound : {s new : State} → IsSound s → new.table ≡ s.table → new.lengths ≡ s.lengths → AreSpacesSound new
    → IsMemorySound new → AreWriteOutsSound new → IsSound new
still_sound {s} {new} sound table lengths spaces memory write_outs = record {
  fits = subst Fits (sym table) sound.fits;
  lengths = ap length lengths ∙ sound.lengths ∙ ap (λ (x : SuperValue). length x.files) (sym table);
  within = λ file. omega (
    arith,
    sound.within file,
    ap (λ (l : List ℕ). get_or l file 0) lengths,
    ap (λ (x : SuperValue). get_or (map (λ f. f.capacity) x.files) file 0) table,
  );
  spaces = spaces;
  memory = memory;
  write_outs = write_outs;
}

-- ---- frames

-- their facts depend on spaces and notes only by what entries and notes are of, and on no processors, write-outs, marks
pub memory_beside : (s : State) (shootdown : ShootdownState) (spaces : Spaces) (checkpoint : CheckpointState)
    (outs : WriteOutsValue) (marks : ℕ)
    → checkpoint.frozen ≡ s.checkpoint.frozen → length checkpoint.notes ≡ length s.checkpoint.notes
    → ((frame : ℕ) → is_noted checkpoint frame ≡ true → IsSome (frame_at s.hardware.memory frame))
    → AreBacked s.hardware.memory checkpoint spaces → IsMemorySound s
    → IsMemorySound (record s {
      hardware = record s.hardware { shootdown = shootdown; spaces = spaces };
      checkpoint = checkpoint;
      write_outs = outs;
      marks = marks;
    })
memory_beside s shootdown spaces checkpoint outs marks frozen notes noted backed is = record {
  memory = is.memory;
  few_frames = is.few_frames;
  in_files = λ frame owner holds. let file = is.in_files frame owner holds in
      record { there = file.there; inside = file.inside };
  backed = backed;
  notes = notes ∙ is.notes;
  noted = noted;
  frozen = subst (All (λ owner. is_in_memory s.hardware.memory owner ≡ true)) (sym frozen) is.frozen;
  rising = subst AreRising (sym frozen) is.rising;
  copied = λ copy kept there. ap (list_any (same_page kept.page)) frozen ∙ is.copied copy kept there;
}

pub memory_same : (s : State) (shootdown : ShootdownState) (outs : WriteOutsValue) (marks : ℕ) → IsMemorySound s
    → IsMemorySound
    (record s { hardware = record s.hardware { shootdown = shootdown }; write_outs = outs; marks = marks })
memory_same s shootdown outs marks is =
    memory_beside s shootdown s.hardware.spaces s.checkpoint outs marks refl refl is.noted is.backed is

-- ---- write-outs

-- their facts don't depend on processors, spaces and notes, and need only that pages of their batches stay in memory
pub write_outs_kept : (s : State) (hardware : Hardware) (checkpoint : CheckpointState)
    → checkpoint.frozen ≡ s.checkpoint.frozen
    → ((owner : FilePage) → HasBlock s.write_outs (home_of s.table owner) → is_in_memory s.hardware.memory owner ≡ true
    → is_in_memory hardware.memory owner ≡ true)
    → AreWriteOutsSound s → AreWriteOutsSound (record s { hardware = hardware; checkpoint = checkpoint })
write_outs_kept s hardware checkpoint same stays is = record {
  geometry = is.geometry;
  few_batches = is.few_batches;
  older = is.older;
  homes = is.homes;
  sources = λ k d within i e below.
      let w = get_or s.write_outs.batches k d in
      source_stays s.table s.hardware.memory hardware.memory (get_or w.batch.homes i e)
      (λ owner at there. stays owner (
        w,
        Contains-get_or s.write_outs.batches k d within,
        subst (Contains w.batch.homes) at (Contains-get_or w.batch.homes i e below),
      ) there)
      (is.sources k d within i e below);
  marked = is.marked;
  few_marks = is.few_marks;
  quiescent = is.quiescent;
  frozen = ap (map (home_of s.table)) same ∙ is.frozen;
}

-- where each page stays in memory
pub write_outs_moved : (s : State) (hardware : Hardware) (checkpoint : CheckpointState)
    → checkpoint.frozen ≡ s.checkpoint.frozen
    → ((owner : FilePage) → is_in_memory s.hardware.memory owner ≡ true → is_in_memory hardware.memory owner ≡ true)
    → AreWriteOutsSound s → AreWriteOutsSound (record s { hardware = hardware; checkpoint = checkpoint })
write_outs_moved s hardware checkpoint same stays =
    write_outs_kept s hardware checkpoint same (λ owner has. stays owner)

-- ---- a change that is under way

-- what a change relies on stays
pub record StaysPrepared (s new : State) : Type 0 where
  pub users : (pcid : ℕ) → is_user_space s.hardware.spaces pcid ≡ true → is_user_space new.hardware.spaces pcid ≡ true
  pub places : (pcid : ℕ) → (space_at new.hardware.spaces pcid).places ≡ (space_at s.hardware.spaces pcid).places
  pub table : new.table ≡ s.table
  pub in_memory : (owner : FilePage) → is_in_memory s.hardware.memory owner ≡ true
      → is_in_memory new.hardware.memory owner ≡ true
  pub lengths : new.lengths ≡ s.lengths
  pub quiescent : s.write_outs.broken ≡ false → s.write_outs.batches ≡ []
      → (new.write_outs.broken ≡ false) × (new.write_outs.batches ≡ [])
  pub room : count_by is_none new.hardware.memory.frames ≡ count_by is_none s.hardware.memory.frames
  pub marks : new.marks ≡ s.marks
  pub free : (s.write_outs.broken ≡ false → is_busy s.write_outs ≡ false) → new.write_outs.broken ≡ false
      → is_busy new.write_outs ≡ false

-- a page that is in memory still isn't lacking
lacks_still : (grows inside there there' : Bool) → (there ≡ true → there' ≡ true)
    → (grows && inside && not there) ≡ false
    → (grows && inside && not there') ≡ false
lacks_still false inside there there' stays is = refl
lacks_still true false there there' stays is = refl
lacks_still true true true there' stays is = ap not (stays refl)
lacks_still true true false there' stays is = absurd (cc)

pub prepared_moved : (s new : State) (change : Change) → StaysPrepared s new → IsPrepared s change
    → IsPrepared new change
prepared_moved s new (Unmap pcid range) stays is = (stays.users pcid is.0, is.1)
prepared_moved s new (Protect pcid range rights) stays is = (
  stays.users pcid is.0,
  is.1,
  ap (λ (places : Places). protect_refusal places range rights) (stays.places pcid) ∙ is.2,
)
prepared_moved s new (Reclaim owner) stays is = (
  subst (λ (table : SuperValue). owner.file < length table.files) (sym stays.table) is.0,
  subst (λ (table : SuperValue). owner.page < pages_in_file table.files owner.file) (sym stays.table) is.1,
  stays.in_memory owner is.2,
)
prepared_moved s new (SetLength file to) stays is =
    let same = stays.lengths in
    let quiescent = stays.quiescent is.whole is.done in
    let memory = new.hardware.memory in
    record {
      block = subst (λ (table : SuperValue). 0 < lengths_blocks table.layout) (sym stays.table) is.block;
      there = subst (λ (table : SuperValue). file < length table.files) (sym stays.table) is.there;
      within = subst (λ (table : SuperValue). to ≤ get_or (map (λ f. f.capacity) table.files) file 0)
          (sym stays.table) is.within;
      differs = λ e. is.differs (e ∙ ap (λ (l : List ℕ). get_or l file 0) same);
      whole = quiescent.0;
      done = quiescent.1;
      resident = subst (λ (l : List ℕ). (ltb (get_or l file 0) to && not (eqb (get_or l file 0 % 4096) 0)
          && not (is_in_memory memory (record { file = file; page = get_or l file 0 / 4096 }))) ≡ false) (sym same)
          (lacks_still (ltb (get_or s.lengths file 0) to) (not (eqb (get_or s.lengths file 0 % 4096) 0))
          (is_in_memory s.hardware.memory (record { file = file; page = get_or s.lengths file 0 / 4096 }))
          (is_in_memory memory (record { file = file; page = get_or s.lengths file 0 / 4096 }))
          (stays.in_memory (record { file = file; page = get_or s.lengths file 0 / 4096 })) is.resident);
      room = subst (λ (l : List ℕ).
          ltb (count_by is_none memory.frames) (pages_of to - pages_of (get_or l file 0)) ≡ false) (sym same)
          (ap (λ n. ltb n (pages_of to - pages_of (get_or s.lengths file 0))) stays.room ∙ is.room);
    }
prepared_moved s new Checkpoint stays is = (subst (λ n. n + 1 < 2 ^ 32) (sym stays.marks) is.0, stays.free is.1)

-- where only frames, notes and write-outs change, spaces are sound if what is under way is prepared still
pub spaces_stay : {s : State} {memory : FramesState} {checkpoint : CheckpointState} {outs : WriteOutsValue}
    → AreSpacesSound s
    → ((lock : Lock) → s.hardware.shootdown.lock ≡ Some lock → IsPrepared
    (record s { hardware = record s.hardware { memory = memory }; checkpoint = checkpoint; write_outs = outs })
    lock.change)
    → AreSpacesSound
    (record s { hardware = record s.hardware { memory = memory }; checkpoint = checkpoint; write_outs = outs })
spaces_stay is prepared = record { tables = is.tables; prepared = prepared }

-- ---- processors

-- it depends on no processor, and of spaces on which there are and what they map
pub prepared_same : (s : State) (shootdown : ShootdownState) (spaces : Spaces) (change : Change)
    → SamePlaces s.hardware.spaces spaces → IsPrepared s change
    → IsPrepared (record s { hardware = record s.hardware { shootdown = shootdown; spaces = spaces } }) change
prepared_same s shootdown spaces change same =
    prepared_moved s (record s { hardware = record s.hardware { shootdown = shootdown; spaces = spaces } }) change
    (record {
      users = λ pcid user. ap (λ is. Rattle.std.specs.Prelude.nat_lt 0 pcid && is) (same.there pcid) ∙ user;
      places = same.places;
      table = refl;
      in_memory = λ owner there. there;
      lengths = refl;
      quiescent = λ whole none. (whole, none);
      room = refl;
      marks = refl;
      free = λ free. free;
    })

-- other processors that cohere with the page tables, each in a space that is there
pub shootdown_sound : (s : State) (shootdown : ShootdownState) → IsShootdown shootdown
    → Coheres s.hardware.spaces shootdown
    → ((p : ℕ) → p < length shootdown.processors → has_space s.hardware.spaces (current shootdown p) ≡ true)
    → ((lock : Lock) → shootdown.lock ≡ Some lock → IsPrepared s lock.change) → IsSound s
    → IsSound (with_shootdown s shootdown)
shootdown_sound s shootdown is coheres current prepared sound = still_sound sound refl refl
    (record {
      tables = record {
        spaces = sound.spaces.spaces;
        shootdown = is;
        coheres = coheres;
        current = current;
        in_table = sound.spaces.in_table;
      };
      prepared = λ lock held. prepared_same s shootdown s.hardware.spaces lock.change
          (record { there = λ q. refl; places = λ q. refl }) (prepared lock held);
    })
    (memory_same s shootdown s.write_outs s.marks sound.memory)
    (write_outs_moved s (record s.hardware { shootdown = shootdown }) s.checkpoint refl
    (λ owner there. there) sound.write_outs)
