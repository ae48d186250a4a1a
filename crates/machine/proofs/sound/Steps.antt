-- What a step of the write-outs leaves of processors, batches and copies.
use Rattle.machine.proofs.Names.{ℕ, zero, suc, ◌≡◌, ◌-◌, ◌<◌, ◌≤◌, eqb, Bool, true, false, cond, List, [], ◌∷◌, length}
use Rattle.machine.proofs.Names.{map, drop, get_or, Option, Some, None, refl, ap, ◌∙◌, arith, All, list_any}
use Rattle.machine.proofs.Names.{option_map_or, option_and_then, or_parts, or_from, eqb-false, ne_eqb}
use Rattle.machine.proofs.Names.{length-drop, FilePage, FramesState, Frame}
use Rattle.machine.proofs.Names.{without_copies, journals_of, geometry_of, AreHomes, Batch, Flushed, WriteOut}
use Rattle.machine.proofs.Names.{next_record, answer_of, WriteOutsValue, has_uncommitted, Stage, record_at}
use Rattle.machine.proofs.Names.{batches_after, is_busy, committed_parts, moving, CheckpointState, is_of_page}
use Rattle.machine.proofs.Names.{freed_copy, without_copy_of, Hardware, State, home_of, IsMemory}
use Rattle.machine.proofs.Names.{AreOlderCommitted, AreSpacesSound, AreWriteOutsSound, IsSound}
use Rattle.journal.specs.declared.flushed.Flushed.TheVariants as flushed
use Rattle.machine.proofs.sound.Lists.{once_frames, once_copies, memory_from, AreOnce-fewer, AreOnce-none}
use Rattle.machine.proofs.sound.Groups.{prepared_moved, spaces_stay}
use Rattle.machine.proofs.sound.Sources.{source_stays}
use Rattle.machine.proofs.Names.{IsSource, file_homes, count_by, is_none}
use Rattle.machine.proofs.sound.Sharing.{shared, outs_moved, Makes, each_stepped}
use Rattle.machine.proofs.sound.Sharing.{length-stepped, ending}
use Rattle.machine.proofs.sound.Waiting.{waiting, committed-stepped, all_after}

-- ---- what a step leaves of processors and write-outs

pub none_after : (shares : Bool) (answer : Flushed) → batches_after shares answer [] ≡ []
none_after shares flushed.Device = refl
none_after shares flushed.Broken = refl
none_after shares (flushed.Done mark) = refl
none_after shares answer = refl

module _ (s : State) (sound : IsSound s) where
  -- the write-outs, where frames keep their pages
  pub stepped_write_outs : (answer : Flushed) (broken : Bool) (hardware : Hardware) (checkpoint : CheckpointState)
      → hardware.memory.frames ≡ s.hardware.memory.frames
      → AreOlderCommitted (batches_after (shared s.write_outs) answer s.write_outs.batches)
      → length (batches_after (shared s.write_outs) answer s.write_outs.batches) ≤ length s.write_outs.batches
      → (s.resized ≡ true → broken ≡ false)
      → map (home_of s.table) checkpoint.frozen ≡ cond broken
      [] (file_homes s.table (waiting (batches_after (shared s.write_outs) answer s.write_outs.batches)))
      → AreWriteOutsSound (record s {
        hardware = hardware;
        checkpoint = checkpoint;
        write_outs = record s.write_outs {
          batches = batches_after
              (shared s.write_outs) answer s.write_outs.batches;
          broken = broken;
        };
      })
  stepped_write_outs answer broken hardware checkpoint same older few unset frozen =
      let is = sound.write_outs in
      let batches = s.write_outs.batches in
      let source : ℕ → Type 0 = IsSource s.table hardware.memory in
      let still : All (λ (w : WriteOut). All source w.batch.homes) batches = λ k d within i e below.
      source_stays s.table s.hardware.memory hardware.memory (get_or (get_or batches k d).batch.homes i e)
      (λ owner at there. ap (λ (frames : List (Option Frame)). list_any (is_of_page owner) frames) same ∙ there)
      (is.sources k d within i e below) in
      record {
        geometry = is.geometry;
        few_batches = omega (arith, few, is.few_batches);
        older = older;
        homes = all_after (λ (b : Batch). AreHomes (geometry_of s.table) b.homes)
            (shared s.write_outs) answer batches is.homes;
        sources = all_after (λ (b : Batch). All source b.homes) (shared s.write_outs) answer batches still;
        marked = all_after (λ (b : Batch). (0 < b.mark) × (b.mark ≤ s.marks))
            (shared s.write_outs) answer batches is.marked;
        few_marks = is.few_marks;
        quiescent =
            λ set. (
              ap (batches_after (shared s.write_outs) answer) (is.quiescent set).0
                  ∙ none_after (shared s.write_outs) answer,
              unset set,
              (is.quiescent set).2,
            );
        frozen = frozen;
      }

  -- the processors and the page tables
  pub stepped_spaces : (memory : FramesState) (checkpoint : CheckpointState) (outs : WriteOutsValue)
      → memory.frames ≡ s.hardware.memory.frames
      → ((s.write_outs.broken ≡ false → is_busy s.write_outs ≡ false) → outs.broken ≡ false → is_busy outs ≡ false)
      → (s.write_outs.broken ≡ false → s.write_outs.batches ≡ [] → (outs.broken ≡ false) × (outs.batches ≡ []))
      → AreSpacesSound
      (record s { hardware = record s.hardware { memory = memory }; checkpoint = checkpoint; write_outs = outs })
  stepped_spaces memory checkpoint outs same free quiescent =
      spaces_stay sound.spaces (λ lock held. prepared_moved s (record s {
        hardware = record s.hardware { memory = memory };
        checkpoint = checkpoint;
        write_outs = outs;
      }) lock.change (record {
        users = λ q user. user;
        places = λ q. refl;
        table = refl;
        in_memory = λ owner there.
            ap (λ (frames : List (Option Frame)). list_any (is_of_page owner) frames) same ∙ there;
        lengths = refl;
        quiescent = quiescent;
        room = ap (λ (frames : List (Option Frame)). count_by is_none frames) same;
        marks = refl;
        free = free;
      }) (sound.spaces.prepared lock held))

-- ---- whose step it is

-- where one ends, no record is written
pub none_recorded : (shares : Bool) (batches : List WriteOut) (mark : ℕ)
    → option_map_or answer_of (moving shares batches) flushed.Broken ≡ flushed.Done mark
    → option_and_then next_record (moving shares batches) ≡ None
none_recorded shares batches mark e =
    let ends = ending shares batches mark e in
    ap (λ (o : Option WriteOut). option_and_then next_record o) ends.is
    ∙ ap (λ (o : Option Stage). option_and_then record_at o) ends.stage

-- write-outs that may take a batch may still after a step
pub free-moved : (outs : WriteOutsValue) → is_busy outs ≡ false
    → is_busy (record outs { batches = outs_moved outs }) ≡ false
free-moved outs free =
    let parts = or_parts (has_uncommitted outs.batches)
    (eqb (length outs.batches) (journals_of outs.geometry.layout)) free in
    let steps = each_stepped (shared outs) outs.batches in
    or_from (has_uncommitted (outs_moved outs)) (eqb (length (outs_moved outs)) (journals_of outs.geometry.layout))
    (committed-stepped (Makes (shared outs) outs.batches) outs.batches (outs_moved outs) steps parts.0)
    (ap (λ n. eqb n (journals_of outs.geometry.layout))
    (length-stepped (Makes (shared outs) outs.batches) outs.batches (outs_moved outs) steps) ∙ parts.1)

pub free-done : (outs : WriteOutsValue) → length outs.batches ≤ journals_of outs.geometry.layout → is_busy outs ≡ false
    → is_busy (record outs { batches = drop 1 (outs_moved outs) }) ≡ false
free-done outs few free =
    let journals : ℕ = journals_of outs.geometry.layout in
    let parts = or_parts (has_uncommitted outs.batches) (eqb (length outs.batches) journals) free in
    let other = eqb-false (length outs.batches) journals parts.1 in
    let steps = each_stepped (shared outs) outs.batches in
    let same = length-stepped (Makes (shared outs) outs.batches) outs.batches (outs_moved outs) steps in
    or_from (has_uncommitted (drop 1 (outs_moved outs))) (eqb (length (drop 1 (outs_moved outs))) journals)
    (rest (outs_moved outs)
    (committed-stepped (Makes (shared outs) outs.batches) outs.batches (outs_moved outs) steps parts.0))
    (ne_eqb (length (drop 1 (outs_moved outs))) journals (smaller (length outs.batches)
    journals (length (drop 1 (outs_moved outs)))
    (length-drop 1 (outs_moved outs) ∙ ap (λ n. n - 1) same) few other))
  where
    rest : (batches : List WriteOut) → has_uncommitted batches ≡ false → has_uncommitted (drop 1 batches) ≡ false
    rest [] none = refl
    rest (w ∷ newer) none = (committed_parts w newer none).1

    smaller : (a b c : ℕ) → c ≡ a - 1 → a ≤ b → (a ≡ b → ⊥) → c ≡ b → ⊥
    smaller a b c is le other same = other (omega arith)

-- ---- copies that become free

freed_before : (page : FilePage) (copies : List (Option Frame)) (k : ℕ) (f : Frame)
    → get_or (map (freed_copy page) copies) k None ≡ Some f → get_or copies k None ≡ Some f
freed_before page [] k f e = absurd (cc)
freed_before page (copy ∷ copies) zero f e = by (is_of_page page copy) e
  where
    by : (b : Bool) → cond b None copy ≡ Some f → copy ≡ Some f
    by true e = absurd (cc)
    by false e = e
freed_before page (copy ∷ copies) (suc k) f e = freed_before page copies k f e

pub IsMemory-without_copy_of : (memory : FramesState) (page : FilePage) → IsMemory memory
    → IsMemory (without_copy_of memory page)
IsMemory-without_copy_of memory page is =
    memory_from (without_copy_of memory page) (once_frames memory is) (AreOnce-fewer memory.copies
    (map (freed_copy page) memory.copies) (λ k f e. freed_before page memory.copies k f e) (once_copies memory is))

pub none_left : (copies : List (Option Frame)) (k : ℕ)
    → ◌≡◌ {A = Option Frame} (get_or (map (λ copy. None) copies) k None) None
none_left [] k = refl
none_left (copy ∷ copies) zero = refl
none_left (copy ∷ copies) (suc k) = none_left copies k

pub IsMemory-without_copies : (memory : FramesState) → IsMemory memory → IsMemory (without_copies memory)
IsMemory-without_copies memory is = memory_from (without_copies memory) (once_frames memory is)
    (AreOnce-none (map (λ copy. None) memory.copies) (none_left memory.copies))
