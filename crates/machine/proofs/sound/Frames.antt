-- Other frames keep a machine sound.
use Rattle.machine.proofs.Names.{ℕ, ◌≡◌, ◌≢◌, ◌+◌, ◌-◌, ◌*◌, ◌≤◌, not, true, false, List, ◌++◌, length, take, drop}
use Rattle.machine.proofs.Names.{get_or, Option, Some, None, IsSome, slice_get, refl, sym, ap, ◌∙◌, subst, inl, ⊎_elim}
use Rattle.machine.proofs.Names.{zero, suc, [], ◌∷◌, ◌⊎◌, cond, set, inr, is_none, count_by}
use Rattle.std.proofs.lemmas.List.Sums.{sum_by-cons}
use Rattle.machine.proofs.Names.{arith, cases_eq, and_parts, not-true, false≢true, length-append, length-take}
use Rattle.machine.proofs.Names.{length-take-le, length-drop, length-set, get_or-set_other, Contains-get_or, Mapped}
use Rattle.machine.proofs.Names.{FilePage, block_at, length-padded, FramesState, Frame, frame_at, overwrite}
use Rattle.machine.proofs.Names.{overwrite_frame, with_bytes, with_page, with_copy, without_frame, page_of, after_set}
use Rattle.machine.proofs.Names.{HasBlock, entry_at, CheckpointState, NotesTaken, Holds, is_noted, is_frozen, is_held}
use Rattle.machine.proofs.Names.{is_copied, AreBacked, has_page-list_any, list_any-has_page, Holds-with_page}
use Rattle.machine.proofs.Names.{AreBacked-with_bytes, AreBacked-with_page, AreBacked-with_copy}
use Rattle.machine.proofs.Names.{AreBacked-without_frame, is_in_memory, State, length_of, home_of, cut_at_end}
use Rattle.machine.proofs.Names.{page_from, with_hardware, MayLeave, IsInFile, IsMemory, IsMemorySound, IsSound}
use Rattle.machine.proofs.sound.Lists.{held_frame, same_some, once_frames, once_copies, memory_from, AreOnce-set}
use Rattle.machine.proofs.sound.Admitted.{unlocked}
use Rattle.machine.proofs.sound.Groups.{still_sound, write_outs_moved, write_outs_kept, prepared_moved, spaces_stay}
use Rattle.machine.proofs.sound.Ended.{frozen_has_block}

-- ---- pages in memory

-- what has a page is in use
pub in_use : (o : Option Frame) (owner : FilePage) → page_of o ≡ Some owner → IsSome o
in_use None owner e = absurd (cc)
in_use (Some f) owner e = refl

-- what is in use has a page
pub its_page : (o : Option Frame) → IsSome o → (owner : FilePage) × (page_of o ≡ Some owner)
its_page None used = absurd (cc)
its_page (Some f) used = (f.page, refl)

pub in_memory_held : (memory : FramesState) (frame : ℕ) (owner : FilePage) → Holds memory frame owner
    → is_in_memory memory owner ≡ true
in_memory_held memory frame owner holds = list_any-has_page memory.frames owner frame holds

pub held_in_memory : (memory : FramesState) (owner : FilePage) → is_in_memory memory owner ≡ true
    → (frame : ℕ) × Holds memory frame owner
held_in_memory memory owner there = let has = has_page-list_any memory.frames owner there in (has.number, has.holds)

-- frames that keep their pages keep them in memory, and stay in use
pub in_memory_stays : (old new : FramesState)
    → ((frame : ℕ) (owner : FilePage) → Holds old frame owner → Holds new frame owner) → (owner : FilePage)
    → is_in_memory old owner ≡ true → is_in_memory new owner ≡ true
in_memory_stays old new stays owner there = let held = held_in_memory old owner there in
    in_memory_held new held.0 owner (stays held.0 owner held.1)

pub in_use_stays : (old new : FramesState)
    → ((frame : ℕ) (owner : FilePage) → Holds old frame owner → Holds new frame owner) → (frame : ℕ)
    → IsSome (frame_at old frame) → IsSome (frame_at new frame)
in_use_stays old new stays frame used = let page = its_page (frame_at old frame) used in
    in_use (frame_at new frame) page.0 (stays frame page.0 page.1)

-- ---- other frames

abbrev pub with_memory : State → FramesState → State
with_memory s memory = with_hardware s (record s.hardware { memory = memory })

-- other frames, which keep the pages that frames had
pub frames_sound : (s : State) (memory : FramesState) → IsMemory memory
    → length memory.frames ≡ length s.hardware.memory.frames
    → ((frame : ℕ) (owner : FilePage) → Holds s.hardware.memory frame owner → Holds memory frame owner)
    → ((frame : ℕ) (owner : FilePage) → Holds memory frame owner → IsInFile s owner)
    → AreBacked memory s.checkpoint s.hardware.spaces
    → ((copy : ℕ) (kept : Frame) → get_or memory.copies copy None ≡ Some kept → is_frozen s.checkpoint kept.page ≡ true)
    → (s.hardware.shootdown.lock ≡ None) ⊎ (count_by is_none memory.frames ≡ count_by is_none s.hardware.memory.frames)
    → IsSound s → IsSound (with_memory s memory)
frames_sound s memory is same stays in_files backed copied room sound = still_sound sound refl refl
    (spaces_stay sound.spaces (λ lock held. ⊎_elim (λ free. unlocked s.hardware.shootdown.lock lock free held)
    (λ as_many. prepared_moved s (with_memory s memory) lock.change
    (record {
      users = λ q user. user;
      places = λ q. refl;
      table = refl;
      in_memory = in_memory_stays s.hardware.memory memory stays;
      lengths = refl;
      quiescent = λ whole none. (whole, none);
      room = as_many;
      marks = refl;
      free = λ free. free;
    })
    (sound.spaces.prepared lock held)) room))
    (record {
      memory = is;
      few_frames = omega (arith, same, sound.memory.few_frames);
      in_files = λ frame owner holds. let file = in_files frame owner holds in
          record { there = file.there; inside = file.inside };
      backed = backed;
      notes = sound.memory.notes ∙ sym same;
      noted = λ frame noted. in_use_stays s.hardware.memory memory stays frame (sound.memory.noted frame noted);
      frozen = λ k d within. in_memory_stays s.hardware.memory memory stays _ (sound.memory.frozen k d within);
      rising = sound.memory.rising;
      copied = copied;
    })
    (write_outs_moved s (record s.hardware { memory = memory }) s.checkpoint refl
    (in_memory_stays s.hardware.memory memory stays) sound.write_outs)

-- ---- bytes that are written

length-overwrite : (page : List ℕ) (at : ℕ) (bytes : List ℕ) → length page ≡ 4096 → at + length bytes ≤ 4096
    → length (overwrite page at bytes) ≡ 4096
length-overwrite page at bytes whole within =
    omega (
      arith,
      whole,
      length-append (take at page ++ bytes) (drop (at + length bytes) page),
      length-append (take at page) bytes,
      length-take-le at page (omega (arith, whole)),
      length-drop (at + length bytes) page,
    )

pub page_of-overwrite : (f : Option Frame) (at : ℕ) (bytes : List ℕ) → page_of (overwrite_frame f at bytes) ≡ page_of f
page_of-overwrite None at bytes = refl
page_of-overwrite (Some f) at bytes = refl

-- each frame has the page that it had
pub page_of-with_bytes : (memory : FramesState) (frame at : ℕ) (bytes : List ℕ) (k : ℕ)
    → page_of (frame_at (with_bytes memory frame at bytes) k) ≡ page_of (frame_at memory k)
page_of-with_bytes memory frame at bytes k =
    ⊎_elim (λ old. ap page_of old) (λ new. ap page_of new.1 ∙ page_of-overwrite (frame_at memory frame) at bytes
    ∙ ap (λ n. page_of (frame_at memory n)) (sym new.0))
    (after_set memory.frames frame (overwrite_frame (frame_at memory frame) at bytes) k)

overwritten_whole : (o : Option Frame) (at : ℕ) (bytes : List ℕ) → at + length bytes ≤ 4096
    → ((f : Frame) → o ≡ Some f → length f.bytes ≡ 4096) → (f : Frame) → overwrite_frame o at bytes ≡ Some f
    → length f.bytes ≡ 4096
overwritten_whole None at bytes within whole f e = absurd (cc)
overwritten_whole (Some g) at bytes within whole f e =
    sym (ap (λ (x : Frame). length x.bytes) (same_some e)) ∙ length-overwrite g.bytes at bytes (whole g refl) within

pub IsMemory-with_bytes : (memory : FramesState) (frame at : ℕ) (bytes : List ℕ) → at + length bytes ≤ 4096
    → IsMemory memory → IsMemory (with_bytes memory frame at bytes)
IsMemory-with_bytes memory frame at bytes within is =
    let once = once_frames memory is in
    memory_from (with_bytes memory frame at bytes)
    (AreOnce-set memory.frames frame (overwrite_frame (frame_at memory frame) at bytes) once
    (overwritten_whole (frame_at memory frame) at bytes within (once.whole frame))
    (λ n f g other new old same.
    let was = held_frame (frame_at memory frame) f.page
    (sym (page_of-overwrite (frame_at memory frame) at bytes) ∙ ap page_of new) in
    other (once.one n frame g was.0 old was.1 (sym same ∙ sym was.2))))
    (once_copies memory is)

-- as many frames are free, where one is in use or free as before
free_as_many : (frames : List (Option Frame)) (k : ℕ) (o : Option Frame) → is_none o ≡ is_none (get_or frames k None)
    → count_by is_none (set frames k o) ≡ count_by is_none frames
free_as_many [] k o same = refl
free_as_many (f ∷ fs) zero o same =
    sum_by-cons (λ y. cond (is_none y) 1 0) o fs ∙ ap (λ b. cond b 1 0 + count_by is_none fs) same
    ∙ sym (sum_by-cons (λ y. cond (is_none y) 1 0) f fs)
free_as_many (f ∷ fs) (suc k) o same =
    sum_by-cons (λ y. cond (is_none y) 1 0) f (set fs k o)
    ∙ ap (λ n. cond (is_none f) 1 0 + n) (free_as_many fs k o same)
    ∙ sym (sum_by-cons (λ y. cond (is_none y) 1 0) f fs)

none-overwrite : (o : Option Frame) (at : ℕ) (bytes : List ℕ) → is_none (overwrite_frame o at bytes) ≡ is_none o
none-overwrite None at bytes = refl
none-overwrite (Some f) at bytes = refl

-- bytes are written into a page
pub bytes_sound : (s : State) (frame at : ℕ) (bytes : List ℕ) → at + length bytes ≤ 4096 → IsSound s
    → IsSound (with_memory s (with_bytes s.hardware.memory frame at bytes))
bytes_sound s frame at bytes within sound =
    let memory = s.hardware.memory in
    frames_sound s (with_bytes memory frame at bytes)
    (IsMemory-with_bytes memory frame at bytes within sound.memory.memory)
    (length-set memory.frames frame (overwrite_frame (frame_at memory frame) at bytes))
    (λ k owner holds. page_of-with_bytes memory frame at bytes k ∙ holds)
    (λ k owner holds. sound.memory.in_files k owner (sym (page_of-with_bytes memory frame at bytes k) ∙ holds))
    (AreBacked-with_bytes memory s.checkpoint s.hardware.spaces frame at bytes sound.memory.backed) sound.memory.copied
    (inr (free_as_many memory.frames frame (overwrite_frame (frame_at memory frame) at bytes)
    (none-overwrite (frame_at memory frame) at bytes))) sound

-- ---- a page that is read in

-- it is a whole page
pub length-cut_at_end : (s : State) (owner : FilePage) (bytes : List ℕ) → length bytes ≤ 4096
    → length (cut_at_end s owner bytes) ≡ 4096
length-cut_at_end s owner bytes few =
    let kept = length_of s owner.file - 4096 * owner.page in
    length-padded 4096 (take kept bytes) (omega (arith, few, length-take kept bytes))

pub length-page_from : (s : State) (disk : List ℕ) (owner : FilePage) → length (page_from s disk owner) ≡ 4096
length-page_from s disk owner =
    length-cut_at_end s owner (block_at disk (home_of s.table owner))
    (omega (arith, length-take 4096 (drop (4096 * home_of s.table owner) disk)))

module _ (s : State) (frame : ℕ) (owner : FilePage) where
  -- a page comes into a free frame
  pub page_sound : (bytes : List ℕ) → IsInFile s owner → length bytes ≡ 4096 → is_in_memory s.hardware.memory owner
      ≡ false → slice_get s.hardware.memory.frames frame ≡ Some None → s.hardware.shootdown.lock ≡ None → IsSound s
      → IsSound (with_memory s (with_page s.hardware.memory frame owner bytes))
  page_sound bytes in_file whole absent free unlocked_now sound =
      let memory = s.hardware.memory in
      let page : Frame = record { page = owner; bytes = bytes } in
      let once = once_frames memory sound.memory.memory in
      let its_bytes : (f : Frame) → Some page ≡ Some f → length f.bytes ≡ 4096 =
      λ f e. sym (ap (λ (x : Frame). length x.bytes) (same_some e)) ∙ whole in
      let alone : (n : ℕ) (f g : Frame) → n ≢ frame → Some page ≡ Some f → get_or memory.frames n None ≡ Some g
      → f.page ≡ g.page → ⊥ = λ n f g other new old same.
      false≢true (sym absent ∙ in_memory_held memory n owner (ap page_of old
      ∙ ap (λ (p : FilePage). Some p) (sym same ∙ sym (ap (λ (x : Frame). x.page) (same_some new))))) in
      frames_sound s (with_page memory frame owner bytes) (memory_from (with_page memory frame owner bytes)
      (AreOnce-set memory.frames frame (Some page) once its_bytes alone) (once_copies memory sound.memory.memory))
      (length-set memory.frames frame (Some page))
      (λ k other holds. Holds-with_page memory frame owner bytes k other free holds)
      (λ k other holds. ⊎_elim
      (λ old. sound.memory.in_files k other (sym (ap page_of old) ∙ holds))
      (λ new. subst (IsInFile s) (same_some (sym (ap page_of new.1) ∙ holds)) in_file)
      (after_set memory.frames frame (Some page) k))
      (AreBacked-with_page memory s.checkpoint s.hardware.spaces frame owner bytes free sound.memory.backed)
      sound.memory.copied (inl unlocked_now) sound

  -- its bytes are copied, where it is held
  pub copy_sound : (copy : ℕ) → Holds s.hardware.memory frame owner
      → is_held s.hardware.memory s.checkpoint owner ≡ true → slice_get s.hardware.memory.copies copy ≡ Some None
      → IsSound s
      → IsSound (with_memory s (with_copy s.hardware.memory copy frame))
  copy_sound copy holds held free sound =
      let memory = s.hardware.memory in
      let parts = and_parts (is_frozen s.checkpoint owner) (not (is_copied memory owner)) held in
      let page_is : (f : Frame) → frame_at memory frame ≡ Some f → f.page ≡ owner =
      λ f at. same_some (sym (ap page_of at) ∙ holds) in
      let alone : (n : ℕ) (f g : Frame) → n ≢ copy → frame_at memory frame ≡ Some f
      → get_or memory.copies n None ≡ Some g → f.page ≡ g.page → ⊥ = λ n f g other new old same.
      false≢true (sym (not-true (is_copied memory owner) parts.1) ∙ list_any-has_page memory.copies owner n
      (ap page_of old ∙ ap (λ (p : FilePage). Some p) (sym same ∙ page_is f new))) in
      frames_sound s (with_copy memory copy frame)
      (memory_from (with_copy memory copy frame) (once_frames memory sound.memory.memory)
      (AreOnce-set memory.copies copy (frame_at memory frame) (once_copies memory sound.memory.memory)
      ((once_frames memory sound.memory.memory).whole frame) alone))
      refl (λ k other there. there) sound.memory.in_files
      (AreBacked-with_copy memory s.checkpoint s.hardware.spaces copy frame free sound.memory.backed)
      (λ k kept there. ⊎_elim
      (λ old. sound.memory.copied k kept (sym old ∙ there))
      (λ new. ap (is_frozen s.checkpoint) (page_is kept (sym new.1 ∙ there)) ∙ parts.0)
      (after_set memory.copies copy (frame_at memory frame) k)) (inr refl) sound

-- a frame that becomes free
module _ (memory : FramesState) (frame : ℕ) where
  -- no other loses its page
  holds_before : (k : ℕ) (owner : FilePage) → Holds (without_frame memory frame) k owner → Holds memory k owner
  holds_before k owner holds = ⊎_elim (λ old. sym (ap page_of old) ∙ holds)
      (λ new. absurd (let none = ap page_of new.1 in cc)) (after_set memory.frames frame None k)

  pub holds_still : (k : ℕ) (owner : FilePage) → k ≢ frame → Holds memory k owner
      → Holds (without_frame memory frame) k owner
  holds_still k owner other holds = ap page_of (get_or-set_other memory.frames frame k None None other) ∙ holds

  pub IsMemory-without_frame : IsMemory memory → IsMemory (without_frame memory frame)
  IsMemory-without_frame is =
      memory_from (without_frame memory frame)
      (AreOnce-set memory.frames frame None (once_frames memory is) (λ f e. absurd (cc))
      (λ n f g other new old same. absurd (cc)))
      (once_copies memory is)

  -- another page than its own stays in memory
  pub other_in_memory : (own other : FilePage) → Holds memory frame own → own ≢ other → is_in_memory memory other ≡ true
      → is_in_memory (without_frame memory frame) other ≡ true
  other_in_memory own other holds differs there =
      let held = held_in_memory memory other there in
      ⊎_elim
      (λ same. absurd (differs (same_some (sym holds ∙ ap (λ k. page_of (frame_at memory k)) (sym same) ∙ held.1))))
      (λ apart. in_memory_held (without_frame memory frame) held.0 other (holds_still held.0 other apart held.1))
      (cases_eq held.0 frame)

-- a page leaves memory, which no entry maps any more, while the lock is free
pub dropped_sound : (s : State) (owner : FilePage) (frame : ℕ) → MayLeave s owner frame
    → ((pcid page : ℕ) (entry : Mapped) → entry_at s.hardware.spaces pcid page ≡ Some entry → entry.frame ≢ frame)
    → s.hardware.shootdown.lock ≡ None → IsSound s → IsSound (with_memory s (without_frame s.hardware.memory frame))
dropped_sound s owner frame leaves unmapped free sound =
    let memory = s.hardware.memory in
    let is = sound.memory in
    still_sound sound refl refl
    (spaces_stay sound.spaces (λ lock held. unlocked s.hardware.shootdown.lock lock free held))
    (record {
      memory = IsMemory-without_frame memory frame is.memory;
      few_frames =
          omega (arith, is.few_frames, length-set memory.frames frame (let none : Option Frame = None in none));
      in_files = λ k page holds. let file = is.in_files k page (holds_before memory frame k page holds) in
          record { there = file.there; inside = file.inside };
      backed = AreBacked-without_frame memory s.checkpoint s.hardware.spaces frame unmapped is.backed;
      notes = is.notes ∙ sym (length-set memory.frames frame None);
      noted = λ k noted.
          let page = its_page (frame_at memory k) (is.noted k noted) in
          ⊎_elim (λ same. absurd (leaves.clean (inl (ap (λ n. get_or s.checkpoint.notes n false) (sym same) ∙ noted))))
          (λ other. in_use (frame_at (without_frame memory frame) k) page.0
          (holds_still memory frame k page.0 other page.1)) (cases_eq k frame);
      frozen = λ k d within.
          let page = get_or s.checkpoint.frozen k d in
          other_in_memory memory frame owner page leaves.held
          (apart page (frozen_has_block s page sound.write_outs leaves.whole
          (Contains-get_or s.checkpoint.frozen k d within))) (is.frozen k d within);
      rising = is.rising;
      copied = is.copied;
    })
    (write_outs_kept s (record s.hardware { memory = without_frame memory frame }) s.checkpoint refl
    (λ other has there. other_in_memory memory frame owner other leaves.held (apart other has) there) sound.write_outs)
  where
    -- its home block is in no batch
    apart : (other : FilePage) → HasBlock s.write_outs (home_of s.table other) → owner ≢ other
    apart other has same = leaves.written
        (subst (λ (o : FilePage). HasBlock s.write_outs (home_of s.table o)) (sym same) has)

-- ---- notes

-- notes that are taken of entries that go are of frames in use
pub notes_in_use : (s : State) (checkpoint : CheckpointState) (taken : ℕ → ℕ → Type 0)
    → NotesTaken s.hardware.spaces taken s.checkpoint checkpoint → IsMemorySound s
    → (frame : ℕ) → is_noted checkpoint frame ≡ true → IsSome (frame_at s.hardware.memory frame)
notes_in_use s checkpoint taken noted is frame here = ⊎_elim
    (λ before. is.noted frame before)
    (λ has.
    let held = (is.backed has.pcid has.page has.entry has.present).held in
    subst (λ k. IsSome (frame_at s.hardware.memory k)) has.same_frame
    (in_use (frame_at s.hardware.memory has.entry.frame) _ held))
    ((noted.noted frame).0 here)
