-- The page whose record comes next: it is frozen and in memory, and its record is a whole page.
use Rattle.machine.proofs.Names.{inl, inr, ◌||◌, cases_Bool, cond-true, list_any-has_page, ◌≤◌, ℕ, suc, ◌≡◌, ◌<◌, Bool}
use Rattle.machine.proofs.Names.{true, false, cond, List, [], ◌∷◌, length, map, get_or, slice_index, Option, Some, None}
use Rattle.machine.proofs.Names.{refl, sym, ap, ◌∙◌, arith, list_any, option_map, option_and_then, cond-false, or_parts}
use Rattle.machine.proofs.Names.{length-map, get_or-map, FilePage, FramesState, Frame}
use Rattle.machine.proofs.Names.{frame_at, copy_at, page_of, bytes_of, HasNoCopy, next_home, outs_home}
use Rattle.machine.proofs.Names.{is_of_page, same_page, same_page-true, list_any-no_page, is_in_memory, State, home_of}
use Rattle.machine.proofs.Names.{next_page, bytes_with, bytes_at_mark, IsMemory, IsSound}
use Rattle.journal.specs.WriteOut.{next_record as record_of}
use Rattle.machine.proofs.Names.{outs_moving}
use Rattle.machine.proofs.sound.Lists.{AreOnce, held_frame, once_frames, once_copies}
use Rattle.machine.proofs.Names.{◌+◌, drop, drop_more, leb, option_map_or, false≢true, Contains, Contains-get_or}
use Rattle.machine.proofs.Names.{WriteOut}
use Rattle.machine.proofs.Names.{first_file_home, file_homes, is_page_next}
use Rattle.machine.proofs.sound.Sharing.{shared, outs_moved}
use Rattle.machine.proofs.sound.Waiting.{waits_of, waiting, recorded}
use Rattle.machine.proofs.sound.Frames.{held_in_memory}

-- ---- the page whose record comes next

-- where a record is to be written: the first frozen page is in memory, and the record is for its home block
pub record IsRecorded (s : State) : Type 0 where
  pub some : 0 < length s.checkpoint.frozen
  pub there : is_in_memory s.hardware.memory (next_page s) ≡ true
  pub home : outs_home s.write_outs ≡ Some (home_of s.table (next_page s))

-- the block whose record comes next is the first that waits, and the others wait after it
pub record IsComing (s : State) : Type 0 where
  pub home : ℕ
  pub is : outs_home s.write_outs ≡ Some home
  pub w : WriteOut
  pub moving_is : outs_moving s.write_outs ≡ Some w
  pub among : Contains w.batch.homes home
  pub rest : List ℕ
  pub waits : waiting s.write_outs.batches ≡ home ∷ rest
  pub after : waiting (outs_moved s.write_outs) ≡ rest

pub coming : (s : State) → IsSound s → s.write_outs.broken ≡ false → (i : ℕ)
    → option_and_then record_of (outs_moving s.write_outs) ≡ Some i → IsComing s
coming s sound whole i is =
    let made = recorded (shared s.write_outs) s.write_outs.batches i sound.write_outs.older is in
    let w = made.w in
    let few : w.steps < length w.batch.homes = omega (arith, made.steps, made.within) in
    let its_record : record_of w ≡ Some i = sym (ap (option_and_then record_of) made.is) ∙ is in
    let left : waits_of w ≡ get_or w.batch.homes w.steps 0 ∷ drop (w.steps + 1) w.batch.homes =
    drop_more w.batch.homes w.steps 0 few in
    let at : ◌≡◌ {A = ℕ} (slice_index w.batch.homes i) (get_or w.batch.homes w.steps 0) =
    ap (λ n. get_or w.batch.homes n 0) (sym made.steps) in
    record {
      home = get_or w.batch.homes w.steps 0;
      is = cond-false s.write_outs.broken None (option_and_then next_home (outs_moving s.write_outs)) whole
          ∙ ap (option_and_then next_home) made.is
          ∙ ap (option_map (slice_index w.batch.homes)) its_record ∙ ap (λ n. Some n) at;
      w = w;
      moving_is = made.is;
      among = Contains-get_or w.batch.homes w.steps 0 few;
      rest = drop (w.steps + 1) w.batch.homes;
      waits = made.before ∙ left;
      after = made.after ∙ ap (drop 1) left;
    }

-- whether it is a page's
pub page_next : (s : State) (home : ℕ) → outs_home s.write_outs ≡ Some home
    → is_page_next s ≡ leb (first_file_home s.table.layout s.table.slots) home
page_next s home is = ap
    (λ (o : Option ℕ). option_map_or (leb (first_file_home s.table.layout s.table.slots)) o false) is

no_home : (w : Option WriteOut) → option_and_then record_of w ≡ None → option_and_then next_home w ≡ None
no_home None none = refl
no_home (Some w) none = ap (option_map (slice_index w.batch.homes)) none

-- no page's record comes where none does
pub no_page_next : (s : State) → s.write_outs.broken ≡ false
    → option_and_then record_of (outs_moving s.write_outs) ≡ None → is_page_next s ≡ false
no_page_next s whole none =
    ap (λ (o : Option ℕ). option_map_or (leb (first_file_home s.table.layout s.table.slots)) o false)
    (cond-false s.write_outs.broken None (option_and_then next_home (outs_moving s.write_outs)) whole
    ∙ no_home (outs_moving s.write_outs) none)

-- a page comes next only where a record does, of a machine that isn't broken
pub record IsPageNext (s : State) : Type 0 where
  pub whole : s.write_outs.broken ≡ false
  pub place : ℕ
  pub record_is : option_and_then record_of (outs_moving s.write_outs) ≡ Some place

pub page_comes : (s : State) → is_page_next s ≡ true → IsPageNext s
page_comes s page = by s.write_outs.broken refl page
  where
    some : (whole : s.write_outs.broken ≡ false) (o : Option ℕ)
        → option_and_then record_of (outs_moving s.write_outs) ≡ o → IsPageNext s
    some whole None none = absurd (false≢true (sym (no_page_next s whole none) ∙ page))
    some whole (Some i) is = record { whole = whole; place = i; record_is = is }

    by : (b : Bool) → s.write_outs.broken ≡ b → option_map_or (leb (first_file_home s.table.layout s.table.slots))
        (cond b None (option_and_then next_home (outs_moving s.write_outs))) false ≡ true → IsPageNext s
    by true broken e = absurd (false≢true e)
    by false whole e = some whole (option_and_then record_of (outs_moving s.write_outs)) refl

pub next_recorded : (s : State) → IsSound s → is_page_next s ≡ true → IsRecorded s
next_recorded s sound page =
    let p = page_comes s page in
    let c = coming s sound p.whole p.place p.record_is in
    let of_page : leb (first_file_home s.table.layout s.table.slots) c.home ≡ true =
    sym (page_next s c.home c.is) ∙ page in
    let homes : map (home_of s.table) s.checkpoint.frozen ≡ c.home ∷ file_homes s.table c.rest =
    sound.write_outs.frozen ∙ cond-false s.write_outs.broken
    [] (file_homes s.table (waiting s.write_outs.batches)) p.whole ∙ ap (file_homes s.table) c.waits
    ∙ cond-true (leb (first_file_home s.table.layout s.table.slots) c.home) (c.home ∷ file_homes s.table c.rest)
    (file_homes s.table c.rest) of_page in
    let some : 0 < length s.checkpoint.frozen =
    omega (arith, length-map s.checkpoint.frozen (home_of s.table), ap length homes) in
    let at : home_of s.table (next_page s) ≡ c.home =
    sym (get_or-map (home_of s.table) s.checkpoint.frozen 0 (record { file = 0; page = 0 }) 0 some)
    ∙ ap (λ (l : List ℕ). get_or l 0 0) homes in
    record {
      some = some;
      there = sound.memory.frozen 0 (record { file = 0; page = 0 }) some;
      home = c.is ∙ ap (λ n. Some n) (sym at);
    }

-- ---- its bytes

-- the first that has it is at some place
pub bytes_with-at : (owner : FilePage) (frames : List (Option Frame)) (other : List ℕ)
    → list_any (is_of_page owner) frames ≡ true
    → (k : ℕ) × (page_of (get_or frames k None) ≡ Some owner)
    × (bytes_with owner frames other ≡ bytes_of (get_or frames k None))
bytes_with-at owner [] other e = absurd (cc)
bytes_with-at owner (None ∷ xs) other e = let later = bytes_with-at owner xs other e in (suc later.0, later.1, later.2)
bytes_with-at owner (Some f ∷ xs) other e = elim (cases_Bool (same_page owner f.page)) [
  | inl is ↦ (
    0,
    ap (λ (page : FilePage). Some page) (sym (same_page-true owner f.page is)),
    cond-true (same_page owner f.page) f.bytes (bytes_with owner xs other) is,
  )
  | inr differs ↦
      (let later = bytes_with-at owner xs other (ap (λ t. t || list_any (is_of_page owner) xs) (sym differs) ∙ e) in (
        suc later.0,
        later.1,
        cond-false (same_page owner f.page) f.bytes (bytes_with owner xs other) differs ∙ later.2,
      ))
]

-- those of the one that has the page
bytes_with-found : (owner : FilePage) (xs : List (Option Frame)) (other : List ℕ) (k : ℕ) (f : Frame) → AreOnce xs
    → get_or xs k None ≡ Some f → f.page ≡ owner → bytes_with owner xs other ≡ f.bytes
bytes_with-found owner xs other k f once at page =
    let first = bytes_with-at owner xs other
    (list_any-has_page xs owner k (ap page_of at ∙ ap (λ (x : FilePage). Some x) page)) in
    let g = held_frame (get_or xs first.0 None) owner first.1 in
    first.2 ∙ ap (λ n. bytes_of (get_or xs n None)) (once.one first.0 k g.0 f g.1 at (g.2 ∙ sym page)) ∙ ap bytes_of at

-- where none has it, the other ones
pub bytes_with-none : (owner : FilePage) (xs : List (Option Frame)) (other : List ℕ)
    → list_any (is_of_page owner) xs ≡ false → bytes_with owner xs other ≡ other
bytes_with-none owner [] other none = refl
bytes_with-none owner (None ∷ xs) other none = bytes_with-none owner xs other none
bytes_with-none owner (Some g ∷ xs) other none =
    let parts = or_parts (same_page owner g.page) (list_any (is_of_page owner) xs) none in
    ap (λ b. cond b g.bytes (bytes_with owner xs other)) parts.0 ∙ bytes_with-none owner xs other parts.1

-- ---- the bytes of a page as they were at its mark

-- those of its copy
pub mark_bytes-copied : (memory : FramesState) (owner : FilePage) (copy : ℕ) → IsMemory memory
    → page_of (copy_at memory copy) ≡ Some owner → bytes_at_mark memory owner ≡ bytes_of (copy_at memory copy)
mark_bytes-copied memory owner copy is has =
    let f = held_frame (copy_at memory copy) owner has in
    bytes_with-found owner memory.copies (bytes_with owner memory.frames []) copy f.0
    (once_copies memory is) f.1 f.2 ∙ sym (ap bytes_of f.1)

-- or where it wasn't copied, of its frame
pub mark_bytes-framed : (memory : FramesState) (owner : FilePage) (frame : ℕ) → IsMemory memory → HasNoCopy memory owner
    → page_of (frame_at memory frame) ≡ Some owner → bytes_at_mark memory owner ≡ bytes_of (frame_at memory frame)
mark_bytes-framed memory owner frame is uncopied has =
    let f = held_frame (frame_at memory frame) owner has in
    bytes_with-none owner memory.copies (bytes_with owner memory.frames [])
    (list_any-no_page memory.copies owner uncopied)
    ∙ bytes_with-found owner memory.frames [] frame f.0 (once_frames memory is) f.1 f.2 ∙ sym (ap bytes_of f.1)

-- ---- how many they are

-- what holds of the bytes of each of them, and of the other ones, holds of these
bytes_with-either : (P : List ℕ → Type 0) (owner : FilePage) (xs : List (Option Frame)) (other : List ℕ)
    → ((k : ℕ) (f : Frame) → get_or xs k None ≡ Some f → P f.bytes) → P other → P (bytes_with owner xs other)
bytes_with-either P owner [] other each is = is
bytes_with-either P owner (None ∷ xs) other each is =
    bytes_with-either P owner xs other (λ k f at. each (suc k) f at) is
bytes_with-either P owner (Some g ∷ xs) other each is =
    by (same_page owner g.page) (bytes_with-either P owner xs other (λ k f at. each (suc k) f at) is)
  where
    by : (b : Bool) → P (bytes_with owner xs other) → P (cond b g.bytes (bytes_with owner xs other))
    by true rest = each 0 g refl
    by false rest = rest

pub size_at_mark : (memory : FramesState) (owner : FilePage) → IsMemory memory → is_in_memory memory owner ≡ true
    → length (bytes_at_mark memory owner) ≡ 4096
size_at_mark memory owner is there =
    let held = held_in_memory memory owner there in
    let f = held_frame (frame_at memory held.0) owner held.1 in
    let once = once_frames memory is in
    let framed = bytes_with-found owner memory.frames [] held.0 f.0 once f.1 f.2 in
    bytes_with-either (λ bytes. length bytes ≡ 4096) owner memory.copies (bytes_with owner memory.frames [])
    (once_copies memory is).whole (ap length framed ∙ once.whole held.0 f.0 f.1)

-- those of any page are no more than a page has
pub few_at_mark : (memory : FramesState) (owner : FilePage) → IsMemory memory
    → length (bytes_at_mark memory owner) ≤ 4096
few_at_mark memory owner is =
    let few : List ℕ → Type 0 = λ bytes. length bytes ≤ 4096 in
    bytes_with-either few owner memory.copies (bytes_with owner memory.frames [])
    (λ k f at. omega (arith, (once_copies memory is).whole k f at))
    (bytes_with-either few owner memory.frames []
    (λ k f at. omega (arith, (once_frames memory is).whole k f at)) (omega arith))
