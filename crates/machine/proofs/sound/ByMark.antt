-- A mark keeps a machine sound: the dirty pages are gathered, protected and frozen, and a batch of them begins.
use Rattle.machine.proofs.Names.{ℕ, ◌≡◌, ◌+◌, ◌^◌, ◌<◌, ◌≤◌, eqb, not, Bool, true, false, cond, List, [], ◌∷◌, ◌++◌}
use Rattle.machine.proofs.Names.{length, map, get_or, refl, sym, ap, ◌∙◌, subst, ⊎_elim, arith, All, list_any}
use Rattle.machine.proofs.Names.{cases_Bool, or_parts, eqb-false, false≢true, cond-true, cond-false, length-replicate}
use Rattle.machine.proofs.Names.{length-append, flat_map_more, All-push, Contains-get_or, FilePage}
use Rattle.machine.proofs.Names.{FramesState, GeometryValue, journals_of, geometry_of, AreHomes, WriteOut, begun_of}
use Rattle.machine.proofs.Names.{WriteOutsValue, has_uncommitted, is_busy, next_batch, Spaces, protected_where}
use Rattle.machine.proofs.Names.{place_at-EditsEntries, AreSpaces-EditsEntries, ChangesOnlyAffected-checkpoint}
use Rattle.machine.proofs.Names.{CheckpointState, is_noted, same_page, AreRising, Gathers, ProtectsNoted, without_notes}
use Rattle.machine.proofs.Names.{AreBacked-protected, is_in_memory, Hardware, State, home_of, end_change, with_batch}
use Rattle.machine.proofs.Names.{MarkMade, IsPrepared, IsMemorySound, AreWriteOutsSound, IsSound, IsInFile}
use Rattle.machine.proofs.Names.{waiting_homes, frozen_homes, file_homes, mark_homes, IsSource, lengths_blocks}
use Rattle.journal.specs.WriteOuts.{begun as outs_begun}
use Rattle.spaces.specs.declared.change.Change.TheVariants as changes
use Rattle.machine.proofs.sound.Lists.{get_or-replicate-same}
use Rattle.history.proofs.Public.{nothing_mapped}
use Rattle.machine.proofs.sound.Groups.{still_sound, unchanged_sound}
use Rattle.machine.proofs.sound.Frames.{in_memory_held}
use Rattle.machine.proofs.sound.Ended.{prepared_change, ended_spaces}
use Rattle.machine.proofs.sound.Waiting.{waits_of, waiting, waiting-none, older-push}
use Rattle.machine.proofs.sound.Homes.{mark_homes_are}
use Rattle.machine.proofs.sound.Sources.{file_homes-mark, none_written, mark_sources}

-- ---- before the mark nothing is frozen

-- write-outs that aren't busy: each batch is committed, and a journal is free
pub not_busy : (s : State) → AreWriteOutsSound s → is_busy s.write_outs ≡ false
    → (has_uncommitted s.write_outs.batches ≡ false) × (length s.write_outs.batches < journals_of s.table.layout)
not_busy s is free =
    let parts = or_parts (has_uncommitted s.write_outs.batches)
    (eqb (length s.write_outs.batches) (journals_of s.write_outs.geometry.layout)) free in
    let other = eqb-false (length s.write_outs.batches) (journals_of s.write_outs.geometry.layout) parts.1 in
    let same = ap (λ (g : GeometryValue). journals_of g.layout) is.geometry in (
      parts.0,
      smaller (length s.write_outs.batches) (journals_of s.write_outs.geometry.layout)
          (journals_of s.table.layout) is.few_batches same other,
    )
  where
    smaller : (a b c : ℕ) → a ≤ c → b ≡ c → (a ≡ b → ⊥) → a < c
    smaller a b c le same other = omega arith

pub nothing_frozen : (s : State) → AreWriteOutsSound s → (s.write_outs.broken ≡ false → is_busy s.write_outs ≡ false)
    → s.checkpoint.frozen ≡ []
nothing_frozen s is free =
    nothing_mapped (home_of s.table) s.checkpoint.frozen (is.frozen ∙ by s.write_outs.broken refl)
  where
    by : (b : Bool) → s.write_outs.broken ≡ b → cond b [] (file_homes s.table (waiting_homes s.write_outs)) ≡ []
    by true broken = refl
    by false whole = ap (file_homes s.table) (waiting-none s.write_outs.batches (not_busy s is (free whole)).0)

-- ---- what is gathered

-- each gathered page is in memory, and one of a file's
pub gathered_there : (s : State) (noted : CheckpointState) (freezes : Bool) (pages : List FilePage) → IsMemorySound s
    → Gathers s.hardware.spaces s.hardware.memory s.checkpoint noted freezes pages
    → All (λ owner. is_in_memory s.hardware.memory owner ≡ true) pages × All (IsInFile s) pages
gathered_there s noted freezes pages is gathers = (
  λ k d within. let dirty = (gathers.gathered.dirty (get_or pages k d)).0 (Contains-get_or pages k d within) in
      in_memory_held s.hardware.memory dirty.0 (get_or pages k d) dirty.1,
  λ k d within. let dirty = (gathers.gathered.dirty (get_or pages k d)).0 (Contains-get_or pages k d within) in
      is.in_files dirty.0 (get_or pages k d) dirty.1,
)

memory_marked : (s : State) (p : ℕ) (noted : CheckpointState) (freezes : Bool) (pages : List FilePage) (spaces : Spaces)
    (outs : WriteOutsValue) (number : ℕ)
    → Gathers s.hardware.spaces s.hardware.memory s.checkpoint noted freezes pages
    → ProtectsNoted noted s.hardware.spaces spaces → s.checkpoint.frozen ≡ [] → IsMemorySound s
    → IsMemorySound (record (end_change s p spaces s.hardware.memory (without_notes noted))
    { write_outs = outs; marks = number; resized = false })
memory_marked s p noted freezes pages spaces outs number gathers protects none is = record {
  memory = is.memory;
  few_frames = is.few_frames;
  in_files = λ frame owner holds. let file = is.in_files frame owner holds in
      record { there = file.there; inside = file.inside };
  backed = AreBacked-protected s.hardware.spaces spaces s.hardware.memory s.checkpoint noted freezes pages gathers
      is.memory.one_frame protects is.backed;
  notes = length-replicate (length noted.notes) false ∙ gathers.same_length ∙ is.notes;
  noted = λ frame here. absurd (false≢true (sym (get_or-replicate-same (length noted.notes) frame false) ∙ here));
  frozen = subst (All (λ owner. is_in_memory s.hardware.memory owner ≡ true)) (sym gathers.frozen) (in_memory freezes);
  rising = subst AreRising (sym gathers.frozen) (rising freezes);
  copied = λ copy kept there.
      absurd (false≢true (sym (ap (list_any (same_page kept.page)) none) ∙ is.copied copy kept there));
}
  where
    in_memory : (b : Bool) → All (λ owner. is_in_memory s.hardware.memory owner ≡ true) (cond b pages [])
    in_memory true = (gathered_there s noted freezes pages is gathers).0
    in_memory false = λ k d within. absurd (omega arith)

    rising : (b : Bool) → AreRising (cond b pages [])
    rising true = gathers.gathered.rising
    rising false = tt

-- ---- the batch of a mark

-- one more mark, of which no batch is made
marks_more : (s : State) (hardware : Hardware) (checkpoint : CheckpointState) → hardware.memory ≡ s.hardware.memory
    → s.marks + 1 < 2 ^ 32 → map (home_of s.table) checkpoint.frozen ≡ frozen_homes s → AreWriteOutsSound s
    → AreWriteOutsSound
    (record s { hardware = hardware; checkpoint = checkpoint; marks = s.marks + 1; resized = false })
marks_more s hardware checkpoint same few frozen is = record {
  geometry = is.geometry;
  few_batches = is.few_batches;
  older = is.older;
  homes = is.homes;
  sources = subst (λ (m : FramesState).
      All (λ (w : WriteOut). All (IsSource s.table m) w.batch.homes) s.write_outs.batches) (sym same) is.sources;
  marked = λ k d within. let was = is.marked k d within in (was.0, omega (arith, was.1));
  few_marks = few;
  quiescent = λ set. absurd (false≢true set);
  frozen = frozen;
}

-- one more mark, and a batch of these home blocks, of which those of pages are of the frozen ones
batch_more : (s : State) (hardware : Hardware) (checkpoint : CheckpointState) (homes : List ℕ)
    → hardware.memory ≡ s.hardware.memory → s.marks + 1 < 2 ^ 32 → s.write_outs.broken ≡ false
    → is_busy s.write_outs ≡ false
    → map (home_of s.table) checkpoint.frozen ≡ file_homes s.table homes → AreHomes (geometry_of s.table) homes
    → All (IsSource s.table s.hardware.memory) homes → AreWriteOutsSound s
    → AreWriteOutsSound (record s {
      hardware = hardware;
      checkpoint = checkpoint;
      write_outs = outs_begun s.write_outs (s.marks + 1) homes;
      marks = s.marks + 1;
      resized = false;
    })
batch_more s hardware checkpoint home_list same few whole free frozen homes there is =
    let outs = s.write_outs in
    let w : WriteOut = begun_of outs.geometry.slots (next_batch outs (s.marks + 1) home_list) in
    let fine = not_busy s is free in
    let sources : All (λ (x : WriteOut). All (IsSource s.table s.hardware.memory) x.batch.homes)
    (outs.batches ++ w ∷ []) =
    All-push (λ (x : WriteOut). All (IsSource s.table s.hardware.memory) x.batch.homes)
    outs.batches w is.sources there in
    let old_marked : All (λ (x : WriteOut). (0 < x.batch.mark) × (x.batch.mark ≤ s.marks + 1)) outs.batches =
    λ k d within. let was = is.marked k d within in (was.0, omega (arith, was.1)) in
    let waits : waiting (outs.batches ++ w ∷ []) ≡ home_list = sym (flat_map_more waits_of [] outs.batches w)
    ∙ ap (λ (l : List ℕ). l ++ home_list) (waiting-none outs.batches fine.0) in
    record {
      geometry = is.geometry;
      few_batches = omega (arith, fine.1, length-append outs.batches (w ∷ []));
      older = older-push outs.batches w fine.0;
      homes = All-push (λ (x : WriteOut). AreHomes (geometry_of s.table) x.batch.homes) outs.batches w is.homes homes;
      sources = subst (λ (m : FramesState).
          All (λ (x : WriteOut). All (IsSource s.table m) x.batch.homes) (outs.batches ++ w ∷ [])) (sym same) sources;
      marked = All-push (λ (x : WriteOut). (0 < x.batch.mark) × (x.batch.mark ≤ s.marks + 1)) outs.batches w old_marked
          (omega arith, omega arith);
      few_marks = few;
      quiescent = λ set. absurd (false≢true set);
      frozen = frozen ∙ ap (file_homes s.table) (sym waits)
          ∙ sym (cond-false outs.broken [] (file_homes s.table (waiting (outs.batches ++ w ∷ []))) whole);
    }

module _ (s : State) (hardware : Hardware) (checkpoint : CheckpointState) (pages : List FilePage)
    (same : hardware.memory ≡ s.hardware.memory) (prepared : IsPrepared s changes.Checkpoint)
    (frozen : checkpoint.frozen ≡ cond (not s.write_outs.broken) pages []) (rising : AreRising pages)
    (there : All (λ owner. is_in_memory s.hardware.memory owner ≡ true) pages) (in_files : All (IsInFile s) pages)
    (sound : IsSound s) where
  abbrev marked_by : WriteOutsValue → State
  marked_by outs =
      record s { hardware = hardware; checkpoint = checkpoint; write_outs = outs; marks = s.marks + 1; resized = false }

  has_block : s.resized ≡ true → 0 < lengths_blocks s.table.layout
  has_block set = (sound.write_outs.quiescent set).2

  -- nothing is frozen by it
  none_more : checkpoint.frozen ≡ [] → AreWriteOutsSound (marked_by s.write_outs)
  none_more nothing =
      let before = nothing_frozen s sound.write_outs prepared.1 in
      marks_more s hardware checkpoint same prepared.0
      (ap (map (home_of s.table)) (nothing ∙ sym before) ∙ sound.write_outs.frozen) sound.write_outs

  write_outs_marked : AreWriteOutsSound (marked_by (with_batch s (s.marks + 1) (mark_homes s pages)))
  write_outs_marked = by (mark_homes s pages) refl
    where
      either : (b : Bool) → ◌≡◌ {A = List FilePage} (cond b [] []) []
      either true = refl
      either false = refl

      by : (homes : List ℕ) → mark_homes s pages ≡ homes
          → AreWriteOutsSound (marked_by (with_batch s (s.marks + 1) homes))
      by [] is = none_more (frozen ∙ ap (λ (l : List FilePage). cond (not s.write_outs.broken) l [])
          (none_written s pages is).1 ∙ either (not s.write_outs.broken))
      by (home ∷ homes) is =
          ⊎_elim
          (λ broken.
          subst (λ (outs : WriteOutsValue). AreWriteOutsSound (marked_by outs)) (sym (cond-true s.write_outs.broken
          s.write_outs (outs_begun s.write_outs (s.marks + 1) (home ∷ homes)) broken))
          (none_more (frozen ∙ ap (λ b. cond (not b) pages []) broken)))
          (λ whole.
          let all = frozen ∙ ap (λ b. cond (not b) pages []) whole in
          let some : 0 < length (mark_homes s pages) = omega (arith, ap length is) in
          let P : List ℕ → Type 0 = λ l. AreWriteOutsSound (marked_by (outs_begun s.write_outs (s.marks + 1) l)) in
          subst (λ (outs : WriteOutsValue). AreWriteOutsSound (marked_by outs)) (sym (cond-false s.write_outs.broken
          s.write_outs (outs_begun s.write_outs (s.marks + 1) (home ∷ homes)) whole))
          (subst P is
          (batch_more s hardware checkpoint (mark_homes s pages) same prepared.0 whole (prepared.1 whole)
          (ap (map (home_of s.table)) all ∙ sym (file_homes-mark s pages has_block))
          (mark_homes_are s pages sound rising some in_files there)
          (mark_sources s s.hardware.memory pages has_block there) sound.write_outs)))
          (cases_Bool s.write_outs.broken)

-- ---- the mark

pub marked_sound : (s : State) (p number : ℕ) (new : State) → MarkMade s p number new → IsSound s → IsSound new
marked_sound s p number new rule sound =
    let old = s.hardware.spaces in
    let gathers = rule.gathered in
    let prepared = prepared_change s p changes.Checkpoint sound rule.may in
    let none = nothing_frozen s sound.write_outs prepared.1 in
    let there = gathered_there s rule.noted (not s.write_outs.broken) rule.pages sound.memory gathers in
    let checkpoint = without_notes rule.noted in
    let hardware = (end_change s p rule.spaces s.hardware.memory checkpoint).hardware in
    let outs = with_batch s (s.marks + 1) (mark_homes s rule.pages) in
    unchanged_sound (record s
    { hardware = hardware; checkpoint = checkpoint; write_outs = outs; marks = s.marks + 1; resized = false }) new
    (rule.done ∙ (λ i. record s {
      hardware = hardware;
      checkpoint = checkpoint;
      write_outs = with_batch s (rule.next i)
          (mark_homes s rule.pages);
      marks = rule.next i;
      resized = false;
    })) (still_sound sound refl refl
    (ended_spaces s p changes.Checkpoint rule.spaces s.hardware.memory checkpoint outs (s.marks + 1) false rule.may
    (ChangesOnlyAffected-checkpoint old rule.spaces)
    (record { affected = λ pcid page now. now; touched = λ pcid now. now })
    (AreSpaces-EditsEntries (λ pcid page entry. protected_where (is_noted rule.noted) entry) old rule.spaces
    sound.spaces.spaces rule.protected (λ q at. refl)) rule.protected.same_spaces
    (λ q page place is. sound.spaces.in_table q page place (sym (place_at-EditsEntries (λ pcid at entry.
    protected_where (is_noted rule.noted) entry) old rule.spaces rule.protected q page) ∙ is)) sound)
    (memory_marked s p rule.noted (not s.write_outs.broken) rule.pages rule.spaces outs
    (s.marks + 1) gathers rule.protected none sound.memory)
    (write_outs_marked s hardware checkpoint rule.pages refl prepared gathers.frozen
    gathers.gathered.rising there.0 there.1 sound))
