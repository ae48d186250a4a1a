-- A change of a file's length keeps a machine sound.
use Rattle.machine.proofs.Names.{◌≡◌, ◌≢◌, ℕ, ◌<◌, ◌≤◌, true, false, cond, Bool, [], length, map, drop, set, get_or}
use Rattle.machine.proofs.Names.{Option, None, refl, sym, ap, ◌∙◌, subst, inl, inr, arith, cases_eq, flat_map}
use Rattle.machine.proofs.Names.{false≢true, get_or-set_same, get_or-set_other, length-set, FilePage}
use Rattle.machine.proofs.Names.{Mapped, WriteOut, frame_at, Holds, same_page, list_any}
use Rattle.machine.proofs.Names.{AreSpaces-EditsEntries, ChangesOnlyAffected, State, length_of, home_of}
use Rattle.machine.proofs.Names.{capacity_of, end_change, ResizeMade, IsInFile, IsResizable, IsSound}
use Rattle.machine.proofs.Names.{AreSpacesSound, IsMemorySound, AreWriteOutsSound, file_homes, IsNoWider}
use Rattle.machine.proofs.Names.{place_at, place_at-EditsEntries, AreRising}
use Rattle.spaces.specs.declared.change.Change.TheVariants as changes
use Rattle.spaces.specs.Changes.{is_place_past, without_past}
use Rattle.history.proofs.Public.{nothing_mapped}
use Rattle.machine.proofs.sound.Ended.{prepared_change, ended_spaces}
use Rattle.machine.proofs.sound.Frames.{in_use}
use Rattle.machine.proofs.sound.ResizedPages.{before_stays, held_cases, IsMemory-resized, AreBacked-resized}

-- ---- what the change relies on

module _ (s : State) (p : ℕ) (new : State) (made : ResizeMade s p new) (sound : IsSound s) where
  pub resizable : IsResizable s made.file made.to
  resizable = prepared_change s p (changes.SetLength made.file made.to) sound made.may

  -- nothing is frozen
  pub none_frozen_then : s.checkpoint.frozen ≡ []
  none_frozen_then = nothing_mapped (home_of s.table) s.checkpoint.frozen
      (sound.write_outs.frozen ∙ (λ i. cond (resizable.whole i) []
      (file_homes s.table (flat_map (λ (w : WriteOut). drop w.steps w.batch.homes) (resizable.done i)))))

  -- ---- lengths

  pub length_there : get_or (set s.lengths made.file made.to) made.file 0 ≡ made.to
  length_there = get_or-set_same s.lengths made.file made.to 0 (omega (arith, sound.lengths, resizable.there))

  pub length_elsewhere : (file : ℕ) → file ≢ made.file
      → get_or (set s.lengths made.file made.to) file 0 ≡ length_of s file
  length_elsewhere file other = get_or-set_other s.lengths made.file file made.to 0 other

  -- ---- the state after it

  abbrev pub after_it : State
  after_it = record (end_change s p made.spaces made.memory made.checkpoint)
      { lengths = set s.lengths made.file made.to; resized = true }

  within_now : (file : ℕ) → length_of after_it file ≤ capacity_of s file
  within_now file = elim (cases_eq file made.file) [
    | inl same ↦ subst (λ k. length_of after_it k ≤ capacity_of s k) (sym same)
        (omega (arith, length_there, resizable.within))
    | inr other ↦ omega (arith, length_elsewhere file other, sound.within file)
  ]

  spaces_sound_now : AreSpacesSound after_it
  spaces_sound_now =
      let edits = made.pages.cleared in
      let only : ChangesOnlyAffected (changes.SetLength made.file made.to) s.hardware.spaces made.spaces =
      λ q at apart. absurd (false≢true (sym apart)) in
      let wider : IsNoWider (changes.SetLength made.file made.to) s.hardware.spaces made.spaces =
      record { affected = λ q at now. refl; touched = λ q now. refl } in
      let are = AreSpaces-EditsEntries
      (without_past made.file made.to s.hardware.spaces) s.hardware.spaces made.spaces sound.spaces.spaces edits
      (λ q at. none_stays (is_place_past made.file made.to (place_at s.hardware.spaces q at))) in
      let is = ended_spaces s p (changes.SetLength made.file made.to) made.spaces made.memory made.checkpoint
      s.write_outs s.marks s.resized made.may only wider are edits.same_spaces
      (λ q at place there. sound.spaces.in_table q at place (sym (place_at-EditsEntries (without_past made.file made.to
      s.hardware.spaces) s.hardware.spaces made.spaces edits q at) ∙ there)) sound in
      record { tables = is.tables; prepared = λ lock held. absurd (cc) }
    where
      none_stays : (b : Bool) → ◌≡◌ {A = Option Mapped} (cond b None None) None
      none_stays true = refl
      none_stays false = refl

  -- each page in memory begins before its file's end
  pub in_file_now : (k : ℕ) (owner : FilePage) → Holds made.memory k owner → IsInFile after_it owner
  in_file_now k owner holds = elim (held_cases made.pages sound.memory.memory k owner holds) [
    | inl still ↦
        (let was = sound.memory.in_files k owner still.held in
        elim (cases_eq owner.file made.file) [
          | inl same ↦
              (let before = before_stays made.file made.to owner still.stays same in
              let long : length_of after_it owner.file ≡ made.to = ap (length_of after_it) same ∙ length_there in
              record { there = was.there; inside = omega (arith, before, long) })
          | inr other ↦
              record { there = was.there; inside = omega (arith, was.inside, length_elsewhere owner.file other) }
        ])
    | inr now ↦
        (let long : length_of after_it owner.file ≡ made.to = ap (length_of after_it) now.file_is ∙ length_there in
        record {
          there = subst (λ k. k < length s.table.files) (sym now.file_is) resizable.there;
          inside = omega (arith, now.added.before, long);
        })
  ]

  memory_sound_now : IsMemorySound after_it
  memory_sound_now = record {
    memory = IsMemory-resized made.pages sound.memory.memory;
    few_frames = omega (arith, made.pages.same_count, sound.memory.few_frames);
    in_files = in_file_now;
    backed = AreBacked-resized made.pages sound.memory.memory sound.memory.backed;
    notes = made.pages.same_notes ∙ sound.memory.notes ∙ sym made.pages.same_count;
    noted = λ k noted. elim ((made.pages.noted k).0 noted) [
      | inl still ↦ still.1
      | inr grown ↦ in_use (frame_at made.memory k) (record { file = made.file; page = grown.0 }) grown.2
    ];
    frozen = λ k d within. absurd (omega (arith, within, ap length (made.pages.frozen ∙ none_frozen_then)));
    rising = subst AreRising (sym made.pages.frozen) sound.memory.rising;
    copied = λ copy kept there.
        ap (list_any (same_page kept.page)) made.pages.frozen
        ∙ sound.memory.copied copy kept (sym (ap (λ l. get_or l copy None) made.pages.same_copies) ∙ there);
  }

  write_outs_sound_now : AreWriteOutsSound after_it
  write_outs_sound_now =
      let is = sound.write_outs in
      record {
        geometry = is.geometry;
        few_batches = is.few_batches;
        older = is.older;
        homes = is.homes;
        sources = λ k d within. absurd (omega (arith, within, ap length resizable.done));
        marked = is.marked;
        few_marks = is.few_marks;
        quiescent = λ set. (resizable.done, resizable.whole, resizable.block);
        frozen = ap (map (home_of s.table)) made.pages.frozen ∙ is.frozen;
      }

  resized_is_sound : IsSound after_it
  resized_is_sound = record {
    fits = sound.fits;
    lengths = length-set s.lengths made.file made.to ∙ sound.lengths;
    within = within_now;
    spaces = spaces_sound_now;
    memory = memory_sound_now;
    write_outs = write_outs_sound_now;
  }

pub resized_sound : (s : State) (p : ℕ) (new : State) → ResizeMade s p new → IsSound s → IsSound new
resized_sound s p new made sound = subst IsSound (sym made.done) (resized_is_sound s p new made sound)
