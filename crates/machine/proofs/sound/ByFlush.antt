-- A step of the write-outs keeps a machine sound, and so does one whose device call failed.
use Rattle.machine.proofs.Names.{ℕ, ◌≡◌, ◌≢◌, ◌<◌, ◌≤◌, Bool, true, false, cond, List, [], ◌∷◌, length, map, drop}
use Rattle.machine.proofs.Names.{Option}
use Rattle.machine.proofs.Names.{Some, None, refl, sym, ap, ◌∙◌, subst, arith, option_map_or, option_and_then}
use Rattle.machine.proofs.Names.{cond-false, false≢true, length-map, length-drop, drop-map, get_or_default, All-drop}
use Rattle.machine.proofs.Names.{Refusal, without_copies, GeometryValue, journals_of, Flushed, WriteOut, next_record}
use Rattle.machine.proofs.Names.{answer_of, moving, moved, batches_after, outs_after, outs_moving, has_committed}
use Rattle.machine.proofs.Names.{next_answer, is_busy, ◌++◌, Stage, is_committed, not_running, without_copy_of}
use Rattle.machine.proofs.Names.{released, thawed}
use Rattle.machine.proofs.Names.{AreRising-drop, AreBacked-thawed, AreBacked-released, AreCopiesOfFrozen-release}
use Rattle.machine.proofs.Names.{is_in_memory, Reply, State, home_of, refuse_if, reason_against, next_page, reply_to}
use Rattle.machine.proofs.Names.{after_record, after_failure, HasStepped, AreOlderCommitted, IsSound}
use Rattle.page_entry.specs.declared.refusal.Refusal.TheVariants as refusals
use Rattle.journal.specs.declared.flushed.Flushed.TheVariants as flushed
use Rattle.machine.specs.declared.act.Act.TheVariants as acts
use Rattle.machine.specs.declared.act.Reply.TheVariants as replies
use Rattle.machine.proofs.Names.{inl, inr, leb, cases_Bool, cond-true, file_homes, is_page_next, first_file_home}
use Rattle.machine.proofs.sound.Admitted.{first_none, refuse_none}
use Rattle.machine.proofs.sound.Records.{coming, page_next, no_page_next}
use Rattle.machine.proofs.sound.Groups.{still_sound, unchanged_sound, memory_same}
use Rattle.machine.proofs.sound.Sharing.{shared, outs_moved, Makes, each_stepped, length-stepped, ending}
use Rattle.machine.proofs.sound.Waiting.{waiting, committed_waits, waiting-behind}
use Rattle.machine.proofs.sound.Waiting.{older-rest, older-stepped, unrecorded}
use Rattle.machine.proofs.sound.Steps.{none_after, stepped_write_outs, stepped_spaces}
use Rattle.machine.proofs.sound.Steps.{none_recorded, free-moved, free-done}
use Rattle.machine.proofs.sound.Steps.{IsMemory-without_copy_of, IsMemory-without_copies, none_left}

-- ---- steps

module _ (s : State) (sound : IsSound s) (whole : s.write_outs.broken ≡ false) where
  -- what is frozen waits for its record
  frozen_waits : map (home_of s.table) s.checkpoint.frozen ≡ file_homes s.table (waiting s.write_outs.batches)
  frozen_waits = sound.write_outs.frozen
      ∙ cond-false s.write_outs.broken [] (file_homes s.table (waiting s.write_outs.batches)) whole

  unset : s.resized ≡ true → s.write_outs.broken ≡ false
  unset set = (sound.write_outs.quiescent set).1

  -- once the steps of the batches are made, each that isn't the newest is committed still, and they are as many
  older_moved : (batches : List WriteOut) → batches ≡ outs_moved s.write_outs → AreOlderCommitted batches
  older_moved batches same = subst AreOlderCommitted (sym same)
      (older-stepped (Makes (shared s.write_outs) s.write_outs.batches) s.write_outs.batches (outs_moved s.write_outs)
      (each_stepped (shared s.write_outs) s.write_outs.batches) sound.write_outs.older)

  few_moved : (batches : List WriteOut) → batches ≡ outs_moved s.write_outs
      → length batches ≤ length s.write_outs.batches
  few_moved batches same = omega (
    arith,
    ap (λ (l : List WriteOut). length l) same,
    length-stepped (Makes (shared s.write_outs) s.write_outs.batches) s.write_outs.batches (outs_moved s.write_outs)
        (each_stepped (shared s.write_outs) s.write_outs.batches),
  )

  -- the first frozen page's record was written
  pub record_sound : (answer : Flushed) (home : ℕ) (rest : List ℕ) → waiting s.write_outs.batches ≡ home ∷ rest
      → waiting (outs_moved s.write_outs) ≡ rest → leb (first_file_home s.table.layout s.table.slots) home ≡ true
      → batches_after (shared s.write_outs) answer s.write_outs.batches ≡ outs_moved s.write_outs
      → IsSound (record (after_record s) {
        write_outs = record s.write_outs {
          batches = batches_after
              (shared s.write_outs) answer s.write_outs.batches;
        };
      })
  record_sound answer home rest waits after_it page same =
      let batches = s.write_outs.batches in
      let first = next_page s in
      let memory = without_copy_of s.hardware.memory first in
      let outs = record s.write_outs { batches = batches_after (shared s.write_outs) answer batches } in
      let waited : map (home_of s.table) s.checkpoint.frozen ≡ home ∷ file_homes s.table rest =
      frozen_waits ∙ ap (file_homes s.table) waits ∙ cond-true (leb (first_file_home s.table.layout s.table.slots) home)
      (home ∷ file_homes s.table rest) (file_homes s.table rest) page in
      let some : 0 < length s.checkpoint.frozen =
      omega (arith, length-map s.checkpoint.frozen (home_of s.table), ap length waited) in
      let others : map (home_of s.table) (drop 1 s.checkpoint.frozen)
      ≡ file_homes s.table (waiting (batches_after (shared s.write_outs) answer batches)) =
      sym (drop-map (home_of s.table) 1 s.checkpoint.frozen) ∙ ap (drop 1) waited
      ∙ ap (file_homes s.table) (sym after_it ∙ ap waiting (sym same)) in
      still_sound sound refl refl
      (stepped_spaces s sound memory (released s.checkpoint) outs refl (λ free broken. ap (λ (l : List WriteOut).
      is_busy (record s.write_outs { batches = l })) same ∙ free-moved s.write_outs (free whole))
      (λ fine none. (
        fine,
        ap (batches_after (shared s.write_outs) answer) none
            ∙ none_after (shared s.write_outs) answer,
      )))
      (record {
        memory = IsMemory-without_copy_of s.hardware.memory first sound.memory.memory;
        few_frames = sound.memory.few_frames;
        in_files = λ frame owner holds. let file = sound.memory.in_files frame owner holds in
            record { there = file.there; inside = file.inside };
        backed = AreBacked-released s.hardware.memory s.checkpoint s.hardware.spaces
            (record { file = 0; page = 0 }) some sound.memory.rising sound.memory.backed;
        notes = sound.memory.notes;
        noted = sound.memory.noted;
        frozen =
            All-drop (λ owner. is_in_memory s.hardware.memory owner ≡ true) 1 s.checkpoint.frozen sound.memory.frozen;
        rising = AreRising-drop 1 s.checkpoint.frozen sound.memory.rising;
        copied = AreCopiesOfFrozen-release s.hardware.memory memory s.checkpoint (released s.checkpoint) first some
            (get_or_default s.checkpoint.frozen 0 (record { file = 0; page = 0 }) first some) refl
            refl sound.memory.copied;
      })
      (stepped_write_outs s sound answer s.write_outs.broken (record s.hardware { memory = memory })
      (released s.checkpoint) refl
      (older_moved outs.batches same) (few_moved outs.batches same) unset
      (others ∙ sym
      (cond-false s.write_outs.broken [] (file_homes s.table (waiting (batches_after
      (shared s.write_outs) answer batches))) whole)))

  -- a step that writes no page's record
  step_sound : (answer : Flushed) → AreOlderCommitted (batches_after (shared s.write_outs) answer s.write_outs.batches)
      → length (batches_after (shared s.write_outs) answer s.write_outs.batches) ≤ length s.write_outs.batches
      → file_homes s.table (waiting (batches_after (shared s.write_outs) answer s.write_outs.batches))
      ≡ file_homes s.table (waiting s.write_outs.batches)
      → (is_busy s.write_outs ≡ false
      → is_busy (record s.write_outs {
        batches = batches_after
            (shared s.write_outs) answer s.write_outs.batches;
      }) ≡ false)
      → IsSound (record s {
        write_outs = record s.write_outs {
          batches = batches_after
              (shared s.write_outs) answer s.write_outs.batches;
        };
      })
  step_sound answer older few waits free =
      let outs = record s.write_outs { batches = batches_after (shared s.write_outs) answer s.write_outs.batches } in
      still_sound sound refl refl
      (stepped_spaces s sound s.hardware.memory s.checkpoint outs refl (λ was broken. free (was whole))
      (λ fine none. (
        fine,
        ap (batches_after (shared s.write_outs) answer) none
            ∙ none_after (shared s.write_outs) answer,
      )))
      (memory_same s s.hardware.shootdown outs s.marks sound.memory)
      (stepped_write_outs s sound answer s.write_outs.broken s.hardware s.checkpoint refl older few unset
      (frozen_waits ∙ sym waits ∙ sym (cond-false s.write_outs.broken []
      (file_homes s.table (waiting (batches_after (shared s.write_outs) answer s.write_outs.batches))) whole)))

  -- a write-out goes on
  pub going_sound : (answer : Flushed)
      → file_homes s.table (waiting (outs_moved s.write_outs)) ≡ file_homes s.table (waiting s.write_outs.batches)
      → batches_after (shared s.write_outs) answer s.write_outs.batches ≡ outs_moved s.write_outs
      → IsSound (record s {
        write_outs = record s.write_outs {
          batches = batches_after
              (shared s.write_outs) answer s.write_outs.batches;
        };
      })
  going_sound answer waits same =
      step_sound answer (older_moved _ same) (few_moved _ same)
      (ap (λ (l : List WriteOut). file_homes s.table (waiting l)) same ∙ waits) (λ free. ap
      (λ (l : List WriteOut). is_busy (record s.write_outs { batches = l })) same ∙ free-moved s.write_outs free)

  -- a write-out is done
  pub done_sound : (mark : ℕ)
      → option_map_or answer_of (outs_moving s.write_outs) flushed.Broken ≡ flushed.Done mark
      → IsSound (record s { write_outs = record s.write_outs { batches = drop 1 (outs_moved s.write_outs) } })
  done_sound mark ends =
      let batches = s.write_outs.batches in
      let steps = each_stepped (shared s.write_outs) batches in
      let few : length batches ≤ journals_of s.write_outs.geometry.layout = omega (
        arith,
        sound.write_outs.few_batches,
        ap (λ (g : GeometryValue). journals_of g.layout) sound.write_outs.geometry,
      ) in
      step_sound (flushed.Done mark) (rest (outs_moved s.write_outs)
      (older_moved (outs_moved s.write_outs) refl))
      (omega (
        arith,
        length-drop 1 (outs_moved s.write_outs),
        length-stepped (Makes (shared s.write_outs) batches) batches (outs_moved s.write_outs) steps,
      ))
      (ap (file_homes s.table) (others (shared s.write_outs) batches mark ends)) (free-done s.write_outs few)
    where
      rest : (batches : List WriteOut) → AreOlderCommitted batches → AreOlderCommitted (drop 1 batches)
      rest [] older = tt
      rest (w ∷ newer) older = older-rest w newer older

      others : (shares : Bool) (batches : List WriteOut) (mark : ℕ)
          → option_map_or answer_of (moving shares batches) flushed.Broken ≡ flushed.Done mark
          → waiting (drop 1 (moved shares batches)) ≡ waiting batches
      others shares batches mark ends =
          let is = ending shares batches mark ends in
          let late : has_committed is.oldest ≡ true =
          ap (λ (o : Option Stage). option_map_or is_committed o true) is.stage in
          waiting-behind is.newer (drop 1 (moved shares batches)) is.stepped
          ∙ sym (ap (λ (l : List ℕ). l ++ waiting is.newer) (committed_waits is.oldest late))
          ∙ sym (ap waiting is.are)

-- ---- a device call failed

pub failed_sound : (s : State) → IsSound s → (s.write_outs.batches ≡ [] → ⊥) → IsSound (after_failure s)
failed_sound s sound some =
    let memory = without_copies s.hardware.memory in
    still_sound sound refl refl
    (stepped_spaces s sound memory (thawed s.checkpoint) (outs_after s.write_outs flushed.Device) refl
    (λ free whole. absurd (false≢true (sym whole))) (λ fine none. absurd (some none)))
    (record {
      memory = IsMemory-without_copies s.hardware.memory sound.memory.memory;
      few_frames = sound.memory.few_frames;
      in_files = λ frame owner holds. let file = sound.memory.in_files frame owner holds in
          record { there = file.there; inside = file.inside };
      backed = AreBacked-thawed s.hardware.memory memory s.checkpoint s.hardware.spaces refl sound.memory.backed;
      notes = sound.memory.notes;
      noted = sound.memory.noted;
      frozen = λ k d within. absurd (omega arith);
      rising = tt;
      copied = λ copy kept there. absurd (let none = none_left s.hardware.memory.copies copy in cc);
    })
    (stepped_write_outs s sound flushed.Device true (record s.hardware { memory = memory }) (thawed s.checkpoint) refl
    sound.write_outs.older (omega arith) (λ set. absurd (some (sound.write_outs.quiescent set).0)) refl)

-- ---- the act

pub flush_admitted : (s : State) (p : ℕ) → reason_against s p acts.Flush ≡ None
    → (not_running s.hardware.shootdown p ≡ None) × (s.write_outs.broken ≡ false)
flush_admitted s p none =
    let broken = refuse_if s.write_outs.broken refusals.Broken in
    let parts = first_none (not_running s.hardware.shootdown p) (broken ∷ []) none in
    (parts.0, refuse_none s.write_outs.broken refusals.Broken (first_none broken [] parts.1).0)

module _ (s : State) (sound : IsSound s) where
  -- the machine after a step that is answered so
  abbrev after_answer : Flushed → State
  after_answer answer =
      record (cond (is_page_next s) (after_record s) s) { write_outs = outs_after s.write_outs answer }

  advanced_sound : (answer : Flushed) → s.write_outs.broken ≡ false
      → outs_after s.write_outs answer ≡ record s.write_outs {
        batches = batches_after
            (shared s.write_outs) answer s.write_outs.batches;
      }
      → batches_after (shared s.write_outs) answer s.write_outs.batches ≡ outs_moved s.write_outs
      → IsSound (after_answer answer)
  advanced_sound answer whole same advances = by (option_and_then next_record (outs_moving s.write_outs)) refl
    where
      batches : List WriteOut
      batches = s.write_outs.batches

      -- no page's record is written
      others : is_page_next s ≡ false
          → file_homes s.table (waiting (outs_moved s.write_outs)) ≡ file_homes s.table (waiting batches)
          → IsSound (after_answer answer)
      others none waits = subst IsSound (λ i. record (cond (sym none i) (after_record s) s) { write_outs = sym same i })
          (going_sound s sound whole answer waits advances)

      by : (o : Option ℕ) → option_and_then next_record (outs_moving s.write_outs) ≡ o → IsSound (after_answer answer)
      by None none = others (no_page_next s whole none)
          (ap (file_homes s.table) (unrecorded (shared s.write_outs) batches none))
      by (Some n) some =
          let c = coming s sound whole n some in
          elim (cases_Bool (leb (first_file_home s.table.layout s.table.slots) c.home)) [
            | inl page ↦ subst IsSound (λ i.
                record (cond (sym (page_next s c.home c.is ∙ page) i) (after_record s) s) { write_outs = sym same i })
                (record_sound s sound whole answer c.home c.rest c.waits c.after page advances)
            | inr lengths ↦ others (page_next s c.home c.is ∙ lengths) (ap (file_homes s.table) c.after
                ∙ sym (cond-false (leb (first_file_home s.table.layout s.table.slots) c.home) (c.home ∷ file_homes
                s.table c.rest) (file_homes s.table c.rest) lengths) ∙ ap (file_homes s.table) (sym c.waits))
          ]

  ended_sound : (mark : ℕ) → s.write_outs.broken ≡ false
      → option_map_or answer_of (outs_moving s.write_outs) flushed.Broken ≡ flushed.Done mark
      → IsSound (after_answer (flushed.Done mark))
  ended_sound mark whole ends =
      let nothing : is_page_next s ≡ false =
      no_page_next s whole (none_recorded (shared s.write_outs) s.write_outs.batches mark ends) in
      subst IsSound (λ i. record (cond (sym nothing i) (after_record s) s)
      { write_outs = outs_after s.write_outs (flushed.Done mark) }) (done_sound s sound whole mark ends)

  -- a step whose device calls succeed is answered so
  pub made_sound : (answer : Flushed) → s.write_outs.broken ≡ false → next_answer s.write_outs ≡ answer
      → ((why : Refusal) → reply_to answer ≢ replies.Refused why) → IsSound (after_answer answer)
  made_sound flushed.Going whole is fine = advanced_sound flushed.Going whole refl refl
  made_sound (flushed.Committed mark) whole is fine = advanced_sound (flushed.Committed mark) whole refl refl
  made_sound (flushed.Done mark) whole is fine =
      ended_sound mark whole (sym (cond-false s.write_outs.broken flushed.Broken
      (option_map_or answer_of (outs_moving s.write_outs) flushed.Broken) whole) ∙ is)
  made_sound flushed.Device whole is fine = absurd (fine refusals.Device refl)
  made_sound flushed.Broken whole is fine = absurd (fine refusals.Broken refl)

  pub flushed_sound : (disk : List ℕ) (p : ℕ) (reply : Reply) (new : State) (disk' : List ℕ)
      → HasStepped s disk p reply new disk' → ((why : Refusal) → reply ≢ replies.Refused why) → IsSound new
  flushed_sound disk p reply new disk' rule fine =
      unchanged_sound (after_answer (next_answer s.write_outs)) new rule.made.done
      (made_sound (next_answer s.write_outs) (flush_admitted s p rule.made.allowed).1 refl
      (λ why is. fine why (rule.answered ∙ is)))
