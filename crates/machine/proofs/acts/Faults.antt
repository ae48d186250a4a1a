-- The moves of a fault that is served: its page is read in, or is there; it is copied if it is held; its entry is made.
use Rattle.machine.proofs.Names.{ℕ, ◌≡◌, ◌/◌, ◌&&◌, not, Bool, true, false, List, Option, Some, None, refl, sym, ap}
use Rattle.machine.proofs.Names.{◌∙◌, subst, inl, inr, list_any, and_parts, get_or-set_same, slice_get_within, Mapped}
use Rattle.machine.proofs.Names.{FilePage, may_write, FramesState, Frame, page_of, entry_at, with_entry, Keeps, current}
use Rattle.machine.proofs.Names.{Holds, is_of_page, is_held, is_frozen, page_at, is_in_memory, copies_out, Brings}
use Rattle.machine.proofs.Names.{CopiesOut, fixed_entry, State, length_of, page_from, FixMade, IsInFile, IsSound, Bring}
use Rattle.machine.proofs.Names.{Copy, Remap, reason_against}
use Rattle.machine.specs.declared.act.Act.TheVariants as acts
use Rattle.fault.proofs.Public.{MayBe-fixed, Keeps-fixed}
use Rattle.machine.proofs.sound.Admitted.{free_of, free_below, served_at_fix, unlocked}
use Rattle.machine.proofs.sound.Frames.{with_memory}
use Rattle.machine.proofs.refining.DirtyFrames.{dirty_fixed}
use Rattle.machine.proofs.refining.Faults.{led_to, servable}
use Rattle.machine.proofs.moves.Silent.{SilentMoves, no_moves, one_move, then_silent}
use Rattle.machine.proofs.moves.Entries.{entry_replaced}
use Rattle.machine.proofs.moves.Kept.{moves_sound}

module _ (s : State) (disk : List ℕ) (sound : IsSound s) where
  -- the page is in a frame
  record IsThere (owner : FilePage) (frame : ℕ) (memory : FramesState) : Type 0 where
    moves : SilentMoves disk s (with_memory s memory)
    holds : Holds memory frame owner

  brought : (owner : FilePage) (frame : ℕ) (mid : FramesState) → IsInFile s owner
      → (is_in_memory s.hardware.memory owner ≡ false → s.write_outs.broken ≡ false)
      → s.hardware.shootdown.lock ≡ None
      → Brings s.hardware.memory owner (page_from s disk owner) frame mid
      → IsThere owner frame mid × (mid.copies ≡ s.hardware.memory.copies)
  brought owner frame mid in_file whole unlocked_now (inl there) =
      subst (λ (m : FramesState). IsThere owner frame m × (m.copies ≡ s.hardware.memory.copies)) (sym there.1)
      (record { moves = no_moves refl; holds = there.0 }, refl)
  brought owner frame mid in_file whole unlocked_now (inr read) =
      let page : Frame = record { page = owner; bytes = page_from s disk owner } in
      subst (λ (m : FramesState). IsThere owner frame m × (m.copies ≡ s.hardware.memory.copies)) (sym read.2) (
        record {
          moves = one_move (Bring (record {
            owner = owner;
            frame = frame;
            in_file = in_file;
            absent = read.0;
            whole = whole read.0;
            unlocked = unlocked_now;
            free = read.1;
            effect_is = refl;
            done = refl;
          }));
          holds = ap page_of (get_or-set_same s.hardware.memory.frames frame (Some page) None
              (slice_get_within s.hardware.memory.frames frame None read.1));
        },
        refl,
      )

  -- its bytes are copied, or aren't
  copied : (b : Bool) (owner : FilePage) (frame : ℕ) (mid memory : FramesState) → IsThere owner frame mid
      → (b ≡ true → is_held mid s.checkpoint owner ≡ true)
      → CopiesOut b mid frame memory → IsThere owner frame memory
  copied false owner frame mid memory there held same = subst (IsThere owner frame) (sym same) there
  copied true owner frame mid memory there held copies =
      subst (IsThere owner frame) (sym copies.2) (record {
        moves = then_silent there.moves
            (one_move (Copy (record {
              owner = owner;
              frame = frame;
              copy = copies.0;
              holds = there.holds;
              held = held refl;
              free = copies.1;
              effect_is = refl;
              done = refl;
            })));
        holds = there.holds;
      })

  pub fix_moves : (p va : ℕ) (write : Bool) (new : State) → reason_against s p (acts.Fix va write) ≡ None
      → FixMade s disk p va write new → SilentMoves disk s new
  fix_moves p va write new allowed made =
      let h = s.hardware in
      let c = s.checkpoint in
      let pcid = current h.shootdown p in
      let page = va / 4096 in
      let owner = page_at made.place in
      let served = made.served in
      let mapped = (led_to h.spaces pcid va write made.place made.leads).mapped in
      let may = servable h.memory c s.write_outs.broken made.place (length_of s made.place.file) write
      (served_at_fix s p va write made.place allowed made.leads) in
      let free = (free_below h.shootdown p (free_of s p _ allowed)).1 in
      let in_file : IsInFile s owner =
      record { there = sound.spaces.in_table pcid page made.place mapped; inside = may.inside } in
      let half = brought owner served.frame served.mid in_file may.absent free served.brought in
      let held : copies_out h.memory c owner write ≡ true → is_held served.mid c owner ≡ true = λ copies.
      ap (λ (copies : List (Option Frame)). is_frozen c owner && not (list_any (is_of_page owner) copies)) half.1
      ∙ (and_parts write (is_held h.memory c owner) copies).1 in
      let now = copied (copies_out h.memory c owner write) owner served.frame served.mid made.memory
      half.0 held served.copied in
      let last = with_memory s made.memory in
      let still = moves_sound disk s now.moves.effect last now.moves.moves sound in
      let can = may_write made.place.rights && not (is_held made.memory c owner) in
      let entry = fixed_entry (entry_at h.spaces pcid page) served.frame can write in
      then_silent now.moves (then_silent
      (one_move
      (Remap (with_entry h.spaces pcid page (Some entry)) (entry_replaced last pcid page made.place entry mapped
      (MayBe-fixed made.memory c h.spaces pcid page made.place served.frame can write
      (entry_at h.spaces pcid page) refl mapped refl now.holds still.memory.backed)
      (λ was present. subst (λ (o : Option Mapped). Keeps was (fixed_entry o served.frame can write)) (sym present)
      (Keeps-fixed was served.frame can write))
      (λ lock is. unlocked h.shootdown.lock lock free is) still)
      (λ frame. dirty_fixed h.spaces pcid page served.frame can write (entry_at h.spaces pcid page) refl c frame)))
      (no_moves
      (made.done ∙ (λ i. record s { hardware = record h { spaces = served.entry i; memory = made.memory } }))))
