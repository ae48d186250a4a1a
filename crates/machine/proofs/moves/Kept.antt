-- A machine stays sound by each move.
use Rattle.machine.proofs.Names.{ℕ, ◌≡◌, ◌≢◌, ◌<◌, ◌/◌, ◌%◌, ◌||◌, not, Bool, true, false, cond, eqb, List, [], ◌∷◌}
use Rattle.machine.proofs.Names.{length, Some, None, refl, sym, ap, ◌∙◌, subst, inl, inr, arith, and_from}
use Rattle.machine.proofs.Names.{not_from_false, ne_eqb, or_left, has_space, place_at, is_user_space, has_space-remove}
use Rattle.machine.proofs.Names.{place_at-remove, AreSpaces-remove, user_space, Lock, not_free, is_current, current}
use Rattle.machine.proofs.Names.{finished, destroyed, destroy_refusal, IsShootdown-begun, length-begun, current-begun}
use Rattle.machine.proofs.Names.{Coheres-begun, entry_at-remove_other, IsNoWider-remove, elsewhere}
use Rattle.machine.proofs.Names.{IsShootdown-destroyed, current-destroyed, length-destroyed, Coheres-destroyed}
use Rattle.machine.proofs.Names.{IsInSpace, AreBacked-remove, AreBacked-frozen, Hardware, State, page_from}
use Rattle.machine.proofs.Names.{reason_against, with_hardware, SpaceDestroyed, IsPrepared, IsSound, Effect}
use Rattle.machine.proofs.Names.{BeginsChange, EndsChange, StoresBytes, Move, Moves, Replace, Remap, Destroy, Begin}
use Rattle.machine.proofs.Names.{End, Store, Bring, Copy, Drop}
use Rattle.std.specs.FinMap as maps
use Rattle.page_entry.specs.declared.refusal.Refusal.TheVariants as refusals
use Rattle.machine.specs.declared.act.Act.TheVariants as acts
use Rattle.shootdown.specs.Shootdown.{begun}
use Rattle.machine.proofs.sound.Lists.{kept_some}
use Rattle.machine.proofs.sound.Admitted.{first_none, free_below, running_below, unlocked}
use Rattle.machine.proofs.sound.Groups.{still_sound, unchanged_sound, shootdown_sound, memory_beside, write_outs_moved}
use Rattle.machine.proofs.sound.Ended.{ended_spaces}
use Rattle.machine.proofs.sound.Frames.{notes_in_use, bytes_sound, length-page_from}
use Rattle.machine.proofs.sound.Frames.{page_sound, copy_sound, dropped_sound}
use Rattle.machine.proofs.refining.Translations.{is_translated}
use Rattle.machine.proofs.moves.Entries.{processor_sound, spaces_sound, walk_sound}

-- ---- changes begin and end

begun_sound : (s : State) (effect : Effect) (new : State) → BeginsChange s effect new → IsSound s → IsSound new
begun_sound s effect new is sound =
    let sd = s.hardware.shootdown in
    let free = free_below sd is.p is.free in
    unchanged_sound _ new is.done
    (shootdown_sound s (begun sd is.p s.hardware.spaces is.change)
    (IsShootdown-begun sd is.p s.hardware.spaces is.change sound.spaces.shootdown free.0 free.1)
    (Coheres-begun s.hardware.spaces sd is.p is.change sound.spaces.coheres)
    (λ q within.
    let below : q < length sd.processors = omega (arith, within, length-begun sd is.p s.hardware.spaces is.change) in
    ap (has_space s.hardware.spaces) (current-begun sd is.p s.hardware.spaces is.change q below)
    ∙ sound.spaces.current q below)
    (λ lock held. subst (IsPrepared s) (its_change lock held) is.prepared) sound)
  where
    its_change : (lock : Lock) → Some (record { holder = is.p; change = is.change }) ≡ Some lock
        → is.change ≡ lock.change
    its_change lock held = cc

ended_sound : (s : State) (effect : Effect) (new : State) → EndsChange s effect new → IsSound s → IsSound new
ended_sound s effect new is sound =
    let memory = s.hardware.memory in
    unchanged_sound _ new is.done (still_sound sound refl refl
    (ended_spaces s is.p is.change is.spaces memory is.checkpoint s.write_outs s.marks s.resized is.may is.only is.wider
    is.are_spaces is.same_spaces is.in_table sound)
    (memory_beside s (finished s.hardware.shootdown is.p) is.spaces is.checkpoint s.write_outs s.marks is.same_frozen
    is.same_notes is.noted is.backed sound.memory)
    (write_outs_moved s (record { shootdown = finished s.hardware.shootdown is.p; spaces = is.spaces; memory = memory })
    is.checkpoint is.same_frozen
    (λ owner there. there) sound.write_outs))

-- ---- a space is destroyed

pub record MayDestroy (s : State) (p pcid : ℕ) : Type 0 where
  pub free : not_free s.hardware.shootdown p ≡ None
  pub user : is_user_space s.hardware.spaces pcid ≡ true
  pub unused : is_current s.hardware.shootdown pcid ≡ false

pub destroy_admitted : (s : State) (p pcid : ℕ) → reason_against s p (acts.Destroy pcid) ≡ None → MayDestroy s p pcid
destroy_admitted s p pcid none =
    let space = destroy_refusal s.hardware.shootdown s.hardware.spaces pcid in
    let parts = first_none (not_free s.hardware.shootdown p) (space ∷ []) none in
    let two = by (is_user_space s.hardware.spaces pcid) (is_current s.hardware.shootdown pcid)
    (first_none space [] parts.1).0 in
    record { free = parts.0; user = two.0; unused = two.1 }
  where
    by : (user current : Bool) → cond (not user) (Some refusals.Einval) (cond current (Some refusals.Busy) None) ≡ None
        → (user ≡ true) × (current ≡ false)
    by true false e = (refl, refl)
    by true true e = absurd (cc)
    by false current e = absurd (cc)

destroyed_sound : (s : State) (p pcid : ℕ) (new : State) → reason_against s p (acts.Destroy pcid) ≡ None
    → SpaceDestroyed s pcid new → IsSound s → IsSound new
destroyed_sound s p pcid new allowed rule sound =
    let old = s.hardware.spaces in
    let remaining = maps.remove old pcid in
    let sd = s.hardware.shootdown in
    let may = destroy_admitted s p pcid allowed in
    let free = (free_below sd p may.free).1 in
    let user = user_space old pcid may.user in
    let apart : (q : ℕ) → q < length sd.processors → current sd q ≢ pcid =
    λ q within. elsewhere sd.processors pcid may.unused q _ within in
    unchanged_sound _ new rule.done (still_sound sound refl refl
    (record {
      tables = record {
        spaces = AreSpaces-remove old pcid sound.spaces.spaces (λ zero. absurd (omega (arith, user.0, zero)));
        shootdown = IsShootdown-destroyed sd pcid sound.spaces.shootdown;
        coheres = Coheres-destroyed old remaining sd pcid sound.spaces.shootdown apart
            (λ q page other. entry_at-remove_other old pcid q page other)
            (λ lock held. IsNoWider-remove lock.change old pcid) sound.spaces.coheres;
        current = λ q within.
            let below : q < length sd.processors = omega (arith, within, length-destroyed sd pcid) in
            let same = current-destroyed sd pcid q below in
            ap (has_space remaining) same ∙ has_space-remove old pcid (current sd q)
            ∙ and_from (not (eqb (current sd q) pcid)) (has_space old (current sd q))
            (not_from_false _ (ne_eqb (current sd q) pcid (apart q below))) (sound.spaces.current q below);
        in_table = λ q page place is. sound.spaces.in_table q page place
            (kept_some (eqb q pcid) (place_at old q page) place (sym (place_at-remove old pcid q page) ∙ is));
      };
      prepared = λ held is. unlocked sd.lock held free is;
    })
    (memory_beside s (destroyed sd pcid) remaining rule.checkpoint s.write_outs s.marks rule.noted.frozen
    rule.noted.same_length (notes_in_use s rule.checkpoint (IsInSpace pcid) rule.noted sound.memory)
    (AreBacked-frozen s.hardware.memory s.checkpoint rule.checkpoint remaining rule.noted.frozen
    (AreBacked-remove s.hardware.memory s.checkpoint old pcid sound.memory.backed)) sound.memory)
    (write_outs_moved s (record s.hardware { shootdown = destroyed sd pcid; spaces = remaining }) rule.checkpoint
    rule.noted.frozen (λ owner there. there) sound.write_outs))

-- ---- bytes are stored

stored_sound : (s : State) (effect : Effect) (new : State) → StoresBytes s effect new → IsSound s → IsSound new
stored_sound s effect new is sound =
    let made = is.made in
    let page = is.va / 4096 in
    let t = is_translated s.hardware is.p page true made.frame made.mid sound.spaces.coheres
    made.running made.translation in
    let there = (running_below s.hardware.shootdown is.p made.running).0 in
    let half : IsSound (with_hardware s made.mid) = elim t.reached [
      | inl kept ↦ subst (λ (h : Hardware). IsSound (with_hardware s h)) (sym kept.0) sound
      | inr noted ↦ subst (λ (h : Hardware). IsSound (with_hardware s h)) (sym noted)
          (walk_sound s is.p page t.entry
          (record t.entry { accessed = true; dirty = t.entry.dirty || true }) sound there t.present
          (record { same_frame = refl; same_right = refl; still_dirty = λ dirty. or_left t.entry.dirty true dirty }))
    ] in
    unchanged_sound _ new (is.done ∙ ap (with_hardware s) made.written)
    (bytes_sound (with_hardware s made.mid) made.frame (is.va % 4096) is.bytes made.access.inside half)

-- ---- moves

pub move_sound : (disk : List ℕ) (s : State) (effect : Effect) (new : State) → Move disk s effect new → IsSound s
    → IsSound new
move_sound disk s effect new (Replace is) sound = processor_sound s effect new is sound
move_sound disk s effect new (Remap spaces is dirty) sound = spaces_sound s spaces effect new is sound
move_sound disk s effect new (Destroy is) sound = destroyed_sound s is.p is.pcid new is.allowed is.made sound
move_sound disk s effect new (Begin is) sound = begun_sound s effect new is sound
move_sound disk s effect new (End is) sound = ended_sound s effect new is sound
move_sound disk s effect new (Store is) sound = stored_sound s effect new is sound
move_sound disk s effect new (Bring is) sound =
    unchanged_sound _ new is.done (page_sound s is.frame is.owner (page_from s disk is.owner) is.in_file
    (length-page_from s disk is.owner) is.absent is.free is.unlocked sound)
move_sound disk s effect new (Copy is) sound =
    unchanged_sound _ new is.done (copy_sound s is.frame is.owner is.copy is.holds is.held is.free sound)
move_sound disk s effect new (Drop is) sound =
    unchanged_sound _ new is.done (dropped_sound s is.owner is.frame is.leaves is.unmapped is.free sound)

pub moves_sound : (disk : List ℕ) (s : State) (effect : List Effect) (new : State) → Moves disk s effect new → IsSound s
    → IsSound new
moves_sound disk s [] new same sound = unchanged_sound s new same sound
moves_sound disk s (first ∷ more) new moves sound =
    moves_sound disk moves.0 more new moves.2 (move_sound disk s first moves.0 moves.1 sound)
