-- What the end of a change leaves of the processors and the page tables.
use Rattle.machine.proofs.Names.{ℕ, ◌≡◌, ◌<◌, eqb, Bool, true, false, cond, List, [], length, drop, map, Some, None}
use Rattle.machine.proofs.Names.{refl, sym, ap, ◌∙◌, subst, eqb-true, eq-eqb, FilePage, Place, FramesState, WriteOut}
use Rattle.machine.proofs.Names.{WriteOutsValue, HasBlock, Change, Spaces, AreSpaces, has_space, place_at}
use Rattle.machine.proofs.Names.{ChangesOnlyAffected, Contains-map, in_flat_map, Lock, woken, processor_at, interrupted}
use Rattle.machine.proofs.Names.{IsUnused, IsNoWider, at-with_processor, IsShootdown-finished, IsUnused-from_Coheres}
use Rattle.machine.proofs.Names.{Coheres-finished, Coheres-changed, CheckpointState, State, home_of, not_there}
use Rattle.machine.proofs.Names.{lock_refusal, MayChange, end_change, IsPrepared, AreSpacesSound, AreWriteOutsSound}
use Rattle.machine.proofs.Names.{IsSound, waiting_homes, file_homes, leb, first_file_home}
use Rattle.machine.proofs.sound.Sources.{filter_contains}
use Rattle.std.proofs.Common.{Contains}
use Rattle.page_entry.specs.declared.refusal.Refusal.TheVariants as refusals
use Rattle.history.proofs.Public.{contains_drop}
use Rattle.machine.proofs.sound.Admitted.{both_none, there_below}

-- ---- who changes

-- the processor is there, holds the lock for the change, and nobody is interrupted any more
pub record IsHolder (s : State) (p : ℕ) (change : Change) : Type 0 where
  pub there : p < length s.hardware.shootdown.processors
  pub held : s.hardware.shootdown.lock ≡ Some (record { holder = p; change = change })
  pub quiet : interrupted s.hardware.shootdown ≡ 0

pub holder : (s : State) (p : ℕ) (change : Change) → MayChange s p change → IsHolder s p change
holder s p change may =
    let sd = s.hardware.shootdown in
    let parts = both_none (not_there sd p) (lock_refusal p (interrupted sd) sd.lock) may.allowed in
    let fine : lock_refusal p (interrupted sd) (Some (record { holder = p; change = change })) ≡ None =
    ap (lock_refusal p (interrupted sd)) (sym may.lock) ∙ parts.1 in
    record {
      there = there_below sd p parts.0;
      held = may.lock;
      quiet = eqb-true (interrupted sd) 0
          (quiet (eqb p p) (eq-eqb p p refl) (eqb (interrupted sd) 0) (interrupted sd) fine);
    }
  where
    quiet : (own : Bool) → own ≡ true → (none : Bool) (waiting : ℕ)
        → cond own (cond none None (Some (refusals.NotYet waiting))) (Some refusals.Locked) ≡ None → none ≡ true
    quiet true is true waiting e = refl
    quiet true is false waiting e = absurd (cc)
    quiet false is none waiting e = absurd (cc)

-- the change was judged, and nobody uses what it affects
pub prepared_change : (s : State) (p : ℕ) (change : Change) → IsSound s → MayChange s p change → IsPrepared s change
prepared_change s p change sound may = sound.spaces.prepared (record { holder = p; change = change }) may.lock

pub unused_change : (s : State) (p : ℕ) (change : Change) → IsSound s → MayChange s p change
    → IsUnused s.hardware.spaces change s.hardware.shootdown
unused_change s p change sound may =
    let is = holder s p change may in
    IsUnused-from_Coheres s.hardware.spaces change s.hardware.shootdown
    (record { holder = p; change = change }) sound.spaces.shootdown sound.spaces.coheres is.held refl is.quiet

-- ---- processors and page tables after the change

pub ended_spaces : (s : State) (p : ℕ) (change : Change) (spaces : Spaces) (memory : FramesState)
    (checkpoint : CheckpointState) (outs : WriteOutsValue) (marks : ℕ) (resized : Bool) → MayChange s p change
    → ChangesOnlyAffected change s.hardware.spaces spaces → IsNoWider change s.hardware.spaces spaces → AreSpaces spaces
    → ((q : ℕ) → has_space spaces q ≡ has_space s.hardware.spaces q)
    → ((pcid page : ℕ) (place : Place) → place_at spaces pcid page ≡ Some place → place.file < length s.table.files)
    → IsSound s → AreSpacesSound
    (record (end_change s p spaces memory checkpoint) { write_outs = outs; marks = marks; resized = resized })
ended_spaces s p change spaces memory checkpoint outs marks resized may only wider are same in_table sound =
    let sd = s.hardware.shootdown in
    let is = holder s p change may in
    let its_change : (lock : Lock) → sd.lock ≡ Some lock → change ≡ lock.change =
    λ lock held. one lock (sym is.held ∙ held) in
    let now = Coheres-changed change s.hardware.spaces spaces sd only (unused_change s p change sound may)
    (λ lock held. subst (λ (c : Change). IsNoWider c s.hardware.spaces spaces) (its_change lock held) wider)
    sound.spaces.coheres in
    record {
      tables = record {
        spaces = are;
        shootdown = IsShootdown-finished sd p
            (record { holder = p; change = change }) sound.spaces.shootdown is.held refl is.quiet;
        coheres = Coheres-finished sd p is.there spaces now;
        current = at-with_processor (λ q y. has_space spaces y.space ≡ true) sd p (woken (processor_at sd p)) is.there
            (same _ ∙ sound.spaces.current p is.there) (λ q within other. same _ ∙ sound.spaces.current q within);
        in_table = in_table;
      };
      prepared = λ lock held. absurd (cc);
    }
  where
    one : (lock : Lock) → Some (record { holder = p; change = change }) ≡ Some lock → change ≡ lock.change
    one lock e = cc

-- ---- frozen pages

-- a home block that waits for its record is one of a batch
pub waiting_has_block : (outs : WriteOutsValue) (home : ℕ) → Contains (waiting_homes outs) home → HasBlock outs home
waiting_has_block outs home there =
    let found = in_flat_map (λ (w : WriteOut). drop w.steps w.batch.homes) outs.batches home there in
    (found.0, found.1, contains_drop found.0.steps found.0.batch.homes home found.2)

-- the home block of a frozen page is one of a batch
pub frozen_has_block : (s : State) (owner : FilePage) → AreWriteOutsSound s → s.write_outs.broken ≡ false
    → Contains s.checkpoint.frozen owner → HasBlock s.write_outs (home_of s.table owner)
frozen_has_block s owner is whole there =
    let homes : map (home_of s.table) s.checkpoint.frozen ≡ file_homes s.table (waiting_homes s.write_outs) =
    is.frozen ∙ ap (λ b. cond b [] (file_homes s.table (waiting_homes s.write_outs))) whole in
    waiting_has_block s.write_outs (home_of s.table owner)
    (filter_contains (leb (first_file_home s.table.layout s.table.slots))
    (waiting_homes s.write_outs) (home_of s.table owner)
    (subst (λ (l : List ℕ). Contains l (home_of s.table owner)) homes
    (Contains-map (home_of s.table) s.checkpoint.frozen owner there)))
