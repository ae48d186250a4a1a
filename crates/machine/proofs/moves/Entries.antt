-- Processors, spaces and entries that are replaced: the conditions of these moves, by which a machine stays sound.
use Rattle.machine.proofs.Names.{ℕ, ◌≡◌, ◌<◌, Bool, true, false, cond, ◌&&◌, eqb, List, [], ◌∷◌, length, Some, is_some}
use Rattle.machine.proofs.Names.{IsSome, refl, sym, ap, ◌∙◌, subst, and_parts, and_from, or_right, eqb-true, eq-eqb}
use Rattle.machine.proofs.Names.{cond-true, Mapped, TlbState, filled, Place, Spaces, has_space, space_at, entry_at}
use Rattle.machine.proofs.Names.{place_at, with_entry, Keeps, has_space-place_at, entry_at-with_entry}
use Rattle.machine.proofs.Names.{place_at-with_entry, places-with_entry, has_space-with_entry, AreSpaces-with_entry}
use Rattle.machine.proofs.Names.{is_some_from, Grows-with_entry, Lock, IsShootdown, processor_at, current}
use Rattle.machine.proofs.Names.{with_processor, with_tlb, Coheres, Agrees, at-with_processor, IsNoWider-same_places}
use Rattle.machine.proofs.Names.{Coheres-grown, IsShootdown-filled, Coheres-filled, Holds, page_at, MayBe}
use Rattle.machine.proofs.Names.{AreBacked-with_entry, cached_of, walked, State, with_hardware, with_shootdown}
use Rattle.machine.proofs.Names.{with_spaces, IsSound, Effect, Silent, Mapping, AreSpacesObserved, ReplacesProcessor}
use Rattle.machine.proofs.Names.{ReplacesSpaces, Replace, Remap, SamePlaces}
use Rattle.machine.proofs.sound.Lists.{same_some}
use Rattle.machine.proofs.moves.Silent.{SilentMoves}
use Rattle.machine.proofs.refining.DirtyFrames.{dirty_alike}
use Rattle.machine.proofs.sound.Groups.{still_sound, unchanged_sound, shootdown_sound}
use Rattle.machine.proofs.sound.Groups.{prepared_same, memory_beside, write_outs_moved}

-- ---- a machine stays sound

pub processor_sound : (s : State) (effect : Effect) (new : State) → ReplacesProcessor s effect new → IsSound s
    → IsSound new
processor_sound s effect new is sound =
    let shootdown = with_processor s.hardware.shootdown is.p is.x in
    unchanged_sound _ new is.done
    (shootdown_sound s shootdown is.is_shootdown is.coheres
    (at-with_processor (λ q y. has_space s.hardware.spaces y.space ≡ true) s.hardware.shootdown
    is.p is.x is.there is.space
    (λ q within other. sound.spaces.current q within))
    sound.spaces.prepared sound)

-- a space that was there is
space_stays : (effect : Effect) (old new : Spaces) → AreSpacesObserved effect old new → (q : ℕ) → has_space old q ≡ true
    → has_space new q ≡ true
space_stays Silent old new observed q is = observed.there q ∙ is
space_stays (Mapping space change) old new observed q is =
    observed.there q ∙ or_right (eqb q space) (has_space old q) is
space_stays effect old new observed q is = absurd observed

pub spaces_sound : (s : State) (spaces : Spaces) (effect : Effect) (new : State) → ReplacesSpaces s spaces effect new
    → IsSound s → IsSound new
spaces_sound s spaces effect new is sound = unchanged_sound _ new is.done (still_sound sound refl refl
    (record {
      tables = record {
        spaces = is.are_spaces;
        shootdown = sound.spaces.shootdown;
        coheres = is.coheres;
        current = λ p below. space_stays effect s.hardware.spaces spaces is.observed _ (sound.spaces.current p below);
        in_table = is.in_table;
      };
      prepared = is.prepared;
    })
    (memory_beside s s.hardware.shootdown spaces s.checkpoint s.write_outs s.marks refl refl
    sound.memory.noted is.backed sound.memory)
    (write_outs_moved s (record s.hardware { spaces = spaces }) s.checkpoint refl
    (λ owner there. there) sound.write_outs))

-- ---- another TLB

pub tlb_replaced : (s : State) (p : ℕ) (tlb : TlbState) (new : State) → IsSound s
    → p < length s.hardware.shootdown.processors
    → IsShootdown (with_tlb s.hardware.shootdown p tlb)
    → Coheres s.hardware.spaces (with_tlb s.hardware.shootdown p tlb)
    → new ≡ with_shootdown s (with_tlb s.hardware.shootdown p tlb) → ReplacesProcessor s Silent new
tlb_replaced s p tlb new sound there is_shootdown coheres is = record {
  p = p;
  x = record (processor_at s.hardware.shootdown p) { tlb = tlb };
  there = there;
  is_shootdown = is_shootdown;
  coheres = coheres;
  space = sound.spaces.current p there;
  observed = (refl, refl);
  done = is;
}

-- ---- another entry of a page

-- a page that was mapped gets an entry; while the lock is held, it has one
pub entry_replaced : (s : State) (pcid page : ℕ) (place : Place) (entry : Mapped)
    → place_at s.hardware.spaces pcid page ≡ Some place
    → MayBe s.hardware.memory s.checkpoint place entry
    → ((was : Mapped) → entry_at s.hardware.spaces pcid page ≡ Some was → Keeps was entry)
    → ((lock : Lock) → s.hardware.shootdown.lock ≡ Some lock → IsSome (entry_at s.hardware.spaces pcid page))
    → IsSound s
    → ReplacesSpaces s (with_entry s.hardware.spaces pcid page (Some entry)) Silent
    (with_spaces s (with_entry s.hardware.spaces pcid page (Some entry)))
entry_replaced s pcid page place entry mapped may keeps had sound =
    let old = s.hardware.spaces in
    let new = with_entry old pcid page (Some entry) in
    let some : IsSome (place_at old pcid page) = is_some_from _ place mapped in
    let there : (q : ℕ) → has_space new q ≡ has_space old q =
    has_space-with_entry old pcid page (Some entry) (has_space-place_at old pcid page some) in
    let places : (q : ℕ) → (space_at new q).places ≡ (space_at old q).places =
    places-with_entry old pcid page (Some entry) in
    let same : SamePlaces old new = record { there = there; places = places } in
    record {
      are_spaces = AreSpaces-with_entry old pcid page (Some entry) sound.spaces.spaces some;
      coheres = Coheres-grown old new s.hardware.shootdown (Grows-with_entry old pcid page entry keeps)
          (λ lock held. IsNoWider-same_places lock.change old new places (λ q at is.
          stays (had lock held) q at (eqb q pcid && eqb at page) refl
          (sym (ap is_some (entry_at-with_entry old pcid page (Some entry) q at)) ∙ is)))
          sound.spaces.coheres;
      in_table = λ q at other is.
          sound.spaces.in_table q at other (sym (place_at-with_entry old pcid page (Some entry) q at) ∙ is);
      prepared = λ lock held.
          prepared_same s s.hardware.shootdown new lock.change same (sound.spaces.prepared lock held);
      backed =
          AreBacked-with_entry s.hardware.memory s.checkpoint old pcid page place entry mapped may sound.memory.backed;
      observed = same;
      done = refl;
    }
  where
    stays : IsSome (entry_at s.hardware.spaces pcid page) → (q at : ℕ) (b : Bool) → (eqb q pcid && eqb at page) ≡ b
        → is_some (cond b (Some entry) (entry_at s.hardware.spaces q at)) ≡ true
        → is_some (entry_at s.hardware.spaces q at) ≡ true
    stays some q at true here is =
        let parts = and_parts (eqb q pcid) (eqb at page) here in
        (λ i. is_some (entry_at s.hardware.spaces (eqb-true q pcid parts.0 i) (eqb-true at page parts.1 i))) ∙ some
    stays some q at false other is = is

-- ---- walks

-- an entry as it is after a walk
pub record IsNoted (was now : Mapped) : Type 0 where
  pub same_frame : now.frame ≡ was.frame
  pub same_right : now.writable ≡ was.writable
  pub still_dirty : was.dirty ≡ true → now.dirty ≡ true

-- the entry that a page was given
given_entry : (m : Spaces) (pcid page : ℕ) (entry : Mapped)
    → entry_at (with_entry m pcid page (Some entry)) pcid page ≡ Some entry
given_entry m pcid page entry =
    entry_at-with_entry m pcid page (Some entry) pcid page
    ∙ cond-true (eqb pcid pcid && eqb page page) (Some entry) (entry_at m pcid page)
    (and_from (eqb pcid pcid) (eqb page page) (eq-eqb pcid pcid refl) (eq-eqb page page refl))

module _ (s : State) (p page : ℕ) (was now : Mapped) (sound : IsSound s)
    (there : p < length s.hardware.shootdown.processors)
    (present : entry_at s.hardware.spaces (current s.hardware.shootdown p) page ≡ Some was)
    (noted : IsNoted was now) where
  abbrev pcid : ℕ
  pcid = current s.hardware.shootdown p

  abbrev spaces : Spaces
  spaces = with_entry s.hardware.spaces pcid page (Some now)

  abbrev mid : State
  mid = with_spaces s spaces

  -- the entry is noted in the table
  pub walk_noted : ReplacesSpaces s spaces Silent mid
  walk_noted =
      let backed = sound.memory.backed pcid page was present in
      let may : MayBe s.hardware.memory s.checkpoint backed.place now = record {
        held = subst (λ (frame : ℕ). Holds s.hardware.memory frame (page_at backed.place))
            (sym noted.same_frame) backed.held;
        allowed = λ writable. backed.allowed (sym noted.same_right ∙ writable);
        thawed = λ writable. backed.thawed (sym noted.same_right ∙ writable);
      } in
      entry_replaced s pcid page backed.place now backed.mapped may
      (λ old at. subst (λ (m : Mapped). Keeps m now) (same_some (sym present ∙ at))
      (record {
        same_frame = noted.same_frame;
        still_writable = λ writable. noted.same_right ∙ writable;
        still_dirty = noted.still_dirty;
      }))
      (λ lock held. is_some_from _ was present) sound

  -- and cached
  pub walk_cached : ReplacesProcessor mid Silent (with_hardware s (walked s.hardware p page now))
  walk_cached =
      let half = spaces_sound s spaces Silent mid walk_noted sound in
      let cached_now = cached_of pcid page now in
      let agrees : Agrees mid.hardware.spaces cached_now = (
        now,
        given_entry s.hardware.spaces pcid page now,
        record { same_frame = refl; writable = λ e. e; dirty = λ e. e },
      ) in
      tlb_replaced mid p (filled (processor_at s.hardware.shootdown p).tlb cached_now) _ half there
      (IsShootdown-filled s.hardware.shootdown p cached_now sound.spaces.shootdown there refl)
      (Coheres-filled mid.hardware.spaces s.hardware.shootdown p cached_now there agrees half.spaces.coheres) refl

  pub walk_sound : IsSound (with_hardware s (walked s.hardware p page now))
  walk_sound = processor_sound mid Silent _ walk_cached (spaces_sound s spaces Silent mid walk_noted sound)

  -- where the walk leaves the dirty bit, these are two moves
  pub walk_moves : (disk : List ℕ) (new : State) → now.dirty ≡ was.dirty
      → new ≡ with_hardware s (walked s.hardware p page now) → SilentMoves disk s new
  walk_moves disk new same is = record {
    effect = Silent ∷ Silent ∷ [];
    silent = tt;
    moves = (
      mid,
      Remap spaces walk_noted
          (λ frame. dirty_alike s.hardware.spaces pcid page now s.checkpoint frame was present noted.same_frame same),
      (_, Replace walk_cached, is),
    );
  }
