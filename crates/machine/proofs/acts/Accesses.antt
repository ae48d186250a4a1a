-- The moves of loads, stores, fills and evictions.
use Rattle.machine.proofs.Names.{ℕ, ◌≡◌, ◌/◌, ◌||◌, Bool, true, false, List, refl, ap, ◌∙◌, inl, inr, evicted}
use Rattle.machine.proofs.Names.{without_page, processor_at, current, is_there, tlb_of, with_tlb, is_there_below}
use Rattle.machine.proofs.Names.{IsShootdown-without_page, IsShootdown-evicted, Coheres-without_page, Coheres-evicted}
use Rattle.machine.proofs.Names.{entry_at, Hardware, filled_by, LoadMade, Faults, State, with_hardware, IsSound}
use Rattle.machine.proofs.Names.{Replace}
use Rattle.machine.proofs.sound.Admitted.{running_below}
use Rattle.machine.proofs.refining.Translations.{is_translated, filled_cases}
use Rattle.machine.proofs.moves.Silent.{SilentMoves, no_moves, one_move}
use Rattle.machine.proofs.moves.Entries.{tlb_replaced, walk_moves}

or_false : (b : Bool) → (b || false) ≡ b
or_false true = refl
or_false false = refl

module _ {disk : List ℕ} (s : State) (p : ℕ) {new : State} (sound : IsSound s) where
  -- the hardware stays
  pub same_moves : (h : Hardware) → h ≡ s.hardware → new ≡ with_hardware s h → SilentMoves disk s new
  same_moves h same is = no_moves (is ∙ ap (with_hardware s) same)

  -- a fault drops the page's cached entry
  pub fault_moves : (va count : ℕ) (write : Bool) (code : ℕ) (h : Hardware) → Faults s.hardware p va count write code h
      → new ≡ with_hardware s h → SilentMoves disk s new
  fault_moves va count write code h fault is =
      let x = processor_at s.hardware.shootdown p in
      let there = (running_below s.hardware.shootdown p fault.running).0 in
      one_move (Replace (tlb_replaced s p (without_page x.tlb x.space (va / 4096)) new sound there
      (IsShootdown-without_page s.hardware.shootdown p x.space (va / 4096) sound.spaces.shootdown there)
      (Coheres-without_page s.hardware.shootdown p x.space (va / 4096) there s.hardware.spaces sound.spaces.coheres)
      (is ∙ ap (with_hardware s) fault.dropped)))

  pub load_moves : (va count : ℕ) (bytes : List ℕ) (h : Hardware) → LoadMade s.hardware p va count bytes h
      → new ≡ with_hardware s h → SilentMoves disk s new
  load_moves va count bytes h made is =
      let t = is_translated s.hardware p
      (va / 4096) false made.frame h sound.spaces.coheres made.running made.translation in
      elim t.reached [
        | inl kept ↦ same_moves h kept.0 is
        | inr noted ↦ walk_moves s p (va / 4096) t.entry
            (record t.entry { accessed = true; dirty = t.entry.dirty || false }) sound
            (running_below s.hardware.shootdown p made.running).0 t.present
            (record { same_frame = refl; same_right = refl; still_dirty = λ dirty. or_false t.entry.dirty ∙ dirty })
            disk new (or_false t.entry.dirty) (is ∙ ap (with_hardware s) noted)
      ]

  pub fill_moves : (page : ℕ) (answer : Bool) (h : Hardware) → is_there s.hardware.shootdown p ≡ true
      → (answer, h) ≡ filled_by s.hardware p page (entry_at s.hardware.spaces (current s.hardware.shootdown p) page)
      → new ≡ with_hardware s h → SilentMoves disk s new
  fill_moves page answer h there made is =
      elim (filled_cases s.hardware p page answer h
      (entry_at s.hardware.spaces (current s.hardware.shootdown p) page) refl made) [
        | inl same ↦ same_moves h same is
        | inr noted ↦ walk_moves s p page noted.0 (record noted.0 { accessed = true }) sound
            (is_there_below s.hardware.shootdown p there) noted.1
            (record { same_frame = refl; same_right = refl; still_dirty = λ dirty. dirty }) disk new refl
            (is ∙ ap (with_hardware s) noted.2)
      ]

  pub evict_moves : (slot : ℕ) (h : Hardware) → is_there s.hardware.shootdown p ≡ true
      → h ≡ record s.hardware {
        shootdown = with_tlb s.hardware.shootdown p
            (evicted (tlb_of s.hardware.shootdown p) slot);
      } → new ≡ with_hardware s h → SilentMoves disk s new
  evict_moves slot h there made is =
      let below = is_there_below s.hardware.shootdown p there in
      one_move (Replace (tlb_replaced s p (evicted (processor_at s.hardware.shootdown p).tlb slot) new sound below
      (IsShootdown-evicted s.hardware.shootdown p slot sound.spaces.shootdown below)
      (Coheres-evicted s.hardware.shootdown p slot below s.hardware.spaces sound.spaces.coheres)
      (is ∙ ap (with_hardware s) made)))
