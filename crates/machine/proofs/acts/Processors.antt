-- The moves of processors that switch, stall, go on, idle and wake.
use Rattle.machine.proofs.Names.{ℕ, ◌≡◌, ◌<◌, Bool, true, false, List, length, None, refl, ap, ◌∙◌, has_space}
use Rattle.machine.proofs.Names.{Interrupted, Stalled, Idle, Processor, is_running, woken, switched, IsShootdown}
use Rattle.machine.proofs.Names.{processor_at, current, state_of, with_processor, switched_to, stalled, idled, resumed}
use Rattle.machine.proofs.Names.{not_there, idle_refusal, switch_refusal, Coheres, IsShootdown-stalled}
use Rattle.machine.proofs.Names.{IsShootdown-idled, IsShootdown-resumed, IsShootdown-switched_to, Coheres-stalled}
use Rattle.machine.proofs.Names.{Coheres-idled, Coheres-resumed, Coheres-switched_to, State, with_shootdown, IsSound}
use Rattle.machine.proofs.Names.{Running, Entering, Move, Replace}
use Rattle.machine.proofs.sound.Admitted.{free_below, there_below, switch_admitted, idle_admitted}

module _ {disk : List ℕ} (s : State) (p : ℕ) {new : State} (sound : IsSound s) where
  -- it goes on from now on, or doesn't
  goes : (x : Processor) (b : Bool) → p < length s.hardware.shootdown.processors
      → x.space ≡ current s.hardware.shootdown p → is_running x.state ≡ b
      → IsShootdown (with_processor s.hardware.shootdown p x)
      → Coheres s.hardware.spaces (with_processor s.hardware.shootdown p x)
      → new ≡ with_shootdown s (with_processor s.hardware.shootdown p x) → Move disk s (Running p b) new
  goes x b there space state is_shootdown coheres is = Replace (record {
    p = p;
    x = x;
    there = there;
    is_shootdown = is_shootdown;
    coheres = coheres;
    space = ap (has_space s.hardware.spaces) space ∙ sound.spaces.current p there;
    observed = (refl, space, state);
    done = is;
  })

  pub switch_moves : (pcid : ℕ) (keep : Bool) → switch_refusal s.hardware.shootdown s.hardware.spaces p pcid ≡ None
      → new ≡ with_shootdown s (switched_to s.hardware.shootdown p pcid keep) → Move disk s (Entering p pcid) new
  switch_moves pcid keep none is =
      let may = switch_admitted s.hardware.shootdown s.hardware.spaces p pcid none in
      let free = free_below s.hardware.shootdown p may.0 in
      Replace (record {
        p = p;
        x = switched (processor_at s.hardware.shootdown p) pcid keep;
        there = free.0;
        is_shootdown = IsShootdown-switched_to s.hardware.shootdown p pcid keep sound.spaces.shootdown free.0
            (sound.spaces.spaces.small pcid may.1);
        coheres =
            Coheres-switched_to s.hardware.shootdown p pcid keep free.0 free.1 s.hardware.spaces sound.spaces.coheres;
        space = may.1;
        observed = (refl, refl, refl);
        done = is;
      })

  pub ack_moves : not_there s.hardware.shootdown p ≡ None → state_of s.hardware.shootdown p ≡ Interrupted
      → new ≡ with_shootdown s (stalled s.hardware.shootdown p) → Move disk s (Running p false) new
  ack_moves none state is =
      let there = there_below s.hardware.shootdown p none in
      goes (record (processor_at s.hardware.shootdown p) { state = Stalled }) false there refl refl
      (IsShootdown-stalled s.hardware.shootdown p sound.spaces.shootdown there state)
      (Coheres-stalled s.hardware.shootdown p there s.hardware.spaces sound.spaces.coheres) is

  pub idle_moves : idle_refusal s.hardware.shootdown p ≡ None → new ≡ with_shootdown s (idled s.hardware.shootdown p)
      → Move disk s (Running p false) new
  idle_moves none is =
      let may = idle_admitted s.hardware.shootdown p none in
      goes (record (processor_at s.hardware.shootdown p) { state = Idle }) false may.0 refl refl
      (IsShootdown-idled s.hardware.shootdown p sound.spaces.shootdown may.0 may.1)
      (Coheres-idled s.hardware.shootdown p may.0 s.hardware.spaces sound.spaces.coheres) is

  -- one that waited goes on, once the lock is free
  pub resume_moves : (p < length s.hardware.shootdown.processors) × (s.hardware.shootdown.lock ≡ None)
      → new ≡ with_shootdown s (resumed s.hardware.shootdown p) → Move disk s (Running p true) new
  resume_moves may is =
      goes (woken (processor_at s.hardware.shootdown p)) true may.0 refl refl
      (IsShootdown-resumed s.hardware.shootdown p sound.spaces.shootdown may.0 may.1)
      (Coheres-resumed s.hardware.shootdown p may.0 may.1 s.hardware.spaces sound.spaces.coheres) is
