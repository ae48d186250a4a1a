-- Every step keeps a machine sound.
use Rattle.machine.proofs.Names.{ℕ, List, Act, Reply, Step, State, Rules, after_failure, IsSound, Performed, Moved}
use Rattle.machine.proofs.Names.{Marked, Failed}
use Rattle.machine.specs.inside.Moves.{Flushed, Resized}
use Rattle.machine.proofs.sound.Groups.{unchanged_sound}
use Rattle.machine.proofs.sound.ByMark.{marked_sound}
use Rattle.machine.proofs.sound.ByResize.{resized_sound}
use Rattle.machine.proofs.sound.ByFlush.{flushed_sound, failed_sound}
use Rattle.machine.proofs.moves.Kept.{moves_sound}
use Rattle.machine.proofs.acts.All.{performed}

module _ {s : State} {disk : List ℕ} {p : ℕ} {act : Act} {reply : Reply} {new : State} {disk' : List ℕ}
    (sound : IsSound s) where
  pub performed_sound : Performed s disk p act reply new disk' → IsSound new
  performed_sound (Moved by) = moves_sound disk s by.effect new by.moves sound
  performed_sound (Marked number act_is reply_is made same) = marked_sound s p number new made sound
  performed_sound (Resized act_is reply_is made same) = resized_sound s p new made sound
  performed_sound (Flushed act_is made fine) = flushed_sound s sound disk p reply new disk' made fine
  performed_sound (Failed act_is reply_is made) =
      unchanged_sound (after_failure s) new made.done (failed_sound s sound made.some)

pub sound_kept : (s : State) (disk : List ℕ) (step : Step) (reply : Reply) (new : State) (disk' : List ℕ) → IsSound s
    → Rules s disk step reply new disk' → IsSound new
sound_kept s disk step reply new disk' sound rule =
    performed_sound sound (performed s disk step reply new disk' sound rule)
