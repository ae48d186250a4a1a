-- Calls one after another that only read.
use Rattle.std.proofs.Common.{◌≡◌, ◌∙◌, ℕ, List, refl}
use Rattle.device.specs.declared.device.Device.{Ghosts}
use Rattle.device.proofs.Public.{leaves_at_start, leaves_then, leaves_weaker}
use Rattle.log_codec.specs.declared.broken.Broken.{Broken}
use Rattle.log_codec.specs.declared.broken.Broken.TheVariants as broken
use Rattle.log_recovery.specs.Reading.{ReadsAlone, FailedOnce}
use Rattle.log_recovery.specs.inside.Commit.{refusal_by}

-- before any call. `since` is the device's law
pub reads_nothing : {D : Type 0} (disk : Ghosts D) (device : D)
    → ((c : List ℕ) → disk.left_since device (disk.moment device) c → disk.may_leave device c)
    → ReadsAlone disk device device
reads_nothing disk device since = record {
  same = refl;
  left = λ c left. left;
  keeps = λ honest c left. left;
  time = leaves_at_start since;
  honest = (λ h. h, λ h. h);
  carried = refl;
}

pub reads_then : {D : Type 0} {disk : Ghosts D} {old mid new : D} → ReadsAlone disk old mid → ReadsAlone disk mid new
    → ReadsAlone disk old new
reads_then first second = record {
  same = second.same ∙ first.same;
  left = λ c left. first.left c (second.left c left);
  keeps = λ honest c left. second.keeps (first.honest.1 honest) c (first.keeps honest c left);
  time = leaves_then first.time (leaves_weaker second.time first.left);
  honest = (λ h. first.honest.0 (second.honest.0 h), λ h. second.honest.1 (first.honest.1 h));
  carried = second.carried ∙ first.carried;
}

-- no call failed where a rule is broken
pub no_fault : (old new : ℕ) (b : Broken) → new ≡ old → FailedOnce old new (refusal_by b)
no_fault old new broken.Length same = same
no_fault old new broken.Number same = same
no_fault old new broken.Count same = same
no_fault old new broken.Reserved same = same
no_fault old new broken.Padding same = same
no_fault old new broken.Homes same = same
no_fault old new broken.OutOfMemory same = same
