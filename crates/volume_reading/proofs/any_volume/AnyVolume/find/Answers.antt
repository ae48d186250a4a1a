use Rattle.std.proofs.Common.{rules, ◌≡◌, ◌≢◌, ℕ, List, length, ◌*◌, ◌≤◌, sym, subst}
use Rattle.page_entry.specs.declared.refusal.Refusal.{Refusal}
use Rattle.page_entry.specs.declared.refusal.Refusal.TheVariants.{NotAVolume}
use Rattle.recovery.specs.Counts.{HasCause}
use Rattle.recovery.specs.Opening.{RefusesOpening}
use Rattle.std.specs.Prelude.{IfOk, IfErr}
use Rattle.volume_codec.specs.Recovery.{IsNotAVolume}
use Rattle.recovery.proofs.Public.{read_then}
use Rattle.volume_reading.specs.Volume.{IsAny, RefusesAny, HasCounted, any_blocks}
use Rattle.volume_reading.proofs.Volumes.{by_journals, by_cause}
use Rattle.volume_reading.proofs.any_volume.AnyVolume.find.Goals as goal

pub find_log-requires : goal.find_log-requires
find_log-requires g c =
    let read = c.in-Err-NotAVolume.ensures.read in
    let is : c.in-Err-NotAVolume.field-0 ≡ NotAVolume = search rules in
    let P : List ℕ → Type 0 = λ bytes. IsNotAVolume bytes in
    let Q : Refusal → Type 0 = λ e. RefusesOpening (g.D.Device.seen c.args.device.now) e in record {
      other = λ honest. subst P (sym read.same) (subst Q is (c.in-Err-NotAVolume.ensures.refused
          (read.honest.0 honest)));
    }

pub returns-in-Err-NotAVolume-clause-found : goal.returns-in-Err-NotAVolume-clause-found
returns-in-Err-NotAVolume-clause-found g c = λ honest.
    let read = c.in-Err-NotAVolume.ensures.read in
    let P : List ℕ → Type 0 = λ bytes. IfOk c.find_log.result (λ volume. IsAny volume bytes) in
    subst P read.same (c.find_log.ensures.found (read.honest.1 honest))

pub returns-in-Err-NotAVolume-clause-long : goal.returns-in-Err-NotAVolume-clause-long
returns-in-Err-NotAVolume-clause-long g c =
    let P : List ℕ → Type 0 = λ bytes. IfOk c.find_log.result (λ volume. 4096 * any_blocks volume ≤ length bytes) in
    subst P c.in-Err-NotAVolume.ensures.read.same c.find_log.ensures.long

pub returns-in-Err-NotAVolume-clause-refused : goal.returns-in-Err-NotAVolume-clause-refused
returns-in-Err-NotAVolume-clause-refused g c = λ honest.
    let read = c.in-Err-NotAVolume.ensures.read in
    let P : List ℕ → Type 0 = λ bytes. IfErr c.find_log.result (RefusesAny bytes) in
    subst P read.same (c.find_log.ensures.refused (read.honest.1 honest))

pub returns-in-Err-NotAVolume-clause-read : goal.returns-in-Err-NotAVolume-clause-read
returns-in-Err-NotAVolume-clause-read g c = read_then c.in-Err-NotAVolume.ensures.read c.find_log.ensures.read

pub returns-in-Err-NotAVolume-clause-counted : goal.returns-in-Err-NotAVolume-clause-counted
returns-in-Err-NotAVolume-clause-counted g c =
    let P : ℕ → Type 0 = λ met. HasCounted met (g.D.Device.faults_met c.find_log.new.device) c.find_log.result in
    let is : c.in-Err-NotAVolume.field-0 ≡ NotAVolume = search rules in
    let Q : Refusal → Type 0 =
    λ e. HasCause (g.D.Device.faults_met c.args.device.now) (g.D.Device.faults_met c.find.new.device) e in
    subst P (subst Q is c.in-Err-NotAVolume.ensures.kept.cause) c.find_log.ensures.counted

pub returns-in-Err-clause-refused : goal.returns-in-Err-clause-refused
returns-in-Err-clause-refused g c = λ honest.
    let other : c.in-Err.refusal ≢ NotAVolume = search rules in
    by_journals (g.D.Device.seen c.args.device.now) c.in-Err.refusal other (c.in-Err.ensures.refused honest)

pub returns-in-Err-clause-counted : goal.returns-in-Err-clause-counted
returns-in-Err-clause-counted g c = by_cause _ _ c.in-Err.refusal c.in-Err.ensures.kept.cause

pub returns-in-Ok-clause-counted : goal.returns-in-Ok-clause-counted
returns-in-Ok-clause-counted g c = c.in-Ok.ensures.kept.cause
