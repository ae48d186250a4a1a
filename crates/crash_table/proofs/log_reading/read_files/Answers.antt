use Rattle.std.proofs.Common.{ℕ, List, length, ap, sym, subst, ◌∙◌, arith}
use Rattle.std.proofs.lemmas.Result.{IfOk-weaker}
use Rattle.device.specs.Memory.{seen_of}
use Rattle.volume_reading.specs.Logged.{IsLoggedVolume, logged_files}
use Rattle.crash_table.specs.Marks.{contents_of}
use Rattle.crash_table.proofs.log_reading.read_files.Goals as goal

pub read_each-requires-clause-sound : goal.read_each-requires-clause-sound
read_each-requires-clause-sound g c = record { log = c.in-Ok.ensures.log; lengths = c.in-Ok.ensures.lengths }

pub read_each-requires-clause-long : goal.read_each-requires-clause-long
read_each-requires-clause-long g c = omega (arith, c.in-Ok.ensures.long, ap length c.in-Ok.ensures.read.same)

pub read_each-requires-clause-found : goal.read_each-requires-clause-found
read_each-requires-clause-found g c =
    let P : List ℕ → Type 0 = λ bytes. IsLoggedVolume bytes c.in-Ok.volume in
    subst P (sym c.in-Ok.ensures.read.same) (c.in-Ok.ensures.found tt)

pub returns-in-Ok-clause-read : goal.returns-in-Ok-clause-read
returns-in-Ok-clause-read g c =
    let volume = c.in-Ok.volume in
    IfOk-weaker c.read_each.result _ _
    (λ read same. (
      logged_files volume (seen_of c.args.disk.now),
      (c.in-Ok.ensures.found tt).recovers,
      same ∙ ap (λ (bytes : List ℕ). contents_of (logged_files volume bytes)) c.in-Ok.ensures.read.same,
    ))
    c.read_each.ensures.read

pub returns-in-Ok-clause-same : goal.returns-in-Ok-clause-same
returns-in-Ok-clause-same g c = c.read_each.ensures.same ∙ c.in-Ok.ensures.read.same

pub returns-in-Err-clause-same : goal.returns-in-Err-clause-same
returns-in-Err-clause-same g c = c.in-Err.ensures.read.same
