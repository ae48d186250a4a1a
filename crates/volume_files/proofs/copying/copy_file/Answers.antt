use Rattle.std.proofs.Common.{◌≡◌, List, ℕ, length, sym, ap, subst, arith}
use Rattle.std.specs.Prelude.{IfOk, IfErr}
use Rattle.std.proofs.lemmas.Result.{IfOk-weaker, IfErr-weaker}
use Rattle.recovery.proofs.Public.{read_then}
use Rattle.volume_reading.specs.Volume.{IsAny, any_files}
use Rattle.volume_reading.proofs.Public.{any_recovers}
use Rattle.volume_files.specs.Export.{HasNone, IsCopied}
use Rattle.volume_files.specs.declared.copying.CopyFault.TheVariants.{NoFile}
use Rattle.volume_files.proofs.Absent.{not_exported}
use Rattle.volume_files.proofs.copying.copy_file.Goals as goal

pub copy_named-requires-clause-long : goal.copy_named-requires-clause-long
copy_named-requires-clause-long g c = omega (arith, c.in-Ok.ensures.long, ap length c.in-Ok.ensures.read.same)

pub copy_named-requires-clause-found : goal.copy_named-requires-clause-found
copy_named-requires-clause-found g c = λ honest.
    let read = c.in-Ok.ensures.read in
    let P : List ℕ → Type 0 = λ bytes. IsAny c.in-Ok.volume bytes in
    subst P (sym read.same) (c.in-Ok.ensures.found (read.honest.0 honest))

pub returns-in-Ok-clause-read : goal.returns-in-Ok-clause-read
returns-in-Ok-clause-read g c = read_then c.in-Ok.ensures.read c.copy_named.ensures.read

pub returns-in-Ok-clause-copied : goal.returns-in-Ok-clause-copied
returns-in-Ok-clause-copied g c = λ honest.
    let read = c.in-Ok.ensures.read in
    let volume = c.in-Ok.volume in
    let bytes = g.D.Device.seen c.args.device.now in
    let P : List ℕ → Type 0 = λ seen. IfOk c.copy_named.result (λ made. g.F.BlockFile.is_honest made.1
    → IsCopied (any_files volume seen) c.args.name.now (g.F.BlockFile.seen made.1) made.0) in
    IfOk-weaker c.copy_named.result _ _
    (λ made copied fair. record {
      files = any_files volume bytes;
      recovers = any_recovers volume bytes (c.in-Ok.ensures.found honest);
      copied = copied fair;
    })
    (subst P read.same (c.copy_named.ensures.copied (read.honest.1 honest)))

pub returns-in-Ok-clause-absent : goal.returns-in-Ok-clause-absent
returns-in-Ok-clause-absent g c = λ honest.
    let read = c.in-Ok.ensures.read in
    let volume = c.in-Ok.volume in
    let bytes = g.D.Device.seen c.args.device.now in
    let P : List ℕ → Type 0 = λ seen. IfErr c.copy_named.result (λ fault. fault ≡ NoFile
    → HasNone (any_files volume seen) c.args.name.now) in
    IfErr-weaker c.copy_named.result _ _
    (λ fault none. not_exported bytes c.args.name.now (any_files volume bytes)
    (any_recovers volume bytes (c.in-Ok.ensures.found honest)) fault none)
    (subst P read.same (c.copy_named.ensures.absent (read.honest.1 honest)))
