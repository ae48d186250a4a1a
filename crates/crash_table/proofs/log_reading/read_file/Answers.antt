use Rattle.std.proofs.Common.{◌≡◌, length, ap, ◌∙◌}
use Rattle.std.proofs.lemmas.List.{length-replicate}
use Rattle.std.proofs.lemmas.Result.{IfOk-weaker}
use Rattle.device.specs.Memory.{Recorded, seen_of}
use Rattle.crash_table.proofs.log_reading.read_file.Goals as goal

pub returns-in-Ok-clause-bytes : goal.returns-in-Ok-clause-bytes
returns-in-Ok-clause-bytes g c =
    let long : length (seen_of c.in_ok-copy.copy) ≡ g.V.FoundFiles.size c.args.volume.now c.args.file =
    ap (λ (d : Recorded). length (seen_of d)) c.in_ok-copy.ensures ∙ length-replicate c.length.result 0
    ∙ c.length.ensures.value in
    IfOk-weaker c.bytes_in.result _ _ (λ bytes is. is ∙ c.in-Ok.ensures.copied tt tt long) c.bytes_in.ensures

pub returns-in-Ok-clause-same : goal.returns-in-Ok-clause-same
returns-in-Ok-clause-same g c = c.in-Ok.ensures.read.same
