use Rattle.std.proofs.Common.{◌+◌, ap, ◌∙◌}
use Rattle.std.specs.Prelude.{slice_range}
use Rattle.device.specs.Memory.{seen_of}
use Rattle.deferred_disk.specs.Deferred.{as_memory, lacked_by_read}
use Rattle.embedded.proofs.First.{first_known}
use Rattle.embedded.proofs.judging.peek_first.Goals as goal

pub returns : goal.returns
returns g c = λ well.
    let disk = c.args.disk.now in
    c.peek.ensures.bytes well (c.peek.ensures.lacked ∙ ap (λ n. lacked_by_read disk.known 0 n) c.told-block
    ∙ first_known disk.known c.requires.known)
    ∙ ap (λ n. slice_range (seen_of (as_memory disk)) 0 (0 + n)) c.told-block
