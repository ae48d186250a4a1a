use Rattle.std.proofs.Common.{◌≡◌, ◌*◌, ◌/◌, length, ◌∙◌, arith}
use Rattle.device.specs.Memory.{seen_of}
use Rattle.machine_log.proofs.Gate.{one_block}
use Rattle.machine_log.proofs.parts.DiskParts.fetch.Goals as goal

pub returns-clause-bytes : goal.returns-clause-bytes
returns-clause-bytes g c = λ honest.
    let at = c.args.at in
    let place : at ≡ 4096 * (at / 4096) = omega (arith, c.if-at-ne0.false) in
    c.copy_from_slice.ensures.after ∙ c.in-Ok.ensures.bytes honest
    ∙ one_block (seen_of c.args.self.now.memory) at (at / 4096) (length c.args.buffer.now) place c.if-buffer.false
