use Rattle.std.proofs.Common.{rules, ◌≡◌, ℕ, ◌+◌, ◌-◌, ◌*◌, List, length, take, drop, ◌∙◌, arith}
use Rattle.device.specs.Device.{written}
use Rattle.device.proofs.doing.copy_block.Goals as goal

-- the block that was read is written
copied : (mid disk buffer : List ℕ) (f from t to n : ℕ) → mid ≡ disk → f ≡ from → t ≡ to → n ≡ 4096
    → buffer ≡ take ((4096 * f + n) - 4096 * f) (drop (4096 * f) disk)
    → written mid (4096 * t) buffer ≡ written disk (4096 * to) (take 4096 (drop (4096 * from) disk))
copied mid disk buffer f from t to n disks froms tos size is =
    let count : (4096 * f + n) - 4096 * f ≡ 4096 = omega arith in
    λ i. written (disks i) (4096 * tos i) ((is ∙ (λ j. take (count j) (drop (4096 * froms j) disk))) i)

pub returns-in-Ok-write : goal.returns-in-Ok-write
returns-in-Ok-write g c =
    let disk = g.D.Device.seen c.args.device.now in
    let size : length c.args.buffer.now ≡ 4096 = omega (arith, c.fits-buffer) in
    let seen : g.D.Device.is_honest c.args.device.now → g.D.Device.seen c.write.new.self
    ≡ written disk (4096 * c.args.to) (take 4096 (drop (4096 * c.args.from) disk)) = λ honest.
    c.in-Ok-write.ensures.written (c.in-Ok.ensures.honest.1 honest)
    ∙ copied (g.D.Device.seen c.read.new.self) disk c.read.new.buffer c.from.result c.args.from c.from-2.result
    c.args.to (length c.args.buffer.now) c.in-Ok.ensures.same c.from.ensures c.from-2.ensures size
    (c.in-Ok.ensures.bytes honest) in
    search rules
