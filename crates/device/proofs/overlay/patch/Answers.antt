use Rattle.std.proofs.Common.{ℕ, ◌-◌, List, length, slice_range, ◌∙◌, ap}
use Rattle.device.specs.Device.{written}
use Rattle.device.proofs.Patches.{patched, unpatched}
use Rattle.device.proofs.overlay.patch.Goals as goal

pub returns-then-start-end : goal.returns-then-start-end
returns-then-start-end c =
    let start = c.max-start.result in
    let end = c.min-end.result in
    λ seen fits inside is.
    c.put.ensures
    ∙ ap (λ (l : List ℕ). written l (start - c.args.at)
    (slice_range c.args.bytes.now (start - c.args.from) (end - c.args.from))) is
    ∙ patched seen c.args.bytes.now c.args.at (length c.args.buffer.now) c.args.from start end fits inside
    c.max-start.ensures c.min-end.ensures c.if-start-end.true

pub returns-else-start-end : goal.returns-else-start-end
returns-else-start-end c =
    λ seen fits inside is.
    is ∙ unpatched seen c.args.bytes.now c.args.at (length c.args.buffer.now) c.args.from c.max-start.result
    c.min-end.result fits inside c.max-start.ensures c.min-end.ensures c.if-start-end.false
