use Rattle.std.proofs.Common.{rules, ◌≡◌, ◌+◌, ◌-◌, ◌*◌, length, take, slice_range, sym, ap, ◌∙◌, arith}
use Rattle.std.proofs.lemmas.Result.{on_ok_weaker}
use Rattle.volume_codec.specs.Layout.{block_at}
use Rattle.volume_reading.proofs.PageText.{page_read_at}
use Rattle.volume_reading.proofs.reading.read_page.Goals as goal

pub block_of-block-requires-clause-within : goal.block_of-block-requires-clause-within
block_of-block-requires-clause-within g c = omega (arith, c.requires.within, c.requires.size)

pub returns-clause-page : goal.returns-clause-page
returns-clause-page g c = λ honest.
    let seen = g.D.Device.seen c.args.device.now in
    let block = c.from.result in
    let is : block ≡ c.block_of-block.result = search rules in
    let n = length c.args.part.now in
    on_ok_weaker c.read.result
    (λ (read : c.read.new.buffer ≡ slice_range seen (4096 * block) (4096 * block + n)).
    page_read_at seen block (g.V.FoundFiles.size c.args.volume.now c.args.file - 4096 * c.args.page) n c.read.new.buffer
    _ (omega (arith, c.requires.room, c.requires.size)) read
    (c.block_of-block.ensures.page seen (c.requires.found honest) ∙ ap (λ b. take (g.V.FoundFiles.size c.args.volume.now
    c.args.file - 4096 * c.args.page) (block_at seen b)) (sym is)))
    (c.read.ensures.bytes honest)
