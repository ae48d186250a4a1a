use Rattle.std.proofs.Common.{◌≡◌, ℕ, ◌+◌, ◌-◌, ◌*◌, length, take, drop, sym, ap, ◌∙◌, arith}
use Rattle.volume_codec.specs.Layout.{block_at}
use Rattle.log_store.proofs.Stores.{read_only, read_is}
use Rattle.log_store.proofs.store.LogStore.read.Goals as goal

pub returns-in-Ok-clause-store : goal.returns-in-Ok-clause-store
returns-in-Ok-clause-store g c = λ contents honest over.
    read_only g.D.Device c.args.self.now contents c.args.device.now c.read.new.self c.read.ensures.same
    c.read.ensures.left over

pub returns-in-Err-clause-store : goal.returns-in-Err-clause-store
returns-in-Err-clause-store g c = λ contents honest over.
    read_only g.D.Device c.args.self.now contents c.args.device.now c.read.new.self c.read.ensures.same
    c.read.ensures.left over

pub returns-in-Ok-clause-bytes : goal.returns-in-Ok-clause-bytes
returns-in-Ok-clause-bytes g c = λ contents honest over is_home.
    let seen = g.D.Device.seen c.args.device.now in
    let b : ℕ = c.store_block-block.result in
    let at : ℕ = 4096 * c.from.result in
    let place : at ≡ 4096 * b = ap (λ n. 4096 * n) c.from.ensures in
    let size : at + length c.args.buffer.now - at ≡ 4096 = omega (arith, c.told-buffer) in
    c.in-Ok.ensures.bytes honest ∙ ap (λ n. take n (drop at seen)) size ∙ ap (λ n. take 4096 (drop n seen)) place
    ∙ ap (block_at seen) c.store_block-block.ensures
    ∙ sym (read_is g.D.Device c.args.self.now contents c.args.device.now over
    (g.met.D.Device.seen_is_left c.args.device.now honest) c.args.home is_home)
