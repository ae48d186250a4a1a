use Rattle.std.proofs.Common.{rules, ◌≡◌, ◌*◌, length, ap, arith}
use Rattle.std.proofs.lemmas.Result.{on_ok_weaker}
use Rattle.device.specs.Device.{written}
use Rattle.volume_codec.specs.Layout.{lengths_blocks, first_home}
use Rattle.volume_codec.proofs.Layouts.{first_home-within}
use Rattle.recovery.proofs.Formatted.{said_there}
use Rattle.recovery.proofs.Writing.{overwritten_none, overwritten_once, overwritten_wider, write_written}
use Rattle.recovery.proofs.formatting.put_lengths.Goals as goal

pub write-requires : goal.write-requires
write-requires g c =
    let room = first_home-within c.args.geometry.now c.first_home-home.ensures.geometry in
    let whole : length c.args.lengths.now ≡ 4096 = search rules in
    omega (arith, room, whole, c.requires, c.from.ensures, c.first_home-home.ensures.value)

pub returns-clause-said : goal.returns-clause-said
returns-clause-said g c = λ honest.
    let room = first_home-within c.args.geometry.now c.first_home-home.ensures.geometry in
    let whole : length c.args.lengths.now ≡ 4096 = search rules in
    on_ok_weaker c.write.result
    (λ (is : g.D.Device.seen c.write.new.device
    ≡ written (g.D.Device.seen c.args.device.now) (4096 * c.from.result) c.args.lengths.now).
    λ some.
    said_there (first_home c.args.geometry.now.layout c.args.geometry.now.slots)
    (4096 * c.from.result) _ _ c.args.lengths.now
    (omega (arith, c.from.ensures, c.first_home-home.ensures.value)) (omega (arith, room, c.requires)) whole is)
    (write_written (4096 * c.from.result) c.args.lengths.now c.write.result c.write.ensures.did honest)

pub returns-then-lengths_blocks-eq0-clause-overwrites : goal.returns-then-lengths_blocks-eq0-clause-overwrites
returns-then-lengths_blocks-eq0-clause-overwrites g c =
    let low = 4096 * first_home c.args.geometry.now.layout c.args.geometry.now.slots in
    let count = lengths_blocks c.args.geometry.now.layout in
    let none : 0 ≡ count = omega (arith, ap lengths_blocks c.layout.ensures.value, c.lengths_blocks.ensures.value) in
    overwritten_wider (overwritten_none {disk = g.D.Device} low (4096 * count) c.args.device.now
    (g.met.D.Device.since_now c.args.device.now)) low (4096 * count) count (omega arith) (omega arith) none

pub returns-clause-overwrites : goal.returns-clause-overwrites
returns-clause-overwrites g c =
    let room = first_home-within c.args.geometry.now c.first_home-home.ensures.geometry in
    let whole : length c.args.lengths.now ≡ 4096 = search rules in
    let one = ap lengths_blocks c.layout.ensures.value in
    let low = 4096 * first_home c.args.geometry.now.layout c.args.geometry.now.slots in
    let count = lengths_blocks c.args.geometry.now.layout in
    overwritten_wider (overwritten_once (4096 * c.from.result) c.args.lengths.now c.write.result
    (omega (arith, room, whole, c.requires, c.from.ensures, c.first_home-home.ensures.value))
    c.write.ensures.fault c.write.ensures.did)
    low (4096 * count) count (omega (arith, c.from.ensures, c.first_home-home.ensures.value))
    (omega (arith, whole, one, c.lengths_blocks.ensures.value, c.from.ensures, c.first_home-home.ensures.value))
    (omega (arith, one, c.lengths_blocks.ensures.value, c.lengths_blocks.ensures.small))
