use Rattle.std.proofs.Common.{◌-◌, ◌*◌, ◌+◌, ◌/◌, ◌<◌, ◌≡◌, Err, refl, ap, ◌∙◌, arith}
use Rattle.std.proofs.lemmas.Result.{err_from_is_err_and, on_ok_weaker}
use Rattle.volume_codec.specs.Files.{asked_by, lengths_asked}
use Rattle.volume_codec.specs.Layout.{lengths_blocks, first_home, block_at}
use Rattle.volume_codec.proofs.Layouts.{first_home-within}
use Rattle.recovery.proofs.Formatted.{are_emptied}
use Rattle.recovery.proofs.Writing.{overwritten_less, overwritten_then, overwritten_wider}
use Rattle.recovery.proofs.formatting.empty_homes.Goals as goal

pub erase-requires-clause-room : goal.erase-requires-clause-room
erase-requires-clause-room g c = omega (arith, c.requires.long, c.from.ensures, c.block_count.ensures.value)

pub put_lengths-requires : goal.put_lengths-requires
put_lengths-requires g c = omega (arith, c.requires.long, c.in_ok-erase.ensures.overwrites.kept.len)

pub write_lengths_of-requires : goal.write_lengths_of-requires
write_lengths_of-requires g c = c.requires.few

pub returns-clause-emptied : goal.returns-clause-emptied
returns-clause-emptied g c = λ honest.
    let honest_1 = c.in_ok-erase.ensures.overwrites.kept.honest.1 honest in
    on_ok_weaker c.put_lengths.result
    (λ (said : 0 < lengths_blocks c.args.geometry.now.layout
    → block_at (g.D.Device.seen c.put_lengths.new.device)
    (first_home c.args.geometry.now.layout c.args.geometry.now.slots)
    ≡ c.write_lengths_of.result).
    are_emptied c.args.geometry.now (lengths_asked (asked_by c.args.files.now)) _ _ _ _ _
    (omega (arith, c.from-homes.ensures, c.first_home.ensures.value))
    (omega (arith, c.from.ensures, c.block_count.ensures.value))
    (c.in_ok-erase.ensures.erased honest) (c.put_lengths.ensures.overwrites.torn honest_1)
    (λ some. said some ∙ c.write_lengths_of.ensures))
    (c.put_lengths.ensures.said honest_1)

pub returns-in_err-erase-clause-overwrites : goal.returns-in_err-erase-clause-overwrites
returns-in_err-erase-clause-overwrites g c =
    let home = first_home c.args.geometry.now.layout c.args.geometry.now.slots in
    let room = first_home-within c.args.geometry.now c.first_home.ensures.geometry in
    let p = err_from_is_err_and c.from_residual.result c.from_residual.ensures.1 in
    overwritten_less (lengths_blocks c.args.geometry.now.layout) c.from_residual.result (p.1 ∙ ap Err p.2)
    (overwritten_wider c.in_err-erase.ensures.overwrites (4096 * home) (4096 * c.args.geometry.now.blocks - 4096 * home)
    ((c.args.geometry.now.blocks - home + 7) / 8)
    (omega (arith, c.from-homes.ensures, c.first_home.ensures.value))
    (omega (arith, room, c.from-homes.ensures, c.first_home.ensures.value, c.from.ensures, c.block_count.ensures.value))
    (omega (arith, c.from-homes.ensures, c.first_home.ensures.value, c.from.ensures, c.block_count.ensures.value)))

pub returns-clause-overwrites : goal.returns-clause-overwrites
returns-clause-overwrites g c =
    let home = first_home c.args.geometry.now.layout c.args.geometry.now.slots in
    let size = 4096 * c.args.geometry.now.blocks - 4096 * home in
    let room = first_home-within c.args.geometry.now c.first_home.ensures.geometry in
    let some = c.first_home.ensures.geometry.some_homes in
    overwritten_then
    (overwritten_wider c.in_ok-erase.ensures.overwrites (4096 * home) size ((c.args.geometry.now.blocks - home + 7) / 8)
    (omega (arith, c.from-homes.ensures, c.first_home.ensures.value))
    (omega (arith, room, c.from-homes.ensures, c.first_home.ensures.value, c.from.ensures, c.block_count.ensures.value))
    (omega (arith, c.from-homes.ensures, c.first_home.ensures.value, c.from.ensures, c.block_count.ensures.value)))
    (overwritten_wider c.put_lengths.ensures.overwrites (4096 * home) size (lengths_blocks c.args.geometry.now.layout)
    (omega arith) (omega (arith, room, some)) refl)
