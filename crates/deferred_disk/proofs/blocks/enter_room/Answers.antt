use Rattle.std.proofs.Common.{◌≡◌, ◌+◌, ◌∙◌, ap, arith, cond, Some}
use Rattle.std.specs.Prelude.{nat_eq}
use Rattle.std.specs.HashMap.{get}
use Rattle.deferred_disk.proofs.Rooms.{enters_none, enters_more, from_ok}
use Rattle.deferred_disk.proofs.blocks.enter_room.Goals as goal

pub returns : goal.returns
returns g c =
    let before = get nat_eq c.args.rooms.now in
    let run = c.args.run.value.items in
    let done = c.insert.ensures.succeeds (omega (arith, c.requires.room)) in
    let here : c.args.block ≡ c.args.block + 0 = omega arith in
    enters_more before before (get nat_eq c.insert.new.self) c.args.block 0 run c.new.result
    (enters_none before c.args.block run) c.new.ensures
    (λ b. (from_ok c.insert.result done c.insert.ensures.updates).0 b
    ∙ ap (λ at. cond (nat_eq at b) (Some c.new.result) (before b)) here)
