use Rattle.std.proofs.Common.{◌≡◌, ◌*◌, length, sym, ◌∙◌, ap}
use Rattle.std.specs.Prelude.{nat_eq}
use Rattle.std.specs.HashMap.{get}
use Rattle.deferred_disk.specs.Deferred.{first_block, with_known}
use Rattle.deferred_disk.specs.inside.Blocks.{Known}
use Rattle.deferred_disk.proofs.Rooms.{length-all_rooms, run_whole, run_end, run_part, run_written}
use Rattle.deferred_disk.proofs.blocks.Blocks.put.Goals.{After-self}
use Rattle.deferred_disk.proofs.blocks.Blocks.put.Goals as goal

-- the blocks are whole
whole : (g : _) (c : After-self g) → length c.args.self.now.bytes ≡ 4096 * c.self.inside.count
whole g c =
    sym (ap (λ (k : Known). length k.bytes) c.self.view_is)
    ∙ length-all_rooms (get nat_eq c.self.inside.rooms) c.self.invariant.0 c.self.inside.count

pub enter-requires-clause-whole : goal.enter-requires-clause-whole
enter-requires-clause-whole g c =
    run_whole c.args.self.now.bytes c.args.bytes.now c.in_ok-run.run'.value.items c.args.at c.self.inside.count
    c.requires (whole g (goal.at.enter-requires-clause-whole g c).After-self) c.in_ok-run.ensures

pub returns-clause-bytes : goal.returns-clause-bytes
returns-clause-bytes g c =
    c.in_ok-enter.ensures.bytes
    ∙ run_written c.args.self.now.bytes c.args.bytes.now c.in_ok-run.run'.value.items c.args.at c.self.inside.count
    c.requires (whole g (goal.at.returns-clause-bytes g c).After-self) c.in_ok-run.ensures

pub returns-clause-flags : goal.returns-clause-flags
returns-clause-flags g c =
    c.in_ok-enter.ensures.flags
    ∙ ap (with_known c.args.self.now.flags (first_block c.args.at))
    (run_end c.args.self.now.bytes c.args.bytes.now c.in_ok-run.run'.value.items c.args.at c.self.inside.count
    c.requires (whole g (goal.at.returns-clause-flags g c).After-self) c.in_ok-run.ensures)

pub returns-clause-part : goal.returns-clause-part
returns-clause-part g c =
    c.new.ensures
    ∙ run_part c.args.self.now.bytes c.args.bytes.now c.in_ok-run.run'.value.items c.args.at c.self.inside.count
    c.requires (whole g (goal.at.returns-clause-part g c).After-self) c.in_ok-run.ensures
