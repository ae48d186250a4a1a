use Rattle.std.proofs.Common.{◌≡◌, ◌<◌, ◌⊎◌, ℕ, length, get_or, false, set, sym, ◌∙◌, ap, arith}
use Rattle.std.specs.Prelude.{nat_eq}
use Rattle.std.specs.HashMap.{get}
use Rattle.deferred_disk.specs.inside.Blocks.{Known}
use Rattle.deferred_disk.proofs.Rooms.{length-flags_of, length-all_rooms, whole_without, flags_without, bytes_without}
use Rattle.deferred_disk.proofs.Rooms.{other_key}
use Rattle.deferred_disk.proofs.blocks.Blocks.forget.Goals.{After-drop}
use Rattle.deferred_disk.proofs.blocks.Blocks.forget.Goals as goal

-- the other blocks stay
stays : (g : _) (c : After-drop g) (b : ℕ) → (b < c.args.block) ⊎ (c.args.block < b)
    → get nat_eq c.remove.new.self b ≡ get nat_eq c.self.inside.rooms b
stays g c b apart = c.remove.ensures.updates.2 b (other_key c.args.block b apart)

pub returns-clause-size : goal.returns-clause-size
returns-clause-size g c =
    let at = (goal.at.returns-clause-size g c).After-drop in
    let rooms = get nat_eq c.self.inside.rooms in
    let new = get nat_eq c.remove.new.self in
    length-all_rooms new (whole_without rooms new c.args.block c.self.inside.count c.remove.ensures.updates.1
    (stays g at) c.self.invariant.0) c.self.inside.count
    ∙ sym (length-all_rooms rooms c.self.invariant.0 c.self.inside.count)
    ∙ ap (λ (k : Known). length k.bytes) c.self.view_is

pub returns-clause-bytes : goal.returns-clause-bytes
returns-clause-bytes g c = λ i known.
    let at = (goal.at.returns-clause-bytes g c).After-drop in
    bytes_without (get nat_eq c.self.inside.rooms) (get nat_eq c.remove.new.self) c.args.block c.self.inside.count
    c.remove.ensures.updates.1 (stays g at) c.self.invariant.0 i known
    ∙ ap (λ (k : Known). get_or k.bytes i 0) c.self.view_is

pub returns-clause-flags : goal.returns-clause-flags
returns-clause-flags g c =
    let at = (goal.at.returns-clause-flags g c).After-drop in
    let rooms = get nat_eq c.self.inside.rooms in
    flags_without rooms (get nat_eq c.remove.new.self) c.args.block c.self.inside.count
    c.remove.ensures.updates.1 (stays g at) c.self.invariant.0
    (omega (
      arith,
      c.requires,
      length-flags_of rooms c.self.inside.count,
      ap (λ (k : Known). length k.flags) c.self.view_is,
    ))
    ∙ ap (λ (k : Known). set k.flags c.args.block false) c.self.view_is
