use Rattle.std.proofs.Common.{sym, ap, subst, ◌∙◌}
use Rattle.std.specs.Prelude.{None, is_some}
use Rattle.std.specs.List.{Contains}
use Rattle.log_home.specs.Index.{Entries, find_in, indexed_homes}
use Rattle.log_home.proofs.Entries.{room_is, is_room, room_put, find_admitted}
use Rattle.log_home.proofs.index.LogIndex.admit_one.Goals as goal

pub returns-then-contains_key-clause-room : goal.returns-then-contains_key-clause-room
returns-then-contains_key-clause-room g c =
    let P : Entries → Type 0 = λ m. Contains (indexed_homes m) c.args.home in
    subst P c.self.view_is
    (is_room c.self.inside.tree.entries c.args.home (sym c.contains_key.ensures ∙ c.if-contains_key.true))

pub returns-clause-same : goal.returns-clause-same
returns-clause-same g c = λ b.
    ap (λ (m : Entries). find_in m b) c.in_ok-insert.ensures.entries
    ∙ find_admitted c.self.inside.tree.entries c.args.home b (sym c.contains_key.ensures ∙ c.if-contains_key.false)
    ∙ ap (λ (m : Entries). find_in m b) c.self.view_is

pub returns-clause-kept : goal.returns-clause-kept
returns-clause-kept g c = λ b has.
    let P : Entries → Type 0 = λ m. Contains (indexed_homes m) b in
    let was = room_is c.self.inside.tree.entries b (subst P (sym c.self.view_is) has) in
    is_room c.insert.new.self.entries b
    (room_put c.self.inside.tree.entries c.insert.new.self.entries c.args.home None b
    (c.in_ok-insert.ensures.updates.0 b) was)

pub returns-clause-room : goal.returns-clause-room
returns-clause-room g c =
    is_room c.insert.new.self.entries c.args.home
    (ap is_some c.in_ok-insert.ensures.updates.1)
