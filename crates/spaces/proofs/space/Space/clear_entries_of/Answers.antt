use Rattle.std.proofs.Common.{ap, ◌∙◌}
use Rattle.page_table.specs.Table.{TableState}
use Rattle.spaces.specs.inside.Slots.{SpaceState, without_each, without_entries}
use Rattle.spaces.proofs.Cleared.{room_of_mapping, without_each-pages_mapping}
use Rattle.spaces.proofs.space.Space.clear_entries_of.Goals as goal

pub clear_each-requires : goal.clear_each-requires
clear_each-requires g c = room_of_mapping c.self.inside.table c.self.inside.mappings c.args.page c.pages_of.result
    c.self.invariant c.pages_of.ensures

pub returns : goal.returns
returns g c =
    let places = c.self.inside.mappings.places in
    let cleared =
    ap (λ (t : TableState). t.entries) c.clear_each.ensures
    ∙ ap (without_each c.self.inside.table.entries) c.pages_of.ensures
    ∙ without_each-pages_mapping places c.args.page c.self.inside.table.entries in
    let grown = ap (λ (t : TableState). t.grown) c.clear_each.ensures in
    let nodes = ap (λ (t : TableState). t.nodes) c.clear_each.ensures in
    (λ i. record {
      entries = cleared i;
      places = places;
      spare = c.self.inside.mappings.spare;
      grown = grown i;
      nodes = nodes i;
    })
    ∙ ap (λ (s : SpaceState). record s { entries = without_entries s.places c.args.page s.entries }) c.self.view_is
