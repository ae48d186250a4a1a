use Rattle.std.proofs.Common.{◌≡◌, sym, ◌∙◌, subst, rules, cond, Some, None}
use Rattle.std.specs.FinMap as fin_map
use Rattle.mappings.specs.inside.Listed.{IsMapping, IsFirstAfter, covers, place_in, places_of}
use Rattle.mappings.proofs.Lists.{mapping_at, get-places_of, lookup_at, lookup_past}
use Rattle.mappings.proofs.mappings.Mappings.where_is.Goals.{After-first_after-at}
use Rattle.mappings.proofs.mappings.Mappings.where_is.Goals as goal

-- the place at which the search of the list ends
searched : (g : _) (c : After-first_after-at g)
    → IsFirstAfter c.self.inside.list.items c.args.page c.first_after-at.result
searched g c = subst (λ list. IsFirstAfter list c.args.page c.first_after-at.result)
    c.deref.ensures.value c.first_after-at.ensures

-- the mapping that was read is one of the list
pub place_of-requires : goal.place_of-requires
place_of-requires g c =
    let list = c.self.inside.list.items in
    let pages = mapping_at 0 list c.self.invariant.ordered c.first_after-at.result c.index.result.now (search rules) in
    (subst IsMapping (sym c.index.ensures) pages).in_file

pub returns-then-at-len : goal.returns-then-at-len
returns-then-at-len g c =
    let list = c.self.inside.list.items in
    let page = c.args.page in
    let at = c.first_after-at.result in
    let after = searched g (goal.at.returns-then-at-len g c).After-first_after-at in
    let read = c.index.result.now in
    let found = get-places_of list page ∙ lookup_at 0 list c.self.invariant.ordered page at read after (search rules) in
    rw (← c.self.view_is) (c.place_of.ensures
    ∙ sym (subst (λ m. fin_map.get (places_of list) page ≡ cond (covers m page) (Some (place_in m page)) None)
    (sym c.index.ensures) found))

pub returns-else-at-len : goal.returns-else-at-len
returns-else-at-len g c =
    let list = c.self.inside.list.items in
    rw (← c.self.view_is) (sym (get-places_of list c.args.page ∙ lookup_past list c.args.page c.first_after-at.result
    (searched g (goal.at.returns-else-at-len g c).After-first_after-at) (search rules)))
