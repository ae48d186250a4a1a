use Rattle.std.proofs.Common.{rules, ◌≤◌, ◌<◌, length, sym, ◌∙◌, subst, arith, add-one}
use Rattle.std.proofs.lemmas.List.{get_or_default}
use Rattle.mappings.specs.declared.mapping.Mapping.{Mapping}
use Rattle.mappings.specs.inside.Listed.{IsMapping, IsFirstAfter}
use Rattle.mappings.proofs.Lists.{mapping_at}
use Rattle.mappings.proofs.Changes.{split_at-insert, length-split_at_cut, split_at_apart}
use Rattle.mappings.proofs.list.split.Goals.{After-index-whole}
use Rattle.mappings.proofs.list.split.Goals as goal

-- a mapping ends after the page
lies : (g : _) (c : After-index-whole g) → IsFirstAfter c.args.list.now.items c.args.page c.first_after-at.result
    × (c.first_after-at.result < length c.args.list.now.items)
lies g c =
    let after : IsFirstAfter c.args.list.now.items c.args.page c.first_after-at.result =
    rw c.deref.ensures.value at c.first_after-at.ensures in
    (after, search rules)

-- no mapping ends after the page
pub returns-then-at-len-clause-items : goal.returns-then-at-len-clause-items
returns-then-at-len-clause-items g c =
    let list = c.args.list.now.items in
    let after : IsFirstAfter list c.args.page c.first_after-at.result =
    rw c.deref.ensures.value at c.first_after-at.ensures in
    let past : length list ≤ c.first_after-at.result = search rules in
    sym (split_at_apart c.args.page 0 list c.first_after-at.result c.requires.ordered after
    (λ d within. absurd (omega arith)))

pub from_page-requires-clause-pages : goal.from_page-requires-clause-pages
from_page-requires-clause-pages g c =
    subst IsMapping (sym c.index-whole.ensures)
    (mapping_at 0 c.args.list.now.items c.requires.ordered c.first_after-at.result c.index-whole.result.now
    (search rules))

-- there is room for one more
pub unreachable-requires : goal.unreachable-requires
unreachable-requires g c =
    let list = c.args.list.now.items in
    let whole = c.index-whole.result.now in
    let at = lies g (goal.at.unreachable-requires g c).After-index-whole in
    let longer = length-split_at_cut c.args.page 0 list c.first_after-at.result whole c.requires.ordered at.0 at.1
    (sym c.index-whole.ensures) c.if-whole-page.true in
    let room = c.requires.room in
    search rules

pub returns-in-Ok-clause-items : goal.returns-in-Ok-clause-items
returns-in-Ok-clause-items g c =
    let list = c.args.list.now.items in
    let whole = c.index-whole.result.now in
    let at = lies g (goal.at.returns-in-Ok-clause-items g c).After-index-whole in
    let parts = split_at-insert c.args.page 0 list c.first_after-at.result whole c.requires.ordered at.0 at.1
    (sym c.index-whole.ensures) c.if-whole-page.true in
    c.in-Ok.ensures.items ∙ rw (add-one, c.from_page.ensures) parts

-- the first mapping that ends after the page doesn't begin before it
pub returns-else-whole-page-clause-items : goal.returns-else-whole-page-clause-items
returns-else-whole-page-clause-items g c =
    let list = c.args.list.now.items in
    let whole = c.index-whole.result.now in
    let after : IsFirstAfter list c.args.page c.first_after-at.result =
    rw c.deref.ensures.value at c.first_after-at.ensures in
    let apart : c.args.page ≤ whole.first = c.if-whole-page.false in
    sym (split_at_apart c.args.page 0 list c.first_after-at.result c.requires.ordered after
    (λ d within. subst (λ (m : Mapping). c.args.page ≤ m.first)
    (c.index-whole.ensures ∙ get_or_default list _ whole d within) apart))
