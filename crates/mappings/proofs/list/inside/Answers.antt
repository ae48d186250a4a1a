use Rattle.std.proofs.Common.{rules, ◌≤◌, length, subst, arith}
use Rattle.std.proofs.lemmas.List.{get_or_default}
use Rattle.mappings.specs.declared.mapping.Mapping.{Mapping}
use Rattle.mappings.proofs.Searches.{blank}
use Rattle.mappings.proofs.Inside.{goes_on_nowhere}
use Rattle.mappings.proofs.list.inside.Goals as goal

-- the first mapping that ends after the page doesn't begin before it
pub returns-then-at-list-clause-none : goal.returns-then-at-list-clause-none
returns-then-at-list-clause-none c =
    let past : length c.args.list.now ≤ c.first_after-at.result = search rules in
    goes_on_nowhere c.args.list.now c.requires c.args.page c.first_after-at.result c.first_after-at.ensures
    (λ d within. absurd (omega arith))

pub returns-else-mapping-page-clause-none : goal.returns-else-mapping-page-clause-none
returns-else-mapping-page-clause-none c =
    goes_on_nowhere c.args.list.now c.requires c.args.page c.first_after-at.result c.first_after-at.ensures
    (λ d within. subst (λ (m : Mapping). c.args.page ≤ m.first)
    (get_or_default c.args.list.now c.first_after-at.result blank d within) c.if-mapping-page.false)
