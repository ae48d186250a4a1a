use Rattle.std.proofs.Common.{rules, subst}
use Rattle.mappings.specs.inside.Edits.{IsAround}
use Rattle.mappings.proofs.Inside.{is_cut-inside}
use Rattle.mappings.proofs.mappings.Mappings.is_cut.Goals as goal

pub returns-in-Some : goal.returns-in-Some
returns-in-Some g c =
    let list = c.self.inside.list.items in
    let found = subst (λ l. IsAround l c.args.page c.in-Some.mapping) c.deref.ensures.value c.in-Some.ensures.found in
    rw (← c.self.view_is, is_cut-inside list c.self.invariant c.args.page c.in-Some.mapping c.args.rights found)
    (search rules)
