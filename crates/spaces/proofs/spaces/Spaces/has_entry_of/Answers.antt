use Rattle.std.proofs.Common.{sym, ap, ◌∙◌}
use Rattle.spaces.specs.Spaces.{AddressSpace}
use Rattle.spaces.specs.Changes.{pages_with_entry}
use Rattle.spaces.proofs.ChangeLaws.{is_listed, is_touched, gives_first, touches_missing}
use Rattle.spaces.proofs.spaces.Spaces.has_entry_of.Goals as goal

pub returns-in-Some : goal.returns-in-Some
returns-in-Some g c =
    c.is_some.ensures ∙ gives_first c.entry_pages.result c.next.result c.next.new.self c.next.ensures.steps
    ∙ ap is_listed (c.entry_pages.ensures
    ∙ sym (ap (λ (x : AddressSpace). pages_with_entry x c.args.page) c.in-Some.ensures.found.same))
    ∙ sym (is_touched c.args.self.now.map c.args.page c.args.pcid)

pub returns-in-None : goal.returns-in-None
returns-in-None g c =
    sym (touches_missing c.args.self.now.map c.args.page c.args.pcid c.in-None.ensures.missing.nothing)
