use Rattle.std.proofs.Common.{sym}
use Rattle.mappings.proofs.Entries.{pages_mapping-places_of}
use Rattle.mappings.proofs.mappings.Mappings.pages_of.Goals as goal

pub returns : goal.returns
returns g c = rw (c.new.ensures, c.deref.ensures.value, ← c.self.view_is)
    (sym (pages_mapping-places_of c.args.file c.args.page 0 c.self.inside.list.items c.self.invariant.ordered))
