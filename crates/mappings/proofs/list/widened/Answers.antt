use Rattle.mappings.proofs.Widening.{IsWidened-ends}
use Rattle.mappings.proofs.list.widened.Goals as goal

pub returns : goal.returns
returns c = IsWidened-ends c.args.list.now c.args.range c.args.rights c.pages_around-first.result.start
    c.pages_around-first.result.end c.pages_around-end.result.start c.pages_around-end.result.end
    c.pages_around-first.ensures c.pages_around-end.ensures
