use Rattle.std.proofs.Common.{◌≤◌, subst, sym}
use Rattle.log_codec.specs.Chain.{IsLogHome}
use Rattle.log_pager.specs.Pager.{LogPagerValue, IsPagerOver}
use Rattle.log_pager.proofs.Over.{grown_over}
use Rattle.log_pager.proofs.Seen.{pager_value_of}
use Rattle.log_pager.proofs.pager.LogPager.grow.Goals as goal

pub returns-clause-over : goal.returns-clause-over
returns-clause-over g c = λ contents over.
    let disk = g.D.Device in
    let before = pager_value_of c.self.inside in
    let P : LogPagerValue g.row.D.Denot → Type 0 = λ v. IsPagerOver disk v contents in
    let V : LogPagerValue g.row.D.Denot → Type 0 =
    λ v. IsLogHome v.store.tail.log c.args.first × (c.args.high ≤ v.store.tail.log.blocks) in
    let volume : V before = subst V (sym c.self.view_is) c.requires.volume in
    grown_over disk c.grow.result before contents c.grow.new.self c.args.home c.args.high c.args.first c.args.last.now
    c.args.text.now volume.0 volume.1 c.requires.order.0 c.requires.order.1 c.grow.ensures.ok c.grow.ensures.err
    (subst P (sym c.self.view_is) over)
