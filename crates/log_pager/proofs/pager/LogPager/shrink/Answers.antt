use Rattle.std.proofs.Common.{subst, sym}
use Rattle.log_codec.specs.Chain.{IsLogHome}
use Rattle.log_pager.specs.Pager.{LogPagerValue, IsPagerOver}
use Rattle.log_pager.proofs.Over.{shrunk_over}
use Rattle.log_pager.proofs.Seen.{pager_value_of}
use Rattle.log_pager.proofs.pager.LogPager.shrink.Goals as goal

pub returns-clause-over : goal.returns-clause-over
returns-clause-over g c = λ contents over.
    let disk = g.D.Device in
    let before = pager_value_of c.self.inside in
    let P : LogPagerValue g.row.D.Denot → Type 0 = λ v. IsPagerOver disk v contents in
    let V : LogPagerValue g.row.D.Denot → Type 0 = λ v. IsLogHome v.store.tail.log c.args.first in
    shrunk_over disk c.shrink.result before contents c.shrink.new.self c.args.low c.args.high c.args.home c.args.left
    c.args.first c.args.text.now (subst V (sym c.self.view_is) c.requires.volume) c.shrink.ensures.ok
    c.shrink.ensures.err (subst P (sym c.self.view_is) over)
