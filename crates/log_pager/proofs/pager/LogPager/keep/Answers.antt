use Rattle.std.proofs.Common.{subst, sym}
use Rattle.log_codec.specs.Chain.{IsLogHome}
use Rattle.log_pager.specs.Pager.{LogPagerValue, IsPagerOver}
use Rattle.log_pager.proofs.Over.{put_over}
use Rattle.log_pager.proofs.Seen.{pager_value_of}
use Rattle.log_pager.proofs.pager.LogPager.keep.Goals as goal

pub returns-clause-over : goal.returns-clause-over
returns-clause-over g c = λ contents over.
    let disk = g.D.Device in
    let before = pager_value_of c.self.inside in
    let P : LogPagerValue g.row.D.Denot → Type 0 = λ v. IsPagerOver disk v contents in
    let H : LogPagerValue g.row.D.Denot → Type 0 = λ v. IsLogHome v.store.tail.log c.args.home in
    put_over disk c.put.result before contents c.put.new.self c.args.home c.args.block.value
    (subst H (sym c.self.view_is) c.requires) c.put.ensures.ok c.put.ensures.err (subst P (sym c.self.view_is) over)
