use Rattle.std.proofs.Common.{◌≡◌, ℕ, List, subst, sym, ap, ◌∙◌}
use Rattle.std.specs.Prelude.{⊤, Option, None, Result, OnOk, unwrap_or}
use Rattle.std.specs.Option.{option_copied}
use Rattle.log_codec.specs.Chain.{IsLogHome}
use Rattle.log_pager.specs.declared.fault.PagerFault.{PagerFault}
use Rattle.kept_blocks.specs.Blocks.{bytes_in}
use Rattle.log_pager.specs.Pager.{LogPagerValue, IsPagerOver, contents_put}
use Rattle.log_pager.proofs.pager.LogPager.read.Goals.{in-Ok, in-Err}
use Rattle.log_pager.proofs.pager.LogPager.read.Goals as goal

pub returns-clause-bytes : goal.returns-clause-bytes
returns-clause-bytes g c = λ contents honest over is_home.
    let disk = g.D.Device in
    let home : ℕ = c.args.home in
    let buffer : List ℕ = c.read.new.buffer in
    let none : bytes_in c.self.inside.staged home ≡ None = sym c.get.ensures ∙ ap option_copied c.in_default.is in
    let R : Result ⊤ PagerFault → Type 0 = λ r. OnOk r (buffer ≡ contents_put contents c.self.inside.staged home) in
    let Q : LogPagerValue g.row.D.Denot → Type 0 = λ v. disk.is_honest v.device → IsPagerOver disk v contents
    → IsLogHome v.store.tail.log home → OnOk c.match-read.result (buffer ≡ contents_put contents v.staged home) in
    subst Q c.self.view_is (λ honest over is_home. elim c.match-read.branch [
      | in-Ok w ↦ subst R (sym w.result-is) (w.in-Ok.ensures.bytes contents honest over.store is_home
          ∙ sym (ap (λ (o : Option (List ℕ)). unwrap_or o (contents home)) none))
      | in-Err w ↦ subst R (sym w.result-is) tt
    ]) honest over is_home
