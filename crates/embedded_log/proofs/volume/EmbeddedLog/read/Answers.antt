use Rattle.std.proofs.Common.{◌≡◌, ℕ, List, subst}
use Rattle.deferred_disk.specs.Deferred.{IsSuppliedWell}
use Rattle.pager.specs.State.{up_to_end}
use Rattle.log_pager.specs.Pager.{IsPagerOver, contents_put}
use Rattle.log_files.specs.State.{log_home_of}
use Rattle.embedded.specs.Recorded.{deferred_disk}
use Rattle.embedded_log.specs.State.{EmbeddedLogState}
use Rattle.embedded_log.proofs.Serving.{serves_read}
use Rattle.embedded_log.proofs.volume.EmbeddedLog.read.Goals as goal

pub invariant_of-self : goal.invariant_of-self
invariant_of-self g c = serves_read c.self.inside.files c.read.new.self _ _ _ c.read.ensures.state c.read.ensures.alone
    c.read.ensures.over c.self.invariant

pub invariant_of-self-2 : goal.invariant_of-self-2
invariant_of-self-2 g c = serves_read c.self.inside.files c.read.new.self _ _ _ c.read.ensures.state
    c.read.ensures.alone c.read.ensures.over c.self.invariant

pub returns-clause-bytes : goal.returns-clause-bytes
returns-clause-bytes g c = subst (λ (e : EmbeddedLogState). (contents : ℕ → List ℕ)
    → IsSuppliedWell e.files.pager.device → IsPagerOver deferred_disk e.files.pager contents
    → c.read.new.buffer ≡ up_to_end e.files.lengths c.args.page
    (contents_put contents e.files.pager.staged (log_home_of e.files.table c.args.page))) c.self.view_is
    (λ contents well over. c.in_default.ensures.bytes contents well over)
