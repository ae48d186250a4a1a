use Rattle.std.proofs.Common.{◌≡◌, ℕ, List, subst}
use Rattle.deferred_disk.specs.Deferred.{IsSuppliedWell}
use Rattle.log_pager.specs.Pager.{IsPagerOver}
use Rattle.log_files.specs.Calls.{after_log_length, last_log_page}
use Rattle.embedded.specs.Recorded.{deferred_disk}
use Rattle.embedded_log.specs.State.{EmbeddedLogState}
use Rattle.embedded_log.proofs.Serving.{serves_length}
use Rattle.embedded_log.proofs.volume.EmbeddedLog.set_length.Goals as goal

pub invariant_of-self : goal.invariant_of-self
invariant_of-self g c = serves_length c.self.inside.files c.set_length.new.self _ _ _ c.args.file c.args.length
    c.set_length.result c.set_length.ensures.ok c.set_length.ensures.set c.set_length.ensures.some
    c.set_length.ensures.unchanged c.set_length.ensures.alone c.set_length.ensures.over c.self.invariant

pub invariant_of-self-2 : goal.invariant_of-self-2
invariant_of-self-2 g c = serves_length c.self.inside.files c.set_length.new.self _ _ _ c.args.file c.args.length
    c.set_length.result c.set_length.ensures.ok c.set_length.ensures.set c.set_length.ensures.some
    c.set_length.ensures.unchanged c.set_length.ensures.alone c.set_length.ensures.over c.self.invariant

pub returns-clause-set : goal.returns-clause-set
returns-clause-set g c = subst (λ (e : EmbeddedLogState). (contents : ℕ → List ℕ)
    → IsSuppliedWell e.files.pager.device → IsPagerOver deferred_disk e.files.pager contents
    → c.set_length.new.self ≡ after_log_length e.files c.args.file c.args.length
    (last_log_page e.files contents c.args.file) c.set_length.new.self.pager.device) c.self.view_is
    (λ contents well over. c.in_default.ensures.set contents well over)
