use Rattle.std.proofs.Common.{sym, subst}
use Rattle.page_entry.specs.declared.refusal.Refusal.TheVariants.{Device}
use Rattle.pager.specs.Calls.{RefusesPagerOpening}
use Rattle.embedded.specs.Recorded.{deferred_disk}
use Rattle.embedded.specs.declared.reading.Unread.{Unread}
use Rattle.embedded.specs.inside.Judging.{StopsOpening}
use Rattle.embedded.proofs.Lacking.{refuses_lacking, refuses_stopped}
use Rattle.embedded.proofs.judging.hand_back.Goals as goal

pub returns-in-Wanted-clause-refused : goal.returns-in-Wanted-clause-refused
returns-in-Wanted-clause-refused g c =
    subst (λ d. RefusesPagerOpening deferred_disk c.args.disk Device d) (sym c.after_lack.ensures)
    (refuses_lacking c.args.disk c.in-Wanted.block)

pub returns-in-Refused-clause-refused : goal.returns-in-Refused-clause-refused
returns-in-Refused-clause-refused g c =
    refuses_stopped c.args.disk c.in-Refused.refusal
    (subst (λ (why : Unread). StopsOpening c.args.disk why) c.in-Refused.is c.requires)
