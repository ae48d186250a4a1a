use Rattle.std.proofs.Common.{◌-◌}
use Rattle.session.proofs.requests.Requests.+change_from.Given as goal

abbrev pub decreases-change_from : goal.decreases-change_from
decreases-change_from g l = 16 - l.next
