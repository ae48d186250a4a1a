use Rattle.std.proofs.Common.{map, ap, ◌∙◌}
use Rattle.shootdown.specs.Processors.{notified_all}
use Rattle.shootdown.specs.Shootdown.{actions_of}
use Rattle.shootdown.proofs.ShootdownLaws.{begun_from-parts}
use Rattle.shootdown.proofs.shootdown.notifying.begin_change.Goals as goal

pub returns : goal.returns
returns g c =
    let spaces = c.args.spaces.now.map in
    let change = c.args.change.now in
    c.notify_of_change.ensures
    ∙ ap (map (λ x. notified_all x (actions_of spaces change))) c.interrupt.ensures
    ∙ begun_from-parts c.args.p spaces change 0 c.args.processors.now
