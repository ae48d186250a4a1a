use Rattle.std.proofs.Common.{◌-◌, take, ap, ◌∙◌}
use Rattle.machine_log.proofs.Closing.{closes, fewer_as, fewer_run}
use Rattle.machine_log.proofs.shown.ShownVolume.close.Goals as goal

pub returns-else-is_empty-clause-closed : goal.returns-else-is_empty-clause-closed
returns-else-is_empty-clause-closed g c = λ done.
    closes c.args.self.now c.args.journal c.self.inside.geometry c.self.inside.blocks c.self.inside.opened.items
    c.remove.new.self c.pop.new.self.items c.self.view_is (c.may_close.ensures c.if-not-may_close.false)
    (c.pop.ensures.rest ∙ ap (λ n. take (n - 1) c.self.inside.opened.items) c.self.inside.opened.ok.0)
    (fewer_as _ c.remove.new.self c.self.inside.blocks (fewer_run c.self.inside.blocks _ _) c.remove.ensures)

pub returns-then-is_empty-clause-closed : goal.returns-then-is_empty-clause-closed
returns-then-is_empty-clause-closed g c = λ done.
    closes c.args.self.now c.args.journal c.self.inside.geometry c.self.inside.blocks c.self.inside.opened.items
    c.remove-then-is_empty.new.self c.pop.new.self.items c.self.view_is (c.may_close.ensures c.if-not-may_close.false)
    (c.pop.ensures.rest ∙ ap (λ n. take (n - 1) c.self.inside.opened.items) c.self.inside.opened.ok.0) (λ q bytes is.
    fewer_as _ c.remove.new.self c.self.inside.blocks (fewer_run c.self.inside.blocks _ _) c.remove.ensures q bytes
    (fewer_as _ c.remove-then-is_empty.new.self c.remove.new.self (fewer_run c.remove.new.self _ _)
    c.remove-then-is_empty.ensures q bytes is))
