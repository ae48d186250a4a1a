use Rattle.std.proofs.Common.{false, ap, ◌∙◌, sym, subst, arith}
use Rattle.journal.specs.WriteOuts.{has_uncommitted}
use Rattle.journal.specs.inside.Room.{IsCurrent, IsLone}
use Rattle.journal.proofs.Rooms.{last_place}
use Rattle.journal.proofs.write_outs.WriteOuts.current_place.Goals as goal

pub returns-then-has_uncommitted-clause-some : goal.returns-then-has_uncommitted-clause-some
returns-then-has_uncommitted-clause-some g c =
    subst (λ o. IsCurrent o.batches c.in_ok-last.last) c.self.view_is
    (last_place c.self.inside.queued.items c.in_ok-last.last
    (omega (arith, c.in_ok-last.ensures, c.len.ensures, c.self.inside.queued.ok.0)) c.self.invariant.sound.ordered
    (ap (λ o. has_uncommitted o.batches) c.self.view_is ∙ sym c.if-has_uncommitted.ensures)).0

pub returns-then-has_uncommitted-clause-lone : goal.returns-then-has_uncommitted-clause-lone
returns-then-has_uncommitted-clause-lone g c =
    subst (λ o. IsLone false o.batches c.in_ok-last.last) c.self.view_is
    (last_place c.self.inside.queued.items c.in_ok-last.last
    (omega (arith, c.in_ok-last.ensures, c.len.ensures, c.self.inside.queued.ok.0)) c.self.invariant.sound.ordered
    (ap (λ o. has_uncommitted o.batches) c.self.view_is ∙ sym c.if-has_uncommitted.ensures)).1
