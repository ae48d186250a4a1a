use Rattle.std.proofs.Common.{ℕ, refl}
use Rattle.service.specs.Gathering.{IsAmong}
use Rattle.service.proofs.Counting.{below_more}
use Rattle.service.proofs.gathering.are_all.Goals as goal

pub loop-p-preserved : goal.loop-p-preserved
loop-p-preserved g c = below_more (λ (q : ℕ). IsAmong c.args.cpus.now q) c.loop-p.p c.loop-p.invariant
    (c.if-not-is_among.ensures.0 refl)
