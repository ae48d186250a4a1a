use Rattle.std.proofs.Common.{length, List, ℕ, sym, ◌∙◌, ap, subst}
use Rattle.device.specs.Memory.{may_leave_of, seen_of}
use Rattle.least_syncs.proofs.Alike.{as_long, left_now, seen_is_left}
use Rattle.least_syncs.proofs.forged.crash_as_the_other.Goals as goal

pub stop-requires : goal.stop-requires
stop-requires g c =
    let p = g.parting in
    ap length c.bytes.ensures
    ∙ as_long p.begun p.these p.others c.args.under_way.now c.args.synced.now c.requires.1.1.0.0 c.requires.1.1.1.0.0

pub returns-clause-bytes : goal.returns-clause-bytes
returns-clause-bytes g c =
    let p = g.parting in
    let a = c.args.under_way.now in
    let b = c.args.synced.now in
    let left = left_now p.begun p.these p.others a b c.requires.1.1.0.0 c.requires.1.1.1.0.0 c.requires.1.1.0.1
    c.requires.1.1.1.0.1 c.requires.1.1.1.1 in
    c.stop.ensures.chosen (subst (λ (l : List ℕ). may_leave_of a l) (sym c.bytes.ensures) left) ∙ c.bytes.ensures

pub returns-clause-found : goal.returns-clause-found
returns-clause-found g c old new commit =
    subst (λ (l : List ℕ). g.R.Recovery.recovers l new) (sym (returns-clause-bytes g c))
    (commit.durable (seen_of c.args.synced.now) (seen_is_left c.args.synced.now))
