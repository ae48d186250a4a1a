use Rattle.std.proofs.Common.{◌+◌, ◌*◌, ◌<◌, length, subst, sym, arith}
use Rattle.journal.proofs.Stages.{steps_few}
use Rattle.journal.proofs.Tying.{stage_of}
use Rattle.journal.proofs.queued.Queued.advance.Goals as goal

pub overflow_add-self : goal.overflow_add-self
overflow_add-self g c =
    let w = c.args.self.now.write_out in
    let s = stage_of w c.requires in
    let few : w.steps < 2 * length w.batch.homes + w.described + 6 =
    steps_few (length w.batch.homes) w.described w.steps s.0 s.1 in
    let inside : c.self.inside.steps < 2 * length c.self.inside.homes.items + c.self.inside.described + 6 =
    subst (λ f. f.write_out.steps < 2 * length f.write_out.batch.homes + f.write_out.described + 6)
    (sym c.self.view_is) few in
    let is = c.self.invariant.1 in
    omega (arith, inside, is.few_slots, is.is_batch.described.homes.few, is.described)
