use Rattle.machine.proofs.Names.{state_in}
use Rattle.machine.proofs.sound.Uses.{has_notes}
use Rattle.machine.proofs.code.Parts.{may_change}
use Rattle.machine.proofs.layers.Layers.end_reclaim.Goals as goal

pub clear-requires : goal.clear-requires
clear-requires g c = has_notes (state_in c.args.self.now) c.requires.sound

pub returns-clause-rules : goal.returns-clause-rules
returns-clause-rules g c =
    let s = state_in c.args.self.now in
    let memory = c.requires.sound.memory in
    let leaves = c.in-Some.ensures.leaves in
    let same = c.clear.ensures.clean c.args.self.now.frames c.in-Some.frame memory.backed memory.memory.one_frame
    leaves.held leaves.clean in
    λ disk. (
      c.requires.held.0,
      record {
        owner = c.args.page;
        may = may_change s c.args.p _ c.requires.held;
        frame = c.in-Some.frame;
        leaves = leaves;
        spaces = c.clear.new.spaces.map;
        cleared = c.clear.ensures.cleared;
        done = λ i. record s {
          hardware = record {
            shootdown = c.finish-2.ensures.finished i;
            spaces = c.clear.new.spaces.map;
            memory = c.give.ensures i;
          };
          checkpoint = same i;
        };
      },
    )
