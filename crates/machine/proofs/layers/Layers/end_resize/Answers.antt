use Rattle.machine.proofs.Names.{ℕ, subst, arith, set, true, PagesResized, state_in}
use Rattle.spaces.specs.declared.change.Change.TheVariants as changes
use Rattle.machine.proofs.code.Parts.{may_change}
use Rattle.machine.proofs.code.Resizes.{resizable_held, pages_inside, room_for, both_small}
use Rattle.machine.proofs.layers.Layers.end_resize.Goals as goal

pub file_length-old-requires-clause-there : goal.file_length-old-requires-clause-there
file_length-old-requires-clause-there g c = (resizable_held
    (state_in c.args.self.now) c.args.p c.args.file c.args.length c.requires.sound c.requires.held).there

pub resize-requires-clause-notes : goal.resize-requires-clause-notes
resize-requires-clause-notes g c = c.requires.sound.memory.notes

pub resize-requires-clause-noted : goal.resize-requires-clause-noted
resize-requires-clause-noted g c = c.requires.sound.memory.noted

pub resize-requires-clause-backed : goal.resize-requires-clause-backed
resize-requires-clause-backed g c = c.requires.sound.memory.backed

pub resize-requires-clause-inside : goal.resize-requires-clause-inside
resize-requires-clause-inside g c = λ frame owner holds same.
    omega (
      arith,
      c.file_length-old.ensures,
      pages_inside (state_in c.args.self.now) c.args.p c.args.file c.args.length c.requires.sound
          c.requires.held frame owner holds same,
    )

pub resize-requires-clause-room : goal.resize-requires-clause-room
resize-requires-clause-room g c = omega (
  arith,
  c.file_length-old.ensures,
  room_for (state_in c.args.self.now) c.args.p c.args.file c.args.length c.requires.sound c.requires.held,
)

pub resize-requires-clause-small : goal.resize-requires-clause-small
resize-requires-clause-small g c =
    let both =
    both_small (state_in c.args.self.now) c.args.p c.args.file c.args.length c.requires.sound c.requires.held in
    (omega (arith, c.file_length-old.ensures, both.0), both.1)

pub index_mut-requires : goal.index_mut-requires
index_mut-requires g c =
    omega (
      arith,
      c.requires.sound.lengths,
      (resizable_held (state_in c.args.self.now) c.args.p c.args.file c.args.length
          c.requires.sound c.requires.held).there,
    )

pub returns-clause-rules : goal.returns-clause-rules
returns-clause-rules g c = λ disk.
    let s = state_in c.args.self.now in (
      c.requires.held.0,
      record {
        file = c.args.file;
        to = c.args.length;
        may = may_change s c.args.p (changes.SetLength c.args.file c.args.length) c.requires.held;
        spaces = c.resize.new.spaces.map;
        memory = c.resize.new.frames;
        checkpoint = c.resize.new.self;
        pages = subst (λ (n : ℕ). PagesResized s.hardware.spaces s.hardware.memory s.checkpoint c.args.file n
            c.args.length c.resize.new.spaces.map c.resize.new.frames c.resize.new.self)
            c.file_length-old.ensures c.resize.ensures.resized;
        done = λ i. record s {
          hardware = record {
            shootdown = c.finish.ensures.finished i;
            spaces = c.resize.new.spaces.map;
            memory = c.resize.new.frames;
          };
          checkpoint = c.resize.new.self;
          lengths = set s.lengths c.args.file c.args.length;
          resized = true;
        };
      },
    )
