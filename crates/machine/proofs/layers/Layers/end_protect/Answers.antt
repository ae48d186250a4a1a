use Rattle.machine.proofs.Names.{ap, Protect, ShootdownState, with_shootdown, with_spaces, state_in}
use Rattle.machine.proofs.code.Parts.{may_change}
use Rattle.machine.proofs.layers.Layers.end_protect.Goals as goal

pub protect-requires-clause-prepared : goal.protect-requires-clause-prepared
protect-requires-clause-prepared g c =
    c.requires.reserved
    (record { holder = c.args.p; change = Protect c.args.pcid c.args.range c.args.rights }) c.requires.held.1

pub returns-clause-rules : goal.returns-clause-rules
returns-clause-rules g c = λ disk. (
  c.requires.held.0,
  record {
    pcid = c.args.pcid;
    range = c.args.range;
    rights = c.args.rights;
    may = may_change (state_in c.args.self.now) c.args.p _ c.requires.held;
    spaces = c.protect.new.self.map;
    rights_set = c.protect.ensures.rights;
    done = ap (λ (s : ShootdownState). with_shootdown (with_spaces (state_in c.args.self.now) c.protect.new.self.map) s)
        c.finish.ensures.finished;
  },
)
