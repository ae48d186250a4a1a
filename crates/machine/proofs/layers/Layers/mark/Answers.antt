use Rattle.machine.proofs.Names.{◌<◌, ◌+◌, false, not, List, length, refl, sym, ap, ◌∙◌, subst, All, FilePage}
use Rattle.machine.proofs.Names.{Checkpoint, finished, CheckpointState, Gathers, Layers, MarkMade, state_in}
use Rattle.machine.proofs.Names.{HasHome, MayBegin, mark_homes}
use Rattle.machine.proofs.code.Parts.{may_change}
use Rattle.machine.proofs.code.Marks.{frozen_there, may_begin, with_homes-batch}
use Rattle.machine.proofs.layers.Layers.mark.Goals.{After-gather}
use Rattle.machine.proofs.layers.Layers.mark.Goals as goal

-- what was gathered
gathered : (g : _) (c : After-gather g)
    → Gathers (state_in c.args.self.now).hardware.spaces (state_in c.args.self.now).hardware.memory
    (state_in c.args.self.now).checkpoint c.gather.new.self (not (state_in c.args.self.now).write_outs.broken)
    c.gather.ensures.gathered.0
gathered g c =
    let s = state_in c.args.self.now in
    subst (λ b. Gathers s.hardware.spaces s.hardware.memory s.checkpoint c.gather.new.self (not b)
    c.gather.ensures.gathered.0) c.is_broken-freezes.ensures c.gather.ensures.gathered.2

pub write_out-requires-clause-pages : goal.write_out-requires-clause-pages
write_out-requires-clause-pages g c =
    let s = state_in c.args.self.now in
    let pages = c.gather.ensures.gathered.0 in
    let gathers = gathered g (goal.at.write_out-requires-clause-pages g c).After-gather in
    subst (All (HasHome s.table)) (ap (λ (x : CheckpointState). x.frozen) (sym c.protect_all.ensures.notes))
    (frozen_there s c.requires.sound c.gather.new.self pages gathers)

pub write_out-requires-clause-batch : goal.write_out-requires-clause-batch
write_out-requires-clause-batch g c =
    let s = state_in c.args.self.now in
    let pages = c.gather.ensures.gathered.0 in
    let gathers = gathered g (goal.at.write_out-requires-clause-batch g c).After-gather in
    subst (λ (owners : List FilePage). 0 < length (mark_homes s owners) → MayBegin s.write_outs (s.marks + 1)
    (mark_homes s owners)) (ap (λ (x : CheckpointState). x.frozen) (sym c.protect_all.ensures.notes))
    (may_begin s c.requires.sound c.gather.new.self pages gathers
    (c.requires.sound.spaces.prepared (record { holder = c.args.p; change = Checkpoint }) c.requires.held.1).1)

pub returns-clause-rules : goal.returns-clause-rules
returns-clause-rules g c = λ disk.
    let s = state_in c.args.self.now in
    let number = s.marks + 1 in
    let pages = c.gather.ensures.gathered.0 in
    let gathers = gathered g (goal.at.returns-clause-rules g c).After-gather in
    let frozen = ap (λ (x : CheckpointState). x.frozen) c.protect_all.ensures.notes in
    let outs = ap (λ (owners : List FilePage). Rattle.machine.specs.inside.Layers.with_homes s.write_outs number
    (mark_homes s owners)) frozen ∙ with_homes-batch s c.requires.sound c.gather.new.self pages gathers number in
    let shootdown = c.finish.ensures.finished
    ∙ ap (λ (w : Layers g.row.D.Denot g.row.A.Denot). finished w.shootdown c.args.p) c.write_out.ensures in
    let made = subst (λ (w : Layers g.row.D.Denot g.row.A.Denot). MarkMade s c.args.p w.marks
    (state_in (record w { shootdown = c.finish.new.self; resized = false }))) (sym c.write_out.ensures)
    (record {
      may = may_change s c.args.p Checkpoint c.requires.held;
      next = refl;
      pages = pages;
      noted = c.gather.new.self;
      gathered = gathers;
      spaces = c.protect_all.new.spaces.map;
      protected = c.protect_all.ensures.protected;
      done = λ i. record s {
        hardware =
            record { shootdown = shootdown i; spaces = c.protect_all.new.spaces.map; memory = s.hardware.memory };
        checkpoint = c.protect_all.ensures.notes i;
        write_outs = outs i;
        marks = number;
        resized = false;
      };
    }) in
    (c.requires.held.0, made)
