use Rattle.machine.proofs.Names.{◌≡◌, sym, subst, false≢true, state_in, IsAtHome}
use Rattle.machine.proofs.layers.Layers.frame_to_free.Goals as goal

pub returns-then-is_at_home-clause-leaves : goal.returns-then-is_at_home-clause-leaves
returns-then-is_at_home-clause-leaves g c =
    let home : IsAtHome (state_in c.args.self.now) c.args.page c.in_ok-frame.frame =
    c.is_at_home.ensures.0 c.if-is_at_home.true in
    record {
      held = c.in_ok-frame.ensures.found;
      clean = home.clean;
      written = home.written;
      plain = home.plain;
      whole = sym c.if-is_broken.ensures;
    }

pub returns-else-is_at_home-clause-stays : goal.returns-else-is_at_home-clause-stays
returns-else-is_at_home-clause-stays g c = λ frame leaves.
    let s = state_in c.args.self.now in
    let found = c.in_ok-frame.frame in
    let same : frame ≡ found =
    c.find.ensures.are.one_frame frame found c.args.page leaves.held c.in_ok-frame.ensures.found in
    let home : IsAtHome s c.args.page frame =
    record { clean = leaves.clean; written = leaves.written; plain = leaves.plain } in
    absurd (false≢true (c.if-is_at_home.ensures.1 (subst (IsAtHome s c.args.page) same home)))
