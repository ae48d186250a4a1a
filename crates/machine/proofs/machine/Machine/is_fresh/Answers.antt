use Rattle.machine.proofs.Names.{sym, ap, ◌∙◌, false≢true, Whole, state_in}
use Rattle.machine.proofs.machine.Machine.is_fresh.Goals as goal
use Rattle.machine.proofs.code.Freshness.{to_fresh, from_fresh}

pub returns-then-fits : goal.returns-then-fits
returns-then-fits g c =
    let layers = c.self.inside.layers in
    let same = ap (λ (w : Whole g.row.D.Denot). w.state) c.self.view_is in (
      (λ looks. to_fresh (state_in layers) c.args.self.now.state c.shape.result same
          c.shape.ensures c.self.invariant.sound
          (c.fits.ensures.0 c.if-fits.true) (c.look_fresh.ensures.0 looks)),
      (λ fresh. c.look_fresh.ensures.1
          (from_fresh (state_in layers) c.args.self.now.state c.shape.result same c.shape.ensures fresh).1),
    )

pub returns-else-fits : goal.returns-else-fits
returns-else-fits g c =
    let same = ap (λ (w : Whole g.row.D.Denot). w.state) c.self.view_is in (
      (λ fits. absurd (false≢true (sym c.if-fits.false ∙ fits))),
      (λ fresh. c.fits.ensures.1 (from_fresh
          (state_in c.self.inside.layers) c.args.self.now.state c.shape.result same c.shape.ensures fresh).0),
    )
