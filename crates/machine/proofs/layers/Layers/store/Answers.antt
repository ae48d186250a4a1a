use Rattle.machine.proofs.Names.{ℕ, List, Ok, Err, refl, subst, err_from_is_err_and, hardware, Stores}
use Rattle.machine.proofs.layers.Layers.store.Goals as goal

pub returns-in_err-store-clause-rules : goal.returns-in_err-store-clause-rules
returns-in_err-store-clause-rules g c =
    let p = err_from_is_err_and c.from_residual.result c.from_residual.ensures.1 in
    let old = hardware c.args.self.now.shootdown c.args.self.now.spaces.map c.args.self.now.frames in
    let new = hardware c.store.new.shootdown c.store.new.spaces.map c.store.new.frames in
    rw (p.1, p.2) (
      new,
      subst (λ (bytes : List ℕ). Stores old c.args.p c.args.va bytes (Err c.in_err-store.field-0.0) new)
          c.as_slice.ensures.same c.in_err-store.ensures.stored,
      refl,
    )

pub returns-clause-rules : goal.returns-clause-rules
returns-clause-rules g c =
    let old = hardware c.args.self.now.shootdown c.args.self.now.spaces.map c.args.self.now.frames in
    let new = hardware c.store.new.shootdown c.store.new.spaces.map c.store.new.frames in (
      new,
      subst (λ (bytes : List ℕ). Stores old c.args.p c.args.va bytes (Ok tt) new) c.as_slice.ensures.same
          c.in_ok-store.ensures.stored,
      refl,
    )
