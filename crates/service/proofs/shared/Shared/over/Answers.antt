use Rattle.std.proofs.Common.{refl, arith, sym, subst, List}
use Rattle.service.specs.declared.entry.Entry.{Entry}
use Rattle.service.specs.Serving.{IsServing}
use Rattle.service.proofs.shared.Shared.over.Goals as goal

pub invariant_of-result : goal.invariant_of-result
invariant_of-result g c =
    let P : List Entry → Type 0 = λ trace. IsServing g.D.Device c.args.machine
    (record { machine = c.args.machine; trace = trace; capacity = c.args.capacity; progress = 0 }) in (
      c.requires.room,
      c.requires.few.few,
      (
        c.args.machine,
        subst P (sym c.requires.empty)
            (record { fresh = c.requires.fresh; legal = refl; few = omega arith; counted = refl }),
      ),
    )
