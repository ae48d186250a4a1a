use Rattle.std.proofs.Common.{◌≡◌, ℕ, get_or, ap, ◌∙◌, arith}
use Rattle.shootdown.specs.declared.proc_state.ProcState.{ProcState}
use Rattle.shootdown.specs.Processors.{Processor}
use Rattle.shootdown.specs.inside.Notifying.{state_begun}
use Rattle.shootdown.proofs.Each.{made_none, made_more, made_all}
use Rattle.shootdown.proofs.shootdown.notifying.interrupt.Goals as goal

pub loop-i-init : goal.loop-i-init
loop-i-init g c = made_none _ _

pub loop-i-preserved : goal.loop-i-preserved
loop-i-preserved g c =
    let xs = c.loop-i.processors in
    let i = c.loop-i.i in
    let x = get_or xs i c.index-processors-i.result in
    let begun : ℕ → Processor → Processor =
    λ k y. record y { state = state_begun c.args.p c.args.spaces.now.map c.args.change.now k y } in
    let new : c.set_state.new.self ≡ begun i x =
    c.set_state.ensures
    ∙ ap (λ (st : ProcState). record x { state = st }) c.state_begun-state.ensures in
    rw new (made_more begun i c.args.processors.now xs x (omega arith) c.loop-i.auto.processors
    (ap (λ (d : Processor). get_or xs i d) c.index-processors-i.is) c.loop-i.invariant)

pub returns : goal.returns
returns g c = made_all _ _ _ _ c.loop-i.auto.processors (omega arith) c.loop-i.invariant
