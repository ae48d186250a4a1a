use Rattle.std.proofs.Common.{◌<◌, ℕ, length, max, get_or, ap, sym, ◌∙◌}
use Rattle.crash_states.specs.declared.choice.Choice.TheVariants as choices
use Rattle.crash_states.specs.declared.row.Found.{Found}
use Rattle.crash_states.proofs.Growing.{newest_more}
use Rattle.crash_states.proofs.row.Row.newest.Goals as goal

pub loop-found-preserved : goal.loop-found-preserved
loop-found-preserved g c =
    let items = c.deref-found-items.result.now in
    let i = c.loop-found.found-index in
    let d : Found = record { choice = choices.Old; mark = 0 } in
    let below : i < length items = c.loop-found-test.true in
    c.max-newest.ensures ∙ ap (λ (n : ℕ). max n (get_or items i d).mark) c.loop-found.invariant
    ∙ sym (newest_more items i d below)
