use Rattle.inspection.specs.Text.{journal_name, gate_text, state_text}
use Rattle.inspection.proofs.Writing.{appends_all}
use Rattle.inspection.proofs.text.write_journal.Goals as goal

pub returns : goal.returns
returns g c =
    let journal = c.args.journal.now in
    appends_all _ _ _ _ (journal_name journal.number) (gate_text journal.gate)
    (state_text c.args.table.now journal.descriptor) c.write_state.result c.in_ok-write_journal_name.ensures
    c.in_ok-write_gate.ensures c.write_state.ensures
