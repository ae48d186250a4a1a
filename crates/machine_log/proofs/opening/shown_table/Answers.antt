use Rattle.std.proofs.Common.{length, take, ap, sym, ◌∙◌, subst}
use Rattle.volume_codec.specs.Files.{asked_by}
use Rattle.volume_codec.specs.Super.{SuperValue}
use Rattle.log_codec.specs.Log.{LogValue, IsCommitSize}
use Rattle.machine_log.specs.inside.Opened.{asked_whole}
use Rattle.machine_log.proofs.Tables.{table_shown, refuses_shown}
use Rattle.machine_log.proofs.opening.shown_table.Goals as goal

pub returns-in-Ok-clause-ok : goal.returns-in-Ok-clause-ok
returns-in-Ok-clause-ok g c =
    let v = c.args.volume.now in
    let specs = c.specs_of-specs.result in
    let ring = ap (λ (l : LogValue). l.ring) c.log.ensures.value in
    let slots = c.most_records-slots in
    table_shown v slots.result (subst (λ r. IsCommitSize r slots.result) ring slots.ensures.size)
    (λ n may. slots.ensures.most n (subst (λ r. IsCommitSize r n) (sym ring) may)) c.in-Ok.table
    (asked_by (take c.file_count.result specs)) c.from.result c.from.ensures
    (ap (λ n. asked_by (take n specs)) (c.file_count.ensures.value
    ∙ ap (λ (t : SuperValue). length t.files) (c.table-2.ensures ∙ sym c.table.ensures))
    ∙ c.specs_of-specs.ensures.specs ∙ ap (λ (t : SuperValue). asked_whole t.files) c.table.ensures)
    c.in-Ok.ensures.ok

pub returns-in-Err-clause-refused : goal.returns-in-Err-clause-refused
returns-in-Err-clause-refused g c =
    let v = c.args.volume.now in
    let specs = c.specs_of-specs.result in
    let ring = ap (λ (l : LogValue). l.ring) c.log.ensures.value in
    let slots = c.most_records-slots in
    refuses_shown v slots.result (subst (λ r. IsCommitSize r slots.result) ring slots.ensures.size)
    (λ n may. slots.ensures.most n (subst (λ r. IsCommitSize r n) (sym ring) may)) c.in-Err.refusal
    (asked_by (take c.file_count.result specs)) c.from.result c.from.ensures
    (ap (λ n. asked_by (take n specs)) (c.file_count.ensures.value
    ∙ ap (λ (t : SuperValue). length t.files) (c.table-2.ensures ∙ sym c.table.ensures))
    ∙ c.specs_of-specs.ensures.specs ∙ ap (λ (t : SuperValue). asked_whole t.files) c.table.ensures)
    c.in-Err.ensures.refused
