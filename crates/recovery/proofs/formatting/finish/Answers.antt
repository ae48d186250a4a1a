use Rattle.std.proofs.Common.{Err, List, ℕ, length, ap, subst, ◌∙◌}
use Rattle.std.proofs.lemmas.Result.{err_from_is_err_and}
use Rattle.recovery.specs.inside.Writing.{HasFinished}
use Rattle.recovery.proofs.Formatted.{length-super_text}
use Rattle.recovery.proofs.Writing.{finished_unsynced, finished_by}
use Rattle.recovery.proofs.formatting.finish.Goals as goal

pub returns-in_err-sync-clause-finishes : goal.returns-in_err-sync-clause-finishes
returns-in_err-sync-clause-finishes g c =
    let p = err_from_is_err_and c.from_residual.result c.from_residual.ensures.1 in
    finished_unsynced _ c.from_residual.result (p.1 ∙ ap Err p.2) c.in_err-sync.ensures.fault c.in_err-sync.ensures.did

pub returns-clause-finishes : goal.returns-clause-finishes
returns-clause-finishes g c =
    let whole = ap length c.to_block.ensures ∙ length-super_text c.args.table.now c.requires.fits in
    let P : List ℕ → Type 0 =
    λ block. HasFinished g.D.Device block c.args.device.now c.write_synced.result c.write_synced.new.device in
    subst P c.to_block.ensures (finished_by c.to_block.result c.write_synced.result whole c.requires.long
    c.write_synced.ensures.fault c.in_ok-sync.ensures.did c.write_synced.ensures.did)
