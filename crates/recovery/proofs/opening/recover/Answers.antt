use Rattle.std.proofs.Common.{inl, ◌∙◌, Err, [], length, ap, sym, subst, arith}
use Rattle.std.proofs.lemmas.List.{length-map}
use Rattle.std.proofs.lemmas.Result.{err_from_is_err_and}
use Rattle.volume_codec.specs.Layout.{GeometryValue}
use Rattle.volume_codec.specs.Recovery.{contents_in}
use Rattle.journal.specs.Finished.{HoldsVolume}
use Rattle.recovery.specs.Opening.{HasOpened}
use Rattle.recovery.specs.inside.Carrying.{AreShut}
use Rattle.recovery.specs.inside.Reading.{batch_of, batches_of, table_found}
use Rattle.device.proofs.Moments.{leaves_weaker}
use Rattle.recovery.proofs.Kept.{kept_then, kept_ok, kept_err}
use Rattle.recovery.proofs.Opened.{holds, left_within, has_opened, has_failed, is_well_formed}
use Rattle.recovery.proofs.opening.recover.Goals as goal

pub returns-in_err-table-clause-opens : goal.returns-in_err-table-clause-opens
returns-in_err-table-clause-opens g c =
    let p = err_from_is_err_and c.from_residual.result c.from_residual.ensures.1 in
    let f = c.in_err-table.ensures in
    record {
      kept = kept_err (table_found c.from_residual.result) (ap (λ r. table_found r) p.1 ∙ ap Err p.2) f.kept;
      ended = λ honest. rw (p.1, p.2) (record {
        reason = f.refused honest;
        done = inl (record { unwritten = f.unwritten honest; calls = f.most honest });
      });
      within = λ honest. leaves_weaker (f.unwritten honest).time (λ l may. inl may);
    }

pub returns-in_err-carry_out_all-clause-opens : goal.returns-in_err-carry_out_all-clause-opens
returns-in_err-carry_out_all-clause-opens g c =
    let disk = g.D.Device in
    let p = err_from_is_err_and c.from_residual-in_err-carry_out_all.result
    c.from_residual-in_err-carry_out_all.ensures.1 in
    let table = c.in_ok-table.table in
    let batches = batches_of c.in_ok-table.found.items in
    let e = c.in_ok-table.ensures in
    let f = c.in_err-carry_out_all.ensures in
    record {
      kept = kept_then e.kept (kept_err (table_found c.from_residual-in_err-carry_out_all.result)
          (ap (λ r. table_found r) p.1 ∙ ap Err p.2) f.kept);
      ended = λ honest. rw (p.1, p.2)
          (has_failed disk c.args.device.now c.judge_all.new.device table batches (e.volume honest)
          (e.unwritten honest) c.in_err-carry_out_all.field-0.0 c.carry_out_all.new.device
          (length c.in_ok-table.found.items) (e.lengths honest).fit
          (sym (length-map c.in_ok-table.found.items batch_of)) f.fault e.calls f.carries.most);
      within = λ honest.
          left_within disk c.args.device.now c.judge_all.new.device table batches (e.volume honest)
          (e.unwritten honest) c.carry_out_all.new.device
          (f.carries.time table _ (sym c.geometry.ensures.value)
          (holds disk c.args.device.now c.judge_all.new.device table batches (e.volume honest) (e.unwritten honest)
          (e.kept.honest.1 honest) (e.synced honest)));
    }

module _ (g : _) (c : goal.In_ok-carry_out_all g) (honest : g.D.Device.is_honest c.args.device.now) where
  held : HoldsVolume g.D.Device c.in_ok-table.table [] (contents_in c.in_ok-table.table.slots
      (batches_of c.in_ok-table.found.items) (g.D.Device.seen c.args.device.now)) c.carry_out_all.new.device
  held =
      let e = c.in_ok-table.ensures in
      c.in_ok-carry_out_all.ensures.carries.done.held c.in_ok-table.table _ (sym c.geometry.ensures.value)
      (holds g.D.Device c.args.device.now c.judge_all.new.device c.in_ok-table.table (batches_of
      c.in_ok-table.found.items) (e.volume honest) (e.unwritten honest) (e.kept.honest.1 honest) (e.synced honest))

  has : HasOpened g.D.Device c.args.device.now c.in_ok-table.table c.carry_out_all.new.device
  has =
      let disk = g.D.Device in
      let batches = batches_of c.in_ok-table.found.items in
      let e = c.in_ok-table.ensures in
      let f = c.in_ok-carry_out_all.ensures in
      has_opened disk c.args.device.now c.judge_all.new.device c.in_ok-table.table batches (e.volume honest)
      (e.unwritten honest) c.carry_out_all.new.device
      (length c.in_ok-table.found.items) (e.lengths honest).fit (sym (length-map c.in_ok-table.found.items batch_of))
      (f.kept.len ∙ e.kept.len) held
      (subst (λ (h : GeometryValue). AreShut h batches (disk.seen c.judge_all.new.device) (disk.seen
      c.carry_out_all.new.device)) c.geometry.ensures.value (f.carries.done.shut (e.kept.honest.1 honest)))
      e.calls f.carries.done.calls

pub returns-clause-opens : goal.returns-clause-opens
returns-clause-opens g c =
    let disk = g.D.Device in
    let table = c.in_ok-table.table in
    let batches = batches_of c.in_ok-table.found.items in
    let e = c.in_ok-table.ensures in
    record {
      kept = kept_ok table (kept_then e.kept c.in_ok-carry_out_all.ensures.kept);
      ended = has g c;
      within = λ honest.
          left_within disk c.args.device.now c.judge_all.new.device table batches (e.volume honest)
          (e.unwritten honest) c.carry_out_all.new.device
          (c.in_ok-carry_out_all.ensures.carries.time table _ (sym c.geometry.ensures.value)
          (holds disk c.args.device.now c.judge_all.new.device table batches (e.volume honest) (e.unwritten honest)
          (e.kept.honest.1 honest) (e.synced honest)));
    }

pub returns-clause-well_formed : goal.returns-clause-well_formed
returns-clause-well_formed g c =
    let e = c.in_ok-table.ensures in
    let f = c.in_ok-carry_out_all.ensures in
    is_well_formed g.D.Device c.args.device.now c.carry_out_all.new.device c.in_ok-table.table
    (batches_of c.in_ok-table.found.items) c.in_ok-table.lengths.items e.fits
    (omega (arith, e.long, e.kept.len, f.kept.len)) e.are e.fixed
    (λ honest. let was = (kept_then e.kept f.kept).honest.0 honest in (held g c was, e.lengths was))
