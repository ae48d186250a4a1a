use Rattle.std.proofs.Common.{map}
use Rattle.crash_table.proofs.Marks.{kept_at_mark, if_ok_always}
use Rattle.crash_table.proofs.found.files_at.Goals as goal

pub returns-in-Ok-clause-made : goal.returns-in-Ok-clause-made
returns-in-Ok-clause-made g c = if_ok_always c.open_files.result c.in_ok-write_out-in-Ok.ensures.below

pub returns-in-Ok-clause-kept : goal.returns-in-Ok-clause-kept
returns-in-Ok-clause-kept g c = λ honest files recovered.
    let out = c.in_ok-write_out-in-Ok.ensures in
    kept_at_mark g.D.Device g.met.D.Device.seen_is_left c.one_reading.ensures.files
    c.args.device c.args.shape c.in-Ok.machine c.in-Ok.ensures.started honest files recovered
    c.args.steps.now c.args.replies.now c.args.at c.args.number out.below c.requires out.is_new out.replied out.marked
    c.write_out.new.machine out.made out.same out.step.p out.acknowledged c.keeps_the_laws.ensures.left
    (λ read. map (λ v. v.items) read.items) c.into_device.result c.into_device.ensures
    c.open_files.result c.open_files.ensures
