use Rattle.std.proofs.Common.{◌≡◌, Some, length, ap, ◌∙◌, sym}
use Rattle.journal.specs.WriteOut.{next_stage}
use Rattle.journal.specs.declared.stage.Stage.TheVariants.{Recording}
use Rattle.journal.proofs.Stages.{recording_within}
use Rattle.journal.proofs.queued.Queued.next_record.Goals as goal

pub returns-in-Some-Recording-clause-within : goal.returns-in-Some-Recording-clause-within
returns-in-Some-Recording-clause-within g c =
    let w = c.args.self.now.write_out in
    let at : next_stage w ≡ Some (Recording c.in-Some-Recording.record) =
    sym c.stage.ensures
    ∙ c.in-Some-Recording.is
    ∙ ap Some c.in-Some-Recording.field-0-is in
    recording_within (length w.batch.homes) w.described w.steps c.in-Some-Recording.record at
