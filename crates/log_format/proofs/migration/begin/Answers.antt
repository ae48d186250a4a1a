use Rattle.std.proofs.Common.{take, ap, ◌∙◌}
use Rattle.volume_codec.specs.Files.{asked_by}
use Rattle.log_format.proofs.Begun.{laid_again, refused_again}
use Rattle.log_format.proofs.migration.begin.Goals as goal

pub returns-in-Err-clause-laid : goal.returns-in-Err-clause-laid
returns-in-Err-clause-laid g c = refused_again g.E.Device c.args.sealing c.args.ring c.args.old.now c.args.new.now
    (asked_by (take c.file_count.result c.specs_of-specs.result)) c.len.result c.in-Err.refusal
    (ap (λ n. asked_by (take n c.specs_of-specs.result)) c.file_count.ensures.value ∙ c.specs_of-specs.ensures.specs)
    c.len.ensures c.in-Err.ensures.early c.in-Err.ensures.refused

pub returns-clause-laid : goal.returns-clause-laid
returns-clause-laid g c = laid_again g.D.Device g.E.Device c.args.sealing c.args.ring c.args.old.now
    c.args.new.now c.lay_log.new.device (asked_by (take c.file_count.result c.specs_of-specs.result)) c.len.result
    c.in-Ok.table _ c.specs_of-specs.ensures.well_formed
    (ap (λ n. asked_by (take n c.specs_of-specs.result)) c.file_count.ensures.value ∙ c.specs_of-specs.ensures.specs)
    c.len.ensures c.in-Ok.ensures.ok c.in-Ok-lay_log.ensures.did c.in-Ok-lay_log.ensures.lengths
    c.in-Ok-lay_log.ensures.start

pub returns-in-Err-lay_log-clause-laid : goal.returns-in-Err-lay_log-clause-laid
returns-in-Err-lay_log-clause-laid g c = (
  c.in-Ok.table,
  laid_again g.D.Device g.E.Device c.args.sealing c.args.ring c.args.old.now
      c.args.new.now c.lay_log.new.device (asked_by (take c.file_count.result c.specs_of-specs.result)) c.len.result
      c.in-Ok.table _ c.specs_of-specs.ensures.well_formed
      (ap (λ n. asked_by (take n c.specs_of-specs.result)) c.file_count.ensures.value
      ∙ c.specs_of-specs.ensures.specs)
      c.len.ensures c.in-Ok.ensures.ok c.in-Err-lay_log.ensures.did c.in-Err-lay_log.ensures.lengths
      c.in-Err-lay_log.ensures.start,
)
