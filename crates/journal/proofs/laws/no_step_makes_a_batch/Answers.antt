use Rattle.journal.specs.WriteOuts.{shares_syncs}
use Rattle.journal.proofs.Batches.{batch_before}
use Rattle.journal.proofs.laws.no_step_makes_a_batch.Goals as goal

pub returns : goal.returns
returns c outs answer w there = batch_before (shares_syncs outs.geometry.layout) answer outs.batches w there
