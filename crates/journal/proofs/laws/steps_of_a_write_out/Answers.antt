use Rattle.std.proofs.Common.{◌+◌, ◌*◌, Some, None, refl}
use Rattle.journal.specs.declared.stage.Stage.TheVariants.{Committing, Finishing}
use Rattle.journal.proofs.Stages.{stage_from, done_at, all_calls}
use Rattle.journal.proofs.laws.steps_of_a_write_out.Goals as goal

pub returns : goal.returns
returns c = record {
  commits = λ k d. stage_from k d (k + d + 2) (Some Committing) refl;
  finishes = λ k d. stage_from k d (2 * k + d + 5) (Some Finishing) refl;
  ends = λ k d n. (done_at k d n, stage_from k d n None);
  calls = λ g batch. all_calls g batch;
}
