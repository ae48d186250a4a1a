use Rattle.log_store.proofs.Ending.{nearer, goes, begun, moved, idle}
use Rattle.log_store.proofs.rounds.rounds_end.Goals as goal

pub returns : goal.returns
returns c = record {
  nearer = λ old new progress step some stays. nearer old.stage old new progress step some stays;
  begun = λ s rests. begun s.tail s.work.oldest s.stage rests;
  goes = λ old new progress step some stays all. goes old.stage old new progress step some stays all;
  moved = λ old new step. moved old.stage old new step;
  idle = λ old new step. idle old.stage old new step;
}
