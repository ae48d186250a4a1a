-- One step of a machine, by what its layers did.
use Rattle.machine.proofs.Names.{◌≡◌, ◌≢◌, ap, arith, Ghosts, SuperValue, block_count, Reply, Step, Layers, WantsMemory}
use Rattle.machine.proofs.Names.{StepMade, state_in, whole_in, AreLayers, ActDone}
use Rattle.page_entry.specs.declared.refusal.Refusal.TheVariants as refusals
use Rattle.machine.specs.declared.act.Reply.TheVariants as replies
use Rattle.machine.proofs.sound.Kept.{sound_kept}
use Rattle.machine.proofs.sound.Replies.{reply_not_full, reply_wants}

module _ {D Z : Type 0} (disk : Ghosts D) (old new : Layers D Z) (step : Step) (reply : Reply)
    (done : ActDone disk old step reply new) where
  -- what holds of every machine still does
  pub layers_kept : AreLayers disk.seen old → AreLayers disk.seen new
  layers_kept are = record {
    sound = sound_kept (state_in old) done.rules.some_disk.0 step reply
        (state_in new) done.rules.some_disk.1 are.sound done.rules.some_disk.2;
    long = omega (arith, are.long, done.len, ap (λ (table : SuperValue). block_count table) done.kept.same_table);
    reserved = done.kept.still_reserved are.reserved;
  }

  pub step_made : disk.is_honest old.device → StepMade disk (whole_in old) step reply (whole_in new)
  step_made honest = record {
    answered = done.rules.own_disk honest;
    left = done.left;
    durable = done.durable honest;
    within = done.time;
    unread = done.unread honest;
  }

  pub not_full : reply ≢ replies.Refused refusals.TraceFull
  not_full = reply_not_full (state_in old) done.rules.some_disk.0 step reply
      (state_in new) done.rules.some_disk.1 done.rules.some_disk.2

  pub wants_memory : reply ≡ replies.Refused refusals.OutOfMemory → WantsMemory (state_in old) step.p step.act
  wants_memory = reply_wants (state_in old) done.rules.some_disk.0 step reply
      (state_in new) done.rules.some_disk.1 done.rules.some_disk.2
