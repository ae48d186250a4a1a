use Rattle.std.proofs.Common.{◌≡◌, false, sym, ap, subst, ◌∙◌}
use Rattle.crash_states.specs.Calls.{ListedDisk, ListsItsCalls}
use Rattle.crash_table.specs.Calls.{listing_memory}
use Rattle.crash_table.proofs.Counted.{counted_taken}
use Rattle.crash_table.proofs.trial.list_steps.Goals as goal

pub returns : goal.returns
returns g c = λ before shape started.
    let last = c.note_steps-noted.new.machine in
    let device : c.into_device.result ≡ last.device = c.into_device.ensures in
    let Q : ListedDisk → Type 0 = λ d. d.refused ≡ false in
    let steps = c.args.steps.now in
    let replies = c.in_ok-replies.replies.items in
    let counts = c.in_ok-replies.counts.items in
    record {
      start = c.args.machine;
      last = last;
      started = started;
      counted = c.in_ok-replies.ensures;
      ran = c.ran_since_start.ensures before shape c.args.machine steps replies started
          (counted_taken listing_memory listing_memory.calls_made c.args.machine last steps replies counts
          c.in_ok-replies.ensures);
      complete = subst Q device c.in_ok-calls.ensures.complete.0;
      sound = sym (ap (λ (d : ListedDisk). d.faults) device) ∙ c.in_ok-calls.ensures.sound;
      listed = c.in_ok-calls.ensures.complete.1 ∙ ap (λ (d : ListedDisk). d.calls) device;
      are_its = subst ListsItsCalls device c.in_ok-calls.ensures.are_its;
    }
