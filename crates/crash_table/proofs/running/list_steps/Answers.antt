use Rattle.std.proofs.Common.{◌≡◌, false, sym, ap, subst, ◌∙◌}
use Rattle.machine_log.specs.Disk.{LogDiskValue}
use Rattle.crash_states.specs.Calls.{ListedDisk, ListsItsCalls}
use Rattle.crash_table.specs.Calls.{listing_memory}
use Rattle.crash_table.proofs.Counted.{counted_taken}
use Rattle.machine_log.specs.Disk.{shown_by}
use Rattle.crash_table.specs.Runs.{calls_below}
use Rattle.crash_table.proofs.running.list_steps.Goals as goal

pub returns : goal.returns
returns g c = λ before shown shape opened started.
    let last = c.note_steps-noted.new.machine in
    let device : c.into_device-below.result ≡ last.device.device =
    c.into_device-below.ensures ∙ ap (λ (s : LogDiskValue ListedDisk). s.device) c.into_device-shown.ensures in
    let Q : ListedDisk → Type 0 = λ d. d.refused ≡ false in
    let steps = c.args.steps.now in
    let replies = c.in_ok-replies.replies.items in
    let counts = c.in_ok-replies.counts.items in
    record {
      shown = shown;
      opened = opened;
      start = c.args.machine;
      last = last;
      started = started;
      counted = c.in_ok-replies.ensures;
      ran = c.ran_since_start.ensures shown shape c.args.machine steps replies started
          (counted_taken (shown_by listing_memory) calls_below c.args.machine last steps replies counts
          c.in_ok-replies.ensures);
      complete = subst Q device c.in_ok-calls.ensures.complete.0;
      sound = sym (ap (λ (d : ListedDisk). d.faults) device) ∙ c.in_ok-calls.ensures.sound;
      listed = c.in_ok-calls.ensures.complete.1 ∙ ap (λ (d : ListedDisk). d.calls) device;
      are_its = subst ListsItsCalls device c.in_ok-calls.ensures.are_its;
    }
