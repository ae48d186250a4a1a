use Rattle.std.proofs.Common.{◌≡◌, ◌⊎◌, ⊎_elim, ℕ, ◌<◌, List, length, ap, sym, subst, ◌∙◌, arith}
use Rattle.std.proofs.lemmas.List.{length-map}
use Rattle.device.specs.Memory.{Recorded, seen_of, may_leave_of, after_stop}
use Rattle.crash_states.specs.Calls.{ListedDisk, call_of, device_calls_of, calls_until}
use Rattle.crash_table.proofs.Left.{all_listed}
use Rattle.crash_table.proofs.first_run.FirstRun.stopped.Goals as goal

pub returns : goal.returns
returns g c =
    let fails = c.args.fails in
    let after : ListedDisk = c.args.after in
    let inner_is : c.in_ok-inner.inner ≡ after.inner = c.in_ok-inner.ensures.inner in
    let first = c.args.self.now.calls.items in
    let count : length (device_calls_of first) ≡ length first = length-map first (λ call. call_of call) in
    let L : Recorded → Type 0 = λ d. may_leave_of d (seen_of c.stop.new.self) in
    record {
      complete = all_listed after.refused c.in_ok-inner.ensures.complete;
      are_its = c.in_ok-inner.ensures.listed;
      up_to_call = record {
        made = sym c.in_ok-inner.ensures.calls ∙ ap device_calls_of (sym c.deref.ensures.value)
            ∙ c.are_until-are_its_calls.ensures.0 c.if-not-are_its_calls.false
            ∙ ap (λ (l : List _). calls_until (device_calls_of l) fails) c.deref-2.ensures.value;
        failed = λ some le.
            let is = (c.is_up_to-is_up_to_call.ensures.failed some (omega (arith, le, count))).0
            c.if-not-is_up_to_call.false in
            (sym c.calls.ensures ∙ is.0, sym c.faults.ensures ∙ is.1);
        whole = λ none.
            let P : ℕ → Type 0 = λ n. (fails ≡ 0) ⊎ (n < fails) in
            let end = c.is_up_to-is_up_to_call.ensures in
            let is = ⊎_elim (λ (e : fails ≡ 0). (end.none e).0 c.if-not-is_up_to_call.false)
            (λ (e : length first < fails). (end.past e).0 c.if-not-is_up_to_call.false)
            (subst P count none) in
            (sym c.faults.ensures ∙ is.0, is.1);
      };
      stopped = c.stop.ensures.stopped ∙ ap (λ (d : Recorded). after_stop d c.args.choice.now) inner_is;
      left = subst L inner_is c.stop.ensures.left;
    }
