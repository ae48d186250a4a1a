use Rattle.std.proofs.Common.{rules, ◌<◌, length, Some, None, ap, ◌∙◌, arith}
use Rattle.crash_states.specs.Calls.{call_of}
use Rattle.crash_states.specs.Choices.{Content, call_ended}
use Rattle.crash_states.specs.Held.{content_of}
use Rattle.crash_table.proofs.Contents.{call_read, call_past, within_is, after_is}
use Rattle.crash_table.proofs.Marks.{if_ok_always}
use Rattle.crash_table.proofs.row.make_row.Goals as goal

pub returns-in_ok-end-in-Some : goal.returns-in_ok-end-in-Some
returns-in_ok-end-in-Some g c =
    let image = g.T.CrashedRun.bytes c.args.trial.now in
    let calls = g.T.CrashedRun.made c.args.trial.now in
    let i = c.args.index in
    let content = content_of c.args.contents.now in
    let kept = c.calls.result.now in
    let call = c.in-Some.call.now in
    let below : i < length kept = search rules in
    let there = call_read kept calls i call c.calls.ensures.calls below c.in-Some.ensures.lookup.1 in
    let found = Some (call_of call) in
    record {
      row = λ same. c.in_ok-row-in-Some.ensures
          (c.in_ok-begin-in-Some.ensures ∙ within_is image calls i content found same there);
      after = λ same. c.in_ok-end-in-Some.ensures
          ∙ ap (λ (k : Content). call_ended k found) c.in_ok-begin-in-Some.ensures
          ∙ after_is image calls i content found same there;
    }

pub returns-in-None : goal.returns-in-None
returns-in-None g c =
    let image = g.T.CrashedRun.bytes c.args.trial.now in
    let calls = g.T.CrashedRun.made c.args.trial.now in
    let i = c.args.index in
    let content = content_of c.args.contents.now in
    let there = call_past c.calls.result.now calls i c.calls.ensures.calls (omega (arith, c.in-None.ensures.lookup)) in
    record {
      row = λ same. c.row_of-in-None.ensures (within_is image calls i content None same there);
      after = λ same. if_ok_always c.row_of-in-None.result (after_is image calls i content None same there);
    }
