use Rattle.std.proofs.Common.{rules, ◌∙◌, sym}
use Rattle.std.specs.Prelude.{IsTrue}
use Rattle.std.proofs.lemmas.Option.{slice_get-get_or}
use Rattle.std.proofs.lemmas.Result.{on_ok_weaker}
use Rattle.crash_table.proofs.found.write_out.Goals as goal

pub returns : goal.returns
returns g c =
    let there : IsTrue c.is_first_mark.result = search rules in
    let alike : IsTrue c.are_same_replies.result = search rules in
    let first = c.is_first_mark.ensures.first there in
    on_ok_weaker c.acknowledge.result
    (λ acknowledged. record {
      below = first.0;
      is_new = first.1;
      replied = c.in_ok-replied.replied.items;
      marked = c.make.new.machine;
      made = c.in_ok-replied.ensures.made;
      same = sym c.deref.ensures.value ∙ c.are_same_replies.ensures.0 alike;
      step = _;
      there = slice_get-get_or c.args.steps.now c.args.at c.index-steps-at.result first.0;
      acknowledged = acknowledged;
    })
    c.acknowledge.ensures.acknowledged
