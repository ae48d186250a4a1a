use Rattle.std.proofs.Common.{rules, ◌+◌, ◌<◌, ◌≤◌, length, drop, Bool, sym, ap, ◌∙◌}
use Rattle.std.proofs.lemmas.List.{drop_all}
use Rattle.crash_table.specs.inside.Kept.{unmarked_after}
use Rattle.crash_table.proofs.Making.{flag_after}
use Rattle.crash_table.proofs.make.has_unmarked.Goals as goal

pub loop-reply-preserved : goal.loop-reply-preserved
loop-reply-preserved c =
    let replies = c.args.replies.now in
    let i = c.loop-reply.reply-index in
    let below : i < length replies = search rules in
    ap (λ (flag : Bool). unmarked_after flag (drop (i + 1) replies)) c.leaves_unmarked-has.ensures
    ∙ sym (flag_after replies i c.reply-item.result c.loop-reply.has below c.reply-item.is)
    ∙ c.loop-reply.invariant

pub returns : goal.returns
returns c =
    let replies = c.args.replies.now in
    let past : length replies ≤ c.loop-reply.reply-index = search rules in
    sym (ap (unmarked_after c.loop-reply.has) (drop_all c.loop-reply.reply-index replies past)) ∙ c.loop-reply.invariant
