use Rattle.std.proofs.Common.{rules, ◌≡◌, ◌<◌, ◌≤◌, inl, inr, true, false, length, Some, ap, sym, subst, ◌∙◌, arith}
use Rattle.std.specs.Prelude.{IsTrue, slice_get}
use Rattle.std.proofs.lemmas.Bool.{cases_lt, false≢true}
use Rattle.std.proofs.lemmas.Option.{slice_get_within, get_or_from_slice_get, slice_get-get_or}
use Rattle.machine.specs.declared.act.Reply.TheVariants.{Marked}
use Rattle.crash_table.proofs.found.has_mark.Goals as goal

pub loop-reply-preserved : goal.loop-reply-preserved
loop-reply-preserved c = λ i less here.
    let index = c.loop-reply.reply-index in
    let replies = c.args.replies.now in
    elim (cases_lt i index) [
      | inl early ↦ c.loop-reply.invariant i early here
      | inr past ↦ (
          let this : i ≡ index = omega (arith, less, past) in
          let found : slice_get replies index ≡ Some (Marked c.args.number) =
          ap (slice_get replies) (sym this) ∙ here in
          let is = c.reply-item.is ∙ get_or_from_slice_get replies index (Marked c.args.number) _ found in
          absurd (let no : false ≡ true = subst IsTrue c.if-is_mark.false (c.is_mark.ensures.1 is) in cc))
    ]

pub returns-clause-each : goal.returns-clause-each
returns-clause-each c = λ i here.
    let past : length c.args.replies.now ≤ c.loop-reply.reply-index = search rules in
    let within = slice_get_within c.args.replies.now i (Marked c.args.number) here in
    absurd (c.loop-reply.invariant i (omega (arith, past, within)) here)

pub returns-clause-only : goal.returns-clause-only
returns-clause-only c = λ (no : false ≡ true). absurd (false≢true no)

pub returns-then-is_mark-clause-only : goal.returns-then-is_mark-clause-only
returns-then-is_mark-clause-only c = λ yes.
    let index = c.loop-reply.reply-index in
    let replies = c.args.replies.now in
    let below : index < length replies = search rules in (
      index,
      slice_get-get_or replies index c.reply-item.result below
          ∙ ap Some (sym c.reply-item.is ∙ c.is_mark.ensures.0 c.if-is_mark.true),
    )
