use Rattle.std.proofs.Common.{rules, ◌≡◌, ◌<◌, ◌≤◌, inl, inr, true, false, length, Some, refl, ap, sym, subst}
use Rattle.std.proofs.Common.{◌∙◌, arith}
use Rattle.std.specs.Prelude.{IsTrue, slice_get}
use Rattle.std.proofs.lemmas.Bool.{cases_lt, false≢true}
use Rattle.std.proofs.lemmas.Option.{slice_get_within, get_or_from_slice_get, slice_get-get_or}
use Rattle.machine.specs.declared.act.Reply.TheVariants.{Committed}
use Rattle.crash_table.proofs.log_trial.is_durable.Goals as goal

pub loop-reply-preserved : goal.loop-reply-preserved
loop-reply-preserved c = λ i k less here.
    let index = c.loop-reply.reply-index in
    let replies = c.args.replies.now in
    elim (cases_lt i index) [
      | inl early ↦ c.loop-reply.invariant i k early here
      | inr past ↦ (
          let this : i ≡ index = omega (arith, less, past) in
          let found : slice_get replies index ≡ Some (Committed k) = ap (slice_get replies) (sym this) ∙ here in
          let is = c.reply-item.is ∙ get_or_from_slice_get replies index (Committed k) _ found in
          elim (cases_lt c.args.number k) [
            | inl later ↦ absurd (let no : false ≡ true =
                subst IsTrue c.if-is_later.false (c.is_later.ensures.only k is later) in cc)
            | inr low ↦ low
          ])
    ]

pub returns : goal.returns
returns c = (
  λ yes i k here.
      let past : length c.args.replies.now ≤ c.loop-reply.reply-index = search rules in
      let within = slice_get_within c.args.replies.now i (Committed k) here in
      c.loop-reply.invariant i k (omega (arith, past, within)) here,
  λ all. refl,
)

pub returns-then-is_later : goal.returns-then-is_later
returns-then-is_later c =
    let index = c.loop-reply.reply-index in
    let replies = c.args.replies.now in
    let below : index < length replies = search rules in
    let later = c.is_later.ensures.later c.if-is_later.true in (
      λ (no : false ≡ true). absurd (false≢true no),
      λ all. absurd (omega (
        arith,
        later.2,
        all index later.0 (slice_get-get_or replies index c.reply-item.result below
            ∙ ap Some (sym c.reply-item.is ∙ later.1)),
      )),
    )
