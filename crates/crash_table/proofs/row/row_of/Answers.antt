use Rattle.std.proofs.Common.{rules, ℕ, ◌<◌, length, subst, sym, ap, ◌∙◌}
use Rattle.crash_states.specs.declared.choice.Choice.TheVariants as choices
use Rattle.crash_states.specs.declared.row.Found.{Found}
use Rattle.crash_states.specs.Choices.{Content, content_before, left_by, choices_of}
use Rattle.crash_states.specs.Held.{content_of}
use Rattle.crash_table.proofs.Contents.{found_among, torn_some}
use Rattle.crash_table.proofs.row.row_of.Goals as goal

pub returns : goal.returns
returns g c = λ within.
    let trial = c.args.trial.now in
    let count = ap (λ (k : Content). length k.unsynced) within in
    let states = c.in_ok-states.field-0.items in
    let some = λ (more : 0 < length (content_of c.args.contents.now).unsynced).
    found_among (λ (f : Found). f.choice) states choices.New (c.in_ok-states.ensures.new more) in
    record {
      number = search rules;
      unsynced = c.unsynced.ensures ∙ count;
      each = λ found has.
          let P : Content → Type 0 =
          λ k. g.T.CrashedRun.leaves trial c.in-Some.number (left_by found.choice k) found.mark in
          subst P within (c.in_ok-states.ensures.each found has);
      tried = c.in_ok-states.ensures.tried ∙ ap choices_of (sym c.unsynced.ensures);
      old = found_among (λ (f : Found). f.choice) states choices.Old c.in_ok-states.ensures.old;
      new = λ more. some (subst (λ (n : ℕ). 0 < n) c.unsynced.ensures more);
      torn = λ call is kind bytes.
          some (subst (λ (n : ℕ). 0 < n) (sym count)
          (torn_some (content_before (g.T.CrashedRun.bytes trial) (g.T.CrashedRun.made trial) c.args.index) _ call is
          kind bytes));
    }
