use Rattle.std.proofs.Common.{rules, ◌≤◌, List, length, inl, inr, subst, sym, ◌∙◌}
use Rattle.std.specs.List.{Contains}
use Rattle.std.proofs.lemmas.List.{take_all}
use Rattle.std.proofs.lemmas.List.Elements.{Contains-push_cases}
use Rattle.crash_states.specs.declared.choice.Choice.{Choice}
use Rattle.crash_states.specs.declared.choice.Choice.TheVariants as choices
use Rattle.crash_states.specs.declared.row.Found.{Found}
use Rattle.crash_states.specs.Choices.{left_by}
use Rattle.crash_states.specs.Held.{content_of}
use Rattle.crash_table.proofs.Contents.{named_more}
use Rattle.crash_table.proofs.row.states.Goals as goal

pub loop-choice-preserved : goal.loop-choice-preserved
loop-choice-preserved g c =
    let i = c.loop-choice.choice-index in
    let tried = c.deref-choice-items.result.now in
    let state = c.in_ok-state.state in
    let pushed = c.in_ok-push.ensures.items in record {
      each = λ found has.
          let there = subst (λ (l : List Found). Contains l found) pushed has in
          elim (Contains-push_cases c.loop-choice.states.items _ found there) [
            | inl was ↦ c.loop-choice.invariant.each found was
            | inr same ↦ (let P : Found → Type 0 = λ f. g.T.CrashedRun.leaves c.args.trial.now c.args.number
                (left_by f.choice (content_of c.args.contents.now)) f.mark in subst P same c.in_ok-state.ensures.leaves)
          ];
      named = named_more (λ (f : Found). f.choice) c.loop-choice.states.items c.push.new.self.items state tried i _
          c.loop-choice-test.true pushed c.in_ok-state.ensures.named c.loop-choice.invariant.named;
    }

pub returns-clause-tried : goal.returns-clause-tried
returns-clause-tried g c =
    let tried = c.deref-choice-items.result.now in
    let past : length tried ≤ c.loop-choice.choice-index = search rules in
    c.loop-choice.invariant.named ∙ take_all c.loop-choice.choice-index tried past
    ∙ c.deref-choice-items.ensures.value ∙ c.in_ok-tried.ensures.exact

pub returns-clause-old : goal.returns-clause-old
returns-clause-old g c =
    let tried = c.deref-choice-items.result.now in
    let past : length tried ≤ c.loop-choice.choice-index = search rules in
    let P : List Choice → Type 0 = λ l. Contains l choices.Old in
    subst P (sym (c.loop-choice.invariant.named ∙ take_all c.loop-choice.choice-index tried past))
    (subst P (sym c.deref-choice-items.ensures.value) c.in_ok-tried.ensures.old)

pub returns-clause-new : goal.returns-clause-new
returns-clause-new g c = λ some.
    let tried = c.deref-choice-items.result.now in
    let past : length tried ≤ c.loop-choice.choice-index = search rules in
    let P : List Choice → Type 0 = λ l. Contains l choices.New in
    subst P (sym (c.loop-choice.invariant.named ∙ take_all c.loop-choice.choice-index tried past))
    (subst P (sym c.deref-choice-items.ensures.value) (c.in_ok-tried.ensures.new some))
