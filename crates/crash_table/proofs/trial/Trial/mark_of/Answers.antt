use Rattle.std.proofs.Common.{List, IfOk, map, sym, subst}
use Rattle.std.proofs.lemmas.Result.{IfOk-weaker}
use Rattle.volume_codec.specs.Files.{File}
use Rattle.machine.specs.declared.act.Reply.{Reply}
use Rattle.crash_table.specs.Marks.{IsNewest, IsMarkOf}
use Rattle.crash_table.specs.Trials.{TrialValue}
use Rattle.crash_table.specs.inside.Kept.{AreKept}
use Rattle.crash_table.proofs.trial.Trial.mark_of.Goals as goal

pub returns : goal.returns
returns g c =
    let inside = c.self.inside in
    let image = inside.plan.image.now in
    let shape = inside.plan.shape in
    let steps = inside.plan.steps.now in
    let replies = c.args.replies.now in
    let bytes = map (λ v. v.items) c.args.found.now in
    let kept = c.self.invariant.0 in
    let M : List _ → Type 0 = λ l. AreKept kept.files shape steps c.deref-2.result.now l in
    let R : List Reply → Type 0 = λ l. AreKept kept.files shape steps l inside.marks.items in
    let all = subst M (sym c.deref.ensures.value) (subst R (sym c.deref-2.ensures.value) kept.kept) in
    subst (λ (t : TrialValue). IfOk c.newest.result (IsMarkOf t replies bytes)) c.self.view_is
    (IfOk-weaker c.newest.result _ _
    (λ number has. λ files recovers.
    let P : List File → Type 0 = λ l. IsNewest l shape steps replies bytes number in
    subst P (c.one_reading.ensures.files image kept.files files kept.before recovers) has)
    (c.newest.ensures kept.files shape steps all))
