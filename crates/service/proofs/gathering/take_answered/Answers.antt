use Rattle.std.proofs.Common.{◌≡◌, ◌∙◌, Result, Ok, Err, length, sym, ap, subst}
use Rattle.std.proofs.lemmas.Bool.{false≢true}
use Rattle.service.specs.Gathering.{AreAnswered, answered_calls}
use Rattle.service.specs.Serving.{SharedState}
use Rattle.service.proofs.gathering.take_answered.Goals as goal

abbrev ok_or : {A E : Type 0} → A → Result A E → A
ok_or other (Ok a) = a
ok_or other (Err e) = other

pub returns-then-not-is_answered-clause-refused : goal.returns-then-not-is_answered-clause-refused
returns-then-not-is_answered-clause-refused g c = record {
  found = c.in-Ok.locked;
  serves = c.is_answered.ensures.serves;
  counted = c.is_answered.ensures.counted;
  differs = λ all. false≢true (sym c.if-not-is_answered.true ∙ c.is_answered.ensures.answered.1 all);
}

pub returns-clause-taken : goal.returns-clause-taken
returns-clause-taken g c =
    let cpus = c.args.cpus.now in
    let S = SharedState g.row.D.Denot in
    let same : c.in-Ok-replace.locked ≡ c.in-Ok.locked =
    ap (ok_or c.in-Ok.locked) (sym c.in-Ok-replace.is ∙ c.replace.ensures.value) ∙ c.is_answered.ensures.same in
    let P : S → Type 0 = λ s. AreAnswered s.trace cpus × (length s.trace ≡ answered_calls cpus) in
    subst P (sym same) (c.is_answered.ensures.answered.0 c.if-not-is_answered.false, c.is_answered.ensures.counted)
