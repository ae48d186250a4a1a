use native.Mathlib.Nat.{ℕ_set}
use Rattle.std.proofs.Common.{inl, inr, ℕ, List, ◌++◌, ◌≡◌, take, drop, length, refl, sym, ap, ◌∙◌, subst, arith}
use Rattle.std.proofs.lemmas.Bool.{false≢true}
use Rattle.std.proofs.Math.Seq.{take-append_seam}
use Rattle.machine.specs.State.{Whole}
use Rattle.service.specs.declared.entry.Entry.{Entry}
use Rattle.service.specs.declared.service.Service.{Service}
use Rattle.service.specs.Gathering.{CpuState, AreAll, AreAnswered, IsAnotherTrace, HasGathered, answered_calls}
use Rattle.service.proofs.service.Service.gather.Goals as goal

pub returns-in-Ok-clause-gathered : goal.returns-in-Ok-clause-gathered
returns-in-Ok-clause-gathered g c =
    let locked = c.in-Ok.locked in
    let ended = c.ended.ensures in
    let serves = ended.serves in
    let cpus = c.args.cpus.items in
    let processors = length serves.first.state.hardware.shootdown.processors in
    let count : c.args.self.cpus ≡ processors = c.args.self.all ∙ serves.all_are in
    let Here : List CpuState → Type 0 = λ l. AreAll c.args.self.cpus l in
    let All : ℕ → Type 0 = λ n. AreAll n cpus in
    let all : AreAll processors cpus =
    subst All count (subst Here c.as_slice.ensures.value (c.if-not-are_all.ensures.0 refl)) in
    let Each : List CpuState → Type 0 = λ l. AreAnswered locked.trace l in
    let Counted : List CpuState → Type 0 = λ l. length locked.trace ≡ answered_calls l in
    let gathered : HasGathered g.D.Device g.L.Origin.start g.L.Origin.capacity cpus locked.machine locked.trace =
    record {
      first = serves.first;
      start_is = serves.start_is;
      fresh = serves.serving.fresh;
      legal = serves.serving.legal;
      few = omega (arith, serves.serving.few, serves.capacity_is);
      each = subst Each c.as_mut_slice.ensures.value c.in-Ok.ensures.taken.0;
      as_many = all.as_many;
      whole = all.whole;
      counted = subst Counted c.as_mut_slice.ensures.value c.in-Ok.ensures.taken.1;
    } in
    let P : List Entry → Type 0 =
    λ trace. HasGathered g.D.Device g.L.Origin.start g.L.Origin.capacity cpus locked.machine trace in
    let Q : Whole g.row.D.Denot → Type 0 =
    λ machine. HasGathered g.D.Device g.L.Origin.start g.L.Origin.capacity cpus machine c.ended.result.1.items in
    subst Q (sym ended.machine) (subst P (sym ended.trace) gathered)

pub returns-then-not-are_all-clause-why : goal.returns-then-not-are_all-clause-why
returns-then-not-are_all-clause-why g c = inl (λ all.
    let Here : List CpuState → Type 0 = λ l. AreAll c.args.self.cpus l in
    let All : ℕ → Type 0 = λ n. AreAll n c.args.cpus.items in
    let here : AreAll c.args.self.cpus c.as_slice.result.now =
    subst Here (sym c.as_slice.ensures.value) (subst All (sym c.args.self.all) all) in
    false≢true (sym c.if-not-are_all.true ∙ c.are_all.ensures.1 here))

pub returns-in-Err-clause-why : goal.returns-in-Err-clause-why
returns-in-Err-clause-why g c =
    let Other : List CpuState → Type 0 =
    λ l. IsAnotherTrace g.D.Device g.L.Origin.start g.L.Origin.all g.L.Origin.capacity l in
    inr (subst Other c.as_mut_slice.ensures.value c.in-Err.ensures.refused)

pub returns-in-Err-clause-refused : goal.returns-in-Err-clause-refused
returns-in-Err-clause-refused g c =
    let items = c.args.cpus.items in
    let new = c.take_if_answered.new.cpus in
    let rest = drop (length new) items in
    let same : c.args.cpus.len ≡ length new = sym c.as_mut_slice.ensures.len
    ∙ ap (λ (l : List CpuState). length l) (sym c.take_if_answered.ensures.cpus) in
    let S = Service g.row.D.Denot g.row.A.Denot g.row.L.Denot g.D.Device g.L.Origin in
    let self_with : c.args.self.cpus ≡ g.L.Origin.all → S = λ all. record {
      room = c.args.self.room;
      right = c.args.self.right;
      cpus = c.args.self.cpus;
      all = all;
    } in (
      refl,
      ap self_with (ℕ_set c.args.self.cpus g.L.Origin.all _ c.args.self.all),
      ap (λ (n : ℕ). take n (new ++ rest)) same ∙ take-append_seam new rest ∙ c.take_if_answered.ensures.cpus
          ∙ c.as_mut_slice.ensures.value,
    )
