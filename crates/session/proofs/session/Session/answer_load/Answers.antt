use Rattle.std.proofs.Common.{ℕ, List, [], ◌∷◌, ◌++◌, OnOk, refl, subst, arith}
use Rattle.std.proofs.lemmas.Result.{on_ok_weaker}
use Rattle.std.specs.Io.KnownBytes.{Appends}
use Rattle.session.specs.declared.ranges.Reached.TheVariants.{NoMemory}
use Rattle.session.specs.Answers.{ReportsLoaded}
use Rattle.session.proofs.Phases.{keeps_none}
use Rattle.session.proofs.Stretches.{does_more}
use Rattle.session.proofs.Stretches.{makes_none}
use Rattle.session.proofs.Turns.{carries_does}
use Rattle.session.proofs.Writing.{load_answered}
use Rattle.session.proofs.session.Session.answer_load.Goals as goal

pub returns-in_default : goal.returns-in_default
returns-in_default g c =
    record {
      does = record {
        steps = [];
        replies = [];
        makes = makes_none g.D.Device _ _;
        holds = (0, [], NoMemory, (0, [], omega arith, (refl, refl)));
      };
      answers = tt;
      phases = keeps_none _;
    }

pub returns : goal.returns
returns g c =
    let old = g.W.Write.contents c.args.out.now in
    let new = g.W.Write.contents c.write_loaded.new.out in
    let bytes = c.load-reached.new.out.items in
    let reached = c.load-reached.result in
    let done = c.load-reached.ensures in
    let P : List ℕ → Type 0 = λ bytes. OnOk c.write_loaded.result
    ((answer : List ℕ) × ReportsLoaded reached bytes answer × Appends old new (answer ++ 10 ∷ [])) in
    record {
      does = does_more g.D.Device _ _ _ _ _ _ (λ steps replies holds. (_, bytes, reached, holds))
          (carries_does g.D.Device _ _ _ _ _ _ _ done).makes;
      answers = on_ok_weaker c.write_loaded.result
          (load_answered g.D.Device _ _ _ _ _ _ _ _ _ bytes reached old new done.makes)
          (subst P c.deref.ensures.value c.write_loaded.ensures);
      phases = done.phases;
    }
