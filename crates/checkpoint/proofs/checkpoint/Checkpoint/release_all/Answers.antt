use Rattle.std.proofs.Common.{ap, ◌∙◌, arith}
use Rattle.std.proofs.lemmas.List.{drop_all}
use Rattle.frames.specs.Frames.{FramesState}
use Rattle.checkpoint.proofs.BackingLaws.{AreBacked-frozen, AreBacked-thawed}
use Rattle.checkpoint.specs.inside.Notes.{without_copies_of}
use Rattle.checkpoint.specs.Checkpoint.{thawed}
use Rattle.checkpoint.proofs.FreedCopies.{without_copies_of-frozen, without_frozen_copies-all}
use Rattle.checkpoint.proofs.checkpoint.Checkpoint.release_all.Goals as goal

pub returns-clause-freed : goal.returns-clause-freed
returns-clause-freed g c =
    c.free_copies.ensures
    ∙ ap (without_copies_of c.args.frames.now) c.frozen.ensures.frozen
    ∙ without_copies_of-frozen c.args.frames.now c.args.self.now

pub returns-clause-all : goal.returns-clause-all
returns-clause-all g c = λ are.
    c.free_copies.ensures
    ∙ ap (without_copies_of c.args.frames.now) c.frozen.ensures.frozen
    ∙ without_copies_of-frozen c.args.frames.now c.args.self.now
    ∙ without_frozen_copies-all c.args.frames.now c.args.self.now are

pub returns-clause-backed : goal.returns-clause-backed
returns-clause-backed g c = λ spaces backed.
    AreBacked-frozen c.free_copies.new.frames (thawed c.args.self.now) _ spaces
    (drop_all c.len-self-inside.result c.self.inside.pages.items
    (omega (arith, c.len-self-inside.ensures, c.self.inside.pages.ok.0)))
    (AreBacked-thawed c.args.frames.now c.free_copies.new.frames c.args.self.now spaces
    (ap (λ (m : FramesState). m.frames)
    (c.free_copies.ensures ∙ ap (without_copies_of c.args.frames.now) c.frozen.ensures.frozen
    ∙ without_copies_of-frozen c.args.frames.now c.args.self.now)) backed)
