use Rattle.frames.specs.Frames.{FramesState}
use Rattle.frames.proofs.AreFramesLaws.{AreFrames-without_copy}
use Rattle.frames.proofs.Listing.{IsListed-copies}
use Rattle.frames.proofs.Frames.give_copy.Goals as goal

pub invariant_of-self : goal.invariant_of-self
invariant_of-self g c =
    let old : FramesState = record { frames = c.self.inside.frames; copies = c.self.inside.copies } in
    rw c.give.ensures
    (IsListed-copies old _ _ _ c.self.invariant (AreFrames-without_copy old c.args.copy c.self.invariant.are))
