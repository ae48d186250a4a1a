use Rattle.std.proofs.Common.{refl, arith}
use Rattle.frames.proofs.AreFramesLaws.{AreFrames-all_free}
use Rattle.frames.proofs.Listing.{IsListed-all_free}
use Rattle.frames.proofs.Frames.new.Goals as goal

pub invariant_of-result : goal.invariant_of-result
invariant_of-result g c =
    rw (c.in_ok-new.ensures, c.in_ok-new-2.ensures, c.in_ok-new-4.ensures)
    (IsListed-all_free _ c.args.frames _ refl (omega arith)
    (AreFrames-all_free c.args.frames c.args.copies))
