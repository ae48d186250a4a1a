use Rattle.std.proofs.Common.{◌<◌, arith}
use Rattle.std.proofs.lemmas.List.Elements.{All-from_get_or}
use Rattle.frames.specs.Frames.{FramesState}
use Rattle.frames.proofs.Listing.{IsListed-with_bytes}
use Rattle.frames.proofs.Frames.write.Goals as goal

pub invariant_of-self : goal.invariant_of-self
invariant_of-self g c =
    let s : FramesState = record { frames = c.self.inside.frames; copies = c.self.inside.copies } in
    rw c.write.ensures
    (IsListed-with_bytes s _ _ c.args.frame c.args.at c.args.bytes.now c.self.invariant c.requires.within
    (All-from_get_or (λ byte. byte < 256) c.args.bytes.now 0 (λ k h. omega (arith, c.type_inv.bytes k))))
