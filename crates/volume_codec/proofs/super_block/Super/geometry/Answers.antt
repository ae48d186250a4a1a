use Rattle.std.proofs.Common.{ℕ, sym, subst}
use Rattle.volume_codec.specs.Layout.{IsGeometry}
use Rattle.volume_codec.proofs.Places.{fits_geometry}
use Rattle.volume_codec.proofs.super_block.Super.geometry.Goals as goal

pub new-requires : goal.new-requires
new-requires g c =
    let P : ℕ → Type 0 = λ n.
    IsGeometry (record { layout = c.self.inside.layout; slots = c.self.inside.slots; blocks = n }) in
    subst P (sym c.self.invariant.blocks_are) (fits_geometry _ c.self.invariant.fits)
