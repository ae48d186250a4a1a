use Rattle.std.proofs.Common.{◌-◌, ◌*◌, ◌+◌, ◌/◌, Err, ap, ◌∙◌, arith}
use Rattle.std.proofs.lemmas.Result.{err_from_is_err_and, on_ok_weaker}
use Rattle.volume_codec.specs.Files.{asked_by, lengths_asked}
use Rattle.volume_codec.specs.Layout.{GeometryValue, journals_of, lengths_blocks, first_home}
use Rattle.volume_codec.specs.Super.{block_count, geometry_of}
use Rattle.volume_codec.proofs.Layouts.{first_home-within}
use Rattle.volume_codec.proofs.Places.{fits_geometry}
use Rattle.recovery.specs.inside.Erasing.{AreClosed}
use Rattle.recovery.proofs.Formatted.{laid}
use Rattle.recovery.proofs.Writing.{overwritten_less, overwritten_then, overwritten_wider}
use Rattle.recovery.proofs.formatting.lay_out.Goals as goal

pub empty_homes-requires : goal.empty_homes-requires
empty_homes-requires g c = record {
  long =
      omega (arith, c.requires.long, ap (λ (h : GeometryValue). h.blocks) c.geometry-geometry.ensures.value);
  few = c.requires.few;
}

pub close_gates-requires : goal.close_gates-requires
close_gates-requires g c = omega (
  arith,
  c.requires.long,
  ap (λ (h : GeometryValue). h.blocks) c.geometry-geometry.ensures.value,
  c.in_ok-empty_homes.ensures.overwrites.kept.len,
)

pub returns-clause-emptied : goal.returns-clause-emptied
returns-clause-emptied g c = λ honest.
    let honest_1 = c.in_ok-empty_homes.ensures.overwrites.kept.honest.1 honest in
    on_ok_weaker c.close_gates.result
    (λ (closed : AreClosed c.geometry-geometry.result.slots (journals_of c.geometry-geometry.result.layout)
    (g.D.Device.seen c.empty_homes.new.device) (g.D.Device.seen c.close_gates.new.device)).
    laid c.args.table.now c.geometry-geometry.result (lengths_asked (asked_by c.args.files.now)) _ _ _
    c.geometry-geometry.ensures.fits c.requires.long c.geometry-geometry.ensures.value
    (c.in_ok-empty_homes.ensures.emptied honest) closed)
    (c.close_gates.ensures.closed honest_1)

pub returns-in_err-empty_homes-clause-overwrites : goal.returns-in_err-empty_homes-clause-overwrites
returns-in_err-empty_homes-clause-overwrites g c =
    let table = c.args.table.now in
    let blocks = ap (λ (h : GeometryValue). h.blocks) c.geometry-geometry.ensures.value in
    let homes = ap (λ (h : GeometryValue). first_home h.layout h.slots) c.geometry-geometry.ensures.value in
    let lengths = ap (λ (h : GeometryValue). lengths_blocks h.layout) c.geometry-geometry.ensures.value in
    let room = first_home-within (geometry_of table) (fits_geometry table c.geometry-geometry.ensures.fits) in
    let p = err_from_is_err_and c.from_residual.result c.from_residual.ensures.1 in
    overwritten_less (journals_of table.layout) c.from_residual.result (p.1 ∙ ap Err p.2)
    (overwritten_wider c.in_err-empty_homes.ensures.overwrites 4096 (4096 * block_count table - 4096)
    ((block_count table - first_home table.layout table.slots + 7) / 8 + lengths_blocks table.layout)
    (omega (arith, homes)) (omega (arith, blocks, room, homes)) (omega (arith, blocks, homes, lengths)))

pub returns-clause-overwrites : goal.returns-clause-overwrites
returns-clause-overwrites g c =
    let table = c.args.table.now in
    let blocks = ap (λ (h : GeometryValue). h.blocks) c.geometry-geometry.ensures.value in
    let homes = ap (λ (h : GeometryValue). first_home h.layout h.slots) c.geometry-geometry.ensures.value in
    let lengths = ap (λ (h : GeometryValue). lengths_blocks h.layout) c.geometry-geometry.ensures.value in
    let journals = ap (λ (h : GeometryValue). journals_of h.layout) c.geometry-geometry.ensures.value in
    let room = first_home-within (geometry_of table) (fits_geometry table c.geometry-geometry.ensures.fits) in
    overwritten_then
    (overwritten_wider c.in_ok-empty_homes.ensures.overwrites 4096 (4096 * block_count table - 4096)
    ((block_count table - first_home table.layout table.slots + 7) / 8 + lengths_blocks table.layout)
    (omega (arith, homes)) (omega (arith, blocks, room, homes)) (omega (arith, blocks, homes, lengths)))
    (overwritten_wider c.close_gates.ensures.overwrites 4096 (4096 * block_count table - 4096)
    (journals_of table.layout) (omega arith) (omega (arith, blocks)) journals)
