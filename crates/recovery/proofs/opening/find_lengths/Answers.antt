use Rattle.std.proofs.Common.{◌≡◌, ap, subst, sym, ◌∙◌, arith}
use Rattle.std.specs.List.{AllByRecursion}
use Rattle.std.proofs.lemmas.Result.{err_from_is_err_and}
use Rattle.volume_codec.specs.Layout.{GeometryValue, lengths_blocks, first_home}
use Rattle.volume_codec.specs.Recovery.{recovered_block}
use Rattle.journal.specs.WriteOut.{IsBatch}
use Rattle.recovery.specs.inside.Reading.{batches_of}
use Rattle.volume_codec.proofs.Layouts.{first_home-within}
use Rattle.recovery.proofs.RecoveredLengths.{found_said, refuses_stored}
use Rattle.recovery.proofs.opening.find_lengths.Goals.{After-find_block}
use Rattle.recovery.proofs.opening.find_lengths.Goals as goal

pub find_block-requires-clause-within : goal.find_block-requires-clause-within
find_block-requires-clause-within g c = omega (
  arith,
  c.first_home.ensures.value,
  first_home-within c.geometry-geometry.result c.first_home.ensures.geometry,
)

pub find_block-requires-clause-carry : goal.find_block-requires-clause-carry
find_block-requires-clause-carry g c =
    let P : GeometryValue → Type 0 = λ h. AllByRecursion (IsBatch h) (batches_of c.args.found.now) in
    subst P (sym c.geometry-geometry.ensures.value) c.requires.carry

pub read_lengths_at-requires : goal.read_lengths_at-requires
read_lengths_at-requires g c =
    let blocks = ap (λ (h : GeometryValue). h.blocks) c.geometry-geometry.ensures.value in
    omega (arith, blocks, c.find_block.ensures.within, c.requires.long)

-- the lengths are in one block, and it is the one that is read
in_block : (g : _) (c : After-find_block g) → (lengths_blocks c.args.table.now.layout ≡ 1)
    × (c.find_block.result ≡ recovered_block c.args.table.now.slots (batches_of c.args.found.now)
    (first_home c.args.table.now.layout c.args.table.now.slots))
in_block g c =
    let block = ap (λ (h : GeometryValue). lengths_blocks h.layout) c.geometry-geometry.ensures.value in (
      omega (
        arith,
        block,
        ap lengths_blocks c.layout.ensures.value,
        c.lengths_blocks.ensures.value,
        c.lengths_blocks.ensures.small,
      ),
      c.find_block.ensures.value ∙ ap (recovered_block c.geometry-geometry.result.slots
          (batches_of c.args.found.now)) c.first_home.ensures.value ∙ ap (λ (h : GeometryValue). recovered_block h.slots
          (batches_of c.args.found.now) (first_home h.layout h.slots)) c.geometry-geometry.ensures.value,
    )

pub returns-in_err-lengths-clause-refused : goal.returns-in_err-lengths-clause-refused
returns-in_err-lengths-clause-refused g c = λ honest volume.
    let p = err_from_is_err_and c.from_residual.result c.from_residual.ensures.1 in
    let block = in_block g (goal.at.returns-in_err-lengths-clause-refused g c).After-find_block in
    rw (p.1, p.2) (refuses_stored c.args.table.now (batches_of c.args.found.now) _ _ _
    (omega (arith, c.requires.long)) (omega (arith, block.0)) block.1 volume (c.in_err-lengths.ensures.refused honest))

pub returns-in_err-lengths-clause-most : goal.returns-in_err-lengths-clause-most
returns-in_err-lengths-clause-most g c = λ small.
    let block = in_block g (goal.at.returns-in_err-lengths-clause-most g c).After-find_block in
    omega (arith, small, block.0, c.in_err-lengths.ensures.calls)

pub returns-clause-lengths : goal.returns-clause-lengths
returns-clause-lengths g c = λ honest.
    let block = in_block g (goal.at.returns-clause-lengths g c).After-find_block in
    found_said c.args.table.now (batches_of c.args.found.now) _ _ _ c.geometry-geometry.ensures.fits
    (omega (arith, block.0)) block.1 (c.in_ok-lengths.ensures.said honest)

pub returns-clause-fixed : goal.returns-clause-fixed
returns-clause-fixed g c = λ none.
    let block = in_block g (goal.at.returns-clause-fixed g c).After-find_block in
    absurd (omega (arith, none, block.0))

pub returns-clause-calls : goal.returns-clause-calls
returns-clause-calls g c = λ small.
    let block = in_block g (goal.at.returns-clause-calls g c).After-find_block in
    omega (arith, small, block.0, c.in_ok-lengths.ensures.calls)

pub returns-clause-most : goal.returns-clause-most
returns-clause-most g c = λ small.
    let block = in_block g (goal.at.returns-clause-most g c).After-find_block in
    omega (arith, small, block.0, c.in_ok-lengths.ensures.calls)
