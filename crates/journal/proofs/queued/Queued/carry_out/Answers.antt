use Rattle.std.proofs.Common.{◌≡◌, ℕ, ◌+◌, ◌<◌, Some, length, ap, ◌∙◌, subst, sym, arith}
use Rattle.volume_codec.specs.Layout.{GeometryValue, IsGeometry, descriptor_block, descriptor_blocks}
use Rattle.journal.specs.WriteOut.{WriteOut, IsBatch, next_stage}
use Rattle.journal.specs.declared.stage.Stage.TheVariants.{Recording, Describing}
use Rattle.journal.specs.inside.Queued.{QueuedWriteOut}
use Rattle.journal.proofs.Places.{descriptor-below}
use Rattle.journal.proofs.Stages.{recording_within, describing_within, applying_within}
use Rattle.journal.proofs.queued.Queued.carry_out.Goals as goal

pub record_block-block-requires-clause-within : goal.record_block-block-requires-clause-within
record_block-block-requires-clause-within g c =
    let w = c.args.self.now.write_out in
    let at : next_stage w ≡ Some (Recording c.in-Recording.slot) = c.requires.stage ∙ ap Some c.in-Recording.is in
    let lt : c.in-Recording.slot < length w.batch.homes =
    recording_within (length w.batch.homes) w.described w.steps c.in-Recording.slot at in
    let inside : c.in-Recording.slot < length c.self.inside.homes.items =
    subst (λ f. c.in-Recording.slot < length f.write_out.batch.homes) (sym c.self.view_is) lt in
    omega (arith, inside, c.self.invariant.1.is_batch.described.homes.few)

-- a block of the descriptor, and where it lies
described : (geometry : GeometryValue) (w : WriteOut) (i : ℕ) → w.described ≡ descriptor_blocks geometry.slots
    → next_stage w ≡ Some (Describing i) → i < descriptor_blocks geometry.slots
described geometry w i same at =
    subst (λ d. i < d) same (describing_within (length w.batch.homes) w.described w.steps i at)

below : (geometry : GeometryValue) (w : WriteOut) (i first : ℕ) → IsGeometry geometry → IsBatch geometry w.batch
    → i < descriptor_blocks geometry.slots → first ≡ descriptor_block geometry.slots w.batch.journal
    → first + i < geometry.blocks
below geometry w i first is batch lt place =
    omega (
      arith,
      place,
      descriptor-below geometry.layout geometry.slots w.batch.journal i batch.there lt,
      is.some_homes,
    )

placed : (geometry : GeometryValue) (inside self : QueuedWriteOut) (i first : ℕ) → inside ≡ self → IsGeometry geometry
    → IsBatch geometry self.write_out.batch → self.write_out.described ≡ descriptor_blocks geometry.slots
    → next_stage self.write_out ≡ Some (Describing i)
    → first ≡ descriptor_block geometry.slots inside.write_out.batch.journal → first + i < geometry.blocks
placed geometry inside self i first view_is is batch same at place =
    below geometry self.write_out i first is batch (described geometry self.write_out i same at)
    (place ∙ ap (λ (f : QueuedWriteOut). descriptor_block geometry.slots f.write_out.batch.journal) view_is)

pub overflow_add-block : goal.overflow_add-block
overflow_add-block g c =
    let at = c.descriptor_block.ensures in
    let low = placed c.args.geometry.now _ c.args.self.now c.in-Describing.index c.descriptor_block.result
    c.self.view_is at.geometry c.requires.batch c.requires.described
    (c.requires.stage ∙ ap Some c.in-Describing.is) at.value in
    omega (arith, low, at.geometry.few_blocks)

pub prove-unreachable-requires-in-Describing : goal.prove-unreachable-requires-in-Describing
prove-unreachable-requires-in-Describing g c =
    let at = c.descriptor_block.ensures in
    let low = placed c.args.geometry.now _ c.args.self.now c.in-Describing.index c.descriptor_block.result
    c.self.view_is at.geometry c.requires.batch c.requires.described
    (c.requires.stage ∙ ap Some c.in-Describing.is) at.value in
    omega (arith, low, c.block_count-in-Describing.ensures.value, c.if-prove-2.true)

pub write_descriptor-bytes-requires-clause-within : goal.write_descriptor-bytes-requires-clause-within
write_descriptor-bytes-requires-clause-within g c =
    described c.args.geometry.now c.args.self.now.write_out c.in-Describing.index c.requires.described
    (c.requires.stage ∙ ap Some c.in-Describing.is)

pub home_at-home-requires : goal.home_at-home-requires
home_at-home-requires g c =
    let w = c.args.self.now.write_out in
    applying_within (length w.batch.homes) w.described w.steps c.in-Applying.slot
    (c.requires.stage ∙ ap Some c.in-Applying.is)
