use Rattle.std.proofs.Common.{◌≡◌, ◌-◌, ◌*◌, ◌%◌, ℕ, List, length, ◌∙◌, ap, arith}
use Rattle.std.proofs.lemmas.List.{with_items_is}
use Rattle.std.specs.Prelude.{nat_eq, slice_range}
use Rattle.std.specs.HashMap.{get}
use Rattle.device.specs.Device.{written}
use Rattle.deferred_disk.specs.Deferred.{first_block, end_block}
use Rattle.deferred_disk.specs.inside.Blocks.{Known}
use Rattle.deferred_disk.proofs.Rooms.{length-flags_of, length-all_rooms, written_in_part}
use Rattle.deferred_disk.proofs.blocks.Blocks.run_with.Goals as goal

pub run_of-requires-clause-to : goal.run_of-requires-clause-to
run_of-requires-clause-to g c =
    let blocks = c.self.inside in
    omega (
      arith,
      c.div_ceil.ensures,
      c.end_of-end.ensures,
      c.requires,
      length-flags_of (get nat_eq blocks.rooms) blocks.count,
      length-all_rooms (get nat_eq blocks.rooms) c.self.invariant.0 blocks.count,
      ap (λ (k : Known). length k.flags) c.self.view_is,
      ap (λ (k : Known). length k.bytes) c.self.view_is,
    )

pub returns : goal.returns
returns g c =
    let blocks = c.self.inside in
    let bytes = c.args.self.now.bytes in
    let at = c.args.at in
    let new = c.args.bytes.now in
    let low = 4096 * first_block at in
    let high = 4096 * end_block at (length new) in
    let put : c.in_ok-new-2.field-0.value.items ≡ written c.in_ok-run.run'.items (at % 4096) new =
    ap (λ v. v.items) c.in_ok-new-2.ensures.ok
    ∙ with_items_is c.in_ok-run.run' c.put.new.content
    (omega (arith, c.put.auto.content, ap length c.deref_mut.ensures.value, c.in_ok-run.run'.ok.0))
    ∙ c.put.ensures ∙ ap (λ (l : List ℕ). written l (at % 4096) new) c.deref_mut.ensures.value in
    let place : at % 4096 ≡ at - low = omega arith in
    let end : c.div_ceil.result ≡ end_block at (length new) = omega (arith, c.div_ceil.ensures, c.end_of-end.ensures) in
    put ∙ ap (λ (l : List ℕ). written l (at % 4096) new) c.in_ok-run.ensures
    ∙ ap (λ n. written (slice_range bytes low (4096 * n)) (at % 4096) new) end
    ∙ ap (λ n. written (slice_range bytes low high) n new) place
    ∙ written_in_part bytes new at low high (omega arith) (omega arith) (omega (
      arith,
      c.requires,
      length-all_rooms (get nat_eq blocks.rooms) c.self.invariant.0 blocks.count,
      ap (λ (k : Known). length k.bytes) c.self.view_is,
    ))
