use Rattle.std.proofs.Common.{◌*◌, ◌-◌, ◌++◌, ℕ, List, ap, ◌∙◌}
use Rattle.volume_codec.specs.Layout.{GeometryValue, first_home}
use Rattle.log_codec.specs.Log.{LogValue, first_log_home}
use Rattle.machine_log.specs.Opening.{fitted}
use Rattle.crash_table.proofs.Shown.{shown_is}
use Rattle.crash_table.proofs.twin.shown_of.Goals as goal

pub returns : goal.returns
returns g c =
    let first = c.from-first.ensures ∙ c.first_home.ensures.value
    ∙ ap (λ (s : GeometryValue). first_home s.layout s.slots) c.geometry.ensures.value in
    let blocks = c.from-blocks.ensures ∙ c.block_count.ensures.value in
    let log = c.from-log.ensures ∙ c.first_home-2.ensures.value
    ∙ ap (λ (l : LogValue). first_log_home l.ring) c.log.ensures.value in
    shown_is c.args.volume.now c.args.table.now c.args.bytes.now c.to_block-block.result c.in_ok-shown.shown.items
    c.in_ok-homes.homes.items c.extend_from_slice.new.self.items c.from-first.result c.from-blocks.result
    c.from-log.result first blocks log c.to_block-block.ensures c.has_whole_block.ensures c.in_ok-shown.ensures
    (c.in_ok-homes.ensures ∙ ap (fitted (4096 * (c.from-blocks.result - c.from-first.result))) c.behind-homes.ensures)
    (c.in_ok-extend_from_slice.ensures.items
    ∙ ap (λ (l : List ℕ). c.in_ok-shown.shown.items ++ l) c.deref.ensures.value)
