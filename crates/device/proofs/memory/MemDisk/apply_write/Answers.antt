use Rattle.std.proofs.Common.{◌≡◌, ◌+◌, ◌≤◌, ℕ, List, length, ◌∙◌, sym, ap, subst, arith}
use Rattle.std.proofs.lemmas.List.{with_items_is}
use Rattle.device.specs.Device.{written}
use Rattle.device.specs.Memory.{DiskChange, Recorded, seen_of}
use Rattle.device.specs.inside.Logged.{changes_of}
use Rattle.device.specs.inside.Replay.{IsReplay}
use Rattle.device.proofs.Ranges.{length-written}
use Rattle.device.proofs.Outcomes.{on_ok}
use Rattle.device.proofs.Replay.{replay_write}
use Rattle.device.proofs.memory.MemDisk.apply_write.Goals as goal

pub invariant_of-self-2 : goal.invariant_of-self-2
invariant_of-self-2 g c =
    let fields = c.self.inside in
    let was = fields.content.items in
    let more = on_ok c.log_write.result (sym c.is_err.ensures.value ∙ c.if-is_err.false) c.log_write.ensures.ok in
    let seen : length (seen_of c.args.self.now) ≡ length was =
    ap (λ (d : Recorded). length (seen_of d)) (sym c.self.view_is) ∙ ap length (sym c.self.invariant.replayed) in
    let fits : c.args.at + length c.args.bytes.now ≤ length was = omega (arith, c.requires, seen) in
    let put_is : c.put.new.content ≡ written was c.args.at c.args.bytes.now = ◌∙◌ {A = List ℕ} c.put.ensures
    (ap (λ (l : List ℕ). written l c.args.at c.args.bytes.now) c.deref_mut.ensures.value) in
    let long = length-written was c.args.at c.args.bytes.now fits in
    let items = ◌∙◌ {A = List ℕ} {b = c.put.new.content} (with_items_is fields.content c.put.new.content
    (omega (arith, ap length put_is, long, fields.content.ok.0))) put_is in
    subst (λ (l : List ℕ). IsReplay fields.first.items (changes_of c.log_write.new.log.items) l fields.synced)
    (sym items)
    (subst (λ (l : List DiskChange).
    IsReplay fields.first.items l (written was c.args.at c.args.bytes.now) fields.synced) (sym more)
    (replay_write fields.first.items was
    (changes_of fields.log.items) fields.synced c.args.at c.args.bytes.now fits c.self.invariant))
