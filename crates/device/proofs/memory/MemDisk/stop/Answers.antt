use Rattle.std.proofs.Common.{◌≡◌, ◌-◌, ◌+◌, ◌^◌, ℕ, List, [], length, min, sym, ◌∙◌, ap, subst, arith}
use Rattle.std.proofs.lemmas.List.{with_items_is}
use Rattle.device.specs.Device.{Only}
use Rattle.device.specs.Memory.{Recorded, seen_of, may_leave_of, is_unsynced, chosen_from, after_stop}
use Rattle.device.specs.declared.log.Logged.{Logged}
use Rattle.device.specs.inside.Logged.{changes_of}
use Rattle.device.specs.inside.Replay.{since_sync}
use Rattle.device.proofs.Replay.{length-changes_of, length-chosen_from, chosen_is_left}
use Rattle.device.proofs.Replay.{left_is_chosen, only_first, stopped_of}
use Rattle.device.proofs.memory.MemDisk.stop.Goals as goal

pub choose-requires-clause-since : goal.choose-requires-clause-since
choose-requires-clause-since g c =
    subst (λ (l : List (Logged g.row.A.Denot)). c.self.inside.synced + since_sync (changes_of l) ≡ length l)
    (sym c.deref.ensures.value)
    (c.self.invariant.since ∙ length-changes_of c.self.inside.log.items)

pub returns-clause-stopped : goal.returns-clause-stopped
returns-clause-stopped g c =
    let fields = c.self.inside in
    let changes = changes_of fields.log.items in
    let content_is = c.self.invariant.replayed in
    let before_is = c.deref_mut.ensures.value in
    let now : Recorded = record {
      first = fields.first.items;
      changes = changes;
      start = fields.start;
      calls = fields.calls;
      faults = fields.faults;
    } in
    let same : length c.args.choice.now ≡ length fields.content.items =
    c.requires ∙ ap (λ (d : Recorded). length (seen_of d)) (sym c.self.view_is) ∙ ap length (sym content_is) in
    let chosen : c.choose.new.content ≡ chosen_from (is_unsynced changes) 0 c.args.choice.now fields.content.items =
    ◌∙◌ {A = List ℕ} c.choose.ensures (◌∙◌ {A = List ℕ} (ap (λ (l : List (Logged g.row.A.Denot)).
    chosen_from (is_unsynced (changes_of l)) 0 c.args.choice.now c.deref_mut.result.now) c.deref.ensures.value)
    (ap (chosen_from (is_unsynced changes) 0 c.args.choice.now) before_is)) in
    let copied : c.copy_from_slice.new.self.items ≡ c.choose.new.content =
    ◌∙◌ {A = List ℕ} c.copy_from_slice.ensures.items
    (◌∙◌ {A = List ℕ} c.deref-2.ensures.value (with_items_is fields.content c.choose.new.content (omega (
      arith,
      ap (λ (l : List ℕ). length l) chosen,
      length-chosen_from (is_unsynced changes) 0 c.args.choice.now fields.content.items same,
      fields.content.ok.0,
    )))) in
    let none : changes_of c.clear.new.self.items ≡ [] = ap changes_of c.clear.ensures.items in
    let start_is : c.saturating_add-self-inside.result ≡ min (fields.start + length changes) (2 ^ 64 - 1) =
    ◌∙◌ {A = ℕ} c.saturating_add-self-inside.ensures (ap (λ n. min (fields.start + n) (2 ^ 64 - 1))
    (c.len.ensures ∙ fields.log.ok.0 ∙ sym (length-changes_of fields.log.items))) in
    stopped_of now c.args.choice.now c.copy_from_slice.new.self.items
    (changes_of c.clear.new.self.items) c.saturating_add-self-inside.result
    (copied ∙ chosen ∙ ap (chosen_from (is_unsynced changes) 0 c.args.choice.now) content_is) none start_is
    ∙ ap (λ (d : Recorded). after_stop d c.args.choice.now) c.self.view_is

pub returns-clause-left : goal.returns-clause-left
returns-clause-left g c =
    let now = c.args.self.now in
    subst (λ (new : Recorded). may_leave_of now (seen_of new)) (sym (returns-clause-stopped g c))
    (chosen_is_left now.first now.changes c.args.choice.now c.requires)

pub returns-clause-chosen : goal.returns-clause-chosen
returns-clause-chosen g c left =
    let now = c.args.self.now in
    ap seen_of (returns-clause-stopped g c) ∙ left_is_chosen now.first now.changes c.args.choice.now left

pub returns-clause-only : goal.returns-clause-only
returns-clause-only g c =
    subst (λ (new : Recorded). Only (may_leave_of new) (seen_of new)) (sym (returns-clause-stopped g c)) (only_first _)
