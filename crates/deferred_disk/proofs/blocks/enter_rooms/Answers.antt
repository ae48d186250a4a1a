use Rattle.std.proofs.Common.{◌≡◌, ◌∷◌, [], ◌+◌, ◌*◌, length, get_or, refl, sym, ◌∙◌, ap, subst, arith}
use Rattle.std.proofs.lemmas.List.{get_or_append_left, get_or_at, length_push}
use Rattle.std.specs.Prelude.{nat_eq, slice_range}
use Rattle.std.specs.HashMap.{get, HashMap}
use Rattle.deferred_disk.specs.inside.Blocks.{Enters}
use Rattle.deferred_disk.proofs.Rooms.{enters_more, from_ok}
use Rattle.deferred_disk.proofs.blocks.enter_rooms.Goals.{in-Some, in_default}
use Rattle.deferred_disk.proofs.blocks.enter_rooms.Goals as goal

pub loop-k-preserved : goal.loop-k-preserved
loop-k-preserved g c = elim c.match-pop.branch [
  | in-Some w ↦
      let left = c.pop.new.self.items in
      let items = w.in-Some.ensures.items in
      let share = w.in-Some.share in
      let run = c.args.run.now.value in
      let k = c.loop-k.k in
      let so_far = c.loop-k.invariant in
      let count : length left + (k + 1) ≡ c.len-k-end.result =
      omega (arith, ap length items, length_push left share, so_far.0) in
      let same : share.value ≡ run =
      ap (λ x. x.value) (sym (get_or_at left share [] share (length left) refl)
      ∙ ap (λ l. get_or l (length left) share) (sym items))
      ∙ so_far.1 (length left) share (omega (arith, ap length items, length_push left share)) in
      let done = w.insert.ensures.succeeds (omega (arith, so_far.2, c.loop-k-test.true)) in (
        count,
        λ i d lt. ap (λ x. x.value)
            (sym (get_or_append_left left (share ∷ []) d i lt) ∙ ap (λ l. get_or l i d) (sym items))
            ∙ so_far.1 i d (omega (arith, ap length items, length_push left share, lt)),
        omega (arith, so_far.2, w.insert.ensures.spare, ap (λ m. Rattle.std.specs.HashMap.spare m) w.rooms-is),
        so_far.3,
        subst (λ m. Enters (get nat_eq c.args.rooms.now) (get nat_eq m) c.args.from (k + 1) run.items) (sym w.rooms-is)
            (enters_more (get nat_eq c.args.rooms.now) (get nat_eq c.loop-k.rooms) (get nat_eq w.insert.new.self)
            c.args.from
            k run.items w.new.result so_far.4
            (w.new.ensures ∙ ap (λ v. slice_range v.items (4096 * k) (4096 * k + 4096)) same)
            (from_ok w.insert.result done w.insert.ensures.updates).0),
      )
  | in_default w ↦ absurd (omega (
    arith,
    w.in_default.ensures.cases.0,
    c.loop-k.invariant.0,
    c.loop-k-test.true,
    c.loop-k.shares.ok.0,
  ))
]
