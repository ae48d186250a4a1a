use Rattle.std.proofs.Common.{◌≡◌, ◌<◌, ◌≤◌, Bool, true, false, List, [], ◌∷◌, ◌++◌, length, map, ap}
use Rattle.std.proofs.Common.{◌∙◌, sym, ℕ, subst, arith, refl}
use Rattle.std.specs.Prelude.{is_ok, IsOk}
use Rattle.std.specs.Vec.{vec_capacity}
use Rattle.std.specs.List.{AllByRecursion}
use Rattle.std.proofs.lemmas.Bool.{cond-true}
use Rattle.volume_codec.specs.Descriptor.{AreHomes}
use Rattle.journal.specs.inside.Queued.{queued_of}
use Rattle.journal.specs.WriteOuts.{WriteOutsValue, is_busy, next_batch, begun}
use Rattle.journal.specs.inside.Room.{outs_of, HasRoom}
use Rattle.journal.specs.inside.Sound.{IsSound}
use Rattle.journal.proofs.Alls.{all_back}
use Rattle.journal.proofs.Sounding.{IsFree, not_busy, next_is_batch, begun_sound}
use Rattle.journal.proofs.Rooms.{begun_view, begun_room, popped_last, length-write_outs}
use Rattle.journal.proofs.write_outs.WriteOuts.begin_blocks.Goals.{After-unwrap}
use Rattle.journal.proofs.write_outs.WriteOuts.begin_blocks.Goals as goal

-- a spare list has room for the home blocks of a batch
module _ (g : _) (c : After-unwrap g) where
  room : length c.args.homes.now ≤ vec_capacity c.unwrap.result
  room =
      let slots = c.self.inside.geometry.slots in
      let left = map (λ list. vec_capacity list) c.pop.new.self.items in
      let popped = popped_last (λ list. vec_capacity list) c.self.inside.spare.items c.pop.new.self.items c.pop.result
      c.unwrap.result c.pop.ensures.items c.unwrap.ensures in
      let rooms = subst (AllByRecursion (λ r. slots ≤ r)) popped c.self.invariant.spare_are in
      let own = (all_back (λ r. slots ≤ r) left (vec_capacity c.unwrap.result ∷ []) rooms).0 in
      let few : length c.args.homes.now ≤ slots =
      subst (λ (o : WriteOutsValue). length c.args.homes.now ≤ o.geometry.slots) (sym c.self.view_is)
      c.requires.homes.few in
      omega (arith, own, few)

pub filled-list-requires : goal.filled-list-requires
filled-list-requires g c = room g (goal.at.filled-list-requires g c).After-unwrap

module _ (g : _) (c : goal.After-self-1 g) where
  abbrev homes : List ℕ
  homes = c.args.homes.now

  listed : c.filled-list.result.items ≡ homes
  listed = c.filled-list.ensures.items

  abbrev outs : WriteOutsValue
  outs = outs_of c.self.inside.geometry c.self.inside.next c.self.inside.queued.items c.self.inside.broken

  free : IsFree outs
  free = not_busy outs c.self.invariant.sound (ap is_busy c.self.view_is ∙ c.requires.free)

  sound : IsSound (begun outs c.args.mark homes)
  sound =
      let below = subst (λ (o : WriteOutsValue). AllByRecursion (λ w. w.batch.mark < c.args.mark) o.batches)
      (sym c.self.view_is) c.requires.newest in
      let are =
      subst (λ (o : WriteOutsValue). AreHomes o.geometry homes) (sym c.self.view_is) c.requires.homes in
      begun_sound outs c.args.mark homes c.self.invariant.sound free
      (next_is_batch outs c.args.mark homes c.self.invariant.sound c.requires.some_mark
      (omega (arith, c.ranges.mark.fits)) are) below

  popped : map (λ list. vec_capacity list) c.self.inside.spare.items
      ≡ map (λ list. vec_capacity list) c.pop.new.self.items ++ vec_capacity c.unwrap.result ∷ []
  popped = popped_last (λ list. vec_capacity list) c.self.inside.spare.items c.pop.new.self.items c.pop.result
      c.unwrap.result c.pop.ensures.items c.unwrap.ensures

  pushed : c.push.new.self.items
      ≡ c.self.inside.queued.items
      ++ queued_of c.self.inside.geometry.slots (next_batch outs c.args.mark homes)
      (vec_capacity c.filled-list.result) ∷ []
  pushed =
      let size = c.self.inside.queued.ok.0 in
      let ok : IsOk c.push.result = c.push.ensures.succeeds (omega (
        arith,
        free.fewer,
        length-write_outs c.self.inside.queued.items,
        size,
        c.self.invariant.room,
      )) in
      c.push.ensures.items
      ∙ cond-true (is_ok c.push.result)
      (c.self.inside.queued.items ++ c.new-one.result ∷ []) c.self.inside.queued.items ok
      ∙ ap (λ f. c.self.inside.queued.items ++ f ∷ [])
      (c.new-one.ensures ∙ ap (λ l.
      queued_of c.self.inside.geometry.slots (next_batch outs c.args.mark l) (vec_capacity c.filled-list.result))
      listed)

pub invariant_of-self : goal.invariant_of-self
invariant_of-self g c =
    let has = begun_room (outs g c) c.self.inside.queued.items c.push.new.self.items
    (map (λ list. vec_capacity list) c.self.inside.spare.items) (map (λ list. vec_capacity list) c.pop.new.self.items)
    (vec_capacity c.self.inside.queued) (vec_capacity c.push.new.self) (vec_capacity c.self.inside.spare)
    (vec_capacity c.pop.new.self) c.args.mark (homes g c) (vec_capacity c.unwrap.result)
    (vec_capacity c.filled-list.result)
    c.self.invariant (sound g c) (pushed g c) (popped g c)
    c.filled-list.ensures.room c.push.ensures.capacity
    (omega (arith, c.pop.ensures.capacity)) in
    let same = begun_view (outs g c) c.self.inside.queued.items c.push.new.self.items c.args.mark (homes g c)
    (vec_capacity c.filled-list.result) c.journal_after-self-inside.result refl
    (pushed g c) c.journal_after-self-inside.ensures in
    subst (λ o. HasRoom o c.push.new.self.items (vec_capacity c.push.new.self)
    (map (λ list. vec_capacity list) c.pop.new.self.items) (vec_capacity c.pop.new.self))
    (sym same) has

pub returns : goal.returns
returns g c =
    begun_view (outs g c) c.self.inside.queued.items c.push.new.self.items c.args.mark (homes g c)
    (vec_capacity c.filled-list.result) c.journal_after-self-inside.result refl
    (pushed g c) c.journal_after-self-inside.ensures
    ∙ ap (λ o. begun o c.args.mark (homes g c)) c.self.view_is
