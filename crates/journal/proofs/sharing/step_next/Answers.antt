use Rattle.std.proofs.Common.{◌≡◌, ℕ, Bool, List, Option, Some, None, length, inl, inr, ⊎_elim, refl, sym, ap, ◌∙◌}
use Rattle.std.proofs.Common.{subst, arith, length-set}
use Rattle.std.specs.Prelude.{IsSome, IfNone, slice_index_or}
use Rattle.std.specs.Option.{option_map_or}
use Rattle.std.proofs.lemmas.List.{length-map}
use Rattle.device.proofs.Done.{did_as}
use Rattle.journal.specs.declared.flushed.Flushed.TheVariants.{Broken}
use Rattle.journal.specs.Work.{Nothing, has_done}
use Rattle.journal.specs.WriteOut.{WriteOut, next_stage, work_of, answer_of}
use Rattle.journal.specs.WriteOuts.{shares_syncs, moving}
use Rattle.journal.specs.inside.Sound.{IsWriteOut}
use Rattle.journal.specs.inside.Queued.{QueuedWriteOut}
use Rattle.journal.specs.inside.Room.{write_outs_in, IsJoint}
use Rattle.journal.proofs.Alls.{all_map}
use Rattle.journal.proofs.Rooms.{lone_there, lone_mover, lone_own, lone_batches, rooms-set}
use Rattle.journal.proofs.Joined.{blank, joint_work, joint_batches, joint_rooms}
use Rattle.journal.proofs.sharing.step_next.Goals.{After-index_mut}
use Rattle.journal.proofs.sharing.step_next.Goals as goal

-- the next step is that of the one at its place
mover : (g : _) (c : After-index_mut g)
    → moving (shares_syncs c.args.geometry.now.layout) (write_outs_in c.args.queued.now.items)
    ≡ Some c.index_mut.result.now.write_out
mover g c = lone_mover (shares_syncs c.args.geometry.now.layout) c.args.queued.now.items c.args.place c.in-Some.at
    c.index_mut.result.now c.in-Some.is c.index_mut.ensures.value c.requires.lone

pub step-requires-clause-under_way : goal.step-requires-clause-under_way
step-requires-clause-under_way g c = lone_own (shares_syncs c.args.geometry.now.layout) c.args.queued.now.items
    c.args.place c.in-Some.at c.index_mut.result.now c.in-Some.is c.index_mut.ensures.value c.requires.lone
    c.args.geometry.now c.requires.each

pub share_sync-requires-clause-going : goal.share_sync-requires-clause-going
share_sync-requires-clause-going g c = all_map {P = IsWriteOut c.args.geometry.now}
    {Q = λ w. IsSome (next_stage w)} (λ w own. own.going) (write_outs_in c.args.queued.now.items) c.requires.each

-- ---- of one alone

pub returns-in-Some-clause-answer : goal.returns-in-Some-clause-answer
returns-in-Some-clause-answer g c = ⊎_elim
    (λ is. inl (is ∙ sym (ap (λ (o : Option WriteOut). option_map_or answer_of o Broken)
    (mover g (goal.at.returns-in-Some-clause-answer g c).After-index_mut))))
    (λ is. inr is) c.step.ensures.answer

pub returns-in-Some-clause-batches : goal.returns-in-Some-clause-batches
returns-in-Some-clause-batches g c = lone_batches (shares_syncs c.args.geometry.now.layout) c.args.queued.now.items
    c.in-Some.at c.index_mut.result.now c.step.new.self c.step.result c.index_mut.ensures.value
    (lone_there (shares_syncs c.args.geometry.now.layout) c.args.queued.now.items c.args.place c.in-Some.at
    c.index_mut.result.now c.in-Some.is c.index_mut.ensures.value c.requires.lone)
    c.step.ensures.value c.step.ensures.sane

pub returns-in-Some-clause-rooms : goal.returns-in-Some-clause-rooms
returns-in-Some-clause-rooms g c = rooms-set c.args.queued.now.items c.in-Some.at c.index_mut.result.now c.step.new.self
    c.index_mut.ensures.value (ap (λ (x : QueuedWriteOut). x.room) c.step.ensures.value)

pub returns-in-Some-clause-count : goal.returns-in-Some-clause-count
returns-in-Some-clause-count g c = length-set c.args.queued.now.items c.in-Some.at c.step.new.self

pub returns-in-Some-clause-did : goal.returns-in-Some-clause-did
returns-in-Some-clause-did g c = did_as g.D.Device
    (sym (ap (λ (o : Option WriteOut). option_map_or (work_of c.args.geometry.now c.args.bytes.now) o Nothing)
    (mover g (goal.at.returns-in-Some-clause-did g c).After-index_mut))) refl c.step.ensures.did

-- ---- of all

-- a sync is what the next step is
joint_of : (shares : Bool) (batches : List WriteOut) (place : Option ℕ) → place ≡ None
    → IfNone place (IsJoint shares batches)
    → IsJoint shares batches
joint_of shares batches place is joint = subst (λ (o : Option ℕ). IfNone o (IsJoint shares batches)) is joint

pub returns-in-None-clause-answer : goal.returns-in-None-clause-answer
returns-in-None-clause-answer g c = ⊎_elim
    (λ is. inl (is ∙ sym (ap (λ (o : Option WriteOut). option_map_or answer_of o Broken)
    ((joint_of (shares_syncs c.args.geometry.now.layout) (write_outs_in c.args.queued.now.items) c.args.place
    c.in-None.is c.requires.joint).mover blank))))
    (λ is. inr is) (c.share_sync.ensures.answer blank)

pub returns-in-None-clause-batches : goal.returns-in-None-clause-batches
returns-in-None-clause-batches g c = joint_batches (shares_syncs c.args.geometry.now.layout) c.args.queued.now.items
    c.share_sync.new.queued.items (has_done c.share_sync.result)
    (joint_of (shares_syncs c.args.geometry.now.layout) (write_outs_in c.args.queued.now.items) c.args.place
    c.in-None.is c.requires.joint) c.share_sync.ensures.queued

pub returns-in-None-clause-rooms : goal.returns-in-None-clause-rooms
returns-in-None-clause-rooms g c = joint_rooms c.args.queued.now.items
    c.share_sync.new.queued.items (has_done c.share_sync.result) c.share_sync.ensures.queued

pub returns-in-None-clause-count : goal.returns-in-None-clause-count
returns-in-None-clause-count g c = omega (
  arith,
  ap length (joint_rooms c.args.queued.now.items c.share_sync.new.queued.items (has_done c.share_sync.result)
      c.share_sync.ensures.queued),
  length-map c.args.queued.now.items (λ (one : QueuedWriteOut). one.room),
  length-map c.share_sync.new.queued.items (λ (one : QueuedWriteOut). one.room),
)

pub returns-in-None-clause-did : goal.returns-in-None-clause-did
returns-in-None-clause-did g c =
    let joint = joint_of (shares_syncs c.args.geometry.now.layout) (write_outs_in c.args.queued.now.items) c.args.place
    c.in-None.is c.requires.joint in
    did_as g.D.Device
    (sym (ap (λ (o : Option WriteOut). option_map_or (work_of c.args.geometry.now c.args.bytes.now) o Nothing)
    (joint.mover blank)
    ∙ joint_work c.args.geometry.now c.args.bytes.now
    (slice_index_or (write_outs_in c.args.queued.now.items) 0 blank) (joint.syncs blank)))
    refl c.share_sync.ensures.did
