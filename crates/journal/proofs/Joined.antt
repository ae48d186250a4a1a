-- The list of write-outs that the code keeps, while each of them makes its step.
use Rattle.std.proofs.Common.{◌≡◌, ℕ, zero, suc, ◌<◌, ◌≤◌, Bool, true, false, cond, List, [], ◌∷◌, length}
use Rattle.std.proofs.Common.{get_or, set, map, Option, Some, None, refl, sym, ap, subst, ◌∙◌, arith}
use Rattle.std.specs.Prelude.{IsSome, IfNone}
use Rattle.std.specs.List.{AllByRecursion}
use Rattle.std.specs.Option.{option_map, option_map_or, option_and_then}
use Rattle.std.proofs.lemmas.Bool.{cond-false, cond_both}
use Rattle.volume_codec.specs.Layout.{GeometryValue}
use Rattle.journal.specs.Stage.{may_share}
use Rattle.journal.specs.Work.{Sync, Nothing, work_at}
use Rattle.journal.specs.WriteOut.{WriteOut, next_stage, advanced_of, record_at, next_record, next_home, work_of}
use Rattle.journal.specs.WriteOuts.{WriteOutsValue, shares_syncs, is_at, moving, moved, outs_moving}
use Rattle.journal.specs.WriteOuts.{outs_record, outs_home}
use Rattle.journal.specs.inside.Queued.{QueuedWriteOut, queued_advanced}
use Rattle.journal.specs.inside.Room.{write_outs_in, rooms_in, outs_of, IsLone, IsJoint}
use Rattle.journal.proofs.Rooms.{lone_mover}
use Rattle.journal.proofs.Tying.{shared_next}

-- the first n have made it
abbrev pub advanced_to : ℕ → List QueuedWriteOut → List QueuedWriteOut
advanced_to zero queued = queued
advanced_to (suc n) [] = []
advanced_to (suc n) (one ∷ queued) = queued_advanced one ∷ advanced_to n queued

pub length-advanced_to : (n : ℕ) (queued : List QueuedWriteOut) → length (advanced_to n queued) ≡ length queued
length-advanced_to zero queued = refl
length-advanced_to (suc n) [] = refl
length-advanced_to (suc n) (one ∷ queued) = ap suc (length-advanced_to n queued)

pub next_one : (n : ℕ) (queued : List QueuedWriteOut) (d : QueuedWriteOut)
    → get_or (advanced_to n queued) n d ≡ get_or queued n d
next_one zero queued d = refl
next_one (suc n) [] d = refl
next_one (suc n) (one ∷ queued) d = next_one n queued d

pub advanced_more : (n : ℕ) (queued : List QueuedWriteOut) (d one : QueuedWriteOut) → n < length queued
    → one ≡ queued_advanced (get_or queued n d) → set (advanced_to n queued) n one ≡ advanced_to (suc n) queued
advanced_more n [] d one lt is = absurd (omega (arith, lt))
advanced_more zero (x ∷ queued) d one lt is = ap (λ (y : QueuedWriteOut). y ∷ queued) is
advanced_more (suc n) (x ∷ queued) d one lt is =
    ap (λ (l : List QueuedWriteOut). queued_advanced x ∷ l) (advanced_more n queued d one (omega (arith, lt)) is)

pub advanced_whole : (n : ℕ) (queued : List QueuedWriteOut) → length queued ≤ n
    → advanced_to n queued ≡ map queued_advanced queued
advanced_whole zero [] le = refl
advanced_whole zero (one ∷ queued) le = absurd (omega (arith, le))
advanced_whole (suc n) [] le = refl
advanced_whole (suc n) (one ∷ queued) le =
    ap (λ (l : List QueuedWriteOut). queued_advanced one ∷ l) (advanced_whole n queued (omega (arith, le)))

-- one of them goes on
pub going_at : (queued : List QueuedWriteOut) (n : ℕ) (d : QueuedWriteOut) → n < length queued
    → AllByRecursion (λ w. IsSome (next_stage w)) (write_outs_in queued)
    → IsSome (next_stage (get_or queued n d).write_out)
going_at [] n d lt all = absurd (omega (arith, lt))
going_at (one ∷ queued) zero d lt all = all.0
going_at (one ∷ queued) (suc n) d lt all = going_at queued n d (omega (arith, lt)) all.1

pub write_outs-advanced : (queued : List QueuedWriteOut)
    → write_outs_in (map queued_advanced queued) ≡ map advanced_of (write_outs_in queued)
write_outs-advanced [] = refl
write_outs-advanced (one ∷ queued) =
    ap (λ (l : List WriteOut). advanced_of one.write_out ∷ l) (write_outs-advanced queued)

pub rooms-advanced : (queued : List QueuedWriteOut) → rooms_in (map queued_advanced queued) ≡ rooms_in queued
rooms-advanced [] = refl
rooms-advanced (one ∷ queued) = ap (λ (l : List ℕ). one.room ∷ l) (rooms-advanced queued)

-- ---- a sync of all

pub joint_batches : (shares : Bool) (queued queued' : List QueuedWriteOut) (done : Bool)
    → IsJoint shares (write_outs_in queued) → queued' ≡ cond done (map queued_advanced queued) queued
    → write_outs_in queued' ≡ cond done (moved shares (write_outs_in queued)) (write_outs_in queued)
joint_batches shares queued queued' done joint are = ap write_outs_in are ∙ by done
  where
    by : (b : Bool) → write_outs_in (cond b (map queued_advanced queued) queued)
        ≡ cond b (moved shares (write_outs_in queued)) (write_outs_in queued)
    by true = write_outs-advanced queued ∙ sym joint.after
    by false = refl

pub joint_rooms : (queued queued' : List QueuedWriteOut) (done : Bool)
    → queued' ≡ cond done (map queued_advanced queued) queued → rooms_in queued' ≡ rooms_in queued
joint_rooms queued queued' done are = ap rooms_in are ∙ by done
  where
    by : (b : Bool) → rooms_in (cond b (map queued_advanced queued) queued) ≡ rooms_in queued
    by true = rooms-advanced queued
    by false = refl

-- any write-out
abbrev pub blank : WriteOut
blank = record { batch = record { journal = 0; mark = 0; homes = [] }; described = 0; steps = 0 }

-- one that shares a sync asks for it, and is given no record
pub joint_work : (g : GeometryValue) (bytes : List ℕ) (w : WriteOut) → is_at may_share w ≡ true
    → work_of g bytes w ≡ Sync
joint_work g bytes w =
    shared_next (λ o. option_map_or (work_at g w.batch bytes) o Nothing ≡ Sync) refl refl refl w

pub joint_record : (w : WriteOut) → is_at may_share w ≡ true → next_record w ≡ None
joint_record = shared_next (λ o. option_and_then record_at o ≡ None) refl refl refl

pub joint_home : (w : WriteOut) → is_at may_share w ≡ true → next_home w ≡ None
joint_home w joins = ap (option_map (λ k. get_or w.batch.homes k 0)) (joint_record w joins)

-- ---- the record that the next step writes

-- what is said of the one at a place of the code's list, which makes the step alone
pub of_lone : (f : WriteOut → Option ℕ) (geometry : GeometryValue) (next : ℕ) (queued : List QueuedWriteOut)
    (broken : Bool) (outs : WriteOutsValue) (at : ℕ) (one : QueuedWriteOut) → outs_of geometry next queued broken ≡ outs
    → broken ≡ false → one ≡ get_or queued at one → IsLone (shares_syncs outs.geometry.layout) outs.batches at
    → cond outs.broken None (option_and_then f (outs_moving outs)) ≡ f one.write_out
of_lone f geometry next queued broken outs at one is whole here lone =
    subst (λ (o : WriteOutsValue). cond o.broken None (option_and_then f (outs_moving o)) ≡ f one.write_out) is
    (cond-false broken None (option_and_then f (outs_moving (outs_of geometry next queued broken))) whole
    ∙ ap (option_and_then f) (lone_mover (shares_syncs geometry.layout) queued (Some at) at one refl here
    (subst (λ (o : WriteOutsValue). IsLone (shares_syncs o.geometry.layout) o.batches at) (sym is) lone)))

module _ (outs : WriteOutsValue) where
  -- where none makes the step alone
  module _ (joint : (outs.batches ≡ [] → ⊥) → IsJoint (shares_syncs outs.geometry.layout) outs.batches) where
    abbrev none_of_them : (WriteOut → Option ℕ) → List WriteOut → Type 0
    none_of_them f batches = option_and_then f (moving (shares_syncs outs.geometry.layout) batches) ≡ None

    by : (f : WriteOut → Option ℕ) → ((w : WriteOut) → is_at may_share w ≡ true → f w ≡ None)
        → (batches : List WriteOut)
        → ((batches ≡ [] → ⊥) → IsJoint (shares_syncs outs.geometry.layout) batches) → none_of_them f batches
    by f nothing [] joint = refl
    by f nothing (w ∷ newer) joint =
        let all = joint (λ e. cc) in
        ap (option_and_then f) (all.mover blank) ∙ nothing w (all.syncs blank)

    pub record_none : outs_record outs ≡ None
    record_none = cond_both outs.broken None (option_and_then next_record (outs_moving outs))
        (λ (o : Option ℕ). o ≡ None) (λ e. refl) (λ e. by next_record joint_record outs.batches joint)

    pub home_none : outs_home outs ≡ None
    home_none = cond_both outs.broken None (option_and_then next_home (outs_moving outs))
        (λ (o : Option ℕ). o ≡ None) (λ e. refl) (λ e. by next_home joint_home outs.batches joint)

-- of an option that is none
pub none_given : (P Q : Type 0) (o : Option ℕ) → IfNone o (P → Q) → P → IfNone o Q
none_given P Q None is p = is p
none_given P Q (Some x) is p = tt
