-- What the calls of a disk promise, by what they did.
use Rattle.std.proofs.Common.{◌≡◌, ◌∙◌, ◌⊎◌, ℕ, ◌+◌, ◌≤◌, List, ◌∷◌, length, refl, sym, ap, subst, inl, inr, arith}
use Rattle.device.specs.Device.{LeavesOnly, TornFrom}
use Rattle.device.specs.Memory.{DiskChange, Recorded, left_since_of, may_leave_of, moment_of, seen_of, after_change}
use Rattle.device.specs.Memory.DiskChange.{write, sync}
use Rattle.device.specs.declared.device.Device.{Ghosts}
use Rattle.device.proofs.Public.{leaves_weaker, sync_told, torn_from_none, write_told}
use Rattle.machine_log.specs.Disk.{LogDiskValue, left_at, moment_in}
use Rattle.machine_log.specs.inside.Keeping.{AreMoments, ReadsOn, WritesOn, with_counts}
use Rattle.device.specs.inside.Laws.{since_now_of}
use Rattle.machine_log.proofs.Kept.{fine}
use Rattle.machine_log.proofs.Moments.{leaves_on_disk, leaves_same}
use Rattle.machine_log.proofs.Times.{leaves_at}

-- counts play no part
recounted : (old memory : Recorded) (change : DiskChange) (calls faults : ℕ) {P : List ℕ → Type 0}
    → memory ≡ record old { changes = change ∷ old.changes }
    → LeavesOnly moment_of left_since_of old (after_change old change) P
    → LeavesOnly moment_of left_since_of old (record memory { calls = calls; faults = faults }) P
recounted old memory change calls faults {P} is leaves =
    subst (λ (m : Recorded).
    LeavesOnly moment_of left_since_of old (record m { calls = calls; faults = faults }) P) (sym is)
    (record { later = leaves.later; each = leaves.each; before = leaves.before; keeps = leaves.keeps })

-- what calls leave, by the disk before and after
module _ {D : Type 0} (disk : Ghosts D) (old new : LogDiskValue D) where
  abbrev pub ReadLeaves : Type 0
  ReadLeaves = LeavesOnly (moment_in disk.moment) (left_at disk.moment) old new (may_leave_of old.memory)

  abbrev pub WriteLeaves : ℕ → List ℕ → Type 0
  WriteLeaves at bytes = LeavesOnly (moment_in disk.moment) (left_at disk.moment) old new
      (TornFrom at (length bytes) (may_leave_of old.memory))

module _ {D : Type 0} (old new : LogDiskValue D) where
  abbrev pub WriteLeft : ℕ → List ℕ → Type 0
  WriteLeft at bytes =
      (w : List ℕ) → may_leave_of new.memory w → TornFrom at (length bytes) (may_leave_of old.memory) w

  abbrev pub WriteKeeps : Type 0
  WriteKeeps = (w : List ℕ) → may_leave_of old.memory w → may_leave_of new.memory w

module _ {D : Type 0} (disk : Ghosts D) (old mid new : LogDiskValue D) (calls faults : ℕ)
    (is : new ≡ with_counts mid calls faults)
    (old_are : AreMoments (moment_of old.memory) (disk.moment old.device) old.moments)
    (new_are : AreMoments (moment_of new.memory) (disk.moment new.device) new.moments) where
  abbrev Leaves : LogDiskValue D → (List ℕ → Type 0) → Type 0
  Leaves to P = LeavesOnly (moment_in disk.moment) (left_at disk.moment) old to P

  abbrev counted : LogDiskValue D
  counted = with_counts mid calls faults

  counted_are : AreMoments (moment_of counted.memory) (disk.moment counted.device) counted.moments
  counted_are = subst (λ (d : LogDiskValue D). AreMoments (moment_of d.memory) (disk.moment d.device) d.moments) is
      new_are

  pub on_same : mid ≡ old → Leaves new (may_leave_of old.memory)
  on_same same =
      let P = may_leave_of old.memory in
      subst (λ d. Leaves d P) (sym is) (leaves_at disk.moment old counted P old_are counted_are
      (leaves_same disk.moment old old_are counted (ap (λ (d : LogDiskValue D). d.memory.first) same)
      (ap (λ (d : LogDiskValue D). d.memory.changes) same) (ap (λ (d : LogDiskValue D). d.memory.start) same)
      (ap (λ (d : LogDiskValue D). d.device) same) (ap (λ (d : LogDiskValue D). d.moments) same)))

  pub on_reads : ReadsOn disk old mid → Leaves new (may_leave_of old.memory)
  on_reads reads =
      let P = may_leave_of old.memory in
      let memory : LeavesOnly moment_of left_since_of old.memory counted.memory P =
      subst (λ (m : Recorded).
      LeavesOnly moment_of left_since_of old.memory (record m { calls = calls; faults = faults }) P) (sym reads.memory)
      (record {
        later = omega arith;
        each = λ w left. since_now_of old.memory w left;
        before = λ t w le left. inl left;
        keeps = λ t w le left. left;
      }) in
      let newest = reads.moments ∙ ap (λ (m : Recorded). (moment_of m, disk.moment mid.device) ∷ old.moments)
      (sym reads.memory) in
      subst (λ d. Leaves d P) (sym is) (leaves_at disk.moment old counted P old_are counted_are
      (leaves_on_disk disk.moment old old_are counted newest reads.later memory))

  pub on_writes : (change : DiskChange) (P : List ℕ → Type 0) → WritesOn disk old change mid
      → LeavesOnly moment_of left_since_of old.memory (after_change old.memory change) P → Leaves new P
  on_writes change P writes leaves =
      subst (λ d. Leaves d P) (sym is) (leaves_at disk.moment old counted P old_are counted_are
      (leaves_on_disk disk.moment old old_are counted writes.moments writes.later
      (recounted old.memory mid.memory change calls faults writes.memory leaves)))

  -- ---- of each call

  pub read_time : (mid ≡ old) ⊎ ReadsOn disk old mid → Leaves new (may_leave_of old.memory)
  read_time (inl same) = on_same same
  read_time (inr reads) = on_reads reads

  pub sync_time : {E : Type 0} → (E × (mid ≡ old)) ⊎ WritesOn disk old sync mid → Leaves new (may_leave_of old.memory)
  sync_time (inl failed) = on_same failed.1
  sync_time (inr writes) = on_writes sync (may_leave_of old.memory) writes
      (sync_told (λ (r : Recorded). r) fine old.memory (after_change old.memory sync) refl tt).1

  module _ (at : ℕ) (bytes : List ℕ) (fits : at + length bytes ≤ length (seen_of old.memory)) where
    as_change : WritesOn disk old (write at bytes) mid → (w : List ℕ) → may_leave_of new.memory w
        → may_leave_of (after_change old.memory (write at bytes)) w
    as_change writes w left =
        subst (λ (m : Recorded). may_leave_of m w) writes.memory
        (subst (λ (d : LogDiskValue D). may_leave_of d.memory w) is left)

    pub write_time : {E : Type 0} → (E × (mid ≡ old)) ⊎ WritesOn disk old (write at bytes) mid
        → Leaves new (TornFrom at (length bytes) (may_leave_of old.memory))
    write_time (inl failed) = leaves_weaker (on_same failed.1) (λ w left. torn_from_none at (length bytes) left)
    write_time (inr writes) = on_writes (write at bytes) (TornFrom at (length bytes) (may_leave_of old.memory)) writes
        (write_told (λ (r : Recorded). r) fine old.memory (after_change old.memory (write at bytes)) at bytes fits refl
        tt).1.1.0

    pub write_left : {E : Type 0} → (E × (mid ≡ old)) ⊎ WritesOn disk old (write at bytes) mid
        → (w : List ℕ) → may_leave_of new.memory w → TornFrom at (length bytes) (may_leave_of old.memory) w
    write_left (inl failed) w left = torn_from_none at (length bytes)
        (subst (λ (d : LogDiskValue D). may_leave_of d.memory w) failed.1
        (subst (λ (d : LogDiskValue D). may_leave_of d.memory w) is left))
    write_left (inr writes) w left = (write_told (λ (r : Recorded). r) fine old.memory
        (after_change old.memory (write at bytes)) at bytes fits refl tt).1.0 w (as_change writes w left)

    pub write_keeps : {E : Type 0} → (E × (mid ≡ old)) ⊎ WritesOn disk old (write at bytes) mid
        → (w : List ℕ) → may_leave_of old.memory w → may_leave_of new.memory w
    write_keeps (inl failed) w left =
        subst (λ (d : LogDiskValue D). may_leave_of d.memory w) (sym is)
        (subst (λ (d : LogDiskValue D). may_leave_of d.memory w) (sym failed.1) left)
    write_keeps (inr writes) w left =
        subst (λ (d : LogDiskValue D). may_leave_of d.memory w) (sym is)
        (subst (λ (m : Recorded). may_leave_of m w) (sym writes.memory)
        ((write_told (λ (r : Recorded). r) fine old.memory (after_change old.memory (write at bytes)) at bytes fits
        refl tt).0 w left))
