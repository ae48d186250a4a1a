-- A disk that hasn't failed: what the device has stands for what the disk has.
use Rattle.std.proofs.Common.{◌≡◌, ◌⊎◌, ℕ, ◌-◌, ◌^◌, ◌≤◌, List, false, inl, inr, refl, sym, ap, subst, ◌∙◌, arith}
use Rattle.std.specs.Prelude.{Result, Ok, Err, OnOk, IsErr, is_ok, if◌then◌else◌}
use Rattle.std.proofs.lemmas.Bool.{cases_lt, false≢true}
use Rattle.device.specs.Count.{raised}
use Rattle.device.specs.Device.{Only}
use Rattle.device.specs.Memory.{Recorded, after_change, may_leave_of}
use Rattle.device.specs.Memory.DiskChange.{sync}
use Rattle.device.specs.declared.fault.DeviceFault.{DeviceFault}
use Rattle.device.proofs.Public.{sync_told}
use Rattle.device.specs.declared.device.Device.{Ghosts}
use Rattle.device.specs.Memory.{DiskChange, seen_of}
use Rattle.volume_codec.specs.Files.{File}
use Rattle.volume_codec.specs.Layout.{IsHome}
use Rattle.volume_codec.specs.Recovery.{Recovers, RecoversTo}
use Rattle.volume_codec.specs.Super.{SuperValue, geometry_of}
use Rattle.machine_log.specs.Shown.{ShownValue}
use Rattle.log_codec.specs.declared.start.LogStart.{LogStart}
use Rattle.log_volume.specs.Super.{LogSuperValue}
use Rattle.log_pager.specs.Pager.{LogPagerValue}
use Rattle.machine_log.specs.Disk.{LogDiskValue}
use Rattle.machine_log.specs.Laws.{Works, WorksUnlessFailed}
use Rattle.machine_log.specs.inside.Keeping.{IsKeptDisk, WritesOn, changed, with_counts}
use Rattle.machine_log.proofs.Alike.{stands}
use Rattle.machine_log.proofs.Kept.{alike_now, fine}

pub works_of : {D : Type 0} (disk : Ghosts D)
    (since_now : (d : D) (c : List ℕ) → disk.left_since d (disk.moment d) c → disk.may_leave d c)
    (now_is_since : (d : D) (r : ℕ) (c : List ℕ) → r ≤ disk.moment d → disk.may_leave d c → disk.left_since d r c)
    (one_contents : (v w : SuperValue) (contents others : ℕ → List ℕ) (bytes : List ℕ)
    → Recovers v contents bytes → Recovers w others bytes
    → (v ≡ w) × ((b : ℕ) → IsHome (geometry_of v) b → contents b ≡ others b))
    (one_recovery : (bytes : List ℕ) (files others : List File) → RecoversTo bytes files → RecoversTo bytes others
    → files ≡ others)
    (v : LogSuperValue) (t : SuperValue) (start : LogStart) (first : List ℕ) (changes : List DiskChange)
    (moments : List (ℕ × ℕ)) (pager : LogPagerValue D) (shown : ShownValue) (calls faults : ℕ)
    → IsKeptDisk disk v t start first changes moments pager shown false
    → Works disk (record {
      device = pager.device;
      volume = v;
      table = t;
      log_start = start;
      memory = record (changed first changes) { calls = calls; faults = faults };
      moments = moments;
    })
works_of disk since_now now_is_since one_contents one_recovery v t start first changes moments pager shown calls faults
    kept =
    λ honest c left. stands one_contents one_recovery v t c (seen_of (changed first changes)) kept.table kept.fits
    (alike_now disk since_now now_is_since v t start first changes moments pager shown kept honest c left)

-- a call that was counted: a failed one counts as one
pub works_counted : {D : Type 0} (disk : Ghosts D) (mid new : LogDiskValue D) (calls : ℕ)
    (outcome : Result (Unit {0}) DeviceFault)
    → new ≡ with_counts mid calls (if is_ok outcome then mid.memory.faults else raised mid.memory.faults)
    → OnOk outcome (Works disk mid) → WorksUnlessFailed disk new
works_counted {D} disk mid new calls (Ok x) is works none = subst (Works disk) (sym is) works
works_counted {D} disk mid new calls (Err fault) is works none =
    absurd (never_none mid.memory.faults (sym (ap (λ (d : LogDiskValue D). d.memory.faults) is) ∙ none))
  where
    never_none : (n : ℕ) → raised n ≡ 0 → ⊥
    never_none n none = elim (cases_lt n (2 ^ 64 - 1)) [
      | inl less ↦ absurd (grind (arith, none, less))
      | inr more ↦ absurd (grind (arith, none, more))
    ]

-- a sync that succeeded
pub sync_durable : {D : Type 0} (disk : Ghosts D) (old mid new : LogDiskValue D) (calls faults : ℕ)
    (outcome result : Result (Unit {0}) DeviceFault) → new ≡ with_counts mid calls faults
    → OnOk result (result ≡ outcome) → (IsErr outcome × (mid ≡ old)) ⊎ WritesOn disk old sync mid
    → OnOk result (Only (may_leave_of new.memory) (seen_of old.memory))
sync_durable disk old mid new calls faults outcome (Err fault) is same did = tt
sync_durable disk old mid new calls faults outcome (Ok x) is same (inl failed) =
    absurd (false≢true (subst (λ (r : Result (Unit {0}) DeviceFault). IsErr r) (sym same) failed.0))
sync_durable {D} disk old mid new calls faults outcome (Ok x) is same (inr writes) =
    let told = (sync_told (λ (r : Recorded). r) fine old.memory (after_change old.memory sync) refl tt).0 in
    λ w left. told w (subst (λ (m : Recorded). may_leave_of m w) writes.memory
    (subst (λ (d : LogDiskValue D). may_leave_of d.memory w) is left))
