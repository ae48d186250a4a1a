-- No step is answered that a trace is full, which a machine alone never is, and only those that want memory are
-- answered that there is none.
use Rattle.machine.proofs.Names.{ℕ, ◌≡◌, ◌≢◌, ◌-◌, ◌*◌, ◌/◌, ◌%◌, ◌^◌, ◌==◌, ◌&&◌, ◌||◌, not, nat_le, Bool, true, false}
use Rattle.machine.proofs.Names.{cond, List, [], ◌∷◌, length, Option, Some, None, Result, Ok, Err, refl, ap, ◌∙◌, sym}
use Rattle.machine.proofs.Names.{nat_lt, subst, option_or, false≢true, Refusal}
use Rattle.machine.proofs.Names.{Place, Rights, PageRange, Places, may_write}
use Rattle.machine.proofs.Names.{allows, any_mapped, all_mapped, any_forbids, pages_holding, is_user_range, is_mappable}
use Rattle.machine.proofs.Names.{range_of_bytes, mapped_pages_of, add_refusal, protect_refusal, Spaces, space_at}
use Rattle.machine.proofs.Names.{place_at, is_user_space, judged_range, judged_mapping, unless, allowed, maps_each}
use Rattle.machine.proofs.Names.{is_busy, Lock, ProcState, ShootdownState, is_current, current, not_running, not_free}
use Rattle.machine.proofs.Names.{interrupted, not_there, is_stalled, is_idle, wait_refusal, lock_refusal}
use Rattle.machine.proofs.Names.{destroy_refusal, has_free, page_at, allowed_place, place_of_fault, is_in_memory}
use Rattle.machine.proofs.Names.{copies_out, Act, Reply, Step, State, length_of, refuse_if, first_of, why_not}
use Rattle.machine.proofs.Names.{pages_in_file, is_msync, mapping_refusal, served_refusal, WantsMemory, Acts}
use Rattle.machine.proofs.Names.{Rules, length_refusal, resize_refusal, lacks_last_page, lacks_frames, capacity_of}
use Rattle.machine.proofs.Names.{lengths_blocks}
use Rattle.page_entry.specs.declared.refusal.Refusal.TheVariants as refusals
use Rattle.machine.specs.declared.act.Act.TheVariants as acts
use Rattle.machine.specs.declared.act.Reply.TheVariants as replies

-- ---- reasons that aren't these two

abbrev is_odd : Option Refusal → Bool
is_odd (Some refusals.TraceFull) = true
is_odd (Some refusals.OutOfMemory) = true
is_odd reason = false

-- a reason that is neither of them, or none
record IsFine (reason : Option Refusal) : Type 0 where
  is : is_odd reason ≡ false

no_reason : IsFine None
no_reason = record { is = refl }

-- this reason where a test passes, or else another
if_fine : (b : Bool) (why : Refusal) (other : Option Refusal) → is_odd (Some why) ≡ false → IsFine other
    → IsFine (cond b (Some why) other)
if_fine true why other is fine = record { is = is }
if_fine false why other is fine = fine

-- this reason unless a test passes
unless_fine : (b : Bool) (why : Refusal) (other : Option Refusal) → is_odd (Some why) ≡ false → IsFine other
    → IsFine (cond b other (Some why))
unless_fine true why other is fine = fine
unless_fine false why other is fine = record { is = is }

or_fine : (x y : Option Refusal) → IsFine x → IsFine y → IsFine (option_or x y)
or_fine None y fx fy = fy
or_fine (Some why) y fx fy = fx

-- a reason that a test gives, or else another
refuse_fine : (b : Bool) (why : Refusal) (other : Option Refusal) → is_odd (Some why) ≡ false → IsFine other
    → IsFine (option_or (refuse_if b why) other)
refuse_fine true why other is fine = record { is = is }
refuse_fine false why other is fine = fine

-- what was judged, unless a test fails, or another passes
why_unless : {X : Type 0} (b : Bool) (r : Result X Refusal) (why : Refusal) → IsFine (why_not r)
    → is_odd (Some why) ≡ false → IsFine (why_not (cond b r (Err why)))
why_unless true r why fine is = fine
why_unless false r why fine is = record { is = is }

why_if : {X : Type 0} (b : Bool) (r : Result X Refusal) (why : Refusal) → is_odd (Some why) ≡ false → IsFine (why_not r)
    → IsFine (why_not (cond b (Err why) r))
why_if true r why is fine = record { is = is }
why_if false r why is fine = fine

-- ---- the reasons of processors, spaces and faults

running_fine : (s : ShootdownState) (p : ℕ) → IsFine (not_running s p)
running_fine s p = if_fine _ _ _ refl (unless_fine _ _ _ refl no_reason)

free_fine : (s : ShootdownState) (p : ℕ) → IsFine (not_free s p)
free_fine s p = or_fine _ _ (running_fine s p) (if_fine _ _ _ refl no_reason)

there_fine : (s : ShootdownState) (p : ℕ) → IsFine (not_there s p)
there_fine s p = unless_fine _ _ _ refl no_reason

wait_fine : (waits : ProcState → Bool) (s : ShootdownState) (p : ℕ) → IsFine (wait_refusal waits s p)
wait_fine waits s p = or_fine _ _ (there_fine s p) (if_fine _ _ _ refl no_reason)

lock_fine : (p waiting : ℕ) (lock : Option Lock) → IsFine (lock_refusal p waiting lock)
lock_fine p waiting None = no_reason
lock_fine p waiting (Some lock) = unless_fine _ _ _ refl (unless_fine _ _ _ refl no_reason)

bytes_fine : (va len : ℕ) → IsFine (why_not (range_of_bytes va len))
bytes_fine va len = why_unless (va % 4096 == 0 && is_user_range (pages_holding va len))
    (Ok (pages_holding va len)) refusals.Einval no_reason refl

range_fine : (spaces : Spaces) (pcid va len : ℕ) → IsFine (why_not (judged_range spaces pcid va len))
range_fine spaces pcid va len =
    why_unless (is_user_space spaces pcid) (range_of_bytes va len) refusals.Einval (bytes_fine va len) refl

add_fine : (places : Places) (range : PageRange) (place : Place) → IsFine (add_refusal places range place)
add_fine places range place =
    if_fine (not (is_mappable range place.page)) refusals.Einval _ refl
    (if_fine (not (allows place.access place.rights)) refusals.Eacces _ refl
    (if_fine (any_mapped places range.first range.count) refusals.Overlap None refl no_reason))

protect_fine : (places : Places) (range : PageRange) (rights : Rights) → IsFine (protect_refusal places range rights)
protect_fine places range rights =
    if_fine (not (is_user_range range)) refusals.Einval _ refl
    (if_fine (not (all_mapped places range.first range.count)) refusals.Enomem _ refl
    (if_fine (any_forbids places range.first range.count rights) refusals.Eacces None refl no_reason))

destroy_fine : (s : ShootdownState) (spaces : Spaces) (pcid : ℕ) → IsFine (destroy_refusal s spaces pcid)
destroy_fine s spaces pcid = if_fine (not (is_user_space spaces pcid)) refusals.Einval _ refl
    (if_fine (is_current s pcid) refusals.Busy None refl no_reason)

mapping_fine : (s : State) (pcid file : ℕ) (prot access : Rights) (r : Result (PageRange × ℕ) Refusal)
    → IsFine (why_not r) → IsFine (mapping_refusal s pcid file prot access r)
mapping_fine s pcid file prot access (Err why) fine = fine
mapping_fine s pcid file prot access (Ok pages) fine =
    let place : Place = record { file = file; page = pages.1; rights = prot; access = access } in
    refuse_fine _ _ _ refl (or_fine (add_refusal (space_at s.hardware.spaces pcid).places pages.0 place) None
    (add_fine (space_at s.hardware.spaces pcid).places pages.0 place) no_reason)

judged_fine : (spaces : Spaces) (pcid va len offset : ℕ) → IsFine (why_not (judged_mapping spaces pcid va len offset))
judged_fine spaces pcid va len offset =
    why_unless (is_user_space spaces pcid) (mapped_pages_of va len offset) refusals.Einval
    (why_unless (va % 4096 == 0 && offset % 4096 == 0 && is_mappable (pages_holding va len) (offset / 4096))
    (Ok (pages_holding va len, offset / 4096)) refusals.Einval no_reason refl) refl

protection_fine : (spaces : Spaces) (pcid : ℕ) (rights : Rights) (r : Result PageRange Refusal) → IsFine (why_not r)
    → IsFine (why_not (allowed spaces pcid rights r))
protection_fine spaces pcid rights (Err why) fine = fine
protection_fine spaces pcid rights (Ok range) fine =
    by (protect_refusal (space_at spaces pcid).places range rights)
    (protect_fine (space_at spaces pcid).places range rights)
  where
    by : (o : Option Refusal) → IsFine o → IsFine (why_not (unless o range))
    by None fine = no_reason
    by (Some why) fine = fine

place_fine : (spaces : Spaces) (pcid va : ℕ) (write : Bool) → IsFine (why_not (place_of_fault spaces pcid va write))
place_fine spaces pcid va write = why_if (nat_le (2 ^ 47) va) (allowed_place write (place_at spaces pcid (va / 4096)))
    refusals.Einval refl (by (place_at spaces pcid (va / 4096)))
  where
    by : (o : Option Place) → IsFine (why_not (allowed_place write o))
    by None = record { is = refl }
    by (Some place) = why_if (write && not (may_write place.rights)) (Ok place) refusals.SegvAccErr refl no_reason

served_fine : (s : State) (write : Bool) (r : Result Place Refusal) → IsFine (why_not r)
    → IsFine (served_refusal s write r)
served_fine s write (Err why) fine = fine
served_fine s write (Ok place) fine =
    let memory = s.hardware.memory in
    if_fine (nat_le (length_of s place.file) (4096 * place.page)) refusals.BusAdrErr _ refl
    (if_fine (copies_out memory s.checkpoint (page_at place) write && not (has_free memory.copies)) refusals.Held _ refl
    (unless_there (is_in_memory memory (page_at place)) (if_fine (not (has_free memory.frames)) refusals.NoFrame _ refl
    (if_fine s.write_outs.broken refusals.Device None refl no_reason))))
  where
    unless_there : (b : Bool) {other : Option Refusal} → IsFine other → IsFine (cond b None other)
    unless_there true fine = no_reason
    unless_there false fine = fine

length_fine : (s : State) (file to : ℕ) → IsFine (length_refusal s file to)
length_fine s file to =
    refuse_fine (lengths_blocks s.table.layout == 0) refusals.Einval _ refl
    (refuse_fine (nat_le (length s.table.files) file) refusals.NoFile _ refl
    (if_refused (nat_lt (capacity_of s file) to)))
  where
    if_refused : (b : Bool) → IsFine (option_or (refuse_if b refusals.Einval) None)
    if_refused b = refuse_fine b refusals.Einval None refl no_reason

resize_fine : (s : State) (file to : ℕ) → IsFine (resize_refusal s file to)
resize_fine s file to =
    refuse_fine s.write_outs.broken refusals.Broken _ refl
    (refuse_fine (nat_lt 0 (length s.write_outs.batches)) refusals.Busy _ refl
    (refuse_fine (lacks_last_page s file to) refusals.NotResident _ refl
    (refuse_fine (lacks_frames s file to) refusals.NoFrame None refl no_reason)))

-- another length, or the same
set_length_fine : (s : State) (file to : ℕ)
    → IsFine (first_of (length_refusal s file to ∷ cond (to == length_of s file) None (resize_refusal s file to) ∷ []))
set_length_fine s file to = or_fine (length_refusal s file to) _ (length_fine s file to)
    (or_fine _ None (unless_same (to == length_of s file)) no_reason)
  where
    unless_same : (b : Bool) → IsFine (cond b None (resize_refusal s file to))
    unless_same true = no_reason
    unless_same false = resize_fine s file to

-- ---- acts

-- the act isn't answered that a trace is full, and that there is no memory only where it wants some
abbrev IsSparing : State → List ℕ → ℕ → Act → State → List ℕ → Type 0
IsSparing s disk p act new disk' =
    (Acts s disk p act (replies.Refused refusals.TraceFull) new disk' → ⊥)
    × (Acts s disk p act (replies.Refused refusals.OutOfMemory) new disk' → WantsMemory s p act)

never : {reason : Option Refusal} {why : Refusal} → is_odd (Some why) ≡ true → IsFine reason → reason ≡ Some why → ⊥
never odd fine is = false≢true (sym fine.is ∙ ap is_odd is ∙ odd)

module _ (s : State) (disk : List ℕ) (p : ℕ) (new : State) (disk' : List ℕ) where
  -- refused for these reasons alone
  refused_for : {reason : Option Refusal} {Same Wants : Type 0} → IsFine reason
      → (((reason ≡ Some refusals.TraceFull) × (new ≡ s)) × Same → ⊥)
      × (((reason ≡ Some refusals.OutOfMemory) × (new ≡ s)) × Same → Wants)
  refused_for fine = (λ rule. never refl fine rule.0.0, λ rule. absurd (never refl fine rule.0.0))

  -- or for want of memory
  refused_wanting : {reason : Option Refusal} {Same Wants : Type 0} → IsFine reason
      → (((reason ≡ Some refusals.TraceFull) × (new ≡ s)) × Same → ⊥) × ((Wants × (new ≡ s)) × Same → Wants)
  refused_wanting fine = (λ rule. never refl fine rule.0.0, λ rule. rule.0.0)

  -- after the processor and the lock
  abbrev free : Option Refusal
  free = not_free s.hardware.shootdown p

  then_fine : (other : Option Refusal) → IsFine other → IsFine (option_or free other)
  then_fine other fine = or_fine free other (free_fine s.hardware.shootdown p) fine

  last_fine : (reason : Option Refusal) → IsFine reason → IsFine (first_of (free ∷ reason ∷ []))
  last_fine reason fine = then_fine (first_of (reason ∷ [])) (or_fine reason None fine no_reason)

  sparing : (act : Act) → IsSparing s disk p act new disk'
  sparing (acts.Load va count) = (λ rule. rule.0.1.0, λ rule. absurd rule.0.1.0)
  sparing (acts.Store va bytes) = (λ rule. rule.0.1.0, λ rule. absurd rule.0.1.0)
  sparing (acts.Fill page) = (λ rule. let other = rule.0.1.1 in cc, λ rule. absurd (let other = rule.0.1.1 in cc))
  sparing (acts.Evict slot) = (λ rule. let other = rule.0.1.1 in cc, λ rule. absurd (let other = rule.0.1.1 in cc))
  sparing (acts.Switch space keep) = refused_for (then_fine _ (unless_fine _ _ _ refl no_reason))
  sparing acts.Idle = refused_for (or_fine _ _ (running_fine s.hardware.shootdown p) (if_fine _ _ _ refl no_reason))
  sparing acts.Wake = refused_for (wait_fine is_idle s.hardware.shootdown p)
  sparing (acts.Fix va write) = refused_for
      (last_fine _ (served_fine s write _ (place_fine s.hardware.spaces (current s.hardware.shootdown p) va write)))
  sparing acts.Create = refused_wanting (free_fine s.hardware.shootdown p)
  sparing (acts.Destroy space) = refused_for (last_fine _ (destroy_fine s.hardware.shootdown s.hardware.spaces space))
  sparing (acts.Map space va len file offset prot access) =
      refused_wanting
      (last_fine _ (mapping_fine s space file prot access _ (judged_fine s.hardware.spaces space va len offset)))
  sparing (acts.Unmap space va len) = refused_wanting (last_fine _ (range_fine s.hardware.spaces space va len))
  sparing (acts.Protect space va len prot) = refused_wanting
      (last_fine _ (protection_fine s.hardware.spaces space prot _ (range_fine s.hardware.spaces space va len)))
  sparing (acts.Reclaim file page) =
      refused_for (then_fine _ (refuse_fine (nat_le (length s.table.files) file) refusals.NoFile _ refl
      (refuse_fine (nat_le (pages_in_file s.table.files file) page) refusals.Einval None refl no_reason)))
  sparing (acts.Msync va len flags) =
      refused_for (then_fine _ (refuse_fine (not (is_msync va len flags)) refusals.Einval _ refl
      (refuse_fine (not (maps_each s.hardware.spaces (current s.hardware.shootdown p) va len)) refusals.Enomem _ refl
      (refuse_fine s.write_outs.broken refusals.Broken _ refl
      (refuse_fine (is_busy s.write_outs || nat_le (2 ^ 32 - 1) s.marks) refusals.Busy None refl no_reason)))))
  sparing (acts.SetLength file to) = refused_for (then_fine _ (set_length_fine s file to))
  sparing acts.Ack = refused_for (there_fine s.hardware.shootdown p)
  sparing acts.Change = refused_for (or_fine _ _ (there_fine s.hardware.shootdown p)
      (lock_fine p (interrupted s.hardware.shootdown) s.hardware.shootdown.lock))
  sparing acts.Resume = refused_for (wait_fine is_stalled s.hardware.shootdown p)
  sparing acts.Flush = refused_for (or_fine _ _ (running_fine s.hardware.shootdown p)
      (refuse_fine s.write_outs.broken refusals.Broken None refl no_reason))

-- whatever state a machine is in
pub reply_not_full : (s : State) (disk : List ℕ) (step : Step) (reply : Reply) (new : State) (disk' : List ℕ)
    → Rules s disk step reply new disk' → reply ≢ replies.Refused refusals.TraceFull
reply_not_full s disk step reply new disk' rule is =
    (sparing s disk step.p new disk' step.act).0 (subst (λ (r : Reply). Rules s disk step r new disk') is rule)

pub reply_wants : (s : State) (disk : List ℕ) (step : Step) (reply : Reply) (new : State) (disk' : List ℕ)
    → Rules s disk step reply new disk' → reply ≡ replies.Refused refusals.OutOfMemory → WantsMemory s step.p step.act
reply_wants s disk step reply new disk' rule is =
    (sparing s disk step.p new disk' step.act).1 (subst (λ (r : Reply). Rules s disk step r new disk') is rule)
