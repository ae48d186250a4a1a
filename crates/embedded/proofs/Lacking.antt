-- An opening that is refused at once: for want of memory, or by a read of a block that isn't known.
use Rattle.std.proofs.Common.{◌≡◌, ℕ, ◌-◌, ◌*◌, Bool, false, List, get_or, Option, Some}
use Rattle.std.proofs.Common.{inl, inr, refl, sym, subst, arith}
use Rattle.std.proofs.lemmas.Bool.Decides.{nat_tests}
use Rattle.device.specs.Count.{raised}
use Rattle.device.specs.Device.{LeavesOnly}
use Rattle.device.specs.Memory.{may_leave_of, seen_of}
use Rattle.device.specs.inside.Laws.{since_now_of}
use Rattle.deferred_disk.specs.Deferred.{Deferred, as_memory, after_read, first_block, end_block, lacked_by_read}
use Rattle.deferred_disk.specs.Deferred.{IsSuppliedWell}
use Rattle.page_entry.specs.declared.refusal.Refusal.{Refusal}
use Rattle.page_entry.specs.declared.refusal.Refusal.TheVariants as refusals
use Rattle.recovery.specs.Counts.{HasCause, Rises, RisesWithin}
use Rattle.recovery.specs.Opening.{LeftByOpening, RefusesOpening}
use Rattle.pager.specs.Calls.{RefusesPagerOpening}
use Rattle.embedded.specs.declared.reading.Unread.TheVariants.{Refused}
use Rattle.embedded.specs.Recorded.{deferred_disk}
use Rattle.embedded.specs.inside.Judging.{StopsOpening}

pub lacks_first : (known : List Bool) (block : ℕ) → get_or known block false ≡ false
    → lacked_by_read known (4096 * block) 1 ≡ Some block
lacks_first known block unknown =
    let first : first_block (4096 * block) ≡ block = omega arith in
    let one : end_block (4096 * block) 1 - first_block (4096 * block) ≡ 1 = omega arith in
    rw (one, first, unknown)

-- a disk of which nothing changed but these parts
abbrev counted : Deferred → Option ℕ → ℕ → ℕ → Deferred
counted disk wanted calls faults = record disk { wanted = wanted; calls = calls; faults = faults }

left_unwritten : (disk : Deferred) (wanted : Option ℕ) (calls faults : ℕ) (P : List ℕ → Type 0)
    → ((c : List ℕ) → may_leave_of (as_memory disk) c → P c)
    → LeavesOnly deferred_disk.moment deferred_disk.left_since disk (counted disk wanted calls faults) P
left_unwritten disk wanted calls faults P has = record {
  later = omega arith;
  each = λ c since. has c (since_now_of (as_memory disk) c since);
  before = λ t c le left. inl left;
  keeps = λ t c le left. left;
}

refuses_unwritten : (disk : Deferred) (why : Refusal) (wanted : Option ℕ) (calls faults : ℕ)
    → HasCause disk.faults faults why → (IsSuppliedWell disk → RefusesOpening (seen_of (as_memory disk)) why)
    → RisesWithin 1 disk.calls calls
    → RefusesPagerOpening deferred_disk disk why (counted disk wanted calls faults)
refuses_unwritten disk why wanted calls faults cause reason within = inl (record {
  kept = record {
    honest = (λ well. well, λ well. well);
    len = refl;
    cause = cause;
  };
  ended = λ well. record {
    reason = reason well;
    done = inl (record {
      unwritten = record {
        same = refl;
        left = λ c left. left;
        time = left_unwritten disk wanted calls faults (may_leave_of (as_memory disk)) (λ c left. left);
      };
      calls = inl within;
    });
  };
  within = λ well. left_unwritten disk wanted calls faults (LeftByOpening deferred_disk disk) (λ c left. inl left);
})

raised_once : (n : ℕ) → Rises 1 n (raised n)
raised_once n = λ few. grind (arith, nat_tests)

pub refuses_lacking : (disk : Deferred) (block : ℕ)
    → RefusesPagerOpening deferred_disk disk refusals.Device (after_read disk (Some block) false)
refuses_lacking disk block =
    refuses_unwritten disk refusals.Device (Some block) (raised disk.calls) (raised disk.faults)
    (raised_once disk.faults) (λ well. tt) (λ few. omega (arith, raised_once disk.calls few))

-- memory was refused, or it has no volume with journals
pub refuses_stopped : (disk : Deferred) (why : Refusal) → StopsOpening disk (Refused why)
    → RefusesPagerOpening deferred_disk disk why disk
refuses_stopped disk why (inl memory) =
    subst (λ (r : Refusal). RefusesPagerOpening deferred_disk disk r disk) (sym memory)
    (refuses_unwritten disk refusals.OutOfMemory disk.wanted disk.calls disk.faults refl (λ well. tt)
    (λ few. omega arith))
refuses_stopped disk why (inr none) =
    subst (λ (r : Refusal). RefusesPagerOpening deferred_disk disk r disk) (sym none.0)
    (refuses_unwritten disk refusals.NotAVolume disk.wanted disk.calls disk.faults refl none.1 (λ few. omega arith))
