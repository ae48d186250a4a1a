-- A device that was synced and read.
use Rattle.std.proofs.Common.{◌≡◌, ℕ, ◌+◌, ◌%◌, Bool, true, List, length, Result, Ok, Err, OnOk, is_ok}
use Rattle.std.proofs.Common.{◌<◌, ◌^◌, ◌-◌, ltb, refl, sym, ap, subst, ◌∙◌, arith}
use Rattle.std.proofs.lemmas.Bool.{cond-true}
use Rattle.std.proofs.lemmas.Bool.Decides.{nat_tests}
use Rattle.device.specs.declared.device.Device.{Ghosts}
use Rattle.device.specs.Count.{raised}
use Rattle.device.specs.Work.{Sync}
use Rattle.device.specs.Did.{Did}
use Rattle.device.proofs.Public.{leaves_then, leaves_weaker}
use Rattle.page_entry.specs.declared.refusal.Refusal.{Refusal}
use Rattle.page_entry.specs.declared.refusal.Refusal.TheVariants.{Device, OutOfMemory, Damaged, Busy}
use Rattle.log_codec.specs.Log.{LogValue}
use Rattle.log_codec.specs.Chain.{LogEndsAt, chain_end}
use Rattle.log_recovery.specs.declared.found.FoundLog.{FoundLog}
use Rattle.log_recovery.specs.Reading.{ReadsAlone, HoldsFound, IsFoundLog, chain_of}
use Rattle.log_opening.specs.Opening.{IsCounted, HasWrittenNothing, RefusesLogOpening}
use Rattle.log_opening.specs.inside.Keeping.{RefusesEpoch, IsSameDevice, IsLookedAt}
use Rattle.log_opening.proofs.Rings.{ends_behind}
use Rattle.log_opening.proofs.Keeping.{sync_same, length-chain}

pub on_ok_by : {T E P : Type 0} (r : Result T E) → (is_ok r ≡ true → P) → OnOk r P
on_ok_by (Ok x) p = p refl
on_ok_by (Err e) p = tt

pub nothing_synced : {D : Type 0} (disk : Ghosts D) (old new : D) (done : Bool) → Did disk old Sync done new
    → HasWrittenNothing disk old new
nothing_synced disk old new done did =
    record { same = sync_same disk old new done did; left = did.left; time = did.time }

pub nothing_then : {D : Type 0} (disk : Ghosts D) (old mid new : D) → HasWrittenNothing disk old mid
    → ReadsAlone disk mid new → HasWrittenNothing disk old new
nothing_then disk old mid new first read = record {
  same = λ honest. read.same ∙ first.same honest;
  left = λ c left. first.left c (read.left c left);
  time = leaves_then first.time (leaves_weaker read.time first.left);
}

-- why no start behind the commits is found
pub refuses_start : {Z : Type 0} (g : LogValue) (found : FoundLog Z) (bytes : List ℕ) (e : Refusal)
    → HoldsFound g found bytes → IsFoundLog g found
    → RefusesEpoch g found.start.epoch found.end_position found.end_number bytes e → RefusesLogOpening g bytes e
refuses_start g found bytes Busy holds is none =
    let chain = chain_of found.commits.items in
    let number : found.start.number + length chain ≡ found.end_number =
    omega (arith, is.next, length-chain found.commits.items) in (
      found.start,
      chain,
      holds.log,
      λ epoch lt small ends.
          let P : ℕ → Type 0 = λ p. LogEndsAt g.sealing g epoch p (found.start.number + length chain) g.ring bytes in
          let Q : ℕ → Type 0 = λ n. LogEndsAt g.sealing g epoch found.end_position n g.ring bytes in
          none epoch lt small (subst Q number (subst P (sym is.end) ends)),
    )
refuses_start g found bytes Damaged holds is none =
    let s = found.start in
    absurd (none.2 (ends_behind g s.epoch s.position s.number g.ring (chain_of found.commits.items) bytes none.0
    holds.log.commits none.1 found.end_position found.end_number g.ring is.end))
refuses_start g found bytes Device holds is none = tt
refuses_start g found bytes OutOfMemory holds is none = tt
refuses_start g found bytes _ holds is none = absurd none

-- a count that was raised
raised_by_one : (n : ℕ) → n + 1 < 2 ^ 64 → raised n ≡ n + 1
raised_by_one n small = cond-true (ltb n (2 ^ 64 - 1)) (n + 1) n (grind (arith, nat_tests))

-- one call failed behind others that didn't
pub counted_failed : {D X Y : Type 0} (disk : Ghosts D) (old mid new : D) (x : X)
    → IsCounted {X = X} disk old (Ok x) mid → IsSameDevice disk mid new
    → disk.faults_met new ≡ raised (disk.faults_met mid) → IsCounted {X = Y} disk old (Err Device) new
counted_failed disk old mid new x first after is = record {
  honest = (λ h. first.honest.0 (after.honest.0 h), λ h. after.honest.1 (first.honest.1 h));
  same_length = after.same_length ∙ first.same_length;
  carried = after.carried ∙ first.carried;
  faults = λ small. is ∙ ap raised first.faults ∙ raised_by_one (disk.faults_met old) small;
}

-- a log that was found, and the start behind it
pub looked_at : {D Z : Type 0} (disk : Ghosts D) (g : LogValue) (found : FoundLog Z) (epoch : ℕ)
    (old synced read new : D) → disk.is_honest old
    → Did disk old Sync true synced → ReadsAlone disk synced read → ReadsAlone disk read new
    → IsFoundLog g found → HoldsFound g found (disk.seen synced) → found.start.epoch < epoch
    → LogEndsAt g.sealing g epoch found.end_position found.end_number g.ring (disk.seen read)
    → ((e : ℕ) → found.start.epoch < e → e < epoch
    → LogEndsAt g.sealing g e found.end_position found.end_number g.ring (disk.seen read) → ⊥)
    → IsLookedAt disk g found
    (record { position = found.end_position; number = found.end_number; epoch = epoch }) new
looked_at disk g found epoch old synced read new honest did first then is holds later ends none =
    let chain = chain_of found.commits.items in
    let number : found.end_number ≡ found.start.number + length chain =
    omega (arith, is.next, length-chain found.commits.items) in
    let E : ℕ → ℕ → ℕ → List ℕ → Type 0 = λ e p n l. LogEndsAt g.sealing g e p n g.ring l in
    let there : (e : ℕ) → E e found.end_position found.end_number (disk.seen read)
    → E e (chain_end found.start.position chain % g.ring) (found.start.number + length chain) (disk.seen new) =
    λ e x. subst (E e (chain_end found.start.position chain % g.ring) (found.start.number + length chain))
    (sym then.same)
    (subst (λ n. E e (chain_end found.start.position chain % g.ring) n (disk.seen read)) number
    (subst (λ p. E e p found.end_number (disk.seen read)) is.end x)) in
    let back : (e : ℕ)
    → E e (chain_end found.start.position chain % g.ring) (found.start.number + length chain) (disk.seen new)
    → E e found.end_position found.end_number (disk.seen read) =
    λ e x. subst (λ p. E e p found.end_number (disk.seen read)) (sym is.end)
    (subst (λ n. E e (chain_end found.start.position chain % g.ring) n (disk.seen read)) (sym number)
    (subst (E e (chain_end found.start.position chain % g.ring) (found.start.number + length chain)) then.same x)) in
    record {
      honest = then.honest.1 (first.honest.1 (did.honest.1 honest));
      holds = subst (λ (l : List ℕ). HoldsFound g found l) (sym (then.same ∙ first.same)) holds;
      next_is = record {
        position_is = is.end;
        number_is = number;
        later = later;
        ends = there epoch ends;
        first = λ e after before x. none e after before (back e x);
      };
      synced = λ l left. did.durable honest refl refl l (first.left l (then.left l left))
          ∙ sym (then.same ∙ first.same ∙ sync_same disk old synced true did honest);
    }
