-- What follows of what device calls did.
use Rattle.std.proofs.Common.{◌≡◌, ◌≤◌, ◌⊎◌, inl, inr, ap, ℕ, ◌+◌, ltb, ◌^◌, ◌-◌, Bool, true}
use Rattle.std.proofs.Common.{false, List, length, Result, Ok, Err, refl, sym, ◌∙◌, subst, arith}
use Rattle.std.specs.Prelude.{is_ok, OnOk, IfErr}
use Rattle.std.proofs.lemmas.Bool.{both_ways, cond-true}
use Rattle.std.proofs.lemmas.Bool.Decides.{nat_tests}
use Rattle.std.proofs.lemmas.Result.{on_ok_weaker}
use Rattle.device.specs.Count.{raised}
use Rattle.device.specs.Device.{written, Torn, TornFrom, Only, LeavesOnly}
use Rattle.device.specs.Did.{Did}
use Rattle.device.specs.Work.{Work, WriteAt, Sync}
use Rattle.device.specs.declared.device.Device.{Ghosts}
use Rattle.device.proofs.Moments.{leaves_at_start, leaves_weaker, leaves_on}
use Rattle.device.proofs.Ranges.{torn_by_write, torn_none, torn_twice, torn_wider, torn_from_none}
use Rattle.page_entry.specs.declared.refusal.Refusal.{Refusal}
use Rattle.page_entry.specs.declared.refusal.Refusal.TheVariants.{Device}
use Rattle.recovery.specs.Counts.{Rises, RisesWithin, HasCause, IsAccounted}
use Rattle.recovery.specs.Opening.{IsUnwritten}
use Rattle.recovery.specs.inside.Writing.{DidBoth, HasOverwritten, HasFinished}
use Rattle.recovery.proofs.Erased.{left_more}
use Rattle.recovery.proofs.Kept.{kept_none, kept_then, kept_err}

pub raised_rises : (a b : ℕ) → b ≡ raised a → Rises 1 a b
raised_rises a b is small = is ∙ cond-true (ltb a (2 ^ 64 - 1)) (a + 1) a (grind (arith, nat_tests))

module _ {D : Type 0} {disk : Ghosts D} {old new : D} where
  -- the device is as long and as honest, and a fault is counted where there was one
  pub did_kept : {X : Type 0} {work : Work} (result : Result X Refusal) → IfErr result (λ refusal. refusal ≡ Device)
      → Did disk old work (is_ok result) new → IsAccounted disk old result new
  did_kept (Ok x) fault did = record { honest = did.honest; len = did.same_length; cause = did.faults }
  did_kept (Err e) fault did =
      let P : Refusal → Type 0 = HasCause (disk.faults_met old) (disk.faults_met new) in
      record {
        honest = did.honest;
        len = did.same_length;
        cause = subst P (sym fault) (raised_rises (disk.faults_met old) (disk.faults_met new) did.faults);
      }

  -- a write: the bytes outside its range are as before
  pub write_torn : (at : ℕ) (bytes : List ℕ) (done : Bool) → at + length bytes ≤ length (disk.seen old)
      → Did disk old (WriteAt at bytes) done new → disk.is_honest old
      → Torn at (length bytes) (disk.seen old) (disk.seen new)
  write_torn at bytes true room did honest =
      let P : List ℕ → Type 0 = λ l. Torn at (length bytes) (disk.seen old) l in
      subst P (sym (did.seen honest)) (torn_by_write (disk.seen old) at bytes room)
  write_torn at bytes false room did honest = did.seen honest

  pub write_calls : (at : ℕ) (bytes : List ℕ) (done : Bool) → Did disk old (WriteAt at bytes) done new
      → Rises 1 (disk.calls_made old) (disk.calls_made new)
  write_calls at bytes true did small = omega (arith, did.calls small)
  write_calls at bytes false did small = omega (arith, did.calls small)

  pub write_written : {X : Type 0} (at : ℕ) (bytes : List ℕ) (result : Result X Refusal)
      → Did disk old (WriteAt at bytes) (is_ok result) new → disk.is_honest old
      → OnOk result (disk.seen new ≡ written (disk.seen old) at bytes)
  write_written at bytes (Ok x) did honest = did.seen honest
  write_written at bytes (Err e) did honest = tt

  -- a sync writes nothing
  pub sync_unwritten : (done : Bool) → Did disk old Sync done new → disk.is_honest old → IsUnwritten disk old new
  sync_unwritten true did honest =
      record { same = did.seen honest; left = did.left; time = leaves_weaker did.time (λ c left. left) }
  sync_unwritten false did honest =
      record { same = did.seen honest; left = did.left; time = leaves_weaker did.time (λ c left. left) }

  pub sync_calls : (done : Bool) → Did disk old Sync done new → Rises 1 (disk.calls_made old) (disk.calls_made new)
  sync_calls true did small = omega (arith, did.calls small)
  sync_calls false did small = omega (arith, did.calls small)

  -- one that succeeds makes what is read sure
  pub sync_durable : Did disk old Sync true new → disk.is_honest old → Only (disk.may_leave new) (disk.seen new)
  sync_durable did honest =
      let P : List ℕ → Type 0 = Only (disk.may_leave new) in
      subst P (sym (did.seen honest)) (did.durable honest refl refl)

-- where a call failed, none of the later ones was made
pub overwritten_failed : {D X Y : Type 0} {disk : Ghosts D} {old new : D} (at n most : ℕ) {e : Refusal}
    (result : Result Y Refusal) → result ≡ Err e → (disk.is_honest old → Torn at n (disk.seen old) (disk.seen new))
    → ((c : List ℕ) → disk.may_leave new c → TornFrom at n (disk.may_leave old) c)
    → LeavesOnly disk.moment disk.left_since old new (TornFrom at n (disk.may_leave old))
    → IsAccounted {X = X} disk old (Err e) new → RisesWithin most (disk.calls_made old) (disk.calls_made new)
    → HasOverwritten disk at n most old result new
overwritten_failed {D} {X} {Y} {disk} {old} {new} at n most result is torn left time kept few =
    let P : Result Y Refusal → Type 0 = λ r. HasOverwritten disk at n most old r new in
    subst P (sym is)
    (record { torn = torn; left = left; time = time; kept = kept_err (Err _) refl kept; calls = tt; most = few })

-- what was overwritten, piece by piece
module _ {D : Type 0} {disk : Ghosts D} where
  -- nothing yet
  pub overwritten_none : (at n : ℕ) (device : D)
      → ((c : List ℕ) → disk.left_since device (disk.moment device) c → disk.may_leave device c)
      → HasOverwritten {X = Unit {0}} disk at n 0 device (Ok tt) device
  overwritten_none at n device now = record {
    torn = λ honest. torn_none at n (disk.seen device);
    left = λ c may. torn_from_none at n may;
    time = leaves_at_start (λ c since. torn_from_none at n (now c since));
    kept = kept_none disk device;
    calls = λ small. omega arith;
    most = λ small. omega arith;
  }

  -- by one write
  pub overwritten_once : {X : Type 0} {old new : D} (at : ℕ) (bytes : List ℕ) (result : Result X Refusal)
      → at + length bytes ≤ length (disk.seen old) → IfErr result (λ refusal. refusal ≡ Device)
      → Did disk old (WriteAt at bytes) (is_ok result) new
      → HasOverwritten disk at (length bytes) 1 old result new
  overwritten_once at bytes (Ok x) room fault did = record {
    torn = write_torn at bytes true room did;
    left = did.left;
    time = did.time;
    kept = did_kept (Ok x) tt did;
    calls = write_calls at bytes true did;
    most = λ small. omega (arith, small, write_calls at bytes true did);
  }
  overwritten_once at bytes (Err e) room fault did = record {
    torn = write_torn at bytes false room did;
    left = did.left;
    time = did.time;
    kept = did_kept (Err e) fault did;
    calls = tt;
    most = λ small. omega (arith, small, write_calls at bytes false did);
  }

  -- as part of a wider range
  pub overwritten_wider : {X : Type 0} {old new : D} {at n asked : ℕ} {result : Result X Refusal}
      → HasOverwritten disk at n asked old result new → (from size most : ℕ) → from ≤ at → at + n ≤ from + size
      → asked ≡ most
      → HasOverwritten disk from size most old result new
  overwritten_wider {X} {old} {new} {at} {n} {asked} {result} over from size most low high same =
      let P : ℕ → Type 0 = λ k. HasOverwritten disk from size k old result new in
      subst P same (record {
        torn = λ honest. torn_wider (over.torn honest) from size low high;
        left = λ c may. let torn = over.left c may in (torn.0, torn.1, torn_wider torn.2 from size low high);
        time = leaves_weaker over.time (λ c torn. (torn.0, torn.1, torn_wider torn.2 from size low high));
        kept = over.kept;
        calls = over.calls;
        most = over.most;
      })

  -- and then more of the range
  pub overwritten_then : {X Y : Type 0} {old mid new : D} {at n a b : ℕ} {x : X} {result : Result Y Refusal}
      → HasOverwritten disk at n a old (Ok x) mid → HasOverwritten disk at n b mid result new
      → HasOverwritten disk at n (a + b) old result new
  overwritten_then {X} {Y} {old} {mid} {new} {at} {n} {a} {b} {x} {result} first second = record {
    torn = λ honest. torn_twice (first.torn honest) (second.torn (first.kept.honest.1 honest));
    left = λ c may. left_more at n at n first.left (omega arith) (omega arith) c (second.left c may);
    time = leaves_on {P = TornFrom at n (disk.may_leave old)} first.time second.time
        (left_more at n at n first.left (omega arith) (omega arith));
    kept = kept_then first.kept second.kept;
    calls = on_ok_weaker result (λ (rises : Rises b (disk.calls_made mid) (disk.calls_made new)).
        λ small. omega (arith, small, first.calls, rises)) second.calls;
    most = λ small. omega (arith, small, first.calls, second.most);
  }

  -- or a call failed, and the rest wasn't written
  pub overwritten_less : {X Y : Type 0} {old new : D} {at n a : ℕ} {e : Refusal} (rest : ℕ) (result : Result Y Refusal)
      → result ≡ Err e → HasOverwritten {X = X} disk at n a old (Err e) new
      → HasOverwritten disk at n (a + rest) old result new
  overwritten_less {X} {Y} {old} {new} {at} {n} {a} {e} rest result is over =
      overwritten_failed {X = X} at n (a + rest) result is over.torn over.left over.time over.kept
      (λ small. omega (arith, small, over.most))

-- a write and a sync
module _ {D : Type 0} {disk : Ghosts D} {old new : D} (at : ℕ) (bytes : List ℕ) where
  pub both_torn : at + length bytes ≤ length (disk.seen old) → (done : Bool)
      → DidBoth disk old (WriteAt at bytes) Sync done new → disk.is_honest old
      → Torn at (length bytes) (disk.seen old) (disk.seen new)
  both_torn room done (inl failed) honest = write_torn at bytes false room failed.1 honest
  both_torn room done (inr both) honest =
      let P : List ℕ → Type 0 = λ l. Torn at (length bytes) (disk.seen old) l in
      subst P (sym (sync_unwritten done both.2 (both.1.honest.1 honest)).same)
      (write_torn at bytes true room both.1 honest)

  pub both_time : (done : Bool) → DidBoth disk old (WriteAt at bytes) Sync done new → disk.is_honest old
      → LeavesOnly disk.moment disk.left_since old new (TornFrom at (length bytes) (disk.may_leave old))
  both_time done (inl failed) honest = leaves_weaker failed.1.time (λ c left. left)
  both_time done (inr both) honest =
      leaves_on {P = TornFrom at (length bytes) (disk.may_leave old)} (leaves_weaker both.1.time (λ c left. left))
      (sync_unwritten done both.2 (both.1.honest.1 honest)).time (λ c left. both.1.left c left)

  pub both_written : {X : Type 0} (result : Result X Refusal)
      → DidBoth disk old (WriteAt at bytes) Sync (is_ok result) new → disk.is_honest old
      → OnOk result (disk.seen new ≡ written (disk.seen old) at bytes)
  both_written (Ok x) (inl failed) honest = absurd (both_ways true failed.0 refl)
  both_written (Ok x) (inr both) honest = both.2.seen (both.1.honest.1 honest) ∙ both.1.seen honest
  both_written (Err e) did honest = tt

  pub both_durable : {X : Type 0} (result : Result X Refusal)
      → DidBoth disk old (WriteAt at bytes) Sync (is_ok result) new → disk.is_honest old
      → OnOk result (Only (disk.may_leave new) (disk.seen new))
  both_durable (Ok x) (inl failed) honest = absurd (both_ways true failed.0 refl)
  both_durable (Ok x) (inr both) honest = sync_durable both.2 (both.1.honest.1 honest)
  both_durable (Err e) did honest = tt

  pub both_kept : {X : Type 0} (result : Result X Refusal) → IfErr result (λ refusal. refusal ≡ Device)
      → DidBoth disk old (WriteAt at bytes) Sync (is_ok result) new → IsAccounted disk old result new
  both_kept (Ok x) fault (inl failed) = absurd (both_ways true failed.0 refl)
  both_kept (Err e) fault (inl failed) = did_kept (Err e) fault failed.1
  both_kept result fault (inr both) =
      kept_then {X = Unit {0}} {x = tt} (did_kept (Ok tt) tt both.1) (did_kept result fault both.2)

  pub both_calls : {X : Type 0} (result : Result X Refusal)
      → DidBoth disk old (WriteAt at bytes) Sync (is_ok result) new
      → OnOk result (Rises 2 (disk.calls_made old) (disk.calls_made new))
  both_calls (Ok x) (inl failed) = absurd (both_ways true failed.0 refl)
  both_calls (Ok x) (inr both) = λ small. omega (arith, small, write_calls at bytes true both.1, sync_calls true both.2)
  both_calls (Err e) did = tt

  pub both_most : (done : Bool) → DidBoth disk old (WriteAt at bytes) Sync done new
      → RisesWithin 2 (disk.calls_made old) (disk.calls_made new)
  both_most done (inl failed) = λ small. omega (arith, small, write_calls at bytes false failed.1)
  both_most done (inr both) = λ small. omega (arith, small, write_calls at bytes true both.1, sync_calls done both.2)

-- a sync that failed, before a block is written over block 0
pub finished_unsynced : {D X : Type 0} {disk : Ghosts D} {old new : D} {e : Refusal} (block : List ℕ)
    (result : Result X Refusal) → result ≡ Err e → e ≡ Device → Did disk old Sync false new
    → HasFinished disk block old result new
finished_unsynced {D} {X} {disk} {old} {new} {e} block result is fault did =
    let P : Result X Refusal → Type 0 = λ r. HasFinished disk block old r new in
    let Q : List ℕ → Type 0 = λ l. Torn 0 4096 (disk.seen old) l in
    subst P (sym is) (record {
      done = λ honest. tt;
      synced = λ honest. tt;
      torn = λ honest. subst Q (sym (sync_unwritten false did honest).same) (torn_none 0 4096 (disk.seen old));
      time = λ honest. leaves_weaker (sync_unwritten false did honest).time (λ c may. inl may);
      kept = did_kept (Err e) fault did;
      calls = tt;
      most = λ small. omega (arith, small, sync_calls false did);
    })

-- one that succeeded, and then the block was written
pub finished_by : {D X : Type 0} {disk : Ghosts D} {old mid new : D} (block : List ℕ) (result : Result X Refusal)
    → length block ≡ 4096 → 4096 ≤ length (disk.seen old) → IfErr result (λ refusal. refusal ≡ Device)
    → Did disk old Sync true mid → DidBoth disk mid (WriteAt 0 block) Sync (is_ok result) new
    → HasFinished disk block old result new
finished_by {D} {X} {disk} {old} {mid} {new} block result whole long fault did both = record {
  done = λ honest.
      let same = (sync_unwritten true did honest).same in
      on_ok_weaker result (λ (is : disk.seen new ≡ written (disk.seen mid) 0 block). is ∙ ap
      (λ (bytes : List ℕ). written bytes 0 block) same) (both_written 0 block result both (did.honest.1 honest));
  synced = λ honest. both_durable 0 block result both (did.honest.1 honest);
  torn = λ honest.
      let P : List ℕ → Type 0 = λ l. Torn 0 4096 l (disk.seen new) in
      subst P (sync_unwritten true did honest).same
      (torn_wider (both_torn 0 block (omega (arith, whole, long, did.same_length)) (is_ok result) both
      (did.honest.1 honest)) 0 4096 (omega arith) (omega (arith, whole)));
  time = λ honest.
      let unwritten = sync_unwritten true did honest in
      let R : List ℕ → Type 0 =
      λ c. disk.may_leave old c ⊎ (disk.may_leave old (disk.seen old) × Torn 0 4096 (disk.seen old) c) in
      leaves_on {P = R} (leaves_weaker unwritten.time (λ c may. inl may))
      (both_time 0 block (is_ok result) both (did.honest.1 honest)) (λ c torn.
      let is : torn.0 ≡ disk.seen old = sync_durable did honest torn.0 torn.1 ∙ unwritten.same in
      let P : List ℕ → Type 0 = λ l. Torn 0 4096 l c in
      inr (
        subst (disk.may_leave old) is (unwritten.left torn.0 torn.1),
        subst P is (torn_wider torn.2 0 4096 (omega arith) (omega (arith, whole))),
      ));
  kept = kept_then {X = Unit {0}} {x = tt} (did_kept (Ok tt) tt did) (both_kept 0 block result fault both);
  calls = on_ok_weaker result (λ (two : Rises 2 (disk.calls_made mid) (disk.calls_made new)).
      λ small. omega (arith, small, sync_calls true did, two)) (both_calls 0 block result both);
  most = λ small. omega (arith, small, sync_calls true did, both_most 0 block (is_ok result) both);
}
