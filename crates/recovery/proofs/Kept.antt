-- Calls one after another: what each keeps is kept by all, and where none wrote, nothing was written.
use Rattle.std.proofs.Common.{◌≡◌, ℕ, List, Result, Ok, Err, MatchResult, refl, sym, ◌∙◌, subst}
use Rattle.device.specs.declared.device.Device.{Ghosts}
use Rattle.device.specs.Device.{Only}
use Rattle.device.proofs.Moments.{leaves_on}
use Rattle.page_entry.specs.declared.refusal.Refusal.{Refusal}
use Rattle.recovery.specs.Counts.{HasCause, IsAccounted}
use Rattle.recovery.specs.Opening.{IsUnwritten}
use Rattle.recovery.specs.Reading.{IsOnlyRead}

-- before any call
pub kept_none : {D : Type 0} (disk : Ghosts D) (device : D) → IsAccounted {X = Unit {0}} disk device (Ok tt) device
kept_none disk device = record { honest = (λ h. h, λ h. h); len = refl; cause = refl }

-- a call that succeeded, and another
pub kept_then : {D X Y : Type 0} {disk : Ghosts D} {old mid new : D} {x : X} {result : Result Y Refusal}
    → IsAccounted disk old (Ok x) mid → IsAccounted disk mid result new → IsAccounted disk old result new
kept_then {D} {X} {Y} {disk} {old} {mid} {new} {x} {result} first second =
    let P : ℕ → Type 0 = λ n. MatchResult result (λ _. disk.faults_met new ≡ n) (HasCause n (disk.faults_met new)) in
    record {
      honest = (λ h. first.honest.0 (second.honest.0 h), λ h. second.honest.1 (first.honest.1 h));
      len = second.len ∙ first.len;
      cause = subst P first.cause second.cause;
    }

-- the result's value doesn't matter
pub kept_ok : {D X Y : Type 0} {disk : Ghosts D} {old new : D} {x : X} (y : Y) → IsAccounted disk old (Ok x) new
    → IsAccounted disk old (Ok y) new
kept_ok y kept = record { honest = kept.honest; len = kept.len; cause = kept.cause }

-- a call that failed as another did
pub kept_err : {D X Y : Type 0} {disk : Ghosts D} {old new : D} {e : Refusal} (result : Result Y Refusal)
    → result ≡ Err e → IsAccounted {X = X} disk old (Err e) new → IsAccounted disk old result new
kept_err {D} {X} {Y} {disk} {old} {new} {e} result is kept =
    let P : Result Y Refusal → Type 0 = λ r. IsAccounted disk old r new in
    subst P (sym is) (record { honest = kept.honest; len = kept.len; cause = kept.cause })

-- calls that write nothing
pub unwritten_then : {D : Type 0} {disk : Ghosts D} {old mid new : D} → IsUnwritten disk old mid
    → IsUnwritten disk mid new → IsUnwritten disk old new
unwritten_then first second = record {
  same = second.same ∙ first.same;
  left = λ c left. first.left c (second.left c left);
  time = leaves_on first.time second.time first.left;
}

-- calls that only read
pub unwritten_of : {D : Type 0} {disk : Ghosts D} {old new : D} → IsOnlyRead disk old new → IsUnwritten disk old new
unwritten_of read = record { same = read.same; left = read.left; time = read.time }

pub read_then : {D : Type 0} {disk : Ghosts D} {old mid new : D} → IsOnlyRead disk old mid → IsOnlyRead disk mid new
    → IsOnlyRead disk old new
read_then first second = record {
  same = second.same ∙ first.same;
  left = λ c left. first.left c (second.left c left);
  keeps = λ honest c left. second.keeps (first.honest.1 honest) c (first.keeps honest c left);
  time = leaves_on first.time second.time first.left;
  honest = (λ h. first.honest.0 (second.honest.0 h), λ h. second.honest.1 (first.honest.1 h));
}

-- what is synced stays synced
pub synced_after : {D : Type 0} {disk : Ghosts D} {old new : D} → IsUnwritten disk old new
    → Only (disk.may_leave old) (disk.seen old) → Only (disk.may_leave new) (disk.seen new)
synced_after {D} {disk} {old} {new} unwritten only =
    let P : List ℕ → Type 0 = λ bytes. Only (disk.may_leave new) bytes in
    subst P (sym unwritten.same) (λ c left. only c (unwritten.left c left))
