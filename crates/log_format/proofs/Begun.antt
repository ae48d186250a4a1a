-- What follows where a volume with a log was laid out, or was refused.
use Rattle.std.proofs.Common.{◌≡◌, ◌⊎◌, inl, inr, ℕ, ◌-◌, ◌*◌, Bool, false, List, [], ◌∷◌, length, get_or}
use Rattle.std.proofs.Common.{Result, Ok, Err, refl, sym, ap, subst, ◌∙◌, arith}
use Rattle.std.specs.Prelude.{is_ok, IfErr}
use Rattle.device.specs.Device.{LeavesOnly}
use Rattle.device.specs.Work.{Work}
use Rattle.device.specs.declared.device.Device.{Ghosts}
use Rattle.device.proofs.Public.{leaves_at_start, leaves_weaker, torn_from_none}
use Rattle.page_entry.specs.declared.refusal.Refusal.{Refusal}
use Rattle.page_entry.specs.declared.refusal.Refusal.TheVariants.{Device, OutOfMemory, BadShape}
use Rattle.volume_codec.specs.Files.{AskedFile, lengths_asked}
use Rattle.volume_codec.specs.Lengths.{lengths_text}
use Rattle.recovery.specs.Counts.{HasCause, IsAccounted}
use Rattle.recovery.specs.Migration.{asked_of}
use Rattle.recovery.specs.Volume.{VolumeState, IsWellFormed}
use Rattle.recovery.proofs.Public.{again_lengths, did_kept, kept_none, kept_ok, kept_then}
use Rattle.new_volume.specs.Formatting.{DidAll}
use Rattle.new_volume.proofs.Public.{all_same}
use Rattle.log_codec.specs.declared.sealing.Sealing.{Sealing}
use Rattle.log_codec.specs.Start.{start_text}
use Rattle.log_volume.specs.Super.{LogSuperValue, log_of}
use Rattle.log_format.specs.Asked.{IsLogAsked, HasLogShape, RefusesLogFormat}
use Rattle.log_format.specs.Formatting.{laying_works, IsWrittenInLog}
use Rattle.log_format.specs.Fresh.{first_log_start}
use Rattle.log_format.proofs.Laid.{AreLaidBlocks}
use Rattle.log_format.proofs.Crash.{IsBehind, StaysBehind, partly_behind, laying_left}
use Rattle.log_format.proofs.Laid.{laying_inside, laying_out}
use Rattle.log_format.specs.Migration.{IsFilledLog, IsWrittenByMigration, LeftByLogMigration}
use Rattle.log_format.specs.inside.Copying.{HasLaidAs, HasLaid}

-- several works keep what one keeps
pub did_all_kept : {E X : Type 0} (other : Ghosts E) (works : List Work) (result : Result X Refusal) (old new : E)
    → IfErr result (λ refusal. refusal ≡ Device) → DidAll other old works (is_ok result) new
    → IsAccounted other old result new
did_all_kept {E} {X} other [] (Ok x) old new fault did =
    let P : E → Type 0 = λ d. IsAccounted {X = X} other old (Ok x) d in
    subst P (sym did.1) (kept_ok x (kept_none other old))
did_all_kept other [] (Err e) old new fault did = absurd (cc)
did_all_kept other (work ∷ works) (Ok x) old new fault (inl failed) = absurd (cc)
did_all_kept other (work ∷ works) (Err e) old new fault (inl failed) = did_kept (Err e) fault failed.1
did_all_kept other (work ∷ works) (Ok x) old new fault (inr did) = kept_then {X = Unit {0}} {x = tt}
    (did_kept (Ok tt) tt did.1) (did_all_kept other works (Ok x) did.0 new fault did.2)
did_all_kept other (work ∷ works) (Err e) old new fault (inr did) = kept_then {X = Unit {0}} {x = tt}
    (did_kept (Ok tt) tt did.1) (did_all_kept other works (Err e) did.0 new fault did.2)

-- what was asked for is asked for again
pub laid_again : {D E : Type 0} (disk : Ghosts D) (other : Ghosts E) (sealing : Sealing) (ring : ℕ)
    (volume : VolumeState D) (old new : E) (files : List AskedFile) (size : ℕ) (table : LogSuperValue) (done : Bool)
    → IsWellFormed disk volume → files ≡ asked_of volume → size ≡ length (other.seen old)
    → HasLogShape sealing files ring size table
    → DidAll other old (laying_works table (lengths_asked files)) done new
    → length (lengths_text (lengths_asked files)) ≡ 4096 → length (start_text first_log_start) ≡ 4096
    → HasLaidAs other sealing volume ring old table done new
laid_again disk other sealing ring volume old new files size table done well_formed same long shape did whole start =
    let lengths : lengths_asked files ≡ volume.lengths = ap (λ (fs : List AskedFile). lengths_asked fs) same
    ∙ again_lengths volume.table.files volume.lengths well_formed.lengths.count in
    let P : List AskedFile → Type 0 = λ fs. IsLogAsked sealing fs ring table in
    let Q : List ℕ → Type 0 = λ l. DidAll other old (laying_works table l) done new in
    record {
      shape = record { asked = subst P same shape.asked; long = omega (arith, shape.long, long) };
      did = subst Q lengths did;
      lengths_are = ap (λ (l : List ℕ). length (lengths_text l)) (sym lengths) ∙ whole;
      start_is = start;
    }

pub refused_again : {D E : Type 0} (other : Ghosts E) (sealing : Sealing) (ring : ℕ) (volume : VolumeState D) (old : E)
    (files : List AskedFile) (size : ℕ) (refusal : Refusal) → files ≡ asked_of volume → size ≡ length (other.seen old)
    → (refusal ≡ BadShape) ⊎ (refusal ≡ OutOfMemory) → RefusesLogFormat sealing files ring size refusal
    → HasLaid other sealing volume ring old (Err refusal) old
refused_again other sealing ring volume old files size refusal same long early refuses = by refusal early
    (let P : List AskedFile → Type 0 = λ fs. RefusesLogFormat sealing fs ring (length (other.seen old)) refusal in
    let Q : ℕ → Type 0 = λ n. RefusesLogFormat sealing files ring n refusal in
    subst P same (subst Q long refuses))
  where
    by : (refusal : Refusal) → (refusal ≡ BadShape) ⊎ (refusal ≡ OutOfMemory)
        → RefusesLogFormat sealing (asked_of volume) ring (length (other.seen old)) refusal
        → HasLaid other sealing volume ring old (Err refusal) old
    by BadShape early refuses = (refuses, refl)
    by OutOfMemory early refuses = (refuses, refl)
    by Device (inl is) refuses = absurd (cc)
    by Device (inr is) refuses = absurd (cc)
    by _ early refuses = absurd refuses

module _ {D E : Type 0} (disk : Ghosts D) (other : Ghosts E) (sealing : Sealing) (ring : ℕ)
    (volume : VolumeState D) (before : E) where
  abbrev Lists : List ℕ → Type 0
  Lists = other.may_leave before

  -- a device that was laid out, whether all of it was done
  module _ (table : LogSuperValue) (done : Bool) (laid : E)
      (has : HasLaidAs other sealing volume ring before table done laid) where
    pub laid_blocks : AreLaidBlocks volume.lengths
    laid_blocks = record { lengths_are = has.lengths_are; start_is = has.start_is }

    pub laid_left : StaysBehind other (log_of table).blocks Lists laid
        × LeavesOnly other.moment other.left_since before laid (IsBehind (log_of table).blocks Lists)
    laid_left = laying_left other (log_of table).blocks Lists table volume.lengths done before laid
        has.shape.asked.fits.log refl laid_blocks
        (λ c left. torn_from_none 4096 (4096 * (log_of table).blocks - 4096) left) has.did

    -- what is behind block 0 alone is a volume that is being made
    pub behind_left : (c : List ℕ) → IsBehind (log_of table).blocks Lists c
        → LeftByLogMigration disk other sealing ring volume before c
    behind_left c behind = inr (
      table,
      has.shape,
      partly_behind (log_of table).blocks (IsFilledLog disk volume table) Lists c
          (omega (arith, has.shape.asked.fits.log.some_homes)) behind,
    )

    pub laid_others : other.is_honest before → (i : ℕ) → ¬ IsWrittenByMigration table i
        → get_or (other.seen laid) i 0 ≡ get_or (other.seen before) i 0
    laid_others honest i not =
        let log = has.shape.asked.fits.log in
        let out : ¬ IsWrittenInLog table i = λ is. elim is [
          | inl first ↦ not (inl first)
          | inr (inl start) ↦ not (inr (inl start))
          | inr (inr lengths) ↦ not (inr (inr (lengths.0, omega (arith, lengths.1, log.some_homes))))
        ] in
        all_same other before laid (laying_works table volume.lengths) done has.did honest
        (laying_inside table volume.lengths (length (other.seen before)) log has.shape.long laid_blocks) i
        (laying_out table volume.lengths (length (other.seen before)) log has.shape.long laid_blocks i out)

  -- a refusal before any file was copied
  pub record IsRefused (refusal : Refusal) (after : E) : Type 0 where
    pub others : other.is_honest before → (i : ℕ) → ((table : LogSuperValue)
        → IsLogAsked sealing (asked_of volume) ring table → ¬ IsWrittenByMigration table i)
        → get_or (other.seen after) i 0 ≡ get_or (other.seen before) i 0
    pub crash : LeavesOnly other.moment other.left_since before after
        (LeftByLogMigration disk other sealing ring volume before)
    pub refused : RefusesLogFormat sealing (asked_of volume) ring (length (other.seen before)) refusal
    pub unchanged : (refusal ≡ Device) ⊎ (after ≡ before)
    pub kept : IsAccounted {X = Unit {0}} other before (Err refusal) after

  -- no device call was made
  untouched : ((c : List ℕ) → other.left_since before (other.moment before) c → other.may_leave before c)
      → (refusal : Refusal) → HasCause (other.faults_met before) (other.faults_met before) refusal → (after : E)
      → RefusesLogFormat sealing (asked_of volume) ring (length (other.seen before)) refusal × (after ≡ before)
      → IsRefused refusal after
  untouched now refusal cause after (refuses, same) =
      let P : E → Type 0 = λ d. IsRefused refusal d in
      subst P (sym same) (record {
        others = λ honest i not. refl;
        crash = leaves_at_start (λ c since. inl (now c since));
        refused = refuses;
        unchanged = inr refl;
        kept = record { honest = (λ h. h, λ h. h); len = refl; cause = cause };
      })

  pub begun_refused : ((c : List ℕ) → other.left_since before (other.moment before) c → other.may_leave before c)
      → (refusal : Refusal) (after : E) → HasLaid other sealing volume ring before (Err refusal) after
      → IsRefused refusal after
  begun_refused now Device after (table, has) = record {
    others = λ honest i not. laid_others table false after has honest i (not table has.shape.asked);
    crash = leaves_weaker (laid_left table false after has).1 (behind_left table false after has);
    refused = (table, has.shape);
    unchanged = inl refl;
    kept = did_all_kept other (laying_works table volume.lengths) (Err Device) before after refl has.did;
  }
  begun_refused now BadShape after has = untouched now BadShape refl after has
  begun_refused now OutOfMemory after has = untouched now OutOfMemory refl after has
  begun_refused now _ after has = absurd has.0
