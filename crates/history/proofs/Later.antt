-- What openings find after a run.
use Rattle.std.proofs.Common.{ℕ, ◌≡◌, ◌⊎◌, inl, inr, List, Result, Ok, Err, MatchResult, refl, sym, subst}
use Rattle.device.specs.Device.{Only}
use Rattle.device.specs.declared.device.Device.{Ghosts}
use Rattle.page_entry.specs.declared.refusal.Refusal.{Refusal}
use Rattle.page_entry.specs.declared.refusal.Refusal.TheVariants.{OutOfMemory, NotAVolume, Damaged, Device}
use Rattle.volume_codec.specs.Files.{File}
use Rattle.volume_codec.specs.Super.{SuperValue}
use Rattle.volume_codec.specs.Recovery.{RecoversTo, IsNotAVolume, IsDamaged}
use Rattle.recovery.specs.Counts.{HasCause}
use Rattle.recovery.specs.Opening.{HasOpened, HasRefused}
use Rattle.recovery.specs.Openings.{IsLater, RecoversAs}
use Rattle.recovery.specs.Volume.{files_of}
use Rattle.history.specs.History.{Event, files_after}
use Rattle.history.specs.Reading.{ReadsBack}
use Rattle.history.specs.Later.{OpensTo, Finds, FindsDurable}

-- a list that recovers as another has its files
recovers_as : (lists : List ℕ → Type 0) (c : List ℕ) (alike : RecoversAs lists c) (files : List File)
    → RecoversTo alike.0 files → RecoversTo c files
recovers_as lists c alike files r = record {
  table = r.table;
  contents = r.contents;
  recovers = alike.2 r.table r.contents r.recovers;
  lengths = r.lengths;
  files_are = r.files_are;
}

-- By the laws of openings: what they leave recovers as what might be left before them, they give what was recovered to,
-- and bytes that recover to files are refused for no reason of theirs.
module _ {D : Type 0} (disk : Ghosts D)
    (seen_is_left : (device : D) → disk.is_honest device → disk.may_leave device (disk.seen device))
    (stays_honest : (n : ℕ) (first later : D) → disk.is_honest first
    → IsLater disk n first later → disk.is_honest later)
    (left_as : (n : ℕ) (first later : D) (c : List ℕ) → disk.is_honest first → IsLater disk n first later
    → disk.may_leave later c → RecoversAs (disk.may_leave first) c)
    (opened_files : (before after : D) (table : SuperValue) → HasOpened disk before table after
    → RecoversTo (disk.seen before) (files_of table (disk.seen after)))
    (no_kind : (bytes : List ℕ) (files : List File) → RecoversTo bytes files → IsNotAVolume bytes ⊎ IsDamaged bytes → ⊥)
    (one_recovery : (bytes : List ℕ) (files others : List File) → RecoversTo bytes files
    → RecoversTo bytes others → files ≡ others) where
  -- the files that a device recovers to are found on it
  found_on : (files : List File) (device : D) → disk.is_honest device → RecoversTo (disk.seen device) files
      → Finds disk files device
  found_on files device honest r =
      record { recovers = r; opened = λ result after opens. by result after (opens.ended honest) opens.kept.cause }
    where
      by : (result : Result SuperValue Refusal) (after : D) → MatchResult result
          (λ table. HasOpened disk device table after) (λ refusal. HasRefused disk device refusal after)
          → MatchResult result (λ table. disk.faults_met after ≡ disk.faults_met device)
          (HasCause (disk.faults_met device) (disk.faults_met after)) → OpensTo disk files device result after
      by (Ok table) after has cause = one_recovery (disk.seen device) (files_of table (disk.seen after)) files
          (opened_files device after table has) r
      by (Err NotAVolume) after has cause = absurd (no_kind (disk.seen device) files r (inl has.reason))
      by (Err Damaged) after has cause = absurd (no_kind (disk.seen device) files r (inr has.reason))
      by (Err Device) after has cause = cause
      by (Err OutOfMemory) after has cause = cause
      by (Err refusal) after has cause = absurd has.reason

  alike : (n : ℕ) (first later : D) → disk.is_honest first → IsLater disk n first later
      → RecoversAs (disk.may_leave first) (disk.seen later)
  alike n first later honest is =
      left_as n first later (disk.seen later) honest is (seen_is_left later (stays_honest n first later honest is))

  pub found_permanent : (files : List File) (n : ℕ) (first later : D) → disk.is_honest first
      → Only (disk.may_leave first) (disk.seen first) → RecoversTo (disk.seen first) files → IsLater disk n first later
      → Finds disk files later
  found_permanent files n first later honest only r is =
      let alike_is = alike n first later honest is in
      found_on files later (stays_honest n first later honest is) (recovers_as (disk.may_leave first) (disk.seen later)
      alike_is files (subst (λ (c : List ℕ). RecoversTo c files) (sym (only alike_is.0 alike_is.1)) r))

  pub found_durable : (files : List File) (history : List Event) (n : ℕ) (first later : D) → disk.is_honest first
      → ((c : List ℕ) → disk.may_leave first c → ReadsBack files history c) → IsLater disk n first later
      → FindsDurable disk files history later
  found_durable files history n first later honest back is =
      let alike_is = alike n first later honest is in
      let read = back alike_is.0 alike_is.1 in
      let found = files_after files read.prefix in
      record {
        found = found;
        durable = record { prefix = read.prefix; durable = read.durable; files_are = refl };
        finds = found_on found later (stays_honest n first later honest is)
            (recovers_as (disk.may_leave first) (disk.seen later) alike_is found read.recovers);
      }
