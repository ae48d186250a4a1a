-- What a crash leaves while a host makes the calls.
use Rattle.std.proofs.Common.{◌≡◌, ℕ, List, [], take, false, ap, ◌∙◌}
use Rattle.std.proofs.lemmas.List.Elements.{Contains-append_left}
use Rattle.deferred_disk.specs.Deferred.{Deferred, as_memory}
use Rattle.device.specs.Device.{LeavesOnly}
use Rattle.device.specs.Memory.{moment_of}
use Rattle.device.specs.inside.Laws.{now_is_since_of, since_now_of}
use Rattle.device.proofs.Public.{leaves_weaker, leaves_then}
use Rattle.volume_codec.specs.Files.{File}
use Rattle.recovery.specs.Reading.{IsOnlyRead}
use Rattle.history.specs.History.{Event, Acknowledge}
use Rattle.log_codec.specs.declared.sealing.Sealing.TheVariants.{ByByte}
use Rattle.log_volume.specs.Super.{LogSuperValue}
use Rattle.log_files.specs.State.{LogFilesState}
use Rattle.log_histories.specs.Histories.{HasComeLog, LogStays}
use Rattle.log_histories.specs.Runs.{ReadsBackAmongLog}
use Rattle.log_histories.proofs.Public.{KeepsLog, contents_now, keeps, left_since, left_in_run_commit, left_in_run_step}
use Rattle.log_histories.proofs.Public.{same_table, told_run}
use Rattle.embedded.specs.Recorded.{deferred_disk}
use Rattle.embedded_log.specs.Hosting.{KeepsLogMark}
use Rattle.embedded_log.specs.Runs.{HasRunLog, HasServedLog, Unfailed, StoppedInCommit, StoppedInStep}
use Rattle.embedded_log.specs.Runs.{TellsServed}
use Rattle.embedded_log.specs.Serving.{HasPassedLogMark}

-- ---- crashes

module _ (files : List File) (history : List Event) (mid : LogFilesState Deferred)
    (come : HasComeLog deferred_disk files history mid) where
  since : (d : Deferred) (c : List ℕ) → deferred_disk.left_since d (deferred_disk.moment d) c
      → deferred_disk.may_leave d c
  since d c left = since_now_of (as_memory d) c left

  abbrev Leaves : Deferred → (List ℕ → Type 0) → Type 0
  Leaves after P = LeavesOnly deferred_disk.moment deferred_disk.left_since mid.pager.device after P

  -- a device that was only read after that
  read_after : (P : List ℕ → Type 0) (a b : Deferred) → Leaves a P → IsOnlyRead deferred_disk a b → Leaves b P
  read_after P a b leaves read =
      leaves_then leaves (leaves_weaker read.time (λ c may.
      leaves.each c (now_is_since_of (as_memory a) (moment_of (as_memory mid.pager.device)) c leaves.later may)))

  abbrev contents : ℕ → List ℕ
  contents = contents_now deferred_disk since files come

  had : KeepsLog deferred_disk files history mid contents
  had = keeps deferred_disk since files come

  pub left_served : {events : List Event} {s : LogFilesState Deferred} (served : HasServedLog mid events s)
      → Leaves s.pager.device (λ c. TellsServed served c → ReadsBackAmongLog files history events c)
  left_served (Unfailed events s run) = left_since deferred_disk since files history mid contents had run
  left_served (StoppedInCommit events last s after call read spent run) =
      read_after _ after s.pager.device
      (left_in_run_commit deferred_disk since files history mid contents had run false after call) read
  left_served (StoppedInStep events last s after call read spent run) =
      read_after _ after s.pager.device
      (left_in_run_step deferred_disk since files history mid contents had run false after call) read

  -- where a byte seals
  pub told_served : {events : List Event} {s : LogFilesState Deferred} (served : HasServedLog mid events s)
      → mid.table.sealing ≡ ByByte → (c : List ℕ) → TellsServed served c
  told_served (Unfailed events s run) byte c =
      (told_run deferred_disk since files history mid contents had run byte c).0
  told_served (StoppedInCommit events last s after call read spent run) byte c =
      (told_run deferred_disk since files history mid contents had run byte c).1
  told_served (StoppedInStep events last s after call read spent run) byte c =
      (told_run deferred_disk since files history mid contents had run byte c).0

  pub same_sealing : {events : List Event} {s : LogFilesState Deferred} → HasRunLog mid events s
      → s.table.sealing ≡ mid.table.sealing
  same_sealing run = ap (λ (v : LogSuperValue). v.sealing)
      (same_table deferred_disk since files history mid contents had run)

-- a mark that is acknowledged is in each durable prefix
pub kept : (files : List File) (mark : ℕ) (s : LogFilesState Deferred) (reached : HasPassedLogMark files mark s)
    (c : List ℕ) → ReadsBackAmongLog files reached.earlier reached.later c → KeepsLogMark files mark s reached c
kept files mark s reached c among = record {
  among = among;
  marked = among.back.durable.acknowledged mark
      (Contains-append_left reached.earlier (take among.later reached.later) (Acknowledge mark) reached.acknowledges);
}

pub come_of : (files : List File) (mark : ℕ) (s : LogFilesState Deferred) (reached : HasPassedLogMark files mark s)
    → HasComeLog deferred_disk files reached.earlier reached.mid
come_of files mark s reached = record {
  before = reached.opened.before;
  first = reached.first;
  opened = reached.opened.opened;
  files_are = reached.opened.files_are;
  gone = reached.run;
}

pub told_mark : (files : List File) (mark : ℕ) (s : LogFilesState Deferred) (reached : HasPassedLogMark files mark s)
    → reached.first.table.sealing ≡ ByByte → (c : List ℕ) → TellsServed reached.served c
told_mark files mark s reached byte =
    let came : HasComeLog deferred_disk files [] reached.first = record {
      before = reached.opened.before;
      first = reached.first;
      opened = reached.opened.opened;
      files_are = reached.opened.files_are;
      gone = LogStays;
    } in
    told_served files reached.earlier reached.mid (come_of files mark s reached) reached.served
    (same_sealing files [] reached.first came reached.run ∙ byte)
