-- The files of a volume with a log whose device calls a host makes, and the marks that were committed.
use Rattle.std.specs.Prelude.{ℕ, Option, Some, None}
use Rattle.deferred_disk.specs.Deferred.{Deferred, recorded_calls}
use Rattle.embedded.specs.Embedded.{acknowledged_by_calls, made_calls}
use Rattle.log_files.specs.State.{LogFilesState, on_device}

-- The state of these files: the files, and the marks of the last commit and of the last acknowledged commit. `due` is
-- the number of device calls that were recorded when the last commit was reported.
pub record EmbeddedLogState : Type 0 where
  pub files : LogFilesState Deferred
  pub committed : Option ℕ
  pub due : ℕ
  pub acknowledged : Option ℕ

-- the state over files that were just opened
abbrev pub log_just_opened : LogFilesState Deferred → EmbeddedLogState
log_just_opened files = record { files = files; committed = None; due = 0; acknowledged = None }

abbrev pub with_files : EmbeddedLogState → LogFilesState Deferred → EmbeddedLogState
with_files embedded files = record embedded { files = files }

-- the state after a commit with this mark, which left these files
abbrev pub with_log_mark : EmbeddedLogState → ℕ → LogFilesState Deferred → EmbeddedLogState
with_log_mark embedded mark files = record {
  files = files;
  committed = Some mark;
  due = recorded_calls files.pager.device;
  acknowledged = acknowledged_by_calls (made_calls files.pager.device) (recorded_calls files.pager.device)
      (Some mark) embedded.acknowledged;
}

-- the state after the host made a call, which left this device
abbrev pub with_log_call_made : EmbeddedLogState → Deferred → EmbeddedLogState
with_log_call_made embedded device = record embedded {
  files = on_device embedded.files device;
  acknowledged = acknowledged_by_calls (made_calls device) embedded.due embedded.committed embedded.acknowledged;
}
