-- Where each call of the files leads.
use Rattle.std.proofs.Common.{◌≡◌, ◌≢◌, ℕ, ◌+◌, ◌*◌, List, [], ◌∷◌, ◌++◌, length, Bool}
use Rattle.std.proofs.Common.{true, false, refl, sym, ◌∙◌, ap}
use Rattle.std.proofs.Common.{if◌then◌else◌}
use Rattle.std.proofs.Common.{ap, subst, inl, inr, None, eqb}
use Rattle.std.proofs.lemmas.Bool.{cases_eq, eq-eqb, cond-true}
use Rattle.std.proofs.lemmas.List.Elements.{Contains-append_right, Contains-push}
use Rattle.std.specs.Prelude.{Contains}
use Rattle.device.specs.Device.{LeavesOnly}
use Rattle.deferred_disk.specs.Deferred.{Deferred, carried_moment, IsSuppliedWell}
use Rattle.recovery.specs.Reading.{IsOnlyRead}
use Rattle.page_entry.specs.declared.numbers.FilePage.{FilePage}
use Rattle.page_entry.specs.declared.refusal.Refusal.{Refusal}
use Rattle.page_entry.specs.declared.refusal.Refusal.TheVariants as refusals
use Rattle.history.specs.History.{Event, Store, SetLength, Mark, Acknowledge}
use Rattle.pager.specs.State.{file_length}
use Rattle.log_recovery.specs.Reading.{ReadsAlone}
use Rattle.kept_blocks.specs.Blocks.{AreWholeBlocks}
use Rattle.log_commits.specs.Tail.{TailValue}
use Rattle.log_commits.specs.Behind.{LeftUnchanged}
use Rattle.log_store.specs.declared.fault.Progress.{Progress}
use Rattle.log_pager.specs.Pager.{IsPagerOver, LeftByPut, contents_put}
use Rattle.log_files.specs.State.{LogFilesState, on_device}
use Rattle.log_files.specs.Calls.{log_put_refusal, after_page_put, log_commit_refusal}
use Rattle.log_files.specs.Calls.{IsLogFilesCommit, IsFailedLogCommit}
use Rattle.log_files.specs.Calls.{KeepsLogFiles, IsLogFilesStep, IsFailedLogStep, log_length_refusal, last_log_page}
use Rattle.log_files.specs.Calls.{after_log_length, log_resized_to}
use Rattle.log_histories.specs.Histories.{LogStays, LogPut, LogCommitted, LogMarked, LogStepped, LogRead, LogRefused}
use Rattle.log_histories.specs.Histories.{LogResized, KeepsContents}
use Rattle.embedded.specs.Recorded.{deferred_disk}
use Rattle.embedded_log.specs.Runs.{StoppedInCommit, StoppedInStep}
use Rattle.embedded_log.specs.inside.Leading.{LeadsLog, RunsLog, AnyEvents, HasAcknowledgedMark}
use Rattle.embedded_log.proofs.Stepping.{device_or_not}
use Rattle.embedded_log.proofs.Leading.{GoesForth, goes_forth, leads_nowhere, leads_of, not_read, runs_by, unlike}

-- ---- pages

pub leads_put : (s : LogFilesState Deferred) (owner : FilePage) (bytes : List ℕ) → log_put_refusal s owner ≡ None
    → length bytes ≡ 4096 → KeepsContents deferred_disk s (after_page_put s owner bytes)
    → LeadsLog s (after_page_put s owner bytes)
leads_put s owner bytes admitted page over =
    leads_of AnyEvents s (after_page_put s owner bytes)
    (runs_by AnyEvents s (after_page_put s owner bytes) (Store owner.file (4096 * owner.page) bytes ∷ [])
    (λ before. tt) (λ well. well) refl
    (λ well. LogPut [] s owner bytes (record { admitted = admitted; a_page = page; over = over }) LogStays))
    (λ well spent. (not_read s.pager.device, spent))

-- the device was only read
pub leads_read : (s : LogFilesState Deferred) (after : Deferred)
    → (IsSuppliedWell after → IsSuppliedWell s.pager.device)
    → (IsSuppliedWell after → IsOnlyRead deferred_disk s.pager.device after)
    → (IsSuppliedWell after → KeepsContents deferred_disk s (on_device s after))
    → carried_moment after ≡ carried_moment s.pager.device → LeadsLog s (on_device s after)
leads_read s after well read over carried =
    leads_of AnyEvents s (on_device s after)
    (runs_by AnyEvents s (on_device s after) [] (λ before. tt) well carried
    (λ is. LogRead [] s after (record { read = read is; over = over is }) LogStays))
    (λ is spent. (read is, spent))

pub only_read_of : (a b : Deferred) → ReadsAlone deferred_disk a b → IsOnlyRead deferred_disk a b
only_read_of a b alone = record {
  same = alone.same;
  left = alone.left;
  keeps = alone.keeps;
  time = alone.time;
  honest = alone.honest;
}

pub leads_alone : (s new : LogFilesState Deferred) → new ≡ on_device s new.pager.device
    → ReadsAlone deferred_disk s.pager.device new.pager.device
    → (IsSuppliedWell s.pager.device → KeepsContents deferred_disk s new) → LeadsLog s new
leads_alone s new is alone over =
    subst (λ (t : LogFilesState Deferred). LeadsLog s t) (sym is)
    (leads_read s new.pager.device alone.honest.0 (λ well. only_read_of s.pager.device new.pager.device alone)
    (λ well. subst (λ (t : LogFilesState Deferred). KeepsContents deferred_disk s t) is (over (alone.honest.0 well)))
    alone.carried)

-- ---- lengths

-- whether a device call had failed stays
length_spent : (s : LogFilesState Deferred) (b : Bool) (t : LogFilesState Deferred)
    → t.pager.store.tail.spent ≡ s.pager.store.tail.spent
    → (if b then s else t).pager.store.tail.spent ≡ s.pager.store.tail.spent
length_spent s true t is = refl
length_spent s false t is = is

pub leads_length : (s new : LogFilesState Deferred) (file to : ℕ) → log_length_refusal s file to ≡ None
    → ((contents : ℕ → List ℕ) → IsSuppliedWell s.pager.device → IsPagerOver deferred_disk s.pager contents
    → new ≡ after_log_length s file to (last_log_page s contents file) new.pager.device)
    → (last : List ℕ) × (new ≡ after_log_length s file to last new.pager.device)
    → ReadsAlone deferred_disk s.pager.device new.pager.device
    → (IsSuppliedWell s.pager.device → KeepsContents deferred_disk s new) → LeadsLog s new
leads_length s new file to admitted set some alone over = elim (cases_eq to (file_length s.lengths file)) [
  | inl same ↦ subst (λ (t : LogFilesState Deferred). LeadsLog s t)
      (sym (some.1 ∙ cond-true (eqb to (file_length s.lengths file)) s
      (log_resized_to s file to some.0 new.pager.device) (eq-eqb to (file_length s.lengths file) same)))
      (leads_nowhere s)
  | inr other ↦ leads_of AnyEvents s new
      (runs_by AnyEvents s new (SetLength file (file_length s.lengths file) to ∷ []) (λ before. tt)
      alone.honest.0 alone.carried
      (λ is. LogResized [] s file to new (record {
        admitted = admitted;
        other = other;
        read = alone;
        resized = λ contents held. set contents (alone.honest.0 is) held;
        over = over (alone.honest.0 is);
      }) LogStays))
      (λ is spent. (
        only_read_of s.pager.device new.pager.device alone,
        ap (λ (t : LogFilesState Deferred). t.pager.store.tail.spent) some.1
            ∙ length_spent s (eqb to (file_length s.lengths file))
            (log_resized_to s file to some.0 new.pager.device) refl ∙ spent,
      ))
]

-- ---- commits

-- a mark is acknowledged by the last two events
has_mark : (mark number : ℕ) (before : List Event) → mark ≡ number
    → Contains (before ++ (Mark number ∷ Acknowledge number ∷ [])) (Acknowledge mark)
has_mark mark number before is =
    Contains-append_right before (Mark number ∷ Acknowledge number ∷ []) (Acknowledge mark)
    (subst (λ (n : ℕ). Contains (Mark number ∷ Acknowledge number ∷ []) (Acknowledge n)) (sym is)
    (Contains-push (Mark number ∷ []) (Acknowledge number)))

-- the contents after a commit of what was put
abbrev pub CommitsContents : LogFilesState Deferred → LogFilesState Deferred → Type 0
CommitsContents s new = (contents : ℕ → List ℕ) → IsPagerOver deferred_disk s.pager contents
    → IsPagerOver deferred_disk new.pager (contents_put contents s.pager.staged)

-- what a crash within a commit leaves
abbrev pub CommitLeft : LogFilesState Deferred → Deferred → Type 0
CommitLeft s after = (contents : ℕ → List ℕ) → IsPagerOver deferred_disk s.pager contents
    → LeavesOnly deferred_disk.moment deferred_disk.left_since s.pager.device after
    (LeftByPut s.pager.store.tail contents s.pager.staged)

module _ (s new : LogFilesState Deferred) (mark : ℕ) (admitted : log_commit_refusal s ≡ None)
    (mark_is : mark ≡ s.marks + 1) (whole : AreWholeBlocks s.pager.staged)
    (well : IsSuppliedWell new.pager.device → IsSuppliedWell s.pager.device) where
  runs_marked : s.pager.staged ≡ [] → new ≡ record s { marks = s.marks + 1 }
      → RunsLog (HasAcknowledgedMark mark) s new
  runs_marked none is = subst (λ (t : LogFilesState Deferred). RunsLog (HasAcknowledgedMark mark) s t) (sym is)
      (runs_by (HasAcknowledgedMark mark) s (record s { marks = s.marks + 1 })
      (Mark (s.marks + 1) ∷ Acknowledge (s.marks + 1) ∷ [])
      (λ before. has_mark mark (s.marks + 1) before mark_is) (λ is_well. is_well) refl
      (λ is_well. LogMarked [] s (record { admitted = admitted; none = none }) LogStays))

  runs_committed : IsLogFilesCommit deferred_disk s new → (IsSuppliedWell s.pager.device → CommitsContents s new)
      → (IsSuppliedWell s.pager.device → CommitLeft s new.pager.device) → RunsLog (HasAcknowledgedMark mark) s new
  runs_committed made over leaves =
      let forth : GoesForth s.pager.device new.pager.device
      = goes_forth _ true s.pager.device new.pager.device made.did in
      runs_by (HasAcknowledgedMark mark) s new (Mark (s.marks + 1) ∷ Acknowledge (s.marks + 1) ∷ [])
      (λ before. has_mark mark (s.marks + 1) before mark_is) well forth.carried
      (λ is. LogCommitted [] s new (record {
        calls = record {
          honest = well is;
          may = made.may;
          whole = whole;
          did = made.did;
          leaves = leaves (well is);
        };
        made = made;
        over = over (well is);
      }) LogStays)

-- what was put is committed, or nothing was put
pub runs_commit : (s new : LogFilesState Deferred) (mark : ℕ) → log_commit_refusal s ≡ None → mark ≡ s.marks + 1
    → AreWholeBlocks s.pager.staged → (IsSuppliedWell new.pager.device → IsSuppliedWell s.pager.device)
    → (s.pager.staged ≡ [] → new ≡ record s { marks = s.marks + 1 })
    → (s.pager.staged ≢ [] → IsLogFilesCommit deferred_disk s new)
    → (IsSuppliedWell s.pager.device → CommitsContents s new)
    → (IsSuppliedWell s.pager.device → CommitLeft s new.pager.device) → RunsLog (HasAcknowledgedMark mark) s new
runs_commit s new mark admitted mark_is whole well nothing some over leaves = go s.pager.staged refl
  where
    go : (blocks : List (ℕ × List ℕ)) → s.pager.staged ≡ blocks → RunsLog (HasAcknowledgedMark mark) s new
    go [] is = runs_marked s new mark admitted mark_is whole well is (nothing is)
    go (block ∷ blocks) is = runs_committed s new mark admitted mark_is whole well
        (some (λ none. absurd (let e : (block ∷ blocks) ≡ [] = sym is ∙ none in cc))) over leaves

-- where a device call had failed no commit is made
pub stuck_commit : (s new : LogFilesState Deferred) → (s.pager.staged ≡ [] → new ≡ record s { marks = s.marks + 1 })
    → (s.pager.staged ≢ [] → IsLogFilesCommit deferred_disk s new) → IsSuppliedWell new.pager.device
    → s.pager.store.tail.spent ≡ true
    → IsOnlyRead deferred_disk s.pager.device new.pager.device × (new.pager.store.tail.spent ≡ true)
stuck_commit s new nothing some well spent = go s.pager.staged refl
  where
    go : (blocks : List (ℕ × List ℕ)) → s.pager.staged ≡ blocks
        → IsOnlyRead deferred_disk s.pager.device new.pager.device × (new.pager.store.tail.spent ≡ true)
    go [] is = subst (λ (t : LogFilesState Deferred). IsOnlyRead deferred_disk s.pager.device t.pager.device
        × (t.pager.store.tail.spent ≡ true)) (sym (nothing is)) (not_read s.pager.device, spent)
    go (block ∷ blocks) is =
        unlike s new (some (λ none. absurd (let e : (block ∷ blocks) ≡ [] = sym is ∙ none in cc))).may.whole well spent

-- a commit of which a device call failed
pub leads_failed_commit : (s new : LogFilesState Deferred) → IsFailedLogCommit deferred_disk s new
    → AreWholeBlocks s.pager.staged → (IsSuppliedWell new.pager.device → IsSuppliedWell s.pager.device)
    → (IsSuppliedWell s.pager.device → CommitLeft s new.pager.device) → LeadsLog s new
leads_failed_commit s new failed whole well leaves = record {
  well = well;
  carried = (goes_forth _ false s.pager.device new.pager.device failed.did).carried;
  goes = λ is start before run. (
    before ++ Mark (s.marks + 1) ∷ [],
    StoppedInCommit before s new new.pager.device
        (record {
          honest = well is;
          may = failed.may;
          whole = whole;
          did = failed.did;
          leaves = leaves (well is);
        })
        (not_read new.pager.device) (ap (λ (t : TailValue). t.spent) failed.spent) run,
  );
  stuck = λ is spent. unlike s new failed.may.whole is spent;
}

-- one that was refused before its device calls
pub leads_refused : (s new : LogFilesState Deferred) → KeepsLogFiles s new → new.pager.device ≡ s.pager.device
    → (IsSuppliedWell s.pager.device → KeepsContents deferred_disk s new) → LeadsLog s new
leads_refused s new kept device over =
    let well : IsSuppliedWell new.pager.device → IsSuppliedWell s.pager.device = subst IsSuppliedWell device in
    leads_of AnyEvents s new
    (runs_by AnyEvents s new [] (λ before. tt) well (ap carried_moment device)
    (λ is. LogRefused [] s new (record { kept = kept; over = over (well is) }) LogStays))
    (λ is spent. (
      subst (λ (d : Deferred). IsOnlyRead deferred_disk s.pager.device d) (sym device) (not_read s.pager.device),
      ap (λ (t : TailValue). t.spent) kept.store.tail ∙ spent,
    ))

-- ---- steps

abbrev pub StepLeft : LogFilesState Deferred → Deferred → Type 0
StepLeft s after = (contents : ℕ → List ℕ) → IsPagerOver deferred_disk s.pager contents
    → LeavesOnly deferred_disk.moment deferred_disk.left_since s.pager.device after
    (LeftUnchanged s.pager.store.tail contents)

pub leads_step : (s new : LogFilesState Deferred) (progress : Progress) → IsLogFilesStep deferred_disk s progress new
    → (IsSuppliedWell new.pager.device → IsSuppliedWell s.pager.device)
    → (IsSuppliedWell s.pager.device → KeepsContents deferred_disk s new)
    → (IsSuppliedWell s.pager.device → StepLeft s new.pager.device) → LeadsLog s new
leads_step s new progress made well over leaves =
    let forth : GoesForth s.pager.device new.pager.device
    = goes_forth _ true s.pager.device new.pager.device made.did in
    leads_of AnyEvents s new
    (runs_by AnyEvents s new [] (λ before. tt) well forth.carried
    (λ is. LogStepped [] s progress new (record {
      calls = record { honest = well is; may = made.may; did = made.did; leaves = leaves (well is) };
      made = made;
      over = over (well is);
    }) LogStays))
    (unlike s new made.whole)

pub leads_failed_step : (s new : LogFilesState Deferred) → IsFailedLogStep deferred_disk s new
    → (IsSuppliedWell new.pager.device → IsSuppliedWell s.pager.device)
    → (IsSuppliedWell s.pager.device → StepLeft s new.pager.device) → LeadsLog s new
leads_failed_step s new failed well leaves = record {
  well = well;
  carried = (goes_forth _ false s.pager.device new.pager.device failed.did).carried;
  goes = λ is start before run. (
    before,
    StoppedInStep before s new new.pager.device
        (record { honest = well is; may = failed.may; did = failed.did; leaves = leaves (well is) })
        (not_read new.pager.device) (ap (λ (t : TailValue). t.spent) failed.spent) run,
  );
  stuck = unlike s new failed.whole;
}

-- ---- steps and commits that were refused

pub leads_stopped_step : (s new : LogFilesState Deferred) (why : Refusal)
    → (why ≢ refusals.Device → new ≡ s) → (why ≡ refusals.Device → IsFailedLogStep deferred_disk s new)
    → (IsSuppliedWell new.pager.device → IsSuppliedWell s.pager.device)
    → (IsSuppliedWell s.pager.device → StepLeft s new.pager.device) → LeadsLog s new
leads_stopped_step s new why kept failed well leaves = elim (device_or_not why) [
  | inl is ↦ leads_failed_step s new (failed is) well leaves
  | inr other ↦ subst (λ (t : LogFilesState Deferred). LeadsLog s t) (sym (kept other)) (leads_nowhere s)
]

pub leads_stopped_commit : (s new : LogFilesState Deferred) (why : Refusal)
    → (why ≢ refusals.Device → KeepsLogFiles s new × (new.pager.device ≡ s.pager.device))
    → (why ≢ refusals.Device → IsSuppliedWell s.pager.device → KeepsContents deferred_disk s new)
    → (why ≡ refusals.Device → IsFailedLogCommit deferred_disk s new) → AreWholeBlocks s.pager.staged
    → (IsSuppliedWell new.pager.device → IsSuppliedWell s.pager.device)
    → (IsSuppliedWell s.pager.device → CommitLeft s new.pager.device) → LeadsLog s new
leads_stopped_commit s new why kept over failed whole well leaves = elim (device_or_not why) [
  | inl is ↦ leads_failed_commit s new (failed is) whole well leaves
  | inr other ↦ leads_refused s new (kept other).0 (kept other).1 (over other)
]
