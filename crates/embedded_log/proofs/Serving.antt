-- What a volume with a log has served stays so by further calls, and a commit adds its mark.
use Rattle.std.proofs.Common.{◌≡◌, ◌≤◌, ℕ, ◌+◌, ◌-◌, ◌^◌, Bool, true, false, List, [], length, Option, Some, None}
use Rattle.std.proofs.Common.{IfSome, Result, Ok, Err, OnOk, OnErr, if◌then◌else◌, refl, sym, ◌∙◌, ap, subst, arith}
use Rattle.std.proofs.lemmas.Bool.Decides.{nat_tests}
use Rattle.std.specs.Prelude.{⊤, min, nat_le}
use Rattle.deferred_disk.specs.Deferred.{Deferred, as_memory, carried_moment, IsSuppliedWell, recorded_calls}
use Rattle.device.specs.Memory.{moment_of, seen_of}
use Rattle.volume_codec.specs.Files.{File}
use Rattle.volume_codec.specs.Layout.{block_at}
use Rattle.volume_codec.specs.Lengths.{IsLengths}
use Rattle.page_entry.specs.declared.numbers.FilePage.{FilePage}
use Rattle.page_entry.specs.declared.refusal.Refusal.{Refusal}
use Rattle.recovery.specs.Reading.{IsOnlyRead}
use Rattle.history.specs.History.{Event}
use Rattle.log_codec.specs.Log.{first_log_home}
use Rattle.log_volume.specs.Super.{table_of}
use Rattle.log_volume.specs.Files.{RecoversToLog, log_files_in}
use Rattle.log_opening.specs.Volume.{HasOpenedVolume}
use Rattle.log_pager.specs.Pager.{IsPagerOver}
use Rattle.log_recovery.specs.Reading.{ReadsAlone}
use Rattle.log_files.specs.State.{LogFilesState, fresh_log_files, on_device}
use Rattle.log_files.specs.Calls.{log_put_refusal, after_page_put, log_length_refusal, after_log_length, last_log_page}
use Rattle.log_store.proofs.Public.{read_only}
use Rattle.log_pager.proofs.Public.{pager_kept}
use Rattle.log_histories.specs.Histories.{KeepsContents, LogStays, LogPut, LogCommitted, LogMarked, LogStepped}
use Rattle.log_histories.specs.Histories.{LogRead, LogRefused, LogResized}
use Rattle.log_histories.proofs.Public.{lengths_say}
use Rattle.embedded.specs.Embedded.{acknowledged_by_calls, made_calls}
use Rattle.embedded.specs.Recorded.{deferred_disk}
use Rattle.embedded.proofs.Tended.{IsLike, only_read}
use Rattle.embedded_log.specs.Runs.{HasRunLog, HasServedLog, Unfailed}
use Rattle.embedded_log.specs.Runs.{StoppedInCommit, StoppedInStep}
use Rattle.embedded_log.specs.Serving.{HasPassedLogMark, HasNeededLog, HasMadeLogCalls, ServesLogWell}
use Rattle.embedded_log.specs.inside.Leading.{LeadsLog, RunsLog, HasAcknowledgedMark}
use Rattle.embedded_log.proofs.Calls.{leads_put, leads_alone, leads_length}
use Rattle.embedded_log.proofs.Leading.{goes_forth, run_of, served_on, then_read}

-- ---- an opening

-- the bytes of the disk recover to the files
recovers_opened : (before : Deferred) (s : LogFilesState Deferred)
    → HasOpenedVolume deferred_disk before s.table s.lengths s.pager.store.tail.start s.pager.device
    → RecoversToLog (seen_of (as_memory before))
    (log_files_in s.table (block_at (deferred_disk.seen s.pager.device)))
recovers_opened before s opened =
    let contents : ℕ → List ℕ = block_at (deferred_disk.seen s.pager.device) in
    let fits = opened.super_block.fits in
    record {
      table = s.table;
      contents = contents;
      super_block = opened.super_block;
      recovers = opened.opened.recovers;
      lengths = subst (λ (l : List ℕ). IsLengths (table_of s.table) l (contents (first_log_home s.table.ring)))
          (sym (lengths_say s.table fits.log.some_ring s.lengths contents fits.table opened.lengths_are))
          opened.lengths_are;
      files_are = refl;
    }

pub serves_opened : (before : Deferred) (s : LogFilesState Deferred)
    → (IsSuppliedWell before
    → HasOpenedVolume deferred_disk before s.table s.lengths s.pager.store.tail.start s.pager.device)
    → (IsSuppliedWell before → IsPagerOver deferred_disk s.pager (block_at (deferred_disk.seen s.pager.device)))
    → s ≡ fresh_log_files s.table s.lengths s.most s.pager.store.tail.start s.pager.store.second s.pager.device
    → (IsSuppliedWell s.pager.device → IsSuppliedWell before) → ServesLogWell s None 0 None
serves_opened before s opened over fresh honest = λ well.
    let had = honest well in
    record {
      files = log_files_in s.table (block_at (deferred_disk.seen s.pager.device));
      first = s;
      opened = record {
        before = before;
        opened = record { opened = opened had; begins = fresh; over = over had };
        files_are = refl;
        recovered = recovers_opened before s (opened had);
      };
      history = [];
      served = Unfailed [] s LogStays;
      commits = tt;
      durable = tt;
    }

-- ---- further calls

-- these calls led from one state to another, whichever came before
abbrev pub GoesTo : LogFilesState Deferred → LogFilesState Deferred → Type 0
GoesTo old new = (start : LogFilesState Deferred) (events : List Event) → HasServedLog start events old
    → (after : List Event) × HasServedLog start after new

module _ (files : List File) (old new : LogFilesState Deferred) (goes : GoesTo old new) where
  reached_on : (mark : ℕ) → HasPassedLogMark files mark old → HasPassedLogMark files mark new
  reached_on mark it = let went = goes it.mid it.later it.served in record {
    first = it.first;
    opened = it.opened;
    earlier = it.earlier;
    mid = it.mid;
    run = it.run;
    acknowledges = it.acknowledges;
    later = went.0;
    served = went.1;
  }

  needed_on : (due : ℕ) (committed : Option ℕ) → IfSome committed (λ mark. HasNeededLog files due mark old)
      → IfSome committed (λ mark. HasNeededLog files due mark new)
  unfolding reached_on
  needed_on due None it = tt
  needed_on due (Some mark) it = (reached_on mark it.0, it.1)

  made_on : carried_moment old.pager.device ≤ carried_moment new.pager.device → (acknowledged : Option ℕ)
      → IfSome acknowledged (λ mark. HasMadeLogCalls files mark old)
      → IfSome acknowledged (λ mark. HasMadeLogCalls files mark new)
  unfolding reached_on
  made_on more None it = tt
  made_on more (Some mark) it = (reached_on mark it.0, omega (arith, more, it.1))

module _ (old new : LogFilesState Deferred) (due : ℕ) (committed acknowledged : Option ℕ) where
  pub serves_later : (IsSuppliedWell new.pager.device → IsSuppliedWell old.pager.device)
      → (IsSuppliedWell new.pager.device → GoesTo old new)
      → carried_moment old.pager.device ≤ carried_moment new.pager.device
      → ServesLogWell old committed due acknowledged → ServesLogWell new committed due acknowledged
  serves_later well goes more served = λ is.
      let had = served (well is) in
      let went = goes is had.first had.history had.served in
      record {
        files = had.files;
        first = had.first;
        opened = had.opened;
        history = went.0;
        served = went.1;
        commits = needed_on had.files old new (goes is) due committed had.commits;
        durable = made_on had.files old new (goes is) more acknowledged had.durable;
      }

  pub serves_on : LeadsLog old new → ServesLogWell old committed due acknowledged
      → ServesLogWell new committed due acknowledged
  serves_on leads served = serves_later leads.well (λ is start events served_old. served_on new leads is served_old)
      (omega (arith, leads.carried)) served

  -- ---- a commit

  pub serves_commit : (mark : ℕ) → old.pager.store.tail.spent ≡ false → RunsLog (HasAcknowledgedMark mark) old new
      → LeadsLog old new → ServesLogWell old committed due acknowledged
      → ServesLogWell new (Some mark) (recorded_calls new.pager.device) acknowledged
  serves_commit mark whole runs leads served = λ is.
      let had = served (runs.well is) in
      let it = runs.runs is had.first had.history (run_of whole had.served) in
      record {
        files = had.files;
        first = had.first;
        opened = had.opened;
        history = it.0;
        served = Unfailed it.0 new it.2;
        commits = (
          record {
            first = had.first;
            opened = had.opened;
            earlier = it.0;
            mid = new;
            run = it.2;
            acknowledges = it.1;
            later = [];
            served = Unfailed [] new LogStays;
          },
          omega arith,
        );
        durable = made_on had.files old new (λ start events served_old. served_on new leads is served_old)
            (omega (arith, runs.carried)) acknowledged had.durable;
      }

-- ---- an acknowledgement

-- time doesn't go back
run_later : {start : LogFilesState Deferred} {events : List Event} {s : LogFilesState Deferred}
    → HasRunLog start events s
    → moment_of (as_memory start.pager.device) ≤ moment_of (as_memory s.pager.device)
run_later LogStays = omega arith
run_later (LogPut events s owner bytes put run) = run_later run
run_later (LogCommitted events s next commit run) =
    omega (arith, run_later run, (goes_forth _ true s.pager.device next.pager.device commit.calls.did).later)
run_later (LogMarked events s commit run) = run_later run
run_later (LogStepped events s progress next step run) =
    omega (arith, run_later run, (goes_forth _ true s.pager.device next.pager.device step.calls.did).later)
run_later (LogRead events s after read run) = omega (arith, run_later run, read.read.time.later)
run_later {start} (LogRefused events s next refused run) =
    subst (λ (n : LogFilesState Deferred).
    moment_of (as_memory start.pager.device) ≤ moment_of (as_memory n.pager.device)) (sym refused.kept.rest)
    (run_later run)
run_later (LogResized events s file to next resize run) = omega (arith, run_later run, resize.read.time.later)

served_later : {start : LogFilesState Deferred} {events : List Event} {s : LogFilesState Deferred}
    → HasServedLog start events s
    → moment_of (as_memory start.pager.device) ≤ moment_of (as_memory s.pager.device)
served_later (Unfailed events s run) = run_later run
served_later (StoppedInCommit events last s mid call read spent run) =
    omega (arith, run_later run, (goes_forth _ false last.pager.device mid call.did).later, read.time.later)
served_later (StoppedInStep events last s mid call read spent run) =
    omega (arith, run_later run, (goes_forth _ false last.pager.device mid call.did).later, read.time.later)

le_true : (a b : ℕ) → nat_le a b ≡ true → a ≤ b
le_true a b is = grind (arith, nat_tests)

-- where as many calls were made as a commit needs, all that were recorded then were made
enough : (moment due all waiting : ℕ) → moment ≤ 0 + all → due ≡ min moment (2 ^ 64 - 1)
    → due ≤ min all (2 ^ 64 - 1) - waiting → moment ≤ 0 + all - waiting
enough moment due all waiting before is made = omega (arith, before, is, made)

made_now : (files : List File) (due : ℕ) (s : LogFilesState Deferred) → due ≤ made_calls s.pager.device
    → (committed : Option ℕ) → IfSome committed (λ mark. HasNeededLog files due mark s)
    → IfSome committed (λ mark. HasMadeLogCalls files mark s)
made_now files due s made None it = tt
made_now files due s made (Some mark) it = (
  it.0,
  enough (moment_of (as_memory it.0.mid.pager.device)) due (length s.pager.device.changes) s.pager.device.waiting
      (served_later it.0.served) it.1 made,
)

module _ (s : LogFilesState Deferred) (due : ℕ) (committed before : Option ℕ) where
  pub serves_confirmed : ServesLogWell s committed due before
      → ServesLogWell s committed due (acknowledged_by_calls (made_calls s.pager.device) due committed before)
  serves_confirmed served = λ well.
      let had = served well in
      record {
        files = had.files;
        first = had.first;
        opened = had.opened;
        history = had.history;
        served = had.served;
        commits = had.commits;
        durable = either had.files (nat_le due (made_calls s.pager.device)) refl had.commits had.durable;
      }
    where
      either : (files : List File) (made : Bool) → nat_le due (made_calls s.pager.device) ≡ made
          → IfSome committed (λ mark. HasNeededLog files due mark s)
          → IfSome before (λ mark. HasMadeLogCalls files mark s)
          → IfSome (if made then committed else before) (λ mark. HasMadeLogCalls files mark s)
      either files true is commits durable =
          made_now files due s (le_true due (made_calls s.pager.device) is) committed commits
      either files false is commits durable = durable

-- an acknowledgement, by these counts
pub serves_noted : (s : LogFilesState Deferred) (due made : ℕ) (committed before noted : Option ℕ)
    → made ≡ made_calls s.pager.device → noted ≡ acknowledged_by_calls made due committed before
    → ServesLogWell s committed due before → ServesLogWell s committed due noted
serves_noted s due made committed before noted counts notes served =
    subst (λ (a : Option ℕ). ServesLogWell s committed due a)
    (sym (notes ∙ ap (λ (n : ℕ). acknowledged_by_calls n due committed before) counts))
    (serves_confirmed s due committed before served)

pub serves_marked : (old new : LogFilesState Deferred) (due : ℕ) (committed acknowledged : Option ℕ) (mark : ℕ)
    (now made : ℕ) (noted : Option ℕ) → old.pager.store.tail.spent ≡ false
    → RunsLog (HasAcknowledgedMark mark) old new → LeadsLog old new → now ≡ recorded_calls new.pager.device
    → made ≡ made_calls new.pager.device → noted ≡ acknowledged_by_calls made now (Some mark) acknowledged
    → ServesLogWell old committed due acknowledged → ServesLogWell new (Some mark) now noted
serves_marked old new due committed acknowledged mark now made noted whole runs leads counted counts notes served =
    serves_noted new now made (Some mark) acknowledged noted counts notes
    (subst (λ (n : ℕ). ServesLogWell new (Some mark) n acknowledged) (sym counted)
    (serves_commit old new due committed acknowledged mark whole runs leads served))

-- ---- a disk that was tended

-- the home blocks have the same contents
like_over : (s : LogFilesState Deferred) (after : Deferred) → IsOnlyRead deferred_disk s.pager.device after
    → KeepsContents deferred_disk s (on_device s after)
like_over s after read contents over =
    pager_kept deferred_disk s.pager (on_device s after).pager contents refl (ap length read.same) refl
    (read_only deferred_disk s.pager.store contents s.pager.device after read.same read.left over.store) over

-- calls led on, or the device was only read after one had failed
tended_goes : (after : Deferred) {start : LogFilesState Deferred} {events : List Event} {s : LogFilesState Deferred}
    → IsOnlyRead deferred_disk s.pager.device after → KeepsContents deferred_disk s (on_device s after)
    → HasServedLog start events s → (later : List Event) × HasServedLog start later (on_device s after)
tended_goes after read over (Unfailed events s run) =
    (events, Unfailed events (on_device s after) (LogRead events s after (record { read = read; over = over }) run))
tended_goes after read over (StoppedInCommit events last s mid call other spent run) = (
  _,
  StoppedInCommit events last (on_device s after) mid call (then_read mid s.pager.device after other read) spent
      run,
)
tended_goes after read over (StoppedInStep events last s mid call other spent run) = (
  _,
  StoppedInStep events last (on_device s after) mid call (then_read mid s.pager.device after other read) spent
      run,
)

pub serves_tended : (old new : LogFilesState Deferred) (committed : Option ℕ) (due : ℕ) (acknowledged : Option ℕ)
    → new ≡ on_device old new.pager.device → IsLike new.pager.device old.pager.device
    → ServesLogWell old committed due acknowledged → ServesLogWell new committed due acknowledged
serves_tended old new committed due acknowledged is like =
    let read : IsSuppliedWell new.pager.device → IsOnlyRead deferred_disk old.pager.device new.pager.device
    = only_read new.pager.device old.pager.device like in
    serves_later old new due committed acknowledged like.well
    (λ well. subst (λ (t : LogFilesState Deferred). GoesTo old t) (sym is)
    (λ start events served_old. tended_goes new.pager.device (read well)
    (like_over old new.pager.device (read well)) served_old)) like.more

-- ---- what is asked

pub serves_put : (old new : LogFilesState Deferred) (due : ℕ) (committed acknowledged : Option ℕ) (owner : FilePage)
    (bytes : List ℕ) (result : Result ⊤ Refusal) → length bytes ≡ 4096 → OnOk result (log_put_refusal old owner ≡ None)
    → OnOk result (new ≡ after_page_put old owner bytes) → OnErr result (new ≡ old)
    → KeepsContents deferred_disk old new
    → ServesLogWell old committed due acknowledged → ServesLogWell new committed due acknowledged
serves_put old new due committed acknowledged owner bytes (Ok done) page allowed is same over =
    subst (λ (s : LogFilesState Deferred).
    ServesLogWell old committed due acknowledged → ServesLogWell s committed due acknowledged) (sym is)
    (serves_on old (after_page_put old owner bytes) due committed acknowledged
    (leads_put old owner bytes allowed page
    (subst (λ (s : LogFilesState Deferred). KeepsContents deferred_disk old s) is over)))
serves_put old new due committed acknowledged owner bytes (Err why) page allowed is same over =
    subst (λ (s : LogFilesState Deferred). ServesLogWell s committed due acknowledged) (sym same)

-- the contents stay, over an honest device
abbrev pub KeepsHonestly : LogFilesState Deferred → LogFilesState Deferred → Type 0
KeepsHonestly old new = (contents : ℕ → List ℕ) → IsSuppliedWell old.pager.device
    → IsPagerOver deferred_disk old.pager contents → IsPagerOver deferred_disk new.pager contents

pub serves_read : (old new : LogFilesState Deferred) (due : ℕ) (committed acknowledged : Option ℕ)
    → new ≡ on_device old new.pager.device → ReadsAlone deferred_disk old.pager.device new.pager.device
    → KeepsHonestly old new
    → ServesLogWell old committed due acknowledged → ServesLogWell new committed due acknowledged
serves_read old new due committed acknowledged is alone over =
    serves_on old new due committed acknowledged
    (leads_alone old new is alone (λ well contents held. over contents well held))

pub serves_length : (old new : LogFilesState Deferred) (due : ℕ) (committed acknowledged : Option ℕ) (file to : ℕ)
    (result : Result ⊤ Refusal) → OnOk result (log_length_refusal old file to ≡ None)
    → ((contents : ℕ → List ℕ) → IsSuppliedWell old.pager.device → IsPagerOver deferred_disk old.pager contents
    → OnOk result (new ≡ after_log_length old file to (last_log_page old contents file) new.pager.device))
    → OnOk result ((last : List ℕ) × (new ≡ after_log_length old file to last new.pager.device))
    → OnErr result (new ≡ on_device old new.pager.device)
    → ReadsAlone deferred_disk old.pager.device new.pager.device → KeepsHonestly old new
    → ServesLogWell old committed due acknowledged → ServesLogWell new committed due acknowledged
serves_length old new due committed acknowledged file to (Ok done) allowed set some same alone over =
    serves_on old new due committed acknowledged
    (leads_length old new file to allowed set some alone (λ well contents held. over contents well held))
serves_length old new due committed acknowledged file to (Err why) allowed set some same alone over =
    serves_read old new due committed acknowledged same alone over
