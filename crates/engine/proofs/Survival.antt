-- What of a run survives, by the laws of machines and of openings.
use Rattle.std.proofs.Common.{ℕ, List, [], ◌∷◌, Result, Ok, refl, sym, subst}
use Rattle.device.specs.Device.{Only}
use Rattle.device.specs.declared.device.Device.{Ghosts}
use Rattle.page_entry.specs.declared.refusal.Refusal.{Refusal}
use Rattle.volume_codec.specs.Files.{File}
use Rattle.volume_codec.specs.Super.{SuperValue}
use Rattle.volume_codec.specs.Recovery.{RecoversTo}
use Rattle.recovery.specs.Opening.{Opens}
use Rattle.recovery.specs.Openings.{IsLater, RecoversAs}
use Rattle.machine.specs.declared.act.Reply.{Reply}
use Rattle.machine.specs.declared.act.Shape.{Shape}
use Rattle.machine.specs.declared.act.Step.{Step}
use Rattle.machine.specs.Crashes.{StepIsSafe, Throughout}
use Rattle.history.specs.History.{Event, files_after}
use Rattle.history.specs.Later.{Finds, FindsDurable}
use Rattle.machine.specs.Laws.{EachStep, FaultsAreServed, IsLawful}
use Rattle.history.specs.Reading.{ReadsBack}
use Rattle.machine.specs.Reached.{IsReached}
use Rattle.machine.specs.Runs.{StepsTaken}
use Rattle.machine.specs.State.{Whole}
use Rattle.machine.specs.Steps.{observed_first}
use Rattle.machine.specs.Observed.{Observed, observe}
use Rattle.engine.specs.Engine.{HasStarted, HasRun}
use Rattle.engine.specs.Survival.{history_of, StepSurvives, Survives}
use Rattle.history.specs.Later.{KeepsFiles, FindsAfterCrash}
use Rattle.engine.proofs.Runs.{taken_kept}
use Rattle.engine.proofs.Starts.{begins}

-- what holds of each run that led to a machine
abbrev OfRuns : {D : Type 0} → Ghosts D → Whole D → (List File → Whole D → List Step → List Reply → Type 0) → Type 0
OfRuns {D} disk last P = (files : List File) (start : Whole D) (steps : List Step) (replies : List Reply)
    → IsReached disk files start steps replies last → P files start steps replies

module _ {D : Type 0} (disk : Ghosts D)
    (permanent : (files : List File) (n : ℕ) (first later : D) → disk.is_honest first
    → Only (disk.may_leave first) (disk.seen first) → RecoversTo (disk.seen first) files → IsLater disk n first later
    → Finds disk files later) where
  found_after : (files : List File) (history : List Event) (lists : List ℕ → Type 0)
      → ((c : List ℕ) → lists c → ReadsBack files history c)
      → FindsAfterCrash disk files history lists
  found_after files history lists back = λ first restarted.
      let read = back (disk.seen first) restarted.left in
      let found = files_after files read.prefix in (
        found,
        record { prefix = read.prefix; durable = read.durable; files_are = refl },
        λ n later is. permanent found n first later restarted.honest restarted.only read.recovers is,
      )

  survive_throughout : (files : List File) (observed : Observed) (old : Whole D)
      (steps : List Step) (replies : List Reply) (new : Whole D)
      → Throughout (StepIsSafe disk files) observed old steps replies new
      → Throughout (StepSurvives disk files) observed old steps replies new
  survive_throughout files observed old [] [] new run = run
  survive_throughout files observed old (step ∷ steps) (reply ∷ replies) new (mid, safe, rest) = (
    mid,
    record {
      safe = safe;
      within = found_after files observed.history
          (disk.left_since mid.device (disk.moment old.device)) safe.within.each;
    },
    survive_throughout files (observe observed step reply) mid steps replies new rest,
  )
  survive_throughout files observed old [] (reply ∷ replies) new run = absurd run
  survive_throughout files observed old (step ∷ steps) [] new run = absurd run

  -- a crash within an opening keeps the files
  keeps_files : (left_as : (before after : D) (result : Result SuperValue Refusal) (c : List ℕ)
      → disk.is_honest before → Opens disk before result after → disk.left_since after (disk.moment before) c
      → RecoversAs (disk.may_leave before) c)
      (files : List File) (before after : D) (result : Result SuperValue Refusal) → disk.is_honest before
      → Opens disk before result after → ((c : List ℕ) → disk.may_leave before c → RecoversTo c files)
      → KeepsFiles disk files (disk.left_since after (disk.moment before))
  keeps_files left_as files before after result honest opens all = λ first later n restarted is.
      let alike = left_as before after result (disk.seen first) honest opens restarted.left in
      let r = all alike.0 alike.1 in
      permanent files n first later restarted.honest restarted.only (record {
        table = r.table;
        contents = r.contents;
        recovers = alike.2 r.table r.contents r.recovers;
        lengths = r.lengths;
        files_are = r.files_are;
      }) is

  pub run_of : (durable : (files : List File) (history : List Event) (n : ℕ) (first later : D) → disk.is_honest first
      → ((c : List ℕ) → disk.may_leave first c → ReadsBack files history c) → IsLater disk n first later
      → FindsDurable disk files history later)
      (left_as : (before after : D) (result : Result SuperValue Refusal) (c : List ℕ)
      → disk.is_honest before → Opens disk before result after → disk.left_since after (disk.moment before) c
      → RecoversAs (disk.may_leave before) c)
      (before : D) (shape : Shape) (start : Whole D) (steps : List Step) (replies : List Reply) (last : Whole D)
      → HasStarted disk before shape start → StepsTaken disk start steps replies last
      → OfRuns disk last (λ files start steps replies.
      Throughout (StepIsSafe disk files) (observed_first files start.state) start steps replies last)
      → OfRuns disk last
      (λ files start steps replies. EachStep (IsLawful files) (observed_first files start.state) steps replies)
      → ((files : List File) (start : Whole D) (steps : List Step) (replies : List Reply) (c : List ℕ)
      → IsReached disk files start steps replies last → disk.may_leave last.device c
      → ReadsBack files (history_of files start steps replies) c)
      → OfRuns disk last (λ files start steps replies. FaultsAreServed steps replies)
      → HasRun disk before shape steps replies last.device
  run_of durable left_as before shape start steps replies last started taken headline lawful left served =
      record { start = start; last = last; started = started; made = taken; ended = refl; survives = survives }
    where
      survives : disk.is_honest before
          → (files : List File) × RecoversTo (disk.seen before) files
          × Survives disk files before start steps replies last
      survives honest =
          let found = begins disk before shape start started honest in
          let files = found.0 in
          let on : IsReached disk files start steps replies last = record { begins = found.2; taken = taken } in
          let history = history_of files start steps replies in
          let left_now = λ (c : List ℕ) (may : disk.may_leave last.device c). left files start steps replies c on may in
          let Opened : Whole D → Type 0 =
          λ w. KeepsFiles disk files (disk.left_since w.device (disk.moment before)) in (
            files,
            found.1,
            record {
              opening = λ all. subst Opened (sym started.booted) (keeps_files left_as files before started.volume.device
                  (Ok started.volume.table) honest started.opened all);
              within = survive_throughout files (observed_first files start.state) start steps replies last
                  (headline files start steps replies on);
              after = found_after files history (disk.may_leave last.device) left_now;
              ended = λ n later is. durable files history n last.device later
                  ((taken_kept disk start steps replies last taken).0.1 found.2.honest) left_now is;
              lawful = lawful files start steps replies on;
              served = served files start steps replies on;
            },
          )
