-- What survives of a run on a volume with a log, by the laws of runs on the disk that shows it.
use Rattle.std.proofs.Common.{◌≡◌, inl, inr, ℕ, zero, suc, ◌≤◌, List, [], ◌∷◌, ◌++◌, take, Ok}
use Rattle.std.proofs.Common.{refl, ap, subst, arith}
use Rattle.device.specs.Device.{Only}
use Rattle.device.specs.Memory.{seen_of}
use Rattle.device.specs.inside.Laws.{seen_is_left_of}
use Rattle.device.specs.declared.device.Device.{Ghosts}
use Rattle.volume_codec.specs.Files.{File}
use Rattle.volume_codec.specs.Recovery.{RecoversTo}
use Rattle.history.specs.History.{Event, files_after, IsDurablePrefix}
use Rattle.machine.specs.declared.act.Reply.{Reply}
use Rattle.machine.specs.declared.act.Shape.{Shape}
use Rattle.machine.specs.declared.act.Step.{Step}
use Rattle.machine.specs.Crashes.{Begins, Throughout}
use Rattle.machine.specs.Laws.{ReadsBackSince}
use Rattle.machine.specs.Observed.{Observed, observe, observe_all}
use Rattle.machine.specs.Reached.{IsReached}
use Rattle.machine.specs.Runs.{StepsTaken}
use Rattle.machine.specs.State.{Whole}
use Rattle.machine.specs.Steps.{observed_first}
use Rattle.engine.specs.Engine.{HasStarted}
use Rattle.engine.specs.Survival.{history_of}
use Rattle.engine.proofs.Public.{taken_kept}
use Rattle.log_volume.specs.Files.{RecoversToLog}
use Rattle.machine_log.specs.Disk.{LogDiskValue, moment_in, shown_by}
use Rattle.machine_log.specs.Laws.{Works}
use Rattle.machine_log.specs.Made.{IsTold}
use Rattle.machine_log.specs.inside.Times.{now_is_since as now_is_since_at}
use Rattle.machine_log.specs.Openings.{FindsAfterLogCrash, FindsOnLog, KeepsOnLog}
use Rattle.machine_log.specs.Survival.{BeforeOrWith, EndsOnLog, StepSurvivesOnLog, SurvivesOnLog}
use Rattle.machine_log.specs.inside.Standing.{Stands, StepsStand, StepStands}
use Rattle.machine_log.proofs.Booting.{LeavesAlike, left_in_boot}
use Rattle.machine_log.proofs.Reopened.{ReadsBackOnLog}
use Rattle.machine_log.proofs.Standing.{last_stands, stand_more, taken_of}

-- what is observed of one step more
observe_more : {D : Type 0} (disk : Ghosts D) (observed : Observed) (old : Whole D) (steps : List Step)
    (replies : List Reply) (new : Whole D) (step : Step) (reply : Reply) → StepsTaken disk old steps replies new
    → observe_all observed (steps ++ step ∷ []) (replies ++ reply ∷ [])
    ≡ observe (observe_all observed steps replies) step reply
observe_more disk observed old [] [] new step reply taken = refl
observe_more disk observed old (s ∷ steps) (r ∷ replies) new step reply (mid, first, taken) =
    observe_more disk (observe observed s r) mid steps replies new step reply taken
observe_more disk observed old [] (r ∷ replies) new step reply taken = absurd taken
observe_more disk observed old (s ∷ steps) [] new step reply taken = absurd taken

-- the history after none of one step, or after it
one_of_two : (observed : Observed) (step : Step) (reply : Reply) (n : ℕ)
    → BeforeOrWith observed step reply (observe_all observed (take n (step ∷ [])) (take n (reply ∷ []))).history
one_of_two observed step reply zero = inl refl
one_of_two observed step reply (suc zero) = inr refl
one_of_two observed step reply (suc (suc n)) = inr refl

none_of_none : (observed : Observed) (n : ℕ)
    → (observe_all observed (take n []) (take n [])).history ≡ observed.history
none_of_none observed zero = refl
none_of_none observed (suc n) = refl

-- what is true of any crash since a machine of a run on a disk, as of a machine's laws
abbrev ReadsBackAfter : {D : Type 0} → Ghosts D → Type 0
ReadsBackAfter {D} disk =
    (files : List File) (start mid last : Whole D) (earlier later : List Step) (replied more : List Reply) (c : List ℕ)
    → IsReached disk files start earlier replied mid → StepsTaken disk mid later more last
    → disk.left_since last.device (disk.moment mid.device) c
    → ReadsBackSince files (observe_all (observed_first files start.state) earlier replied) later more c

-- what is found after the last step
pub ends_by : {D : Type 0} (disk : Ghosts D) (files : List File) (start : Whole (LogDiskValue D))
    (found_after : (files : List File) (histories : List Event → Type 0) (lists : List ℕ → Type 0)
    → ((c : List ℕ) → lists c → ReadsBackOnLog files histories c)
    → FindsAfterLogCrash disk files histories lists)
    (finds : (files : List File) (device : D) → RecoversToLog (disk.seen device) files → FindsOnLog disk files device)
    (told : List ℕ → Type 0) (steps : List Step) (replies : List Reply) (last : Whole (LogDiskValue D))
    → disk.is_honest last.device.device → disk.may_leave last.device.device (disk.seen last.device.device)
    → ((c : List ℕ) → disk.may_leave last.device.device c → told c
    → ReadsBackOnLog files (λ history. history ≡ history_of files start steps replies) c)
    → EndsOnLog told disk files start steps replies last
ends_by disk files start found_after finds told steps replies last honest here left =
    let whole : List Event → Type 0 = λ history. history ≡ history_of files start steps replies in
    record {
      after = found_after files whole (λ c. disk.may_leave last.device.device c × told c)
          (λ c both. left c both.0 both.1);
      ended = λ tells.
          let now = left (disk.seen last.device.device) here tells in
          record {
            found = files_after files now.prefix;
            durable = record {
              prefix = now.prefix;
              durable = subst (λ (h : List Event). IsDurablePrefix now.prefix h) now.is_one now.durable;
              files_are = refl;
            };
            finds = finds (files_after files now.prefix) last.device.device now.recovers;
          };
      honest = honest;
    }

-- a disk over which a run ended, and whose device has what stands for its bytes
module _ {D : Type 0} (disk : Ghosts D) (files : List File) (start last : Whole (LogDiskValue D)) (steps : List Step)
    (replies : List Reply) (reached : IsReached (shown_by disk) files start steps replies last)
    (since : ReadsBackAfter (shown_by disk)) (works : Works disk last.device)
    (honest : disk.is_honest last.device.device) where
  pub after_reads : (c : List ℕ) → disk.may_leave last.device.device c
      → ReadsBackOnLog files (λ history. history ≡ history_of files start steps replies) c
  after_reads c may =
      let w : List ℕ = seen_of last.device.memory in
      let left = now_is_since_at disk.moment last.device (moment_in disk.moment last.device) w
      (seen_is_left_of last.device.memory) in
      let back = since files start last last steps [] replies [] w reached refl left in
      let o = observe_all (observed_first files start.state) steps replies in
      record {
        history = (observe_all o (take back.0 []) (take back.0 [])).history;
        is_one = none_of_none o back.0;
        prefix = back.1.prefix;
        durable = back.1.durable;
        recovers = works honest c may (files_after files back.1.prefix) back.1.recovers;
      }

module _ {D : Type 0} (disk : Ghosts D) (files : List File) (start : Whole (LogDiskValue D))
    (begun : Begins (shown_by disk) files start)
    (now_is_since : (d : D) (t : ℕ) (c : List ℕ) → t ≤ disk.moment d → disk.may_leave d c → disk.left_since d t c)
    (since : ReadsBackAfter (shown_by disk)) where
  abbrev Shown : Type 0
  Shown = LogDiskValue D

  abbrev own : Ghosts Shown
  own = shown_by disk

  abbrev first : Observed
  first = observed_first files start.state

  reached : (steps : List Step) (replies : List Reply) (last : Whole Shown)
      → StepsStand disk start steps replies last → IsReached own files start steps replies last
  reached steps replies last led = record { begins = begun; taken = taken_of disk start steps replies last led }

  pub honest_at : (steps : List Step) (replies : List Reply) (last : Whole Shown)
      → StepsStand disk start steps replies last → disk.is_honest last.device.device
  honest_at steps replies last led =
      let taken = taken_of disk start steps replies last led in
      (taken_kept own start steps replies last taken).0.1 begun.honest

  -- a crash of the volume's device within a step
  within_step : (earlier : List Step) (replied : List Reply) (step : Step) (reply : Reply) (mid new : Whole Shown)
      → StepsStand disk start earlier replied mid → StepStands disk mid step reply new
      → (c : List ℕ) → disk.left_since new.device.device (disk.moment mid.device.device) c × IsTold new.device c
      → ReadsBackOnLog files (BeforeOrWith (observe_all first earlier replied) step reply) c
  within_step earlier replied step reply mid new led this c left =
      let further = stand_more disk start mid new earlier replied step reply led this in
      let here = honest_at (earlier ++ step ∷ []) (replied ++ reply ∷ []) new further in
      let stands = this.stands here mid.device c left.0 left.1 in
      let back = since files start mid new earlier (step ∷ []) replied (reply ∷ []) stands.0
      (reached earlier replied mid led) (new, this.taken, refl) stands.1 in
      let o = observe_all first earlier replied in
      record {
        history = (observe_all o (take back.0 (step ∷ [])) (take back.0 (reply ∷ []))).history;
        is_one = one_of_two o step reply back.0;
        prefix = back.1.prefix;
        durable = back.1.durable;
        recovers = stands.2 (files_after files back.1.prefix) back.1.recovers;
      }

  -- a crash of the volume's device after the last step
  after_run : (steps : List Step) (replies : List Reply) (last : Whole Shown)
      → StepsStand disk start steps replies last → Stands disk last.device
      → (c : List ℕ) → disk.may_leave last.device.device c → IsTold last.device c
      → ReadsBackOnLog files (λ history. history ≡ history_of files start steps replies) c
  after_run steps replies last led stand c may tells =
      let here = honest_at steps replies last led in
      let left = now_is_since last.device.device (disk.moment last.device.device) c (omega arith) may in
      let stands = stand here last.device c left tells in
      let back = since files start last last steps [] replies [] stands.0 (reached steps replies last led) refl
      stands.1 in
      let o = observe_all first steps replies in
      record {
        history = (observe_all o (take back.0 []) (take back.0 [])).history;
        is_one = none_of_none o back.0;
        prefix = back.1.prefix;
        durable = back.1.durable;
        recovers = stands.2 (files_after files back.1.prefix) back.1.recovers;
      }

  -- a crash of the volume's device while the machine is booted
  while_booting : (shown : Shown) (shape : Shape) → HasStarted own shown shape start
      → disk.is_honest shown.device → RecoversTo (own.seen shown) files
      → Only (own.may_leave shown) (own.seen shown) → Stands disk start.device
      → LeavesAlike disk
      → (c : List ℕ) → disk.left_since start.device.device (disk.moment shown.device) c × IsTold start.device c
      → RecoversToLog c files
  while_booting shown shape started honest recovers only stand left_as c left =
      let device : start.device ≡ started.volume.device = ap (λ (w : Whole Shown). w.device) started.booted in
      let Left : Shown → Type 0 = λ d. disk.left_since d.device (disk.moment shown.device) c × IsTold d c in
      let there = subst Left device left in
      left_in_boot disk left_as files shown started.volume.device (Ok started.volume.table) started.opened
      honest recovers only (subst (Stands disk) device stand) c there.0 there.1

  module _ (found_after : (files : List File) (histories : List Event → Type 0) (lists : List ℕ → Type 0)
      → ((c : List ℕ) → lists c → ReadsBackOnLog files histories c)
      → FindsAfterLogCrash disk files histories lists) where
    throughout : (earlier : List Step) (replied : List Reply) (mid : Whole Shown) (steps : List Step)
        (replies : List Reply) (new : Whole Shown) → StepsStand disk start earlier replied mid
        → StepsStand disk mid steps replies new
        → Throughout (StepSurvivesOnLog disk files) (observe_all first earlier replied) mid steps replies new
    throughout earlier replied mid [] [] new led stand = stand
    throughout earlier replied mid (step ∷ steps) (reply ∷ replies) new led (next, this, stand) =
        let T : Observed → Type 0 = λ o. Throughout (StepSurvivesOnLog disk files) o next steps replies new in
        let further = stand_more disk start mid next earlier replied step reply led this in
        let taken = taken_of disk start earlier replied mid led in (
          next,
          record {
            taken = this.taken;
            within = found_after files (BeforeOrWith (observe_all first earlier replied) step reply)
                (λ c. disk.left_since next.device.device (disk.moment mid.device.device) c × IsTold next.device c)
                (within_step earlier replied step reply mid next led this);
          },
          subst T (observe_more own first start earlier replied mid step reply taken)
              (throughout (earlier ++ step ∷ []) (replied ++ reply ∷ []) next steps replies new further stand),
        )
    throughout earlier replied mid [] (r ∷ replies) new led stand = absurd stand
    throughout earlier replied mid (s ∷ steps) [] new led stand = absurd stand

    pub survive : (before : D) (shown : Shown) (shape : Shape) (steps : List Step) (replies : List Reply)
        (last : Whole Shown) → HasStarted own shown shape start
        → disk.is_honest shown.device → RecoversTo (own.seen shown) files
        → Only (own.may_leave shown) (own.seen shown) → Stands disk start.device
        → LeavesAlike disk
        → ((d : D) → disk.is_honest d → disk.may_leave d (disk.seen d))
        → ((files : List File) (lists : List ℕ → Type 0) → ((c : List ℕ) → lists c → RecoversToLog c files)
        → KeepsOnLog disk files lists)
        → ((files : List File) (device : D) → RecoversToLog (disk.seen device) files → FindsOnLog disk files device)
        → ((all : (c : List ℕ) → disk.may_leave before c → RecoversToLog c files) (c : List ℕ)
        → disk.left_since shown.device (disk.moment before) c → RecoversToLog c files)
        → StepsStand disk start steps replies last
        → SurvivesOnLog disk files before shown start steps replies last
    survive before shown shape steps replies last started honest recovers only stand left_as seen_is_left keeps finds
        opened led =
        let at_last = last_stands disk start steps replies last stand led in
        let here = honest_at steps replies last led in
        record {
          opening = λ all. keeps files (disk.left_since shown.device (disk.moment before)) (opened all);
          booting = keeps files
              (λ c. disk.left_since start.device.device (disk.moment shown.device) c × IsTold start.device c)
              (while_booting shown shape started honest recovers only stand left_as);
          within = throughout [] [] start steps replies last refl led;
          ends = ends_by disk files start found_after finds (IsTold last.device) steps replies last here
              (seen_is_left last.device.device here) (after_run steps replies last led at_last);
        }
