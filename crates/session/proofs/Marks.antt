-- A mark that a commit acknowledges is acknowledged by the history of its steps, whatever was made before them and
-- after.
use Rattle.std.proofs.Common.{◌≡◌, ◌≢◌, inl, inr, ℕ, ◌==◌, Bool, true, false, ◌||◌, if◌then◌else◌, List, [], ◌∷◌}
use Rattle.std.proofs.Common.{◌++◌, append-nil, drop, get_or, Ok, Err, codes, refl, sym, ◌∙◌, ap, subst, Contains}
use Rattle.std.proofs.lemmas.Bool.{false≢true}
use Rattle.std.proofs.lemmas.List.Folds.{list_any-append}
use Rattle.std.proofs.lemmas.List.Sums.{fold-append}
use Rattle.std.proofs.lemmas.List.Elements.{Contains-append_left, Contains-append_right, Contains-push}
use Rattle.std.specs.Fmt.{decimal}
use Rattle.std.specs.List.{fold, list_any}
use Rattle.device.specs.declared.device.Device.{Ghosts}
use Rattle.page_entry.specs.Refusal.{words_of}
use Rattle.page_entry.specs.declared.refusal.Refusal.{Refusal}
use Rattle.page_entry.specs.declared.refusal.Refusal.TheVariants as refusals
use Rattle.volume_codec.specs.Files.{File}
use Rattle.machine.specs.declared.act.Act.{Act}
use Rattle.machine.specs.declared.act.Act.TheVariants as acts
use Rattle.machine.specs.declared.act.Reply.{Reply}
use Rattle.machine.specs.declared.act.Reply.TheVariants as replies
use Rattle.machine.specs.declared.act.Step.{Step}
use Rattle.history.specs.History.{Event, Mark, Acknowledge, is_change, since_mark, has_unmarked, with_event}
use Rattle.machine.specs.Runs.{StepsTaken}
use Rattle.machine.specs.State.{Whole}
use Rattle.machine.specs.Steps.{observed_first}
use Rattle.machine.specs.Observed.{Observed, observe, observe_all, events_of}
use Rattle.engine.specs.Survival.{history_of}
use Rattle.session.specs.declared.notes.Notes.{Notes}
use Rattle.session.specs.Answers.{AnswersRequest, committed_text}
use Rattle.session.specs.Commits.{CommitsMark, IsWritten, WritesUntil, reports_unmade}
use Rattle.session.specs.Lengths.{AnswersChange, AreOthers, change_steps, change_replies}
use Rattle.session.specs.Notes.{noted_after, noted_all}
use Rattle.session.specs.Requests.{asks_commit}
use Rattle.session.specs.Sessions.{no_notes}
use Rattle.session.specs.Steps.{Makes, AreOfCommit}
use Rattle.session.proofs.Commits.{begins_of_commit, change_of_commit, commits_of_commit}
use Rattle.session.proofs.Rooms.{change_has}

-- ---- as many replies as steps

abbrev AreEven : List Step → List Reply → Type 0
AreEven [] [] = Unit {0}
AreEven (step ∷ steps) (reply ∷ replied) = AreEven steps replied
AreEven steps replied = ⊥

even_commit : (p : ℕ) (steps : List Step) (replied : List Reply) → AreOfCommit p steps replied → AreEven steps replied
even_commit p [] [] of = tt
even_commit p (step ∷ steps) (reply ∷ replied) of = even_commit p steps replied of.1
even_commit p [] (reply ∷ replied) of = absurd of
even_commit p (step ∷ steps) [] of = absurd of

module _ {D : Type 0} (disk : Ghosts D) where
  even_taken : (old new : Whole D) (steps : List Step) (replied : List Reply) → StepsTaken disk old steps replied new
      → AreEven steps replied
  even_taken old new [] [] taken = tt
  even_taken old new (step ∷ steps) (reply ∷ replied) taken = even_taken taken.0 new steps replied taken.2
  even_taken old new [] (reply ∷ replied) taken = absurd taken
  even_taken old new (step ∷ steps) [] taken = absurd taken

-- ---- what is observed

observed_then : (t : Observed) (first : List Step) (replied : List Reply) (later : List Step) (more : List Reply)
    → AreEven first replied
    → observe_all t (first ++ later) (replied ++ more) ≡ observe_all (observe_all t first replied) later more
observed_then t [] [] later more even = refl
observed_then t (step ∷ first) (reply ∷ replied) later more even =
    observed_then (observe t step reply) first replied later more even
observed_then t [] (reply ∷ replied) later more even = absurd even
observed_then t (step ∷ first) [] later more even = absurd even

-- what was observed stays
stays : (t : Observed) (steps : List Step) (replied : List Reply) (event : Event) → Contains t.history event
    → Contains (observe_all t steps replied).history event
stays t [] replied event is = is
stays t (step ∷ steps) [] event is = is
stays t (step ∷ steps) (reply ∷ replied) event is = stays (observe t step reply) steps replied event
    (Contains-append_left t.history (events_of t step.p step.act reply) event is)

-- a reply that tells nothing of stores, lengths and marks
abbrev is_plain : Reply → Bool
is_plain replies.Stored = false
is_plain replies.Resized = false
is_plain (replies.Marked number) = false
is_plain (replies.Committed number) = false
is_plain reply = true

plain_events : (t : Observed) (p : ℕ) (act : Act) (reply : Reply) → is_plain reply ≡ true → events_of t p act reply ≡ []
plain_events t p (acts.Store va bytes) replies.Stored is = absurd (false≢true is)
plain_events t p act (replies.Marked number) is = absurd (false≢true is)
plain_events t p act replies.Resized is = absurd (false≢true is)
plain_events t p act (replies.Committed number) is = absurd (false≢true is)
plain_events t p act reply is = refl

marked_events : (t : Observed) (p : ℕ) (act : Act) (number : ℕ) → events_of t p act (replies.Marked number)
    ≡ Mark number ∷ (if has_unmarked t.history then [] else Acknowledge number ∷ [])
marked_events t p (acts.Store va bytes) number = refl
marked_events t p act number = refl

committed_events : (t : Observed) (p : ℕ) (act : Act) (number : ℕ)
    → events_of t p act (replies.Committed number) ≡ Acknowledge number ∷ []
committed_events t p (acts.Store va bytes) number = refl
committed_events t p act number = refl

-- ---- a history without an unmarked change

since_then : (h events : List Event) → since_mark (h ++ events) ≡ fold with_event (since_mark h) events
since_then h events = fold-append with_event [] h events

-- after a mark
quiet_marked : (h : List Event) (number : ℕ) (b : Bool)
    → has_unmarked (h ++ Mark number ∷ (if b then [] else Acknowledge number ∷ [])) ≡ false
quiet_marked h number true = ap (list_any is_change) (since_then h (Mark number ∷ []))
quiet_marked h number false = ap (list_any is_change) (since_then h (Mark number ∷ Acknowledge number ∷ []))

quiet_acknowledged : (h : List Event) (number : ℕ) → has_unmarked h ≡ false
    → has_unmarked (h ++ Acknowledge number ∷ []) ≡ false
quiet_acknowledged h number quiet =
    ap (list_any is_change) (since_then h (Acknowledge number ∷ []))
    ∙ list_any-append is_change (since_mark h) (Acknowledge number ∷ []) ∙ ap (λ b. b || false) quiet

-- what is noted is observed: a history has an unmarked change only where one is noted
abbrev Agree : Observed → Notes → Type 0
Agree t n = n.has_unmarked ≡ false → has_unmarked t.history ≡ false

agree_step : (t : Observed) (n : Notes) (step : Step) (reply : Reply) → Agree t n
    → Agree (observe t step reply) (noted_after n reply)
agree_step t n step replies.Stored agree none = absurd (false≢true (sym none))
agree_step t n step replies.Resized agree none = absurd (false≢true (sym none))
agree_step t n step (replies.Marked number) agree none = ap (λ e. has_unmarked (t.history ++ e))
    (marked_events t step.p step.act number) ∙ quiet_marked t.history number (has_unmarked t.history)
agree_step t n step (replies.Committed number) agree none = ap (λ e. has_unmarked (t.history ++ e))
    (committed_events t step.p step.act number) ∙ quiet_acknowledged t.history number (agree none)
agree_step t n step reply agree none = ap (λ e. has_unmarked (t.history ++ e))
    (plain_events t step.p step.act reply refl) ∙ ap has_unmarked (append-nil t.history) ∙ agree none

agree_all : (t : Observed) (n : Notes) (steps : List Step) (replied : List Reply) → AreEven steps replied → Agree t n
    → Agree (observe_all t steps replied) (noted_all n replied)
agree_all t n [] [] even agree = agree
agree_all t n (step ∷ steps) (reply ∷ replied) even agree =
    agree_all (observe t step reply) (noted_after n reply) steps replied even (agree_step t n step reply agree)
agree_all t n [] (reply ∷ replied) even agree = absurd even
agree_all t n (step ∷ steps) [] even agree = absurd even

-- ---- the mark

module _ {D : Type 0} (disk : Ghosts D) (p mark : ℕ) where
  even_change : (steps : List Step) (replied : List Reply) → AnswersChange p (replies.Marked mark) steps replied
      → AreEven steps replied
  even_change steps replied it =
      even_commit p steps replied (change_of_commit p (replies.Marked mark) refl steps replied it)

  even_list : (others : List ℕ) → AreOthers p others
      → AreEven (change_steps p others) (change_replies (replies.Marked mark) others)
  even_list others differ = even_change (change_steps p others) (change_replies (replies.Marked mark) others)
      (record { made = refl; others = others; differ = differ; steps_are = refl; replies_are = refl })

  -- it is acknowledged as it is made, where nothing is unmarked
  at_once_list : (t : Observed) (others : List ℕ) → AreOthers p others → has_unmarked t.history ≡ false → Contains
      (observe_all t (change_steps p others) (change_replies (replies.Marked mark) others)).history (Acknowledge mark)
  at_once_list t [] differ quiet =
      let events : events_of t p acts.Change (replies.Marked mark) ≡ Mark mark ∷ Acknowledge mark ∷ [] =
      marked_events t p acts.Change mark ∙ ap (λ b. Mark mark ∷ (if b then [] else Acknowledge mark ∷ [])) quiet in
      subst (λ e. Contains (t.history ++ e) (Acknowledge mark)) (sym events) (Contains-append_right t.history
      (Mark mark ∷ Acknowledge mark ∷ []) (Acknowledge mark) (Contains-push (Mark mark ∷ []) (Acknowledge mark)))
  at_once_list t (other ∷ others) differ quiet =
      let stalled : Observed = observe t (record { p = other; act = acts.Ack }) replies.Acked in
      let more = at_once_list stalled others differ.1 (ap (λ e. has_unmarked (t.history ++ e))
      (plain_events t other acts.Ack replies.Acked refl) ∙ ap has_unmarked (append-nil t.history) ∙ quiet) in
      subst (λ (x : Observed). Contains x.history (Acknowledge mark))
      (sym (observed_then stalled (change_steps p others) (change_replies (replies.Marked mark) others)
      (record { p = other; act = acts.Resume } ∷ []) (replies.Resumed ∷ []) (even_list others differ.1)))
      (stays (observe_all stalled (change_steps p others) (change_replies (replies.Marked mark) others))
      (record { p = other; act = acts.Resume } ∷ []) (replies.Resumed ∷ []) (Acknowledge mark) more)

  at_once : (t : Observed) (steps : List Step) (replied : List Reply)
      → AnswersChange p (replies.Marked mark) steps replied
      → has_unmarked t.history ≡ false → Contains (observe_all t steps replied).history (Acknowledge mark)
  at_once t steps replied it quiet =
      change_has (λ steps replied. Contains (observe_all t steps replied).history (Acknowledge mark))
      p (replies.Marked mark) steps replied it (at_once_list t it.others it.differ quiet)

  -- or as it is committed
  later : (t : Observed) (steps : List Step) (replied : List Reply)
      → WritesUntil p mark (replies.Committed mark) steps replied
      → Contains (observe_all t steps replied).history (Acknowledge mark)
  later t (step ∷ steps) (reply ∷ replied) (is, inl (answered, none, silent)) =
      let events : events_of t step.p step.act reply ≡ Acknowledge mark ∷ [] =
      ap (events_of t step.p step.act) answered ∙ committed_events t step.p step.act mark in
      stays (observe t step reply) steps replied (Acknowledge mark)
      (subst (λ e. Contains (t.history ++ e) (Acknowledge mark))
      (sym events) (Contains-push t.history (Acknowledge mark)))
  later t (step ∷ steps) (reply ∷ replied) (is, inr (other, more)) = later (observe t step reply) steps replied more
  later t [] [] it = absurd it
  later t [] (reply ∷ replied) it = absurd it
  later t (step ∷ steps) [] it = absurd it

  made : (t : Observed) (n : Notes) (steps : List Step) (replied : List Reply) → Agree t n
      → CommitsMark p n mark steps replied
      → Contains (observe_all t steps replied).history (Acknowledge mark)
  made t n steps replied agree it =
      let begun = even_commit p it.beginning it.begun (begins_of_commit p it.beginning it.begun it.begins) in
      let marked = even_change it.marking it.marked it.makes in
      let there = observe_all t it.beginning it.begun in
      let is : observe_all t steps replied
      ≡ observe_all (observe_all there it.marking it.marked) it.writing it.written =
      ap (λ l. observe_all t l replied) it.steps_are
      ∙ ap (observe_all t (it.beginning ++ (it.marking ++ it.writing))) it.replies_are
      ∙ observed_then t it.beginning it.begun (it.marking ++ it.writing) (it.marked ++ it.written) begun
      ∙ observed_then there it.marking it.marked it.writing it.written marked in
      let agreed = agree_all t n it.beginning it.begun begun agree in
      subst (λ (x : Observed). Contains x.history (Acknowledge mark)) (sym is) (go it.writes there agreed)
    where
      go : IsWritten p mark (noted_all n it.begun) it.writing it.written → (there : Observed)
          → Agree there (noted_all n it.begun)
          → Contains (observe_all (observe_all there it.marking it.marked) it.writing it.written).history
          (Acknowledge mark)
      go (inl (none, no-steps, silent)) there agreed =
          stays (observe_all there it.marking it.marked) it.writing it.written (Acknowledge mark)
          (at_once there it.marking it.marked it.makes (agreed none))
      go (inr (some, writes)) there agreed = later (observe_all there it.marking it.marked) it.writing it.written writes

  pub acknowledged : (files : List File) (start mid new : Whole D) (between after : Notes)
      (earlier steps later : List Step) (replied now more : List Reply)
      → Makes disk start no_notes earlier replied mid between → Makes disk mid between steps now new after
      → CommitsMark p between mark steps now
      → Contains (history_of files start (earlier ++ (steps ++ later)) (replied ++ (now ++ more))) (Acknowledge mark)
  acknowledged files start mid new between after earlier steps later replied now more before makes it =
      let first = even_taken disk start mid earlier replied before.taken in
      let even = even_commit p steps now (commits_of_commit p between mark steps now it) in
      let t = observed_first files start.state in
      let there = observe_all t earlier replied in
      let agree : Agree there between =
      subst (Agree there) (sym before.notes) (agree_all t no_notes earlier replied first (λ _. refl)) in
      let is : observe_all t (earlier ++ (steps ++ later)) (replied ++ (now ++ more))
      ≡ observe_all (observe_all there steps now) later more =
      observed_then t earlier replied (steps ++ later) (now ++ more) first
      ∙ observed_then there steps now later more even in
      subst (λ (x : Observed). Contains x.history (Acknowledge mark)) (sym is)
      (stays (observe_all there steps now) later more (Acknowledge mark) (made there between steps now agree it))

-- ---- the line

-- no refusal's words begin as those of a mark that is acknowledged
refused_apart : (why : Refusal) (number : List ℕ) → words_of why ≢ codes "committed " ++ number
refused_apart why number is = go why (ap (λ l. get_or l 0 0 == 99) is)
  where
    go : (w : Refusal) → (get_or (words_of w) 0 0 == 99) ≡ true → ⊥
    go (refusals.NotYet count) same = false≢true same
    go w same = false≢true same

unmade_apart : (answer : Reply) (number : List ℕ) → reports_unmade answer ≡ true
    → committed_text (Err answer) ≢ codes "committed " ++ number
unmade_apart replies.Nothing number unmade is = false≢true (ap (λ l. get_or l 0 0 == 99) is)
unmade_apart (replies.Refused why) number unmade is = refused_apart why number is
unmade_apart answer number unmade is = false≢true unmade

pub line_mark : (p : ℕ) (before : Notes) (number : List ℕ) (steps : List Step) (replied : List Reply)
    → AnswersRequest before (asks_commit p) (codes "committed " ++ number) steps replied
    → (mark : ℕ) × (number ≡ decimal mark) × CommitsMark p before mark steps replied
line_mark p before number steps replied (Ok mark, it, is) = (mark, ap (drop 10) is, it)
line_mark p before number steps replied (Err answer, it, is) = absurd (unmade_apart answer number it.1 (sym is))
