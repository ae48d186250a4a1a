-- Steps by which a processor commits.
use Rattle.std.proofs.Common.{◌≡◌, ◌≢◌, ◌⊎◌, inl, inr, ℕ, true, false, List, [], ◌∷◌, ◌++◌}
use Rattle.std.proofs.Common.{Result, Ok, Err, refl, sym, ◌∙◌, ap, subst}
use Rattle.std.proofs.lemmas.Bool.{false≢true}
use Rattle.device.specs.declared.device.Device.{Ghosts}
use Rattle.page_entry.specs.declared.refusal.Refusal.TheVariants.{Busy}
use Rattle.spaces.specs.declared.change.Change.TheVariants.{Checkpoint}
use Rattle.machine.specs.declared.act.Act.TheVariants as acts
use Rattle.machine.specs.declared.act.Reply.{Reply}
use Rattle.machine.specs.declared.act.Reply.TheVariants as replies
use Rattle.machine.specs.declared.act.Step.{Step}
use Rattle.machine.specs.declared.msync_flags.MsyncFlags.{MsyncFlags}
use Rattle.machine.specs.Rules.{Acts}
use Rattle.machine.specs.State.{State, Whole}
use Rattle.session.specs.declared.notes.Notes.{Notes}
use Rattle.session.specs.CarriedOut.{CarriesOut}
use Rattle.session.specs.Commits.{AreWaits, BeginsMark, RefusesMark, IsLastAttempt, IsOfOther, IsWritten}
use Rattle.session.specs.Commits.{IsLeftUnwritten, WritesUntil, MarksAnd, CommitsMark, StopsCommit, AnswersCommit}
use Rattle.session.specs.Commits.{msync_by, reports_unmade}
use Rattle.session.specs.Lengths.{AnswersChange, AreOthers, EndsWaiting, change_steps, change_replies}
use Rattle.session.specs.Lengths.{flush_by, reports_begun, reports_refused}
use Rattle.session.specs.Notes.{noted_all}
use Rattle.session.specs.Ranges.{MakesStepsThat}
use Rattle.session.specs.Steps.{Makes, is_of_commit, Passes, AreOfCommit, reports_flushed, reports_mark}
use Rattle.session.specs.inside.Changing.{BeginsChange, IsOver}
use Rattle.session.specs.inside.Made.{Waits}
use Rattle.session.proofs.Each.{each_of_change, each_then}
use Rattle.session.proofs.Phases.{begun_is, begun_over, keeps_then}
use Rattle.session.proofs.Rooms.{change_has}
use Rattle.session.proofs.Stretches.{makes_then}

-- ---- what is answered by which act

-- an attempt to begin a mark begins it or is refused
msync_refused : (s : State) (d : List ℕ) (p va len : ℕ) (flags : MsyncFlags) (reply : Reply) (new : State) (d' : List ℕ)
    → Acts s d p (acts.Msync va len flags) reply new d' → reports_begun reply ≡ false → reports_refused reply ≡ true
msync_refused s d p va len flags replies.Begun new d' rule is = absurd (false≢true (sym is))
msync_refused s d p va len flags (replies.Refused why) new d' rule is = refl
msync_refused s d p va len flags reply new d' ((reason, it), same) is = absurd it

-- a step of the write-outs is made, or there is none left, or it is refused
flush_unmade : (s : State) (d : List ℕ) (p : ℕ) (reply : Reply) (new : State) (d' : List ℕ)
    → Acts s d p acts.Flush reply new d' → reports_flushed reply ≡ false → reports_unmade reply ≡ true
flush_unmade s d p replies.Going new d' rule is = absurd (false≢true (sym is))
flush_unmade s d p (replies.Committed number) new d' rule is = absurd (false≢true (sym is))
flush_unmade s d p (replies.Done number) new d' rule is = absurd (false≢true (sym is))
flush_unmade s d p replies.Nothing new d' rule is = refl
flush_unmade s d p (replies.Refused why) new d' rule is = refl
flush_unmade s d p reply new d' ((reason, it), same) is = absurd it

-- what wasn't made was refused, if there was something to do
pub refused_is : (reply : Reply) → reports_unmade reply ≡ true → reply ≢ replies.Nothing → reports_refused reply ≡ true
refused_is replies.Nothing is some = absurd (some refl)
refused_is (replies.Refused why) is some = refl
refused_is reply is some = absurd (false≢true is)

pub refused_unbegun : (reply : Reply) → reports_refused reply ≡ true → reports_begun reply ≡ false
refused_unbegun (replies.Refused why) is = refl
refused_unbegun reply is = absurd (false≢true is)

unmade_refused : (reply : Reply) → reports_refused reply ≡ true → reports_unmade reply ≡ true
unmade_refused (replies.Refused why) is = refl
unmade_refused reply is = absurd (false≢true is)

module _ {D : Type 0} (disk : Ghosts D) (old new : Whole D) (before after : Notes) (p : ℕ) (reply : Reply) where
  pub begin_refused : Makes disk old before (msync_by p ∷ []) (reply ∷ []) new after → reports_begun reply ≡ false
      → reports_refused reply ≡ true
  begin_refused makes is =
      let here = makes.taken.1 in
      msync_refused old.state here.answered.0 p 0 0
      (record { 0 = 4 }) reply makes.taken.0.state here.answered.1 here.answered.2 is

  pub step_unmade : Makes disk old before (flush_by p ∷ []) (reply ∷ []) new after → reports_flushed reply ≡ false
      → reports_unmade reply ≡ true
  step_unmade makes is =
      let here = makes.taken.1 in
      flush_unmade old.state here.answered.0 p reply makes.taken.0.state here.answered.1 here.answered.2 is

-- ---- the mark is begun

module _ (p : ℕ) where
  pub waits_then : (steps : List Step) (replied : List Reply) (steps' : List Step) (replied' : List Reply)
      → AreWaits p steps replied → AreWaits p steps' replied' → AreWaits p (steps ++ steps') (replied ++ replied')
  waits_then [] [] steps' replied' first later = later
  waits_then (attempt ∷ step ∷ steps) (busy ∷ reply ∷ replied) steps' replied' (a, b, s, r, first) later =
      (a, b, s, r, waits_then steps replied steps' replied' first later)
  waits_then [] (reply ∷ replied) steps' replied' first later = absurd first
  waits_then (step ∷ []) [] steps' replied' first later = absurd first
  waits_then (step ∷ []) (reply ∷ replied) steps' replied' first later = absurd first
  waits_then (attempt ∷ step ∷ steps) [] steps' replied' first later = absurd first
  waits_then (attempt ∷ step ∷ steps) (reply ∷ []) steps' replied' first later = absurd first

  -- one more attempt that was busy, and the step that was made for it
  pub waits_one : (busy : Reply) → busy ≡ replies.Refused Busy → (steps : List Step) (replied : List Reply)
      → Waits p steps replied → AreWaits p (msync_by p ∷ steps) (busy ∷ replied)
  waits_one busy is steps replied it =
      subst (λ l. AreWaits p (msync_by p ∷ l) (busy ∷ replied)) (sym it.steps_are)
      (subst (λ l. AreWaits p (msync_by p ∷ flush_by p ∷ []) (busy ∷ l)) (sym it.replies_are)
      (refl, is, refl, it.made, tt))

  pub begins_later : (reply : Reply) → reports_begun reply ≡ true
      → (steps : List Step) (replied : List Reply) (last : List Step) (now : List Reply) → AreWaits p steps replied
      → (last ≡ msync_by p ∷ []) × (now ≡ reply ∷ []) → BeginsMark p (steps ++ last) (replied ++ now)
  begins_later reply is steps replied last now busy (attempt, answered) = record {
    waits = steps;
    waited = replied;
    busy = busy;
    steps_are = ap (λ l. steps ++ l) attempt;
    replies_are = ap (λ l. replied ++ l) (answered ∙ ap (λ r. r ∷ []) (begun_is reply is));
  }

  pub refused_later : (answer : Reply) (steps : List Step) (replied : List Reply) (last : List Step) (now : List Reply)
      → AreWaits p steps replied → IsLastAttempt p answer last now
      → RefusesMark p answer (steps ++ last) (replied ++ now)
  refused_later answer steps replied last now busy refused = record {
    waits = steps;
    waited = replied;
    busy = busy;
    last = last;
    replied = now;
    refused = refused;
    steps_are = refl;
    replies_are = refl;
  }

  -- ---- it is written

  -- steps of the write-outs that were made, none of which commits this mark
  abbrev pub AreOfOthers : ℕ → List Step → List Reply → Type 0
  AreOfOthers mark [] [] = Unit {0}
  AreOfOthers mark (step ∷ steps) (reply ∷ replied) =
      (step ≡ flush_by p) × IsOfOther mark reply × AreOfOthers mark steps replied
  AreOfOthers mark steps replied = ⊥

  pub others_then : (mark : ℕ) (steps : List Step) (replied : List Reply) (steps' : List Step) (replied' : List Reply)
      → AreOfOthers mark steps replied → AreOfOthers mark steps' replied'
      → AreOfOthers mark (steps ++ steps') (replied ++ replied')
  others_then mark [] [] steps' replied' first later = later
  others_then mark (step ∷ steps) (reply ∷ replied) steps' replied' (is, other, first) later =
      (is, other, others_then mark steps replied steps' replied' first later)
  others_then mark [] (reply ∷ replied) steps' replied' first later = absurd first
  others_then mark (step ∷ steps) [] steps' replied' first later = absurd first

  pub writes_then : (mark : ℕ) (answer : Reply) (steps : List Step) (replied : List Reply) (steps' : List Step)
      (replied' : List Reply) → AreOfOthers mark steps replied → WritesUntil p mark answer steps' replied'
      → WritesUntil p mark answer (steps ++ steps') (replied ++ replied')
  writes_then mark answer [] [] steps' replied' first later = later
  writes_then mark answer (step ∷ steps) (reply ∷ replied) steps' replied' (is, other, first) later =
      (is, inr (other, writes_then mark answer steps replied steps' replied' first later))
  writes_then mark answer [] (reply ∷ replied) steps' replied' first later = absurd first
  writes_then mark answer (step ∷ steps) [] steps' replied' first later = absurd first

  pub writes_one : (mark : ℕ) (answer : Reply) → WritesUntil p mark answer (flush_by p ∷ []) (answer ∷ [])
  writes_one mark answer = (refl, inl (refl, refl, refl))

-- ---- steps of a commit read and store nothing

of_step : (p : ℕ) (step other : Step) (reply : Reply) → step ≡ other → Passes is_of_commit p other reply
    → Passes is_of_commit p step reply
of_step p step other reply is of = subst (λ (s : Step). Passes is_of_commit p s reply) (sym is) of

waits_of_commit : (p : ℕ) (steps : List Step) (replied : List Reply) → AreWaits p steps replied
    → AreOfCommit p steps replied
waits_of_commit p [] [] waits = tt
waits_of_commit p (attempt ∷ step ∷ steps) (busy ∷ reply ∷ replied) (a, b, s, r, more) = (
  of_step p attempt (msync_by p) busy a (refl, refl),
  (of_step p step (flush_by p) reply s (refl, refl), waits_of_commit p steps replied more),
)
waits_of_commit p [] (reply ∷ replied) waits = absurd waits
waits_of_commit p (step ∷ []) [] waits = absurd waits
waits_of_commit p (step ∷ []) (reply ∷ replied) waits = absurd waits
waits_of_commit p (attempt ∷ step ∷ steps) [] waits = absurd waits
waits_of_commit p (attempt ∷ step ∷ steps) (reply ∷ []) waits = absurd waits

change_list : (p : ℕ) (answer : Reply) (others : List ℕ) → AreOthers p others → reports_mark answer ≡ true
    → AreOfCommit p (change_steps p others) (change_replies answer others)
change_list p answer others differ is = each_of_change (Passes is_of_commit p) p answer others differ (is, refl)
    (λ other not. (refl, not)) (λ other not. (refl, not))

pub change_of_commit : (p : ℕ) (answer : Reply) → reports_mark answer ≡ true
    → (steps : List Step) (replied : List Reply)
    → AnswersChange p answer steps replied → AreOfCommit p steps replied
change_of_commit p answer is steps replied it =
    change_has (AreOfCommit p) p answer steps replied it (change_list p answer it.others it.differ is)

writes_of_commit : (p mark : ℕ) (answer : Reply) (steps : List Step) (replied : List Reply)
    → WritesUntil p mark answer steps replied → AreOfCommit p steps replied
writes_of_commit p mark answer (step ∷ steps) (reply ∷ replied) (is, inl (last, none, silent)) = (
  of_step p step (flush_by p) reply is (refl, refl),
  subst (λ l. AreOfCommit p l replied) (sym none) (subst (λ l. AreOfCommit p [] l) (sym silent) tt),
)
writes_of_commit p mark answer (step ∷ steps) (reply ∷ replied) (is, inr (other, more)) =
    (of_step p step (flush_by p) reply is (refl, refl), writes_of_commit p mark answer steps replied more)
writes_of_commit p mark answer [] [] it = absurd it
writes_of_commit p mark answer [] (reply ∷ replied) it = absurd it
writes_of_commit p mark answer (step ∷ steps) [] it = absurd it

are : (p : ℕ) (steps front : List Step) (replied now : List Reply) → steps ≡ front → replied ≡ now
    → AreOfCommit p front now
    → AreOfCommit p steps replied
are p steps front replied now s r of =
    subst (λ l. AreOfCommit p l replied) (sym s) (subst (λ l. AreOfCommit p front l) (sym r) of)

pub begins_of_commit : (p : ℕ) (steps : List Step) (replied : List Reply) → BeginsMark p steps replied
    → AreOfCommit p steps replied
begins_of_commit p steps replied it =
    are p steps _ replied _ it.steps_are it.replies_are (each_then (Passes is_of_commit p) it.waits it.waited
    (msync_by p ∷ []) (replies.Begun ∷ []) (waits_of_commit p it.waits it.waited it.busy) ((refl, refl), tt))

last_of_commit : (p : ℕ) (answer : Reply) (steps : List Step) (replied : List Reply)
    → IsLastAttempt p answer steps replied → AreOfCommit p steps replied
last_of_commit p answer (step ∷ steps) (reply ∷ replied) (is, inl (same, refused, other, none, silent)) =
    (of_step p step (msync_by p) reply is (refl, refl), are p steps [] replied [] none silent tt)
last_of_commit p answer (step ∷ steps) (reply ∷ replied) (is, inr (busy, ends)) = (
  of_step p step (msync_by p) reply is (refl, refl),
  are p steps _ replied _ ends.steps_are ends.replies_are ((refl, refl), tt),
)
last_of_commit p answer [] [] it = absurd it
last_of_commit p answer [] (reply ∷ replied) it = absurd it
last_of_commit p answer (step ∷ steps) [] it = absurd it

written_of_commit : (p mark : ℕ) (noted : Notes) (steps : List Step) (replied : List Reply)
    → IsWritten p mark noted steps replied → AreOfCommit p steps replied
written_of_commit p mark noted steps replied (inl (none, s, r)) = are p steps [] replied [] s r tt
written_of_commit p mark noted steps replied (inr (some, writes)) =
    writes_of_commit p mark (replies.Committed mark) steps replied writes

marks_of_commit : (p : ℕ) (before : Notes) (mark : ℕ) (what : Notes → List Step → List Reply → Type 0)
    → ((noted : Notes) (steps : List Step) (replied : List Reply) → what noted steps replied
    → AreOfCommit p steps replied)
    → (steps : List Step) (replied : List Reply) → MarksAnd p before mark what steps replied
    → AreOfCommit p steps replied
marks_of_commit p before mark what of steps replied it = are p steps _ replied _ it.steps_are it.replies_are
    (each_then (Passes is_of_commit p) it.beginning it.begun (it.marking ++ it.writing) (it.marked ++ it.written)
    (begins_of_commit p it.beginning it.begun it.begins)
    (each_then (Passes is_of_commit p) it.marking it.marked it.writing it.written
    (change_of_commit p (replies.Marked mark) refl it.marking it.marked it.makes)
    (of (noted_all before it.begun) it.writing it.written it.writes)))

pub commits_of_commit : (p : ℕ) (before : Notes) (mark : ℕ) (steps : List Step) (replied : List Reply)
    → CommitsMark p before mark steps replied → AreOfCommit p steps replied
commits_of_commit p before mark = marks_of_commit p before mark (IsWritten p mark) (written_of_commit p mark)

pub stops_of_commit : (p : ℕ) (before : Notes) (answer : Reply) (steps : List Step) (replied : List Reply)
    → StopsCommit p before answer steps replied → AreOfCommit p steps replied
stops_of_commit p before answer steps replied (inl it) =
    are p steps _ replied _ it.steps_are it.replies_are (each_then (Passes is_of_commit p) it.waits it.waited it.last
    it.replied (waits_of_commit p it.waits it.waited it.busy) (last_of_commit p answer it.last it.replied it.refused))
stops_of_commit p before answer steps replied (inr (mark, it)) =
    marks_of_commit p before mark (IsLeftUnwritten p mark answer)
    (λ noted steps replied stopped. writes_of_commit p mark answer steps replied stopped.1) steps replied it

pub answers_of_commit : (p : ℕ) (before : Notes) (committed : Result ℕ Reply) (steps : List Step) (replied : List Reply)
    → AnswersCommit p before committed steps replied → AreOfCommit p steps replied
answers_of_commit p before (Ok mark) steps replied it = commits_of_commit p before mark steps replied it
answers_of_commit p before (Err answer) steps replied it = stops_of_commit p before answer steps replied it.0

-- ---- what a commit came to

-- what makes a mark is answered by its number
pub mark_replied : {A : Type 0} (reply : Reply) → reports_mark reply ≡ true → ((mark : ℕ) → reply ≢ replies.Marked mark)
    → A
mark_replied (replies.Marked mark) is other = absurd (other mark refl)
mark_replied reply is other = absurd (false≢true is)

-- the mark was begun and made, and then it was written
pub marks_and : {D : Type 0} (disk : Ghosts D) (old begun marked new : Whole D) (before between next after : Notes)
    (p mark : ℕ) (reply : Reply) (what : Notes → List Step → List Reply → Type 0) → reply ≡ replies.Marked mark
    → BeginsChange disk old before (BeginsMark p) p Checkpoint begun between
    → MakesStepsThat disk begun between (AnswersChange p reply) marked next → IsOver begun.state marked.state
    → CarriesOut disk marked next (what between) new after
    → CarriesOut disk old before (MarksAnd p before mark what) new after
marks_and disk old begun marked new before between next after p mark reply what is begins changes over writes =
    let first = begins.makes in
    let last = writes.makes in
    record {
      makes = record {
        steps = first.steps ++ (changes.steps ++ last.steps);
        replies = first.replies ++ (changes.replies ++ last.replies);
        makes = makes_then disk old begun new before between after first.steps first.replies
            (changes.steps ++ last.steps) (changes.replies ++ last.replies) first.makes
            (makes_then disk begun marked new between next after changes.steps changes.replies last.steps
            last.replies changes.makes last.makes);
        holds = record {
          beginning = first.steps;
          begun = first.replies;
          begins = first.holds;
          marking = changes.steps;
          marked = changes.replies;
          makes = subst (λ (r : Reply). AnswersChange p r changes.steps changes.replies) is changes.holds;
          writing = last.steps;
          written = last.replies;
          writes = subst (λ (n : Notes). what n last.steps last.replies) first.makes.notes last.holds;
          steps_are = refl;
          replies_are = refl;
        };
      };
      phases = keeps_then old.state marked.state new.state
          (begun_over old.state begun.state marked.state p Checkpoint begins.begins over) writes.phases;
    }

-- why another attempt isn't made
ends_refused : (p : ℕ) (answer : Reply) (steps : List Step) (replied : List Reply)
    → EndsWaiting p answer steps replied → reports_refused answer ≡ true
ends_refused p answer steps replied it = go it.why
  where
    go : ((it.reply ≡ replies.Nothing) × (answer ≡ replies.Refused Busy))
        ⊎ ((it.reply ≡ answer) × (reports_refused answer ≡ true)) → reports_refused answer ≡ true
    go (inl (nothing, busy)) = ap reports_refused busy
    go (inr (same, refused)) = refused

last_refused : (p : ℕ) (answer : Reply) (steps : List Step) (replied : List Reply)
    → IsLastAttempt p answer steps replied → reports_refused answer ≡ true
last_refused p answer (step ∷ steps) (reply ∷ replied) (is, inl (same, refused, other, none, silent)) = refused
last_refused p answer (step ∷ steps) (reply ∷ replied) (is, inr (busy, ends)) =
    ends_refused p answer steps replied ends
last_refused p answer [] [] it = absurd it
last_refused p answer [] (reply ∷ replied) it = absurd it
last_refused p answer (step ∷ steps) [] it = absurd it

-- a commit that a mark was refused to stops
pub mark_stops : (p : ℕ) (before : Notes) (answer : Reply) (steps : List Step) (replied : List Reply)
    → RefusesMark p answer steps replied → AnswersCommit p before (Err answer) steps replied
mark_stops p before answer steps replied it =
    (inl it, unmade_refused answer (last_refused p answer it.last it.replied it.refused))
