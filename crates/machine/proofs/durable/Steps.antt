-- One step of a machine over an honest device: it stays tracked, and a crash within the step or after it reads back.
use Rattle.machine.proofs.Names.{◌≡◌, ◌≢◌, ◌<◌, ℕ, inl, inr, cond, true, false, not, List, [], ◌∷◌, ◌++◌, length}
use Rattle.machine.proofs.Names.{refl, sym, ap, ◌∙◌, subst, arith, Contains, cond-false, false≢true}
use Rattle.machine.proofs.Names.{All-contains, Contains-push, Refusal, Only, LeavesOnly, Ghosts, File}
use Rattle.machine.proofs.Names.{SuperValue, geometry_of, AreHomes, without_notes, Flushed, Work, Sync, Nothing, worked}
use Rattle.machine.proofs.Names.{TornFromWork, WriteOut, begun_of, WriteOutsValue, current_stage, next_answer}
use Rattle.machine.proofs.Names.{next_batch, begun, outs_after, LeftWithin, IsConsistent, IsTied}
use Rattle.machine.proofs.Names.{consistent_left, Act, Reply, Step, Event, Memory, Acknowledge, memory_of, has_unmarked}
use Rattle.machine.proofs.Names.{State, Whole, end_change, FlushMade}
use Rattle.machine.proofs.Names.{HasStepped, FlushFailed, MarkMade, with_batch}
use Rattle.machine.proofs.Names.{work_asked, reply_to, after_record, after_failure}
use Rattle.machine.proofs.Names.{Observed, observe, ended_by, ReadsBack}
use Rattle.machine.proofs.Names.{StepIsSafe, StopsInStep, step_work, StepMade, StepTaken, IsSound, IsArranged}
use Rattle.machine.proofs.Names.{lengths_of, mark_homes, is_page_next, HasPages, IsDurable, Refines}
use Rattle.machine.proofs.Names.{after_effects, IsMoved, Performed, Moved, Marked, Failed}
use Rattle.page_entry.specs.declared.refusal.Refusal.TheVariants as refusals
use Rattle.journal.specs.declared.flushed.Flushed.TheVariants as flushed
use Rattle.machine.specs.declared.act.Act.TheVariants as acts
use Rattle.machine.specs.declared.act.Reply.TheVariants as replies
use Rattle.machine.specs.inside.Moves.{Flushed as Stepped, Resized}
use Rattle.history.specs.History.{SetLength}
use Rattle.machine.proofs.Names.{get_or, length_of, changed, pending_in, change_in, ResizeMade, resized_at}
use Rattle.machine.proofs.sound.Kept.{performed_sound}
use Rattle.machine.proofs.acts.All.{performed}
use Rattle.machine.proofs.durable.Histories.{written_as}
use Rattle.history.proofs.Public.{marked_by, after_marked, lengths_marked, resized_mark}
use Rattle.machine.proofs.durable.Histories.{SameFiles}
use Rattle.history.proofs.Public.{AreQuiet, quiet_nothing, quiet_acknowledge, touched_mark}
use Rattle.machine.proofs.durable.Marks.{marked_durable}
use Rattle.machine.proofs.durable.Flushes.{flush_within, flush_failed, flush_goes_on, flush_commits}
use Rattle.machine.proofs.durable.ReadsBack.{reads_within, reads_now, stops_within}
use Rattle.machine.proofs.refining.DirtyFrames.{clean_after_mark}
use Rattle.machine.proofs.refining.ObservedSpaces.{spaces_still}
use Rattle.machine.proofs.refining.Arranged.{spaces_of, with_history, arranged_beside, arranged_end, arranged_resized}
use Rattle.machine.proofs.refining.Resized.{pages_resized}
use Rattle.machine.proofs.durable.Resized.{resized_durable}
use Rattle.machine.proofs.refining.Pages.{SamePages, files_kept, pages_quiet, plain_still}
use Rattle.machine.proofs.refining.Moved.{moves_refine}

-- ---- what a crash may leave is among what it might

pub consistent_less : (v : SuperValue) (outs : WriteOutsValue) (old new : ℕ → List ℕ) (seen : List ℕ)
    (may may' : List ℕ → Type 0) → ((c : List ℕ) → may' c → may c) → IsConsistent v outs old new seen may
    → IsConsistent v outs old new seen may'
consistent_less v outs old new seen may may' fewer s = record {
  geometry = s.geometry;
  left = λ c left. s.left c (fewer c left);
  reads = s.reads;
  rests = λ whole none. ((s.rests whole none).0, λ c left. (s.rests whole none).1 c (fewer c left));
  sound = s.sound;
  tied = λ whole. (let tied = s.tied whole in let r : IsTied v outs.batches old new seen may' =
      record { seen_is = tied.seen_is; left_are = λ c left. tied.left_are c (fewer c left) } in r);
}

-- the history that is observed counts, and what a read gives
pub durable_as : (files : List File) (observed observed' : Observed) (s : State)
    (seen seen' : List ℕ) (may : List ℕ → Type 0)
    → observed'.history ≡ observed.history → seen' ≡ seen → IsDurable files observed s seen may
    → IsDurable files observed' s seen' may
durable_as files observed observed' s seen seen' may same same_seen is = record {
  old = is.old;
  new = is.new;
  consistent = subst (λ (l : List ℕ). IsConsistent s.table s.write_outs is.old is.new l may)
      (sym same_seen) is.consistent;
  written = written_as files observed observed' s is.old is.new same is.written;
}

-- ---- steps of the write-outs

-- a step that answers so goes on with them
abbrev pub GoesOn : Flushed → Type 0
GoesOn flushed.Device = ⊥
GoesOn flushed.Broken = ⊥
GoesOn answer = Unit {0}

-- what it adds to a history
abbrev acknowledged_by : Flushed → List Event
acknowledged_by (flushed.Committed number) = Acknowledge number ∷ []
acknowledged_by answer = []

step_observed : (observed : Observed) (p : ℕ) (a : Flushed)
    → observe observed (record { p = p; act = acts.Flush }) (reply_to a)
    ≡ record observed { history = observed.history ++ acknowledged_by a }
step_observed observed p (flushed.Committed number) = refl
step_observed observed p answer = refl

pub step_asks : (s : State) (a : Flushed) → GoesOn a → step_work s acts.Flush (reply_to a) ≡ work_asked s
step_asks s flushed.Device goes = absurd goes
step_asks s flushed.Broken goes = absurd goes
step_asks s answer goes = refl

step_quiet : (history : List Event) (a : Flushed) → AreQuiet history (acknowledged_by a)
step_quiet history (flushed.Committed number) = quiet_acknowledge history number
step_quiet history answer = quiet_nothing history

-- a step whose reply is no refusal goes on
pub step_goes : (a : Flushed) (reply : Reply) → reply ≡ reply_to a → ((why : Refusal) → reply ≢ replies.Refused why)
    → GoesOn a
step_goes flushed.Device reply is fine = absurd (fine refusals.Device is)
step_goes flushed.Broken reply is fine = absurd (fine refusals.Broken is)
step_goes answer reply is fine = tt

-- ---- one step

module _ (files : List File) (observed : Observed) (s : State) (disk : List ℕ) (may : List ℕ → Type 0)
    (t : Refines files observed s disk may) (p : ℕ) (act : Act) (reply : Reply) (new : State) (disk' : List ℕ)
    (sound' : IsSound new) (may' : List ℕ → Type 0)
    (left : (c : List ℕ) → may' c → TornFromWork (step_work s act reply) may c)
    (made_durable : reply ≢ replies.Refused refusals.Device → step_work s act reply ≡ Sync → Only may' disk) where
  -- what a crash within the step leaves, where it asks for this work
  abbrev IsWithin : Work → Type 0
  IsWithin work = (c : List ℕ) → TornFromWork work may c → LeftWithin s.table t.old t.new (current_stage s.write_outs) c

  -- what is observed after it is this
  abbrev IsObserved : Observed → Type 0
  IsObserved now = observe observed (record { p = p; act = act }) reply ≡ now

  abbrev Outcome : Type 0
  Outcome = Refines files (observe observed (record { p = p; act = act }) reply) new disk' may'
      × IsWithin (step_work s act reply)

  -- where this is observed, and this work asked for
  outcome_as : (now : Observed) (work : Work) → IsObserved now → step_work s act reply ≡ work
      → Refines files now new disk' may' → IsWithin work → Outcome
  outcome_as now work observed_is work_is refines within =
      (subst (λ x. Refines files x new disk' may') (sym observed_is) refines, subst IsWithin (sym work_is) within)

  left_by : (work : Work) → step_work s act reply ≡ work → (c : List ℕ) → may' c → TornFromWork work may c
  left_by work is c left_c = subst (λ (w : Work). TornFromWork w may c) is (left c left_c)

  left_now : IsWithin Nothing
  left_now c left_c = consistent_left s.table t.old t.new s.write_outs disk may t.consistent c left_c

  abbrev has : HasPages files observed s
  has = t.pages

  refines_of : (now : Observed) → IsArranged now new → HasPages files now new → IsDurable files now new disk' may'
      → Refines files now new disk' may'
  refines_of now arranged pages durable =
      record { sound = sound'; arranged = arranged; pages = pages; durable = durable }

  -- ---- moves

  moving : IsMoved s disk p act reply new disk' → Outcome
  moving by =
      let m = moves_refine files observed s disk may t by.effect new by.moves in
      outcome_as (after_effects observed by.effect) Nothing (by.observes observed) by.no_work
      (refines_of (after_effects observed by.effect) m.arranged m.pages (record {
        old = m.old;
        new = m.new;
        consistent = subst (λ (l : List ℕ). IsConsistent new.table new.write_outs m.old m.new l may') (sym by.same_disk)
            (consistent_less new.table new.write_outs m.old m.new disk may may'
            (left_by Nothing by.no_work) m.consistent);
        written = m.written;
      })) left_now

  -- ---- a mark

  -- the home blocks of what was gathered fit a batch
  fits : (number : ℕ) (is : MarkMade s p number new) → s.write_outs.broken ≡ false → 0 < length (mark_homes s is.pages)
      → AreHomes (geometry_of s.table) (mark_homes s is.pages)
  fits number is whole some = by (mark_homes s is.pages) some is.done
    where
      by : (homes : List ℕ) → 0 < length homes → new ≡ record (end_change s p is.spaces s.hardware.memory
          (without_notes is.noted)) { write_outs = with_batch s number homes; marks = number; resized = false }
          → AreHomes (geometry_of s.table) homes
      by [] some done = absurd (omega arith)
      by (home ∷ others) some done =
          let homes : List ℕ = home ∷ others in
          let outs : new.write_outs ≡ begun s.write_outs number homes = ap (λ (x : State). x.write_outs) done
          ∙ cond-false s.write_outs.broken s.write_outs (begun s.write_outs number homes) whole in
          let table : new.table ≡ s.table = ap (λ (x : State). x.table) done in
          let there : Contains new.write_outs.batches
          (begun_of s.write_outs.geometry.slots (next_batch s.write_outs number homes)) =
          subst (λ (o : WriteOutsValue). Contains o.batches
          (begun_of s.write_outs.geometry.slots (next_batch s.write_outs number homes))) (sym outs) (Contains-push
          s.write_outs.batches (begun_of s.write_outs.geometry.slots (next_batch s.write_outs number homes))) in
          subst (λ (v : SuperValue). AreHomes (geometry_of v) homes) table
          (All-contains (λ (w : WriteOut). AreHomes (geometry_of new.table) w.batch.homes) new.write_outs.batches
          (begun_of s.write_outs.geometry.slots (next_batch s.write_outs number homes))
          sound'.write_outs.homes there)

  module _ (number : ℕ) (made : MarkMade s p number new) where
    abbrev marked : Observed
    marked = record (ended_by observed p) { history = observed.history ++ marked_by observed.history number }

    marked_arranged : IsArranged marked new
    marked_arranged =
        let m = s.hardware.spaces in
        let spaces = spaces_still observed.spaces m made.spaces made.protected.same_spaces made.protected.same_places
        (spaces_of t.arranged) in
        let ended = arranged_end observed s t.arranged p observed.spaces made.spaces s.hardware.memory
        (without_notes made.noted) made.may.allowed spaces in
        subst (IsArranged marked) (sym made.done) (arranged_beside marked (end_change s p made.spaces s.hardware.memory
        (without_notes made.noted)) _ (with_history marked.history ended) refl refl refl)

    marked_pages : HasPages files marked new
    marked_pages =
        let memory = after_marked (memory_of files) observed.history number in
        subst (HasPages files marked) (sym made.done) (record {
          files_are = files_kept files observed.history marked.history s _ (record { table = refl; lengths = refl })
              (lengths_marked (lengths_of files) observed.history number)
              (resized_mark observed.history number (has_unmarked observed.history)) has.files_are;
          latest = record {
            whole = λ file page. ap (λ (m : Memory). length (m file page)) memory ∙ has.latest.whole file page;
            latest = λ frame owner holds. has.latest.latest frame owner holds
                ∙ ap (λ (m : Memory). m owner.file owner.page) (sym memory);
          };
          touched = record {
            each = λ owner. (
              λ is. absurd (false≢true
                  (sym (touched_mark observed.history number (has_unmarked observed.history) owner.file owner.page)
                  ∙ is.1)),
              λ d. absurd (clean_after_mark s.hardware.spaces made.spaces s.hardware.memory s.checkpoint made.noted
                  (not s.write_outs.broken) made.pages d.0 made.gathered made.protected d.2),
            );
            inside = λ unset owner is. absurd (false≢true
                (sym (touched_mark observed.history number (has_unmarked observed.history) owner.file owner.page)
                ∙ is));
          };
          plain = plain_still files observed marked s _ (record { table = refl; lengths = refl })
              (λ owner is gone. (ap (λ (m : Memory). m owner.file owner.page) memory, has.plain owner is gone));
        })

    marking : IsObserved marked → step_work s act reply ≡ Nothing → disk' ≡ disk → Outcome
    marking observed_is work same_disk =
        outcome_as marked Nothing observed_is work (refines_of marked marked_arranged marked_pages
        (durable_as files
        (record observed { history = observed.history ++ marked_by observed.history number }) marked new disk
        disk' may' refl same_disk
        (marked_durable files observed s p number disk may' t.old t.new t.sound t.files_are t.latest t.touched
        (consistent_less s.table s.write_outs t.old t.new disk may may' (left_by Nothing work) t.consistent) t.written
        made.next made.may.lock new made (fits number made)))) left_now

  -- ---- a change of a file's length

  module _ (made : ResizeMade s p new) where
    abbrev resized : Observed
    resized = record (ended_by (changed observed observed.pending) p)
        { history = observed.history ++ resized_at observed observed.pending }

    -- what is observed is the change of the length
    event_is : resized_at observed observed.pending ≡ SetLength made.file (length_of s made.file) made.to ∷ []
    event_is =
        ap (resized_at observed) (t.arranged.same_pending ∙ ap (λ l. pending_in (change_in l)) made.may.lock)
        ∙ ap (λ (l : List ℕ). SetLength made.file (get_or l made.file 0) made.to ∷ []) t.arranged.same_lengths

    history_is : resized.history ≡ observed.history ++ SetLength made.file (length_of s made.file) made.to ∷ []
    history_is = ap (λ l. observed.history ++ l) event_is

    resizing : IsObserved resized → step_work s act reply ≡ Nothing → disk' ≡ disk → Outcome
    resizing observed_is work same_disk =
        let consistent = consistent_less s.table s.write_outs t.old t.new disk may may'
        (left_by Nothing work) t.consistent in
        outcome_as resized Nothing observed_is work (refines_of resized
        (with_history resized.history (arranged_resized observed s t.arranged p new made))
        (pages_resized files observed resized s p new made history_is t.sound has)
        (durable_as files resized resized new disk disk' may' refl same_disk
        (resized_durable files observed resized s p disk may' new made history_is t.sound has
        (record { old = t.old; new = t.new; consistent = consistent; written = t.written })))) left_now

  -- ---- a step of the write-outs

  abbrev with_events : List Event → Observed
  with_events events = record observed { history = observed.history ++ events }

  -- of a state that differs in write-outs, frozen pages and copies alone
  module _ (events : List Event) (quiet : AreQuiet observed.history events) where
    abbrev IsAsObserved : State → Type 0
    IsAsObserved x = IsArranged (with_events events) x × HasPages files (with_events events) x

    beside : (x : State) → x.hardware.shootdown ≡ s.hardware.shootdown → x.hardware.spaces ≡ s.hardware.spaces
        → SameFiles s x → x.resized ≡ s.resized → SamePages s x → IsAsObserved x
    beside x shootdown spaces same set pages = (
      arranged_beside (with_events events) s x
          (with_history (observed.history ++ events) t.arranged) shootdown spaces same.lengths,
      pages_quiet files observed (with_events events) s x events refl quiet same set has pages,
    )

    stepped : FlushMade s disk p (next_answer s.write_outs) new disk' → IsAsObserved new
    stepped made =
        subst IsAsObserved (sym made.done)
        (elim (is_page_next s) as (λ b. IsAsObserved
        (record (cond b (after_record s) s) { write_outs = outs_after s.write_outs (next_answer s.write_outs) })) [
          | true ↦ beside _ refl refl (record { table = refl; lengths = refl }) refl
              (record { frames = refl; dirty = λ frame. (λ d. d, λ d. d) })
          | false ↦ beside _ refl refl (record { table = refl; lengths = refl }) refl
              (record { frames = refl; dirty = λ frame. (λ d. d, λ d. d) })
        ])

  module _ (made : FlushMade s disk p (next_answer s.write_outs) new disk')
      (work : step_work s act reply ≡ work_asked s) (durable_now : work_asked s ≡ Sync → Only may' disk) where
    abbrev after_it : State
    after_it = record (cond (is_page_next s) (after_record s) s)
        { write_outs = outs_after s.write_outs (next_answer s.write_outs) }

    landed : (events : List Event) → IsDurable files (with_events events) after_it (worked disk (work_asked s)) may'
        → IsDurable files (with_events events) new disk' may'
    landed events is =
        subst (λ (x : State). IsDurable files (with_events events) x disk' may') (sym made.done)
        (durable_as files (with_events events) (with_events events) after_it
        (worked disk (work_asked s)) disk' may' refl made.disk_done is)

    goes_on : (next_answer s.write_outs ≡ flushed.Device → ⊥)
        → ((n : ℕ) → next_answer s.write_outs ≡ flushed.Committed n → ⊥)
        → IsDurable files (with_events []) new disk' may'
    goes_on other uncommitting =
        landed []
        (flush_goes_on files observed s disk may t.old t.new t.sound t.consistent t.written p made.allowed made.some
        (is_page_next s) may' (left_by (work_asked s) work) durable_now other uncommitting)

    step_durable : (a : Flushed) → next_answer s.write_outs ≡ a → GoesOn a
        → IsDurable files (with_events (acknowledged_by a)) new disk' may'
    step_durable flushed.Going is goes = goes_on (λ d. let never : flushed.Going ≡ flushed.Device = sym is ∙ d in cc)
        (λ n c. let never : flushed.Going ≡ flushed.Committed n = sym is ∙ c in cc)
    step_durable (flushed.Committed number) is goes =
        landed (Acknowledge number ∷ [])
        (flush_commits files observed s disk may t.old t.new t.sound t.consistent t.written p made.allowed made.some
        (is_page_next s) may' (left_by (work_asked s) work) durable_now number is)
    step_durable (flushed.Done number) is goes =
        goes_on (λ d. let never : flushed.Done number ≡ flushed.Device = sym is ∙ d in cc)
        (λ n c. let never : flushed.Done number ≡ flushed.Committed n = sym is ∙ c in cc)
    step_durable flushed.Device is goes = absurd goes
    step_durable flushed.Broken is goes = absurd goes

  stepping : act ≡ acts.Flush → HasStepped s disk p reply new disk' → ((why : Refusal) → reply ≢ replies.Refused why)
      → Outcome
  stepping act_is by fine =
      let a = next_answer s.write_outs in
      let goes = step_goes a reply by.answered fine in
      let observed_is = (λ i. observe observed (record { p = p; act = act_is i }) (by.answered i))
      ∙ step_observed observed p a in
      let work = (λ i. step_work s (act_is i) (by.answered i)) ∙ step_asks s a goes in
      let as_observed = stepped (acknowledged_by a) (step_quiet observed.history a) by.made in
      outcome_as (with_events (acknowledged_by a)) (work_asked s) observed_is work
      (refines_of (with_events (acknowledged_by a)) as_observed.0 as_observed.1
      (step_durable by.made work (λ sync. made_durable (fine refusals.Device) (work ∙ sync)) a refl goes))
      (flush_within files observed s disk may t.old t.new t.sound t.consistent t.written p by.made.allowed by.made.some)

  failing : act ≡ acts.Flush → reply ≡ replies.Refused refusals.Device → FlushFailed s disk p new disk' → Outcome
  failing act_is reply_is made =
      let work : step_work s act reply ≡ work_asked s = λ i. step_work s (act_is i) (reply_is i) in
      let as_observed : IsAsObserved [] (quiet_nothing observed.history) new =
      subst (IsAsObserved [] (quiet_nothing observed.history)) (sym made.done)
      (beside [] (quiet_nothing observed.history) (after_failure s) refl refl (record { table = refl; lengths = refl })
      refl (record { frames = refl; dirty = λ frame. (λ d. d, λ d. d) })) in
      outcome_as (with_events []) (work_asked s)
      (λ i. observe observed (record { p = p; act = act_is i }) (reply_is i)) work
      (refines_of (with_events []) as_observed.0 as_observed.1
      (flush_failed files observed s disk may t.old t.new t.sound t.consistent
      t.written p made.allowed made.some new disk' may' made.done (left_by (work_asked s) work)))
      (flush_within files observed s disk may t.old t.new t.sound t.consistent t.written p made.allowed made.some)

  -- ---- any act

  pub performing : Performed s disk p act reply new disk' → Outcome
  performing (Moved by) = moving by
  performing (Marked number act_is reply_is made same_disk) =
      marking number made (λ i. observe observed (record { p = p; act = act_is i }) (reply_is i))
      (λ i. step_work s (act_is i) (reply_is i)) same_disk
  performing (Resized act_is reply_is made same_disk) =
      resizing made (λ i. observe observed (record { p = p; act = act_is i }) (reply_is i))
      (λ i. step_work s (act_is i) (reply_is i)) same_disk
  performing (Stepped act_is made fine) = stepping act_is made fine
  performing (Failed act_is reply_is made) = failing act_is reply_is made

-- ---- steps over a device

leaves_more : {D : Type 0} (moment : D → ℕ) (left_since : D → ℕ → List ℕ → Type 0) (old new : D) (P Q : List ℕ → Type 0)
    → ((c : List ℕ) → P c → Q c) → LeavesOnly moment left_since old new P → LeavesOnly moment left_since old new Q
leaves_more moment left_since old new P Q more is = record {
  later = is.later;
  each = λ c left. more c (is.each c left);
  before = λ t c le left. elim (is.before t c le left) [ inl was ↦ inl was | inr now ↦ inr (more c now) ];
  keeps = is.keeps;
}

module _ {D : Type 0} (disk : Ghosts D) (files : List File) (observed : Observed) (old : Whole D)
    (step : Step) (reply : Reply)
    (new : Whole D) (t : Refines files observed old.state (disk.seen old.device) (disk.may_leave old.device))
    (taken : StepTaken disk old step reply new) (honest : disk.is_honest old.device) where
  made : StepMade disk old step reply new
  made = taken.made honest

  abbrev asked : List ℕ → Type 0
  asked c = TornFromWork (step_work old.state step.act reply) (disk.may_leave old.device) c

  outcome : Refines files (observe observed step reply) new.state (disk.seen new.device) (disk.may_leave new.device)
      × ((c : List ℕ) → asked c → LeftWithin old.state.table t.old t.new (current_stage old.state.write_outs) c)
  outcome =
      let by = performed old.state (disk.seen old.device) step reply new.state
      (disk.seen new.device) t.sound made.answered in
      performing files observed old.state (disk.seen old.device)
      (disk.may_leave old.device) t step.p step.act reply new.state (disk.seen new.device)
      (performed_sound t.sound by) (disk.may_leave new.device) made.left made.durable by

  pub refines_kept : Refines files (observe observed step reply) new.state (disk.seen new.device)
      (disk.may_leave new.device)
  refines_kept = outcome.0

  -- a crash within it leaves old files or new ones, by the stage of the write-out
  pub step_stopped : LeavesOnly disk.moment disk.left_since old.device new.device
      (StopsInStep files observed.history old.state.write_outs)
  step_stopped = leaves_more disk.moment disk.left_since old.device new.device asked
      (StopsInStep files observed.history old.state.write_outs)
      (λ c torn. stops_within files observed old.state t.sound t.files_are t.old t.new t.written
      t.consistent.sound.ordered c
      (outcome.1 c torn)) made.within

  -- and a crash at any moment reads back
  pub step_safe : StepIsSafe disk files observed old step reply new
  step_safe = record {
    taken = taken;
    honest = honest;
    within = leaves_more disk.moment disk.left_since old.device new.device asked (ReadsBack files observed.history)
        (λ c torn. reads_within files observed old.state t.sound t.files_are t.old t.new t.written c (outcome.1 c torn))
        made.within;
    after = λ c left. let now = refines_kept in
        reads_now files (observe observed step reply) new.state (disk.seen new.device)
        (disk.may_leave new.device) now.sound now.files_are now.durable c left;
  }
