-- A step of the write-outs: it writes a record that New has, and once it commits a batch, what was New is Old, too.
use Rattle.machine.proofs.Names.{◌≡◌, ◌<◌, ◌≤◌, ◌-◌, ◌*◌, ℕ, true, false, not, List, [], ◌∷◌, ◌++◌, length}
use Rattle.machine.proofs.Names.{take, drop, get_or, Option, Some, None, inl, inr, refl, sym, ap, ◌∙◌, subst}
use Rattle.machine.proofs.Names.{arith, ◌==◌, ◌⊎◌, suc, cond, Bool, Contains, flat_map, All, option_map}
use Rattle.machine.proofs.Names.{option_map_or, option_and_then, cond-false, cases_Bool, both_ways, or_from}
use Rattle.machine.proofs.Names.{not_from_true, or_parts, length-take, list_any-append}
use Rattle.machine.proofs.Names.{Contains-push, Contains-get_or, All-contains, FilePage, length-padded}
use Rattle.machine.proofs.Names.{IsBefore, before_each, AreRising, Stage}
use Rattle.machine.proofs.Names.{Committing, Applying, Committed, Broken, answer_at, WriteOut, next_stage}
use Rattle.machine.proofs.Names.{has_committed, advanced_of, next_record, next_home, answer_of, broken_after}
use Rattle.machine.proofs.Names.{WriteOutsValue, has_uncommitted, moving, moved, outs_moving, outs_home, next_answer}
use Rattle.machine.proofs.Names.{outs_after, current_stage, batches_after, AreOlderCommitted, after_committing}
use Rattle.machine.proofs.Names.{committed-at, batch_before, consistent_within, consistent_after, consistent_failed}
use Rattle.machine.proofs.Names.{consistent_other, State, length_of, home_of}
use Rattle.machine.proofs.Names.{cut_at_end, IsSound, IsPrepared, next_page}
use Rattle.machine.proofs.Names.{bytes_with, bytes_at_mark, work_asked, after_record, after_failure, File, journals_of}
use Rattle.machine.proofs.Names.{AreHomes, Batch, SuperValue, geometry_of, Flushed, Sync, worked, TornFromWork}
use Rattle.machine.proofs.Names.{LeftWithin, IsConsistent, Checkpoint, Lock, not_running, Event, Mark, Acknowledge}
use Rattle.machine.proofs.Names.{reason_against, Observed, change_in, IsDurable, IsLost, IsWaiting, IsWritten}
use Rattle.machine.proofs.sound.Sharing.{shared, moving_there}
use Rattle.machine.proofs.sound.Waiting.{newest_step}
use Rattle.machine.specs.declared.act.Act.TheVariants as acts
use Rattle.machine.specs.Rules.{next_record as record_asked}
use Rattle.journal.specs.declared.flushed.Flushed.TheVariants as flushed
use Rattle.page_entry.specs.declared.refusal.Refusal.TheVariants as refusals
use Rattle.history.proofs.Public.{only_one, some_same, none_some, contains_none}
use Rattle.machine.proofs.durable.Pages.{bytes_with-freed}
use Rattle.machine.proofs.durable.Uncommitted.{none_uncommitted, uncommitted_before, waits_after}
use Rattle.machine.proofs.durable.Histories.{IsFresh}
use Rattle.history.proofs.Public.{calm_of, quiet_nothing, quiet_acknowledge}
use Rattle.machine.proofs.durable.Histories.{written_same, written_new, AreFrozenRecords, SameFiles}
use Rattle.machine.proofs.durable.Histories.{record_as, marks_more}
use Rattle.history.proofs.Public.{acknowledge_same, acknowledge_no_mark}
use Rattle.machine.proofs.sound.Admitted.{second_not_refused}
use Rattle.machine.proofs.sound.Records.{few_at_mark, next_recorded, coming, page_next}
use Rattle.machine.proofs.sound.Sources.{of_file}
use Rattle.machine.proofs.code.Records.{page_record, other_record}
use Rattle.machine.proofs.Names.{cond_both, leb, false_from_ne_true, length-append, length-number_text, number_text}
use Rattle.machine.proofs.Names.{lengths_text, lengths_in, HasLengths, IsSource, is_page_next, first_file_home}

-- ---- the size of a record

pub size_at_mark : (s : State) → IsSound s → (owner : FilePage) → length (bytes_at_mark s.hardware.memory owner) ≤ 4096
size_at_mark s sound owner = few_at_mark s.hardware.memory owner sound.memory.memory

lengths_size : (lengths : List ℕ) → length (flat_map (number_text 8) lengths) ≡ 8 * length lengths
lengths_size [] = refl
lengths_size (n ∷ lengths) = omega (
  arith,
  length-append (number_text 8 n) (flat_map (number_text 8) lengths),
  length-number_text 8 n,
  lengths_size lengths,
)

pub size_of_record : (s : State) → IsSound s → length (record_asked s) ≡ 4096
size_of_record s sound =
    let few = size_at_mark s sound (next_page s) in
    cond_both (is_page_next s) (cut_at_end s (next_page s) (bytes_at_mark s.hardware.memory (next_page s)))
    (lengths_text s.lengths) (λ (l : List ℕ). length l ≡ 4096)
    (λ page. length-padded 4096 (take (length_of s (next_page s).file - 4096 * (next_page s).page)
    (bytes_at_mark s.hardware.memory (next_page s))) (omega (
      arith,
      few,
      length-take (length_of s (next_page s).file - 4096 * (next_page s).page)
          (bytes_at_mark s.hardware.memory (next_page s)),
    )))
    (λ other. length-padded 4096 (flat_map (number_text 8) s.lengths)
    (omega (arith, lengths_size s.lengths, sound.lengths, sound.fits.few_files)))

-- ---- the record that is asked for

-- the place of the record whose home block comes next
home_record : (next : Option WriteOut) (home : ℕ) → option_and_then next_home next ≡ Some home
    → (i : ℕ) × (option_and_then next_record next ≡ Some i)
home_record next home e = by next e
  where
    mapped : (f : ℕ → ℕ) (o : Option ℕ) → option_map f o ≡ Some home → (i : ℕ) × (o ≡ Some i)
    mapped f None e = absurd (none_some home e)
    mapped f (Some i) e = (i, refl)

    by : (o : Option WriteOut) → option_and_then next_home o ≡ Some home
        → (i : ℕ) × (option_and_then next_record o ≡ Some i)
    by None e = absurd (none_some home e)
    by (Some w) e = mapped (λ k. get_or w.batch.homes k 0) (next_record w) e

-- it is New
pub record_is_new : (s : State) (new : ℕ → List ℕ) → IsSound s → s.write_outs.broken ≡ false → HasLengths s.table new
    → (s.resized ≡ false → lengths_in s.table new ≡ s.lengths) → AreFrozenRecords s new → (home : ℕ)
    → outs_home s.write_outs ≡ Some home → record_asked s ≡ new home
record_is_new s new sound whole fits lengths frozen home e = elim (cases_Bool (is_page_next s)) [
  | inl page ↦
      (let next = next_recorded s sound page in
      page_record s page ∙ sym (frozen 0 (record { file = 0; page = 0 }) next.some)
      ∙ ap new (some_same (home_of s.table (next_page s)) home (sym next.home ∙ e)))
  | inr other ↦
      (let at = home_record (outs_moving s.write_outs) home (sym
      (cond-false s.write_outs.broken None (option_and_then next_home (outs_moving s.write_outs)) whole) ∙ e) in
      let c = coming s sound whole at.0 at.1 in
      let there = moving_there (shared s.write_outs) s.write_outs.batches c.w c.moving_is in
      let source = All-contains (IsSource s.table s.hardware.memory) c.w.batch.homes c.home
      (All-contains (λ (w : WriteOut). All (IsSource s.table s.hardware.memory) w.batch.homes) s.write_outs.batches c.w
      sound.write_outs.sources there) c.among in
      let unset : s.resized ≡ false = false_from_ne_true s.resized (λ set.
      contains_none c.w (subst (λ (l : List WriteOut). Contains l c.w) (sound.write_outs.quiescent set).0 there)) in
      let not_page : leb (first_file_home s.table.layout s.table.slots) c.home ≡ false =
      sym (page_next s c.home c.is) ∙ other in
      other_record s other ∙ ap lengths_text (sym (lengths unset)) ∙ by c.home not_page source
      ∙ ap new (some_same c.home home (sym c.is ∙ e)))
]
  where
    by : (at : ℕ) → leb (first_file_home s.table.layout s.table.slots) at ≡ false
        → IsSource s.table s.hardware.memory at → lengths_text (lengths_in s.table new) ≡ new at
    by at not_page (inl block) = sym (fits.spelled block.0) ∙ ap new (sym block.1)
    by at not_page (inr page) = absurd (both_ways (leb (first_file_home s.table.layout s.table.slots) at) not_page
        (ap (leb (first_file_home s.table.layout s.table.slots)) page.1 ∙ of_file s.table page.0))

-- ---- a batch is committed

-- the stage whose step commits a batch
committing : (w : WriteOut) (o : Option Stage) (number : ℕ)
    → option_map_or (answer_at w.batch.mark) o Broken ≡ Committed number
    → (o ≡ Some Committing) × (w.batch.mark ≡ number)
committing w (Some Committing) number e = (refl, committed_same w.batch.mark number e)
  where
    committed_same : (m n : ℕ) → Committed m ≡ Committed n → m ≡ n
    committed_same m n e = cc
committing w o number e = cc

pub record IsCommitting (shares : Bool) (batches : List WriteOut) (number : ℕ) : Type 0 where
  pub w : WriteOut
  pub there : Contains batches w
  pub mark : w.batch.mark ≡ number
  pub none : has_uncommitted (moved shares batches) ≡ false

pub commits : (shares : Bool) (batches : List WriteOut) (number : ℕ) → AreOlderCommitted batches
    → ((w : WriteOut) → Contains batches w → 0 < length w.batch.homes)
    → option_map_or answer_of (moving shares batches) Broken ≡ Committed number → IsCommitting shares batches number
commits shares batches number older some e = by (moving shares batches) refl e
  where
    by : (o : Option WriteOut) → moving shares batches ≡ o → option_map_or answer_of o Broken ≡ Committed number
        → IsCommitting shares batches number
    by None is e = cc
    by (Some w) is e =
        let stage = committing w (next_stage w) number e in
        let there = moving_there shares batches w is in
        let newest = newest_step shares batches w older is (committed-at w Committing stage.0) in
        let late : has_committed (advanced_of w) ≡ true = committed-at (advanced_of w) (Applying 0)
        (after_committing (length w.batch.homes) w.described w.steps stage.0 (some w there)) in
        record {
          w = w;
          there = there;
          mark = stage.1;
          none = ap has_uncommitted newest.after
              ∙ list_any-append (λ (x : WriteOut). not (has_committed x)) newest.older (advanced_of w ∷ [])
              ∙ or_from (has_uncommitted newest.older) (has_uncommitted (advanced_of w ∷ []))
              newest.late
              (or_from (not (has_committed (advanced_of w))) false
              (not_from_true (has_committed (advanced_of w)) late) refl);
        }

-- ---- what the state is after a step

before_itself : (a b : FilePage) → IsBefore a b → b ≡ a → ⊥
before_itself a b (inl less) e = let same : b.file ≡ a.file = ap (λ (o : FilePage). o.file) e in absurd (omega arith)
before_itself a b (inr less) e = let same : b.page ≡ a.page = ap (λ (o : FilePage). o.page) e in
    absurd (omega (arith, less.1))

later_differs : (pages : List FilePage) (first d : FilePage) (k : ℕ) → AreRising pages → k < length (drop 1 pages)
    → get_or (drop 1 pages) k d ≡ get_or pages 0 first → ⊥
later_differs [] first d k rising lt e = absurd (omega arith)
later_differs (owner ∷ owners) first d k rising lt e =
    before_itself owner (get_or owners k d) (before_each owner owners rising k d lt) e

later_at : (pages : List FilePage) (k : ℕ) (d : FilePage) → get_or (drop 1 pages) k d ≡ get_or pages (suc k) d
later_at [] k d = refl
later_at (owner ∷ owners) k d = refl

-- the records of the other frozen pages stay
released_records : (s : State) (new : ℕ → List ℕ) → IsSound s → AreFrozenRecords s new
    → AreFrozenRecords (after_record s) new
released_records s new sound are k d lt =
    let owner = get_or (drop 1 s.checkpoint.frozen) k d in
    let was : new (home_of s.table owner) ≡ cut_at_end s owner (bytes_at_mark s.hardware.memory owner) =
    subst (λ (o : FilePage). new (home_of s.table o) ≡ cut_at_end s o (bytes_at_mark s.hardware.memory o))
    (sym (later_at s.checkpoint.frozen k d)) (are (suc k) d (shorter s.checkpoint.frozen lt)) in
    record_as s (after_record s) (record { table = refl; lengths = refl }) owner new
    (bytes_with-freed owner (next_page s) s.hardware.memory.copies (bytes_with owner s.hardware.memory.frames [])
    (later_differs s.checkpoint.frozen (record { file = 0; page = 0 }) d k sound.memory.rising lt)) was
  where
    shorter : (pages : List FilePage) → k < length (drop 1 pages) → suc k < length pages
    shorter [] lt = absurd (omega arith)
    shorter (owner ∷ owners) lt = omega arith

-- of the state after a step, whether a record was written in it or not
abbrev stepped : State → Bool → WriteOutsValue → State
stepped s records outs = record (cond records (after_record s) s) { write_outs = outs }

module _ (s : State) (outs : WriteOutsValue) where
  same_files : (records : Bool) → SameFiles s (stepped s records outs)
  same_files true = record { table = refl; lengths = refl }
  same_files false = record { table = refl; lengths = refl }

  same_unset : (records : Bool) → (stepped s records outs).resized ≡ false → s.resized ≡ false
  same_unset true none = none
  same_unset false none = none

  same_number : (records : Bool) → (stepped s records outs).marks ≡ s.marks
  same_number true = refl
  same_number false = refl

  stepped_records : (records : Bool) (new : ℕ → List ℕ) → IsSound s → AreFrozenRecords s new
      → AreFrozenRecords (stepped s records outs) new
  stepped_records true new sound are = released_records s new sound are
  stepped_records false new sound are = are

-- each batch after a step was there before it
marks_after : (shares : Bool) (answer : Flushed) (batches : List WriteOut) (prefix : List Event)
    → All (λ (y : WriteOut). Contains prefix (Mark y.batch.mark)) batches
    → All (λ (y : WriteOut). Contains prefix (Mark y.batch.mark)) (batches_after shares answer batches)
marks_after shares answer batches prefix all k d lt =
    let w = get_or (batches_after shares answer batches) k d in
    let was = batch_before shares answer batches w (Contains-get_or (batches_after shares answer batches) k d lt) in
    subst (λ (b : Batch). Contains prefix (Mark b.mark)) was.2
    (All-contains (λ (y : WriteOut). Contains prefix (Mark y.batch.mark)) batches was.0 all was.1)

-- ---- the step

module _ (files : List File) (observed : Observed) (s : State) (seen : List ℕ)
    (may : List ℕ → Type 0) (old new : ℕ → List ℕ)
    (sound : IsSound s) (consistent : IsConsistent s.table s.write_outs old new seen may)
    (w : IsWritten files observed s old new)
    (p : ℕ) (allowed : reason_against s p acts.Flush ≡ None) (some : s.write_outs.batches ≡ [] → ⊥) where
  pub flush_whole : s.write_outs.broken ≡ false
  flush_whole = second_not_refused (not_running s.hardware.shootdown p) s.write_outs.broken refusals.Broken [] allowed

  is_new : (home : ℕ) → outs_home s.write_outs ≡ Some home → record_asked s ≡ new home
  is_new home e = record_is_new s new sound flush_whole w.new_are.fits w.same_lengths w.frozen home e

  -- what a crash within it leaves
  pub flush_within : (c : List ℕ) → TornFromWork (work_asked s) may c
      → LeftWithin s.table old new (current_stage s.write_outs) c
  flush_within c torn = consistent_within s.table old new s.write_outs seen may (record_asked s)
      (size_of_record s sound) consistent flush_whole some is_new c torn

  -- no mark was lost so far
  never_lost : {x : State} → IsLost s → IsLost x
  never_lost lost = absurd (both_ways s.write_outs.broken flush_whole lost.broken)

  -- a device call failed
  not_busy : change_in s.hardware.shootdown.lock ≡ Some Checkpoint → has_uncommitted s.write_outs.batches ≡ false
  not_busy held = by s.hardware.shootdown.lock refl held
    where
      by : (o : Option Lock) → s.hardware.shootdown.lock ≡ o → change_in o ≡ Some Checkpoint
          → has_uncommitted s.write_outs.batches ≡ false
      by None at e = absurd (none_some Checkpoint e)
      by (Some lock) at e =
          let is : IsPrepared s Checkpoint =
          subst (IsPrepared s) (some_same lock.change Checkpoint e) (sound.spaces.prepared lock at) in
          (or_parts (has_uncommitted s.write_outs.batches)
          (length s.write_outs.batches == journals_of s.write_outs.geometry.layout) (is.1 flush_whole)).0

  pub flush_failed : (x : State) (seen' : List ℕ) (may' : List ℕ → Type 0) → x ≡ after_failure s
      → ((c : List ℕ) → may' c → TornFromWork (work_asked s) may c)
      → IsDurable files (record observed { history = observed.history ++ [] }) x seen' may'
  flush_failed x seen' may' is left = subst
      (λ (y : State). IsDurable files (record observed { history = observed.history ++ [] }) y seen' may') (sym is)
      (record {
        old = old;
        new = new;
        consistent = consistent_failed s.table old new s.write_outs seen may (record_asked s)
            (size_of_record s sound) consistent flush_whole some is_new seen' may' left;
        written = written_same files observed s (after_failure s) old new w []
            (calm_of files observed.history [] (quiet_nothing observed.history))
            (record { table = refl; lengths = refl })
            (λ none. none) (λ n has. absurd (omega (arith, has.1))) w.marks (λ broken held. not_busy held) never_lost
            (λ k d lt. absurd (omega arith))
            (λ n has. absurd (omega (arith, has.1))) refl
            (marks_more w.before w.marked observed.history [] s (after_failure s)
            (λ n has. absurd (omega (arith, has.1))) (λ n wait. inr wait) never_lost w.only)
            (λ n has. absurd (omega (arith, has.1))) w.fresh;
      })

  -- all its device calls succeeded
  module _ (records : Bool) (may' : List ℕ → Type 0) (left : (c : List ℕ) → may' c → TornFromWork (work_asked s) may c)
      (made_durable : work_asked s ≡ Sync → (c : List ℕ) → may' c → c ≡ seen) where
    abbrev outs : WriteOutsValue
    outs = outs_after s.write_outs (next_answer s.write_outs)

    abbrev after_it : State
    after_it = stepped s records outs

    consistent_now : IsConsistent s.table outs old new (worked seen (work_asked s)) may'
    consistent_now = consistent_after s.table old new s.write_outs seen may (record_asked s)
        (size_of_record s sound) consistent flush_whole some is_new may' left made_durable

    consistent_as : (other : ℕ → List ℕ) → IsConsistent s.table outs other new (worked seen (work_asked s)) may'
        → IsConsistent after_it.table outs other new (worked seen (work_asked s)) may'
    consistent_as other is = subst (λ (t : SuperValue). IsConsistent t outs other new (worked seen (work_asked s)) may')
        (sym (same_files s outs records).table) is

    marks_now : All (λ (y : WriteOut). Contains w.marked (Mark y.batch.mark)) outs.batches
    marks_now = marks_after (shared s.write_outs) (next_answer s.write_outs) s.write_outs.batches w.marked w.marks

    still_whole : (answer : Flushed) → (answer ≡ flushed.Device → ⊥) → broken_after answer s.write_outs.broken ≡ false
    still_whole flushed.Device other = absurd (other refl)
    still_whole answer other = flush_whole

    ready_now : (next_answer s.write_outs ≡ flushed.Device → ⊥) → outs.broken ≡ true
        → change_in after_it.hardware.shootdown.lock ≡ Some Checkpoint → has_uncommitted outs.batches ≡ false
    ready_now other broken held = absurd (both_ways outs.broken (still_whole (next_answer s.write_outs) other) broken)

    fresh_still : IsFresh after_it w.before
    fresh_still y there early has =
        let was = uncommitted_before (shared s.write_outs) (next_answer s.write_outs) s.write_outs.batches y there
        early in
        w.fresh was.w was.there was.early
        (subst (λ (b : Batch). Contains w.before (Mark b.mark)) (sym was.is) has)

    -- what waited still does, or is committed now
    waits_now : (n : ℕ) → IsWaiting s.write_outs.batches n
        → IsWaiting outs.batches n ⊎ (next_answer s.write_outs ≡ flushed.Committed n)
    waits_now n wait = waits_after (shared s.write_outs) s.write_outs.batches (next_answer s.write_outs) (sym
        (cond-false s.write_outs.broken
        flushed.Broken (option_map_or answer_of (outs_moving s.write_outs) flushed.Broken) flush_whole)) n wait

    -- the batch isn't committed by it, or was before
    pub flush_goes_on : (next_answer s.write_outs ≡ flushed.Device → ⊥)
        → ((n : ℕ) → next_answer s.write_outs ≡ flushed.Committed n → ⊥)
        → IsDurable files (record observed { history = observed.history ++ [] }) after_it
        (worked seen (work_asked s)) may'
    flush_goes_on other uncommitting = record {
      old = old;
      new = new;
      consistent = consistent_as old consistent_now;
      written = written_same files observed s after_it old new w []
          (calm_of files observed.history [] (quiet_nothing observed.history)) (same_files s outs records)
          (same_unset s outs records) (λ n has. absurd (omega (arith, has.1))) marks_now (ready_now other) never_lost
          (stepped_records s outs records new sound w.frozen)
          (λ n has. absurd (omega (arith, has.1))) (same_number s outs records)
          (marks_more w.before w.marked observed.history [] s after_it
          (λ n has. absurd (omega (arith, has.1))) (λ n wait.
          elim (waits_now n wait) [ inl still ↦ inr still | inr e ↦ absurd (uncommitting n e) ]) never_lost w.only)
          (λ n has. absurd (omega (arith, has.1))) fresh_still;
    }

    -- it is
    pub flush_commits : (number : ℕ) → next_answer s.write_outs ≡ flushed.Committed number → IsDurable files
        (record observed { history = observed.history ++ Acknowledge number ∷ [] }) after_it
        (worked seen (work_asked s)) may'
    flush_commits number is =
        let answer : option_map_or answer_of (outs_moving s.write_outs) flushed.Broken ≡ flushed.Committed number =
        sym (cond-false s.write_outs.broken flushed.Broken
        (option_map_or answer_of (outs_moving s.write_outs) flushed.Broken) flush_whole) ∙ is in
        let at = commits (shared s.write_outs) s.write_outs.batches number sound.write_outs.older
        (λ y there. (All-contains (λ (y : WriteOut). AreHomes (geometry_of s.table) y.batch.homes)
        s.write_outs.batches y sound.write_outs.homes there).some) answer in
        let none : has_uncommitted outs.batches ≡ false =
        ap (λ (a : Flushed). has_uncommitted (batches_after (shared s.write_outs) a s.write_outs.batches)) is
        ∙ at.none in
        let in_new : Contains w.marked (Mark number) = subst (λ n. Contains w.marked (Mark n)) at.mark (All-contains
        (λ (y : WriteOut). Contains w.marked (Mark y.batch.mark)) s.write_outs.batches at.w w.marks at.there) in
        record {
          old = new;
          new = new;
          consistent =
              consistent_as new
              (consistent_other s.table old new new outs (worked seen (work_asked s)) may' none consistent_now);
          written = written_new files observed s after_it old new w (Acknowledge number ∷ [])
              (calm_of files observed.history (Acknowledge number ∷ []) (quiet_acknowledge observed.history number))
              (same_files s outs records) (same_unset s outs records) (acknowledges in_new) marks_now (ready_now
              (λ e. never number (sym is ∙ e))) never_lost (stepped_records s outs records new sound w.frozen)
              (acknowledge_no_mark number) (same_number s outs records)
              (marks_more w.before w.marked observed.history (Acknowledge number ∷ []) s after_it
              (acknowledge_no_mark number) (λ n wait. elim (waits_now n wait)
              [ inl still ↦ inr still | inr e ↦ inl (this_acked n (sym is ∙ e)) ]) never_lost w.only)
              (λ y there early has. none_uncommitted outs.batches y none there early)
              (λ n wait. none_uncommitted outs.batches wait.w none wait.there wait.early);
        }
      where
        never : (n : ℕ) → flushed.Committed n ≡ flushed.Device → ⊥
        never n e = cc

        this_acked : (n : ℕ) → flushed.Committed number ≡ flushed.Committed n
            → Contains (observed.history ++ Acknowledge number ∷ []) (Acknowledge n)
        this_acked n e = let same : number ≡ n = cc in
            subst (λ k. Contains (observed.history ++ Acknowledge number ∷ []) (Acknowledge k)) same
            (Contains-push observed.history (Acknowledge number))

        acknowledges : Contains w.marked (Mark number) → (n : ℕ) → Contains (Acknowledge number ∷ []) (Acknowledge n)
            → Contains w.marked (Mark n)
        acknowledges has n there = subst (λ k. Contains w.marked (Mark k))
            (acknowledge_same number n (only_one (Acknowledge number) (Acknowledge n) there)) has
